-- The numbers that a capability has.
use Rattle.std.specs.Prelude.{ℕ}
use Rattle.words.specs.Permissions.{permission_code}
use Rattle.words.specs.Localities.{locality_code}
use Rattle.words.specs.Word.{Cap}
use Rattle.effects.specs.declared.inspection.Part.{Part}
use Rattle.effects.specs.declared.inspection.Part.TheVariants.{Permission, Locality, Base, End, Cursor}

abbrev pub part_of : Part → Cap → ℕ
part_of Permission c = permission_code c.permission
part_of Locality c = locality_code c.locality
part_of Base c = c.base
part_of End c = c.end
part_of Cursor c = c.cursor
