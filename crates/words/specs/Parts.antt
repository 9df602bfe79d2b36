-- The parts of a capability that its holder's reach goes by.
use Rattle.words.specs.declared.permission.Permission.{Permission}
use Rattle.words.specs.declared.locality.Locality.{Locality}
use Rattle.words.specs.declared.bounds.Bounds.{Bounds}
use Rattle.words.specs.declared.pair.Pair.{Pair}
use Rattle.words.specs.Word.{Cap}

abbrev pub rights_of : Cap → Pair Permission Locality
rights_of c = record { first = c.permission; second = c.locality }

abbrev pub bounds_of : Cap → Bounds
bounds_of c = record { base = c.base; end = c.end }

-- All but the cursor.
abbrev pub authority_of : Cap → Pair (Pair Permission Locality) Bounds
authority_of c = record { first = rights_of c; second = bounds_of c }
