-- Two words are equal to the code where they mean the same.
use Rattle.std.proofs.Common.{◌≡◌, ◌≢◌, Bool, true, false, ◌&&◌, refl, ap, rules}
use Rattle.std.proofs.Math.Dec.{eqb}
use Rattle.std.proofs.lemmas.Bool.{and_parts, and_from, both_ways, eqb-true, eq-eqb}
use Rattle.words.specs.declared.capability.Capability.{Capability}
use Rattle.words.specs.declared.permission.Permission.{Permission}
use Rattle.words.specs.declared.locality.Locality.{Locality}
use Rattle.words.specs.declared.word.Word.{Word as Held}
use Rattle.words.specs.declared.word.Word.TheVariants.{Int, Cap as Pointer}
use Rattle.words.specs.contracts.capability.CapabilityPartialEq.TheImpl.{ghosts as capabilities}
use Rattle.words.specs.contracts.permission.PermissionPartialEq.TheImpl.{ghosts as permissions}
use Rattle.words.specs.contracts.locality.LocalityPartialEq.TheImpl.{ghosts as localities}
use Rattle.words.specs.contracts.word.WordPartialEq.TheImpl.{ghosts as words}
use Rattle.words.specs.Word.{Cap, capability}
use Rattle.words.specs.Meaning.{cap_of, meaning}

permission : (p q : Permission) → permissions.eq p q ≡ true → p ≡ q
permission p q e = search rules

locality : (l m : Locality) → localities.eq l m ≡ true → l ≡ m
locality l m e = search rules

same_permission : (p q : Permission) → p ≡ q → permissions.eq p q ≡ true
same_permission p q e = search rules

same_locality : (l m : Locality) → l ≡ m → localities.eq l m ≡ true
same_locality l m e = search rules

abbrev same_rights : Capability → Capability → Bool
same_rights c d = permissions.eq c.permission d.permission && localities.eq c.locality d.locality

same_cap : (c d : Capability) → capabilities.eq c d ≡ true → cap_of c ≡ cap_of d
same_cap c d e =
    let last = same_rights c d in
    let base = and_parts (eqb c.base d.base) (eqb c.end d.end && (eqb c.cursor d.cursor && last)) e in
    let end = and_parts (eqb c.end d.end) (eqb c.cursor d.cursor && last) base.1 in
    let cursor = and_parts (eqb c.cursor d.cursor) last end.1 in
    let rights = and_parts (permissions.eq c.permission d.permission) (localities.eq c.locality d.locality) cursor.1 in
    rw (eqb-true _ _ base.0, eqb-true _ _ end.0, eqb-true _ _ cursor.0, permission _ _ rights.0, locality _ _ rights.1) refl

cap_same : (c d : Capability) → cap_of c ≡ cap_of d → capabilities.eq c d ≡ true
cap_same c d same =
    let base = eq-eqb c.base d.base (ap (λ (k : Cap). k.base) same) in
    let end = eq-eqb c.end d.end (ap (λ (k : Cap). k.end) same) in
    let cursor = eq-eqb c.cursor d.cursor (ap (λ (k : Cap). k.cursor) same) in
    let permission = same_permission c.permission d.permission (ap (λ (k : Cap). k.permission) same) in
    let locality = same_locality c.locality d.locality (ap (λ (k : Cap). k.locality) same) in
    and_from _ _ base (and_from _ _ end (and_from _ _ cursor (and_from _ _ permission locality)))

pub same_word : (v w : Held) → words.eq v w ≡ true → meaning v ≡ meaning w
same_word (Int y) (Int z) e = search rules
same_word (Int y) (Pointer d) e = search rules
same_word (Pointer c) (Int z) e = search rules
same_word (Pointer c) (Pointer d) e = ap capability (same_cap c d e)

pub other_word : (v w : Held) → words.eq v w ≡ false → meaning v ≢ meaning w
other_word (Int y) (Int z) e same = search rules
other_word (Int y) (Pointer d) e same = cc
other_word (Pointer c) (Int z) e same = cc
other_word (Pointer c) (Pointer d) e same = let caps : cap_of c ≡ cap_of d = cc in both_ways (capabilities.eq c d) e (cap_same c d caps)
