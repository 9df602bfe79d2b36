-- A sheet is made again from what it says.
use Rattle.std.proofs.Common.{◌≡◌, ℕ, suc, ◌+◌, ◌-◌, ◌*◌, ◌/◌, ◌%◌, ◌^◌, ◌<◌, ◌≤◌, Bool, true, false, cond, ◌&&◌, eqb, ltb, List, [], ◌∷◌, ◌++◌, length, get_or, take, drop, Some, None, Option, sym, refl, ap, ◌∙◌, subst, ⊎_elim, append_assoc, arith, length-drop, length-take, drop-cons}
use lib.ListN.{length-map}
use Rattle.std.proofs.lemmas.Bool.Decides.{nat_tests}
use Rattle.std.proofs.lemmas.List.{append-nil, get_or-take, get_or-drop, get_or_past, take-append-drop, drop-drop, drop_all}
use Rattle.std.proofs.lemmas.Bool.{cases_Bool, cases_lt, ltb-true, eqb-true}
use Rattle.words.specs.declared.permission.Permission.{Permission}
use Rattle.words.specs.declared.locality.Locality.{Locality}
use Rattle.words.specs.Permissions.{permission_at}
use Rattle.words.specs.Localities.{locality_at}
use Rattle.words.specs.Word.{Cap, Word, integer, capability, zero_word, at}
use Rattle.words.specs.Making.{with_codes}
use Rattle.groups.specs.declared.hand.Hand.{Hand}
use Rattle.groups.specs.Packing.{Exists, packed, unpacked, complement, signed, bits, if_made, as_word, capability_in, or_zero, plain}
use Rattle.groups.specs.Groups.{group, number_at, group_word, group_at}
use Rattle.groups.specs.Hands.{hand_words}
use Rattle.groups.proofs.RoundTrip.{there}
use Rattle.groups.proofs.Bytes.{group_number}
use Rattle.memory.specs.Packs.{packed_row, packed_length, plain_group}
use Rattle.memory.proofs.Packs.{packed_at}
use Rattle.sheet.specs.Sheets.{Says, sheet_length, offset}
use Rattle.notation.specs.Assembling.{four_bytes, groups_of, sheet_bytes}
use Rattle.notation.specs.Reading.{AllExist, PartsOfSheet}

-- A word that was unpacked exists.
signed_exists : (n : ℕ) → n < 2 ^ 32 → Exists (integer (signed n))
signed_exists n h =
    let same : complement (signed n) ≡ n = grind (arith, nat_tests) in
    (omega arith, ap signed same)

made_exists : (po : Option Permission) (lo : Option Locality) (b e k : ℕ) (c : Cap) → if_made (with_codes po lo b e k) ≡ Some c → Exists (capability c)
made_exists (Some p) (Some l) b e k c h = grind (arith, nat_tests)
made_exists (Some p) None b e k c h = grind arith
made_exists None l b e k c h = grind arith

cap_exists : (o : Option Cap) (w : Word) → ((c : Cap) → o ≡ Some c → Exists (capability c)) → as_word o ≡ Some w → Exists w
cap_exists (Some c) w h e = let same : capability c ≡ w = cc in subst Exists same (h c refl)
cap_exists None w h e = absurd (cc)

unpacked_exists : (n : ℕ) (w : Word) → unpacked n ≡ Some w → Exists w
unpacked_exists n w h =
    let t : Bool = eqb (n / 2 ^ 63) 1 && eqb (n % 64) 0 in
    ⊎_elim
    (λ (e : ltb n (2 ^ 32) ≡ true).
    let k : Some (integer (signed n)) ≡ Some w = simp e at h in
    let same : integer (signed n) ≡ w = cc in
    subst Exists same (signed_exists n (ltb-true n (2 ^ 32) e)))
    (λ (e : ltb n (2 ^ 32) ≡ false).
    let k : cond t (as_word (capability_in n)) None ≡ Some w = simp e at h in
    ⊎_elim
    (λ (f : t ≡ true).
    cap_exists (capability_in n) w
    (made_exists (permission_at (bits n 59 4)) (locality_at (bits n 57 2)) (bits n 40 17) (bits n 23 17) (bits n 6 17)) (simp f at k))
    (λ (f : t ≡ false). let z : None ≡ Some w = simp f at k in absurd (cc))
    (cases_Bool t))
    (cases_Bool (ltb n (2 ^ 32)))

-- Every byte is one.
abbrev Bytes : List ℕ → Type 0
Bytes bs = (i : ℕ) → get_or bs i 0 < 2 ^ 8

bytes_drop : (n : ℕ) (bs : List ℕ) → Bytes bs → Bytes (drop n bs)
bytes_drop n bs small i = omega (arith, get_or-drop n bs i 0, small (n + i))

bytes_take : (n : ℕ) (bs : List ℕ) → Bytes bs → Bytes (take n bs)
bytes_take n bs small i =
    ⊎_elim
    (λ (l : i < n). omega (arith, get_or-take n bs i 0 l, small i))
    (λ (l : n ≤ i). omega (arith, get_or_past (take n bs) i 0 (omega (arith, length-take n bs))))
    (cases_lt i n)

-- A group that packs a word is the group of the word.
group_back : (bs : List ℕ) (w : Word) → Bytes bs → group_word bs ≡ Some w → (group (packed w) ≡ bs) × Exists w
group_back bs w small h =
    ⊎_elim
    (λ (e : eqb (length bs) 8 ≡ true).
    let k : unpacked (number_at bs 0) ≡ Some w = simp e at h in
    let fits : number_at bs 0 < 2 ^ 64 = omega (arith, small 0, small 1, small 2, small 3, small 4, small 5, small 6, small 7) in
    (ap group (there (number_at bs 0) w fits k) ∙ group_number bs (eqb-true (length bs) 8 e) small, unpacked_exists (number_at bs 0) w k))
    (λ (e : eqb (length bs) 8 ≡ false).
    let k : None ≡ Some w = simp e at h in
    absurd (cc))
    (cases_Bool (eqb (length bs) 8))

-- The bytes pack a row of words, one to each eight of them.
Pack : List ℕ → List Word → Type 0
Pack bs ws = (i : ℕ) → i < length ws → group_word (group_at bs (8 * i)) ≡ Some (at ws i)

row_back : (bs : List ℕ) (ws : List Word) → Bytes bs → Pack bs ws → (groups_of ws ++ drop (8 * length ws) bs ≡ bs) × AllExist ws
unfolding Pack
row_back bs [] small packs = (refl, tt)
row_back bs (w ∷ ws) small packs =
    let first = group_back (take 8 bs) w (bytes_take 8 bs small) (packs 0 (omega arith)) in
    let next = row_back (drop 8 bs) ws (bytes_drop 8 bs small) (λ i l.
    let e : 8 + 8 * i ≡ 8 * suc i = omega arith in
    ap (λ d. group_word (take 8 d)) (drop-drop (8 * i) 8 bs ∙ ap (λ n. drop n bs) e) ∙ packs (suc i) (omega arith)) in
    let far : drop (8 * suc (length ws)) bs ≡ drop (8 * length ws) (drop 8 bs)
    = let e : 8 * suc (length ws) ≡ 8 + 8 * length ws = omega arith in ap (λ n. drop n bs) e ∙ sym (drop-drop (8 * length ws) 8 bs) in (
      append_assoc (group (packed w)) (groups_of ws) (drop (8 * suc (length ws)) bs)
          ∙ ap (λ d. group (packed w) ++ (groups_of ws ++ d)) far
          ∙ ap (λ d. group (packed w) ++ d) next.0
          ∙ ap (λ g. g ++ drop 8 bs) first.0
          ∙ take-append-drop 8 bs,
      (first.1, next.1),
    )

-- The first four bytes are those of the budget.
four_back : (bs : List ℕ) (budget : ℕ) → Bytes bs → 4 ≤ length bs →
    budget ≡ get_or bs 0 0 * 2 ^ 24 + get_or bs 1 0 * 2 ^ 16 + get_or bs 2 0 * 2 ^ 8 + get_or bs 3 0 → four_bytes budget ++ drop 4 bs ≡ bs
four_back bs budget small long is =
    let s0 = small 0 in
    let s1 = small 1 in
    let s2 = small 2 in
    let s3 = small 3 in
    let p0 : budget / 2 ^ 24 % 256 ≡ get_or bs 0 0 = omega arith in
    let p1 : budget / 2 ^ 16 % 256 ≡ get_or bs 1 0 = omega arith in
    let p2 : budget / 2 ^ 8 % 256 ≡ get_or bs 2 0 = omega arith in
    let p3 : budget % 256 ≡ get_or bs 3 0 = omega arith in
    let next : (i : ℕ) → i < 4 → get_or bs i 0 ∷ drop (suc i) bs ≡ drop i bs = λ i l. sym (drop-cons bs i 0 (omega arith)) in
    (λ i. p0 i ∷ p1 i ∷ p2 i ∷ p3 i ∷ drop 4 bs)
    ∙ ap (λ t. get_or bs 0 0 ∷ get_or bs 1 0 ∷ get_or bs 2 0 ∷ t) (next 3 (omega arith))
    ∙ ap (λ t. get_or bs 0 0 ∷ get_or bs 1 0 ∷ t) (next 2 (omega arith))
    ∙ ap (λ t. get_or bs 0 0 ∷ t) (next 1 (omega arith))
    ∙ next 0 (omega arith)

record Sized (n : ℕ) : Type 0 where
  least : 132 ≤ n
  most : n ≤ 16516
  whole : (n - 4) % 8 ≡ 0

sized : (n : ℕ) → sheet_length n ≡ true → Sized n
sized n h = record {
  least = grind (arith, nat_tests);
  most = grind (arith, nat_tests);
  whole = grind (arith, nat_tests);
}

means_word : (bs : List ℕ) (w : Word) → group_word bs ≡ Some w → plain_group bs ≡ w
unfolding plain_group
means_word bs w h = ap or_zero h

module _ (bytes : List ℕ) (budget : ℕ) (hand : Hand) (cells : List ℕ) (small : (i : ℕ) → get_or bytes i 0 < 2 ^ 8)
    (sixteen : length hand.numbers ≡ 16) (says : Says bytes budget hand cells) where
  hand_long : length (hand_words hand) ≡ 16
  hand_long = length-map hand.numbers plain ∙ sixteen

  hand_packs : Pack (drop 4 bytes) (hand_words hand)
  unfolding Pack
  hand_packs i l = ap (λ d. group_word (take 8 d)) (drop-drop (8 * i) 4 bytes) ∙ says.hand_in i (omega (arith, hand_long))

  cells_long : 8 * length (packed_row cells) ≡ length bytes - 132
  cells_long =
      let size = sized (length bytes) says.length_is in
      omega (arith, packed_length cells, ap length says.cells_are, length-drop 132 bytes)

  cells_pack : Pack cells (packed_row cells)
  unfolding Pack
  cells_pack i l =
      let size = sized (length bytes) says.length_is in
      let e : 132 + 8 * i ≡ offset (16 + i) = omega arith in
      let same : group_at cells (8 * i) ≡ group_at bytes (offset (16 + i))
      = ap (λ c. group_at c (8 * i)) says.cells_are ∙ ap (take 8) (drop-drop (8 * i) 132 bytes ∙ ap (λ n. drop n bytes) e) in
      let found = says.cells_in (16 + i) (omega arith) (omega (arith, cells_long)) in
      let word : group_word (group_at cells (8 * i)) ≡ Some found.0 = ap group_word same ∙ found.1 in
      word ∙ ap Some (sym (packed_at cells i zero_word l ∙ means_word (group_at cells (8 * i)) found.0 word))

  hand_back : (groups_of (hand_words hand) ++ drop 132 bytes ≡ drop 4 bytes) × AllExist (hand_words hand)
  hand_back =
      let row = row_back (drop 4 bytes) (hand_words hand) (bytes_drop 4 bytes small) hand_packs in
      let e : 4 + 8 * length (hand_words hand) ≡ 132 = omega (arith, hand_long) in
      let far : drop (8 * length (hand_words hand)) (drop 4 bytes) ≡ drop 132 bytes = drop-drop (8 * length (hand_words hand)) 4 bytes ∙ ap (λ n. drop n bytes) e in
      (ap (λ d. groups_of (hand_words hand) ++ d) (sym far) ∙ row.0, row.1)

  cells_back : (groups_of (packed_row cells) ≡ drop 132 bytes) × AllExist (packed_row cells)
  cells_back =
      let row = row_back cells (packed_row cells) (subst Bytes (sym says.cells_are) (bytes_drop 132 bytes small)) cells_pack in
      let none : drop (8 * length (packed_row cells)) cells ≡ []
      = drop_all (8 * length (packed_row cells)) cells (omega (arith, cells_long, ap length says.cells_are, length-drop 132 bytes)) in
      (sym (append-nil (groups_of (packed_row cells))) ∙ ap (λ d. groups_of (packed_row cells) ++ d) (sym none) ∙ row.0 ∙ says.cells_are, row.1)

  -- The parts that a sheet says make the sheet.
  pub sheet_back : sheet_bytes budget (hand_words hand) (packed_row cells) ≡ bytes
  sheet_back =
      let size = sized (length bytes) says.length_is in
      ap (λ d. four_bytes budget ++ (groups_of (hand_words hand) ++ d)) cells_back.0
      ∙ ap (λ d. four_bytes budget ++ d) hand_back.0
      ∙ four_back bytes budget small (omega arith) says.budget_is

  pub sheet_parts : PartsOfSheet budget (hand_words hand) (packed_row cells)
  sheet_parts =
      let size = sized (length bytes) says.length_is in
      record {
        small = omega (arith, says.budget_is, small 0, small 1, small 2, small 3);
        sixteen = hand_long;
        hand_exists = hand_back.1;
        few = omega (arith, cells_long);
        cells_exist = cells_back.1;
      }
