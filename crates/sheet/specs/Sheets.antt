-- Which inputs are sheets, what a sheet says, and where any other input is refused.
use Rattle.std.specs.Prelude.{◌≡◌, ℕ, ◌+◌, ◌-◌, ◌*◌, ◌/◌, ◌%◌, ◌^◌, ◌<◌, ◌≤◌, Bool, true, false, ◌&&◌, ◌⊎◌, List, length, drop, Some, None, Ok, Err, Option, Result, ◌==◌, nat_le, slice_index}
use Rattle.words.specs.declared.word.Word.{Word as Held}
use Rattle.words.specs.Word.{Word, at}
use Rattle.words.specs.Refusals.{refusal_number}
use Rattle.words.specs.Meaning.{meaning}
use Rattle.groups.specs.declared.hand.Hand.{Hand}
use Rattle.groups.specs.Groups.{group_word, group_at}
use Rattle.groups.specs.Hands.{hand_words}
use Rattle.sheet.specs.declared.malformed.Malformed.{Malformed}
use Rattle.sheet.specs.declared.reading.Sheet.{Sheet}

-- A sheet has four bytes of budget, sixteen groups for the hand and up to 2,048 groups for the cells.
abbrev pub sheet_length : ℕ → Bool
sheet_length n = nat_le 132 n && nat_le n 16516 && (n - 4) % 8 == 0

-- Groups are counted from the hand's first, which follows the budget.
abbrev pub offset : ℕ → ℕ
offset i = 4 + 8 * i

abbrev pub group_count : List ℕ → ℕ
group_count bytes = (length bytes - 4) / 8

-- The word of a group, if it packs one.
abbrev pub sheet_word : List ℕ → ℕ → Option Word
sheet_word bytes i = group_word (group_at bytes (offset i))

-- The group packs a word.
abbrev pub Packs : List ℕ → ℕ → Type 0
Packs bytes i = (w : Word) × (sheet_word bytes i ≡ Some w)

-- The group at the refusal's offset is the first that packs no word (5).
pub record FirstMalformed (bytes : List ℕ) (m : Malformed) : Type 0 where
  pub group : ℕ
  pub there : group < group_count bytes
  pub offset_is : m.offset ≡ offset group
  pub refusal_is : refusal_number m.refusal ≡ 5
  pub packs_none : sheet_word bytes group ≡ None
  pub earlier : (i : ℕ) → i < group → Packs bytes i

-- A group is read as its word, or it packs none and is refused (5) at its offset.
abbrev pub ReadsGroup : List ℕ → ℕ → Result Held Malformed → Type 0
ReadsGroup bytes i (Ok w) = sheet_word bytes i ≡ Some (meaning w)
ReadsGroup bytes i (Err m) = (sheet_word bytes i ≡ None) × (m.offset ≡ offset i) × (refusal_number m.refusal ≡ 5)

-- The hand's groups pack the hand's words.
abbrev pub HandIn : List ℕ → Hand → Type 0
HandIn bytes hand = (i : ℕ) → i < 16 → sheet_word bytes i ≡ Some (at (hand_words hand) i)

abbrev pub ReadsHand : List ℕ → Result Hand Malformed → Type 0
ReadsHand bytes (Ok hand) = HandIn bytes hand
ReadsHand bytes (Err m) = FirstMalformed bytes m

-- The cells' groups all pack words, or one is the first of them that does not.
abbrev pub CellsIn : List ℕ → Type 0
CellsIn bytes = (i : ℕ) → 16 ≤ i → i < group_count bytes → Packs bytes i

abbrev pub ReadsCells : List ℕ → Result (Unit {0}) Malformed → Type 0
ReadsCells bytes (Ok u) = CellsIn bytes
ReadsCells bytes (Err m) = ((i : ℕ) → i < 16 → Packs bytes i) → FirstMalformed bytes m

-- What a sheet says: its budget is the number in the first four bytes, its hand the next sixteen groups, and its cells are the rest.
pub record Says (bytes : List ℕ) (budget : ℕ) (hand : Hand) (cells : List ℕ) : Type 0 where
  pub length_is : sheet_length (length bytes) ≡ true
  pub budget_is : budget ≡ slice_index bytes 0 * 2 ^ 24 + slice_index bytes 1 * 2 ^ 16 + slice_index bytes 2 * 2 ^ 8 + slice_index bytes 3
  pub hand_in : HandIn bytes hand
  pub cells_in : CellsIn bytes
  pub cells_are : cells ≡ drop 132 bytes

-- The input is no sheet: it has a length that no sheet has (7, at 0), or a first group that packs no word (5).
abbrev pub MalformedAt : List ℕ → Malformed → Type 0
MalformedAt bytes m =
    ((sheet_length (length bytes) ≡ false) × (refusal_number m.refusal ≡ 7) × (m.offset ≡ 0))
    ⊎ ((sheet_length (length bytes) ≡ true) × FirstMalformed bytes m)

-- Every input is a sheet or is none.
abbrev pub Reads : List ℕ → Result Sheet Malformed → Type 0
Reads bytes (Ok s) = Says bytes s.budget s.hand s.cells.now
Reads bytes (Err m) = MalformedAt bytes m
