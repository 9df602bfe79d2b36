-- From a chart that is sound and closed to a survey: for a loop that marks cells until nothing more is marked.
use Rattle.std.proofs.Common.{◌≡◌, ℕ, ◌<◌, ◌≤◌, T, ◌≢◌, List, length, get_or, take, refl, arith}
use Rattle.words.specs.declared.permission.Permission.TheVariants.{O}
use Rattle.words.specs.Permissions.{writes}
use Rattle.words.specs.Word.{Cap, Word, capability, at, Covers}
use Rattle.model.specs.Survey.{Held, in_hand, in_cell, Reached, Writable, Mark, writable, reached, apart, count_from, Charted}
use Rattle.model.proofs.Rows.{exists_at}

-- the cells that c covers are marked, unless it is O, and marked 2 if it writes
pub record Painted (chart : List ℕ) (size : ℕ) (c : Cap) : Type 0 where
  pub marked : c.permission ≢ O → (a : ℕ) → Covers c a → a < size → 1 ≤ get_or chart a 0
  pub marked_2 : T (writes c.permission) → (a : ℕ) → Covers c a → a < size → 2 ≤ get_or chart a 0

-- what the hand has, and what a marked cell has, is painted
pub record Closed (hand cells : List Word) (chart : List ℕ) : Type 0 where
  pub from_hand : (i : ℕ) (c : Cap) → at hand i ≡ capability c → Painted chart (length cells) c
  pub from_cells : (a : ℕ) (c : Cap) → 1 ≤ get_or chart a 0 → at cells a ≡ capability c → Painted chart (length cells) c

-- a mark that a chain of held capabilities accounts for
pub data Sound (hand cells : List Word) (a : ℕ) : ℕ → Type 0 where
  unmarked : Sound hand cells a 0
  marked : Reached hand cells a → Sound hand cells a 1
  marked_2 : Writable hand cells a → Sound hand cells a 2

module _ (hand cells : List Word) (chart : List ℕ) (closed : Closed hand cells chart) where
  held_painted : {c : Cap} → Held hand cells c → Painted chart (length cells) c
  held_painted {c} (in_hand i e) = closed.from_hand i c e
  held_painted {c} (in_cell {via = via} a h not_O within e) = closed.from_cells a c ((held_painted h).marked not_O a within (exists_at cells a e)) e

  reached_marked : (a : ℕ) → Reached hand cells a → 1 ≤ get_or chart a 0
  reached_marked a r = (held_painted r.held).marked r.not_O a r.covered r.exists

  writable_marked : (a : ℕ) → Writable hand cells a → 2 ≤ get_or chart a 0
  writable_marked a w = (held_painted w.held).marked_2 w.can_write a w.covered w.exists

  right_mark : (a n : ℕ) → get_or chart a 0 ≡ n → Sound hand cells a n → Mark hand cells a n
  right_mark a n e unmarked = apart (λ w. omega (arith, writable_marked a w)) (λ r. omega (arith, reached_marked a r))
  right_mark a n e (marked r) = reached (λ w. omega (arith, writable_marked a w)) r
  right_mark a n e (marked_2 w) = writable w

  pub charted : (before : List ℕ) → length chart ≡ length before → ((a : ℕ) → length cells ≤ a → get_or chart a 0 ≡ get_or before a 0) → ((a : ℕ) → a < length cells → Sound hand cells a (get_or chart a 0)) → Charted hand cells before chart (count_from 1 (take (length cells) chart)) (count_from 2 (take (length cells) chart))
  charted before as_long rest sound = record {
    as_long = as_long;
    marks = λ a h. right_mark a (get_or chart a 0) refl (sound a h);
    rest = rest;
    count = refl;
    count_2 = refl;
  }
