-- What one step can come to hold and change: it goes by the capabilities that stand in the registers.
use Rattle.std.specs.Prelude.{◌≡◌, ℕ, T, ◌≢◌, List, length}
use Rattle.words.specs.Permissions.{reads, writes, stores_local, enter}
use Rattle.words.specs.Word.{Cap, Word, capability, at, Covers, is_local}
use Rattle.words.specs.Orders.{below_permission, below_locality, inside}
use Rattle.model.specs.Machine.{Machine, moved}
use Rattle.model.specs.Step.{step}

-- The capability c gives its holder no more than d does, by the three orders. An E counts as the RX that a jump makes of it.
pub record NoMore (c d : Cap) : Type 0 where
  pub permission : T (below_permission c.permission (enter d.permission))
  pub locality : T (below_locality c.locality d.locality)
  pub bounds : T (inside c.base c.end d.base d.end)

-- A capability is at hand when a register has it, or a cell that a register's capability reads and covers.
pub data AtHand (m : Machine) (c : Cap) : Type 0 where
  in_register : (i : ℕ) → at m.registers i ≡ capability c → AtHand m c
  in_reading : {via : Cap} (i a : ℕ) → at m.registers i ≡ capability via → T (reads via.permission) → Covers via a → at m.cells a ≡ capability c → AtHand m c

-- The capability gives no more than one at hand.
pub record FromHand (m : Machine) (c : Cap) : Type 0 where
  pub source : Cap
  pub at_hand : AtHand m source
  pub no_more : NoMore c source

-- A register has a capability that writes and covers the cell, and that may store the word if it is Local; a capability that is stored stood in a
-- register as it is.
pub record CanStore (m : Machine) (a : ℕ) (w : Word) : Type 0 where
  pub number : ℕ
  pub through : Cap
  pub found : at m.registers number ≡ capability through
  pub can_write : T (writes through.permission)
  pub covered : Covers through a
  pub can_store : T (is_local w) → T (stores_local through.permission)
  pub carried : (c : Cap) → w ≡ capability c → (i : ℕ) × (at m.registers i ≡ capability c)

-- The row has another word at the place i.
abbrev pub Changed : List Word → List Word → ℕ → Type 0
Changed row row' i = at row' i ≢ at row i

-- What a step from m to m' keeps to: each capability in a register afterwards gives no more than one that was at hand; a cell changes only as a register
-- allows; at most one cell changes, and at most one register besides the pc; the memory stays as long as it was.
pub record WithinAuthority (m m' : Machine) : Type 0 where
  pub gains_nothing : (i : ℕ) (c : Cap) → at m'.registers i ≡ capability c → FromHand m c
  pub writes_through : (a : ℕ) → Changed m.cells m'.cells a → CanStore m a (at m'.cells a)
  pub one_cell : (a b : ℕ) → Changed m.cells m'.cells a → Changed m.cells m'.cells b → a ≡ b
  pub one_register :
      (i j : ℕ) → i ≢ 0 → j ≢ 0 → Changed m.registers m'.registers i → Changed m.registers m'.registers j →
      i ≡ j
  pub same_size : length m'.cells ≡ length m.cells

abbrev pub StepsWithinAuthority : Type 0
StepsWithinAuthority = (m m' : Machine) → step m ≡ moved m' → WithinAuthority m m'
