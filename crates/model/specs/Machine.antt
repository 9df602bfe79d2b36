-- A machine, and what one instruction may do to it.
use Rattle.std.specs.Prelude.{ℕ, List}
use Rattle.words.specs.Word.{Word}
use Rattle.model.specs.declared.fault.Fault.{Fault}

-- Sixteen registers, of which register 0 is the pc, and the cells of the memory from address 0.
pub record Machine : Type 0 where
  pub registers : List Word
  pub cells : List Word

-- What an instruction does once its checks have passed, or the fault of the first that has not. A read and a write need the cell: that it exists is
-- checked where they are performed.
pub data Effect : Type 0 where
  put : ℕ → Word → Effect  -- the word goes into the register, and the pc advances
  read : ℕ → ℕ → Effect  -- the word of the cell (second) goes into the register (first), and the pc advances
  write : ℕ → Word → Effect  -- the word goes into the cell, and the pc advances
  pass : Effect  -- the pc advances
  jump : Word → Effect  -- the word goes into the pc, which does not advance
  halting : Effect
  faulting : Fault → Effect

-- What a step comes to. A halt or a fault has no machine: every register and cell stays as it was.
pub data Stepped : Type 0 where
  moved : Machine → Stepped
  halts : Stepped
  faults : Fault → Stepped
