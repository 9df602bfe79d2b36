-- What holds of each capability in the registers, and of each that can be read, holds after a step too, if it holds of what is narrower.
use Rattle.std.proofs.Common.{◌≡◌, ℕ, suc, ◌<◌, Bool, true, false, cond, T, ltb, List, length, set, refl, subst, inl, inr, ltb→lt}
use Rattle.words.specs.Permissions.{reads, writes, stores_local}
use Rattle.words.specs.Word.{Cap, Word, integer, capability, at, Covers, is_local, with_cursor}
use Rattle.model.specs.declared.fault.Fault.{Fault}
use Rattle.model.specs.Machine.{Machine, Effect, put, read, write, pass, jump, halting, faulting, Stepped, moved, halts, faults}
use Rattle.model.specs.Numbers.{top}
use Rattle.model.specs.Step.{request, advanced, perform, step}
use Rattle.model.proofs.Rows.{same_capability, at_set}
use Rattle.model.specs.Authority.{NoMore}
use Rattle.model.proofs.Narrowed.{narrowed_cursor}
use Rattle.model.proofs.Allowed as allowed
use Rattle.model.proofs.Allowed.{Origin, Made, Carried, Allowed, request_allowed}

-- P holds of the capability in a word, if it has one; of each capability in a row
abbrev pub Has : (Cap → Type 0) → Word → Type 0
Has P w = (c : Cap) → w ≡ capability c → P c

abbrev pub AllAt : (Cap → Type 0) → List Word → Type 0
AllAt P row = (i : ℕ) → Has P (at row i)

pub all_set : (P : Cap → Type 0) (row : List Word) (i : ℕ) (w : Word) → AllAt P row → Has P w → AllAt P (set row i w)
all_set P row i w all has j c e = elim (at_set row i j w (capability c) e) [ inl found ↦ has c found | inr found ↦ all j c found ]

-- Q holds of the machine that a step gives, if it gives one
abbrev pub Ends : (Machine → Type 0) → Stepped → Type 0
Ends Q (moved m) = Q m
Ends Q halts = Unit {0}
Ends Q (faults f) = Unit {0}

pub ended : (Q : Machine → Type 0) (s : Stepped) (m : Machine) → Ends Q s → s ≡ moved m → Q m
ended Q s m h e = subst (Ends Q) e h

-- what a step does to the cells: nothing, or a word goes into one through a register's capability
pub data Change (r cells : List Word) : List Word → Type 0 where
  unchanged : Change r cells cells
  changed : {c : Cap} {a : ℕ} {w : Word} (i : ℕ) → at r i ≡ capability c → T (writes c.permission) → Covers c a → a < length cells → (T (is_local w) → T (stores_local c.permission)) → Carried r w → Change r cells (set cells a w)

-- and what it does to the registers: the pc changes, and maybe one more
pub data Wrote (r : List Word) : List Word → Type 0 where
  pc_only : (v : Word) → Wrote r (set r 0 v)
  register : (d : ℕ) (w v : Word) → Wrote r (set (set r d w) 0 v)

-- what a step from the registers r and the cells gives
pub record Moved (P : Cap → Type 0) (r cells : List Word) (m : Machine) : Type 0 where
  pub registers : AllAt P m.registers
  pub wrote : Wrote r m.registers
  pub change : Change r cells m.cells

-- P holds of what the registers read
abbrev pub Readable : (Cap → Type 0) → List Word → List Word → Type 0
Readable P r cells = (i : ℕ) (c : Cap) (a : ℕ) → at r i ≡ capability c → T (reads c.permission) → Covers c a → a < length cells → Has P (at cells a)

chosen : (Q : Machine → Type 0) (b : Bool) (m : Machine) (f : Fault) → Q m → Ends Q (cond b (moved m) (faults f))
chosen Q true m f q = q
chosen Q false m f q = tt

-- where the cell exists
there : (Q : Machine → Type 0) (a n : ℕ) (s : Stepped) (f : Fault) → (a < n → Ends Q s) → Ends Q (cond (ltb a n) s (faults f))
there Q a n s f k = by_test (ltb a n) (λ t. k (ltb→lt a n t))
  where
    by_test : (b : Bool) → (T b → Ends Q s) → Ends Q (cond b s (faults f))
    by_test true h = h tt
    by_test false h = tt

module _ (P : Cap → Type 0) (closed : (c d : Cap) → NoMore c d → P d → P c) where
  made_has : (r : List Word) (w : Word) → AllAt P r → Made r w → Has P w
  made_has r w all made c e =
      let o : Origin r c = made c e in
      closed c o.source o.no_more (all o.number o.source o.found)

  advanced_ends : (r₀ cells₀ r cells : List Word) (w : Word) → at r 0 ≡ w → AllAt P r → ((v : Word) → Wrote r₀ (set r 0 v)) → Change r₀ cells₀ cells → Ends (Moved P r₀ cells₀) (advanced r cells w)
  advanced_ends r₀ cells₀ r cells (integer z) found all wrote change = tt
  advanced_ends r₀ cells₀ r cells (capability pc) found all wrote change =
      chosen (Moved P r₀ cells₀) (ltb pc.cursor top) _ _ (record {
        registers = all_set P r 0 _ all (λ c e. subst P (same_capability e) (closed (with_cursor pc (suc pc.cursor)) pc (narrowed_cursor pc (suc pc.cursor)) (all 0 pc found)));
        wrote = wrote _;
        change = change;
      })

  perform_ends : (r cells : List Word) (e : Effect) → AllAt P r → Readable P r cells → Allowed r e → Ends (Moved P r cells) (perform r cells e)
  unfolding perform
  perform_ends r cells (put d w) all readable (allowed.puts made) =
      advanced_ends r cells _ cells _ refl (all_set P r d w all (made_has r w all made)) (λ v. register d w v) unchanged
  perform_ends r cells (read d a) all readable (allowed.reads_through {c = c} i found can within) =
      there (Moved P r cells) a (length cells) _ _ (λ exists. advanced_ends r cells _ cells _ refl (all_set P r d _ all (readable i c a found can within exists)) (λ v. register d (at cells a) v) unchanged)
  perform_ends r cells (write a w) all readable (allowed.writes_through i found can within storable carried) =
      there (Moved P r cells) a (length cells) _ _ (λ exists. advanced_ends r cells r _ _ refl all (λ v. pc_only v) (changed i found can within exists storable carried))
  perform_ends r cells pass all readable allowed.passes = advanced_ends r cells r cells _ refl all (λ v. pc_only v) unchanged
  perform_ends r cells (jump w) all readable (allowed.jumps made) = record { registers = all_set P r 0 w all (made_has r w all made); wrote = pc_only w; change = unchanged }
  perform_ends r cells halting all readable allowed.stops = tt
  perform_ends r cells (faulting f) all readable (allowed.stops_by proper) = tt

  pub step_ends : (m : Machine) → AllAt P m.registers → Readable P m.registers m.cells → Ends (Moved P m.registers m.cells) (step m)
  unfolding step
  step_ends m all readable = perform_ends m.registers m.cells (request m) all readable (request_allowed m)
