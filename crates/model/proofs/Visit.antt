-- What a visit keeps: each capability that it comes to is one that was held when it was opened, or narrower, and only what was writable then changes.
use Rattle.std.proofs.Common.{◌≡◌, ℕ, ◌<◌, T, ◌≢◌, ◌⊎◌, List, length, sym, refl, ◌∙◌, subst, inl, inr, length-set}
use Rattle.words.specs.declared.permission.Permission.{Permission}
use Rattle.words.specs.declared.permission.Permission.TheVariants.{O}
use Rattle.words.specs.Permissions.{reads, writes, executes}
use Rattle.words.specs.Word.{Cap, Word, capability, at, Covers}
use Rattle.model.specs.declared.status.Status.{Status}
use Rattle.model.specs.Machine.{Machine, moved}
use Rattle.model.specs.Step.{step}
use Rattle.model.specs.Run.{Runs, spent, already_halted, already_failed, steps_on, step_halts, step_faults}
use Rattle.model.specs.Survey.{Held, in_hand, in_cell, Reached, Writable}
use Rattle.model.specs.Authority.{NoMore}
use Rattle.model.proofs.Rows.{at_set, at_other}
use Rattle.model.proofs.Narrowed.{no_more_refl, no_more_trans, not_O, can_write, within}
use Rattle.model.proofs.Steps.{Has, AllAt, ended, Change, unchanged, changed, Moved, Readable, step_ends}

-- a capability that gives no more than a held one
pub record Derived (hand cells : List Word) (c : Cap) : Type 0 where
  pub source : Cap
  pub held : Held hand cells source
  pub no_more : NoMore c source

derived_narrower : (hand cells : List Word) (c d : Cap) → NoMore c d → Derived hand cells d → Derived hand cells c
derived_narrower hand cells _ _ n d = record { source = d.source; held = d.held; no_more = no_more_trans n d.no_more }

derived_held : {hand cells : List Word} {c : Cap} → Held hand cells c → Derived hand cells c
derived_held {c = c} h = record { source = c; held = h; no_more = no_more_refl }

pub reads_not_O : (p : Permission) → T (reads p) → p ≢ O
reads_not_O p t e = subst (λ (x : Permission). T (reads x)) e t

pub executes_not_O : (p : Permission) → T (executes p) → p ≢ O
executes_not_O p t e = subst (λ (x : Permission). T (executes x)) e t

pub derived_reaches : (hand cells : List Word) (c : Cap) (a : ℕ) → Derived hand cells c → c.permission ≢ O → Covers c a → a < length cells → Reached hand cells a
derived_reaches hand cells c a d other covers exists = record {
  via = d.source;
  held = d.held;
  not_O = not_O d.no_more other;
  covered = within d.no_more a covers;
  exists = exists;
}

derived_writes : (hand cells : List Word) (c : Cap) (a : ℕ) → Derived hand cells c → T (writes c.permission) → Covers c a → a < length cells → Writable hand cells a
derived_writes hand cells c a d can covers exists = record {
  via = d.source;
  held = d.held;
  can_write = can_write d.no_more can;
  covered = within d.no_more a covers;
  exists = exists;
}

-- the machine of a visit that was opened with `hand` over `cells`
pub record Visit (hand cells : List Word) (m : Machine) : Type 0 where
  pub size : length m.cells ≡ length cells
  pub registers : AllAt (Derived hand cells) m.registers
  pub reached : (a : ℕ) → Reached hand cells a → Has (Derived hand cells) (at m.cells a)

-- each cell is as it was, or was writable
abbrev pub Kept : (hand cells before after : List Word) → Type 0
Kept hand cells before after = (a : ℕ) → (at after a ≡ at before a) ⊎ Writable hand cells a

pub visit_opened : (hand cells : List Word) → Visit hand cells (record { registers = hand; cells = cells })
visit_opened hand cells = record {
  size = refl;
  registers = λ i c e. derived_held (in_hand i e);
  reached = λ a r c e. derived_held (in_cell a r.held r.not_O r.covered e);
}

module _ (hand cells : List Word) where
  visit_change : (r₀ r before after : List Word) → AllAt (Derived hand cells) r₀ → length before ≡ length cells → ((a : ℕ) → Reached hand cells a → Has (Derived hand cells) (at before a)) → AllAt (Derived hand cells) r → Change r₀ before after → Visit hand cells (record { registers = r; cells = after }) × Kept hand cells before after
  visit_change r₀ r before after had size reached all unchanged = (record { size = size; registers = all; reached = reached }, λ a. inl refl)
  visit_change r₀ r before after had size reached all (changed {c = c} {a = b} {w = w} i found can covers exists storable carried) = (
    record {
      size = length-set before b w ∙ size;
      registers = all;
      reached = λ a h d e. elim (at_set before b a w (capability d) e) [
        | inl same ↦ had (carried d same).0 d (carried d same).1
        | inr same ↦ reached a h d same
      ];
    },
    λ a. elim (at_other before b a w) [
      | inl same ↦ inr (subst (λ (x : ℕ). Writable hand cells x) (sym same) (derived_writes hand cells c b (had i c found) can covers (subst (λ (n : ℕ). b < n) size exists)))
      | inr same ↦ inl same
    ],
  )

  visit_readable : (m : Machine) → Visit hand cells m → Readable (Derived hand cells) m.registers m.cells
  visit_readable m v i c a found can covers exists =
      v.reached a (derived_reaches hand cells c a (v.registers i c found) (reads_not_O c.permission can) covers (subst (λ (n : ℕ). a < n) v.size exists))

  pub visit_step : (m m' : Machine) → Visit hand cells m → step m ≡ moved m' → Visit hand cells m' × Kept hand cells m.cells m'.cells
  visit_step m m' v e =
      let now : Moved (Derived hand cells) m.registers m.cells m' = ended (Moved (Derived hand cells) m.registers m.cells) (step m) m' (step_ends (Derived hand cells) (derived_narrower hand cells) m v.registers (visit_readable m v)) e in
      visit_change m.registers m'.registers m.cells m'.cells v.registers v.size v.reached now.registers now.change

  kept_trans : (x y z : List Word) → Kept hand cells x y → Kept hand cells y z → Kept hand cells x z
  kept_trans x y z k l a = elim (l a) [ inr w ↦ inr w | inl e ↦ elim (k a) [ inr w ↦ inr w | inl f ↦ inl (e ∙ f) ] ]

  pub visit_runs : {budget n : ℕ} {m m' : Machine} {status status' : Status} → Runs budget m status n m' status' → Visit hand cells m → Visit hand cells m' × Kept hand cells m.cells m'.cells
  visit_runs spent v = (v, λ a. inl refl)
  visit_runs already_halted v = (v, λ a. inl refl)
  visit_runs already_failed v = (v, λ a. inl refl)
  visit_runs (steps_on {m = m} {m' = m'} {m'' = m''} e rest) v =
      let one = visit_step m m' v e in
      let more = visit_runs rest one.0 in
      (more.0, kept_trans m.cells m'.cells m''.cells one.1 more.1)
  visit_runs (step_halts e) v = (v, λ a. inl refl)
  visit_runs (step_faults e) v = (v, λ a. inl refl)
