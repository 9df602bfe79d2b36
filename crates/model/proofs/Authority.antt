-- What one step comes to hold and changes, it does by the capabilities in the registers.
use Rattle.std.proofs.Common.{◌≡◌, ℕ, ◌≢◌, List, length, set, sym, refl, ap, ◌∙◌, subst, inl, inr, length-set, get_or-set_same}
use Rattle.words.specs.Word.{Cap, Word, zero_word, at}
use Rattle.model.specs.Machine.{Machine}
use Rattle.model.specs.Step.{step}
use Rattle.model.specs.Authority.{NoMore, AtHand, in_register, in_reading, FromHand, CanStore, StepsWithinAuthority}
use Rattle.model.proofs.Rows.{at_other}
use Rattle.model.proofs.Narrowed.{no_more_refl, no_more_trans}
use Rattle.model.proofs.Steps.{ended, Change, unchanged, changed, Moved, Wrote, pc_only, register, step_ends}

module _ (m : Machine) where
  from_narrower : (c d : Cap) → NoMore c d → FromHand m d → FromHand m c
  from_narrower c d n f = record { source = f.source; at_hand = f.at_hand; no_more = no_more_trans n f.no_more }

  from_here : (c : Cap) → AtHand m c → FromHand m c
  from_here c h = record { source = c; at_hand = h; no_more = no_more_refl }

  -- a place that changed is where a word was set
  set_where : (row : List Word) (a b : ℕ) (w : Word) → at (set row b w) a ≢ at row a → a ≡ b
  set_where row a b w differs = elim (at_other row b a w) [ inl same ↦ same | inr same ↦ absurd (differs same) ]

  stored : (after : List Word) (a : ℕ) → Change m.registers m.cells after → at after a ≢ at m.cells a → CanStore m a (at after a)
  stored after a unchanged differs = absurd (differs refl)
  stored after a (changed {c = c} {a = b} {w = w} i found can covers exists storable carried) differs =
      let here : a ≡ b = set_where m.cells a b w differs in
      let is : w ≡ at (set m.cells b w) a = sym (ap (at (set m.cells b w)) here ∙ get_or-set_same m.cells b w zero_word exists) in
      subst (λ (v : Word). CanStore m a v) is (subst (λ (x : ℕ). CanStore m x w) (sym here) (record {
        number = i;
        through = c;
        found = found;
        can_write = can;
        covered = covers;
        can_store = storable;
        carried = carried;
      }))

  one_cell : (after : List Word) (a b : ℕ) → Change m.registers m.cells after → at after a ≢ at m.cells a → at after b ≢ at m.cells b → a ≡ b
  one_cell after a b unchanged p q = absurd (p refl)
  one_cell after a b (changed {a = c} {w = w} i found can covers exists storable carried) p q = set_where m.cells a c w p ∙ sym (set_where m.cells b c w q)

  -- a register other than the pc
  other_than_pc : (r : List Word) (v : Word) (i : ℕ) → i ≢ 0 → at (set r 0 v) i ≡ at r i
  other_than_pc r v i h = elim (at_other r 0 i v) [ inl same ↦ absurd (h same) | inr same ↦ same ]

  one_register : (after : List Word) (i j : ℕ) → i ≢ 0 → j ≢ 0 → Wrote m.registers after → at after i ≢ at m.registers i → at after j ≢ at m.registers j → i ≡ j
  one_register after i j h k (pc_only v) p q = absurd (p (other_than_pc m.registers v i h))
  one_register after i j h k (register d w v) p q =
      set_where m.registers i d w (λ same. p (other_than_pc (set m.registers d w) v i h ∙ same))
      ∙ sym (set_where m.registers j d w (λ same. q (other_than_pc (set m.registers d w) v j k ∙ same)))

  same_size : (after : List Word) → Change m.registers m.cells after → length after ≡ length m.cells
  same_size after unchanged = refl
  same_size after (changed {a = a} {w = w} i found can covers exists storable carried) = length-set m.cells a w

pub steps_within_authority : StepsWithinAuthority
steps_within_authority m m' e =
    let now : Moved (FromHand m) m.registers m.cells m' =
    ended (Moved (FromHand m) m.registers m.cells) (step m) m'
    (step_ends (FromHand m) (from_narrower m) m (λ i c found. from_here m c (in_register i found))
    (λ i c a found can covers exists d e. from_here m d (in_reading i a found can covers e))) e in
    record {
      gains_nothing = now.registers;
      writes_through = λ a. stored m m'.cells a now.change;
      one_cell = λ a b. one_cell m m'.cells a b now.change;
      one_register = λ i j h k. one_register m m'.registers i j h k now.wrote;
      same_size = same_size m m'.cells now.change;
    }
