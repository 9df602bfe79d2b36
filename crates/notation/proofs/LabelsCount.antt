-- A label of a text that assembles stands for the number of cells before it.
use Rattle.std.proofs.Common.{◌≡◌, ℕ, suc, ◌+◌, ◌-◌, Bool, true, false, cond, not, ◌&&◌, ◌||◌, eqb, ltb, leb, List, [], ◌∷◌, ◌++◌, length, get_or, replicate, is_some, Some, None, codes, Option, sym, refl, ap, ◌∙◌, subst, append_assoc, add-zero, arith, length-append}
use lib.ListN.{length-replicate}
use Rattle.std.specs.Str.{bytes_eq}
use Rattle.std.proofs.lemmas.List.{append-nil, length_push}
use Rattle.std.proofs.lemmas.Bool.{eqb-true, leb-true, cond_both, cond-true, and_parts}
use Rattle.std.proofs.lemmas.Bool.Decides.{nat_tests}
use Rattle.std.proofs.lemmas.Slice.Eq.{bytes_eq-Decides}
use Rattle.words.specs.Word.{Word, zero_word}
use Rattle.notation.specs.declared.expected.Expected.TheVariants.{End, AddressAhead, Room, OneBudget, OneWord, NewLabel, LabelName}
use Rattle.notation.specs.Scanning.{lines, skipped, front, behind}
use Rattle.notation.specs.Numerals.{number_in, integer_in, register_in}
use Rattle.notation.specs.Labels.{Definition, label_of, unlabelled, has_label, is_name, name_shaped, reserved, one_on, moved_to, address_after, defined, defined_from, address_of, or_else}
use Rattle.notation.specs.Places.{Parsed, got, missed, then, taken, steps_at, word_at}
use Rattle.notation.specs.Statements.{Statement, nothing, budget, register, at, cell, ended, budget_line, at_line, register_or_cell, statement_at}
use Rattle.notation.specs.Drafts.{Draft, empty_draft, Adding, added, wrong, stated, with_steps, with_register, with_cells, parsed_added, defined_there, labelled, line_added}
use Rattle.notation.specs.Assembling.{Outcome, sheet, mistake, sheet_bytes, finished, column, from_line}
use Rattle.notation.specs.Labelling.{drafted, LabelsNameCells}

-- Cells that came at the end of others, so that there are now so many.
record Grown (cs : List Word) (m : ℕ) (cs' : List Word) : Type 0 where
  more : List Word
  longer : cs' ≡ cs ++ more
  many : length cs' ≡ m

abbrev Adds : List Word → ℕ → Adding → Type 0
Adds cs m (added d) = Grown cs m d.cells
Adds cs m (wrong e left) = Unit {0}

same : (cs : List Word) → Grown cs (length cs) cs
same cs = record { more = []; longer = sym (append-nil cs); many = refl }

-- A statement adds as many cells as its kind says.
module _ (d : Draft) (left : ℕ) where
  budget_adds : (n : ℕ) → Adds d.cells (length d.cells) (stated d (budget n) left)
  budget_adds n =
      cond_both (is_some d.steps) (wrong OneBudget left) (added (with_steps d n)) (Adds d.cells (length d.cells)) (λ e. tt) (λ e. same d.cells)

  register_adds : (n : ℕ) (w : Word) → Adds d.cells (length d.cells) (stated d (register n w) left)
  register_adds n w =
      cond_both (get_or d.given n false) (wrong OneWord left) (added (with_register d n w)) (Adds d.cells (length d.cells))
      (λ e. tt) (λ e. same d.cells)

  cell_adds : (w : Word) → Adds d.cells (one_on (length d.cells)) (stated d (cell w) left)
  cell_adds w =
      cond_both (ltb (length d.cells) 2048) (added (with_cells d (w ∷ []))) (wrong Room left) (Adds d.cells (one_on (length d.cells)))
      (λ e. record { more = w ∷ []; longer = refl; many = length_push d.cells w ∙ sym (cond-true _ _ _ e) })
      (λ e. tt)

  at_adds : (n : ℕ) → Adds d.cells (moved_to (Some n) (length d.cells)) (stated d (at n) left)
  at_adds n =
      let fill : List Word = replicate (n - length d.cells) zero_word in
      cond_both (leb (length d.cells) n && leb n 2048) (added (with_cells d fill)) (wrong AddressAhead left)
      (Adds d.cells (moved_to (Some n) (length d.cells)))
      (λ e.
      let k = and_parts (leb (length d.cells) n) (leb n 2048) e in
      let ahead = leb-true (length d.cells) n k.0 in
      let long : length (d.cells ++ fill) ≡ n = simp (length-append, length-replicate) (omega arith) in
      record { more = fill; longer = refl; many = long ∙ sym (cond-true _ _ _ k.1) })
      (λ e. tt)

  module _ (m : ℕ) where
    ended_adds : (s : Statement) (rest : List ℕ) → Adds d.cells m (stated d s left) → Adds d.cells m (parsed_added d (ended s rest) left)
    ended_adds s rest h =
        cond_both (eqb (length (front (skipped rest))) 0) (got s (skipped rest)) (missed End (length (skipped rest)))
        (λ p. Adds d.cells m (parsed_added d p left)) (λ e. h) (λ e. tt)

    then_adds : {A : Type 0} (p : Parsed A) (f : A → Statement) → ((x : A) → Adds d.cells m (stated d (f x) left)) →
        Adds d.cells m (parsed_added d (then p (λ x rest. ended (f x) rest)) left)
    then_adds (got x rest) f h = ended_adds (f x) rest (h x)
    then_adds (missed e l) f h = tt

  at_read : (o : Option ℕ) (rest : List ℕ) →
      Adds d.cells (moved_to o (length d.cells)) (parsed_added d (then (taken o AddressAhead rest) (λ a rest'. ended (at a) rest')) left)
  at_read (Some n) rest = ended_adds (moved_to (Some n) (length d.cells)) (at n) (behind rest) (at_adds n)
  at_read None rest = tt

  -- The first word decides for the statement as it does for the address.
  by_word : (ls : List (List ℕ)) (rest : List ℕ) (is_empty is_budget is_at : Bool) (number : Option ℕ) → (is_at ≡ true → number ≡ None) →
      Adds d.cells
      (cond (is_empty || (is_budget || is_some number)) (length d.cells)
      (cond is_at (moved_to (number_in (front (skipped (behind rest)))) (length d.cells)) (one_on (length d.cells))))
      (parsed_added d
      (cond is_empty (got nothing rest)
      (cond is_budget (budget_line ls (behind rest)) (cond is_at (at_line (behind rest)) (register_or_cell ls number rest)))) left)
  by_word ls rest true is_budget is_at number h = same d.cells
  by_word ls rest false true is_at number h = then_adds (length d.cells) (steps_at ls (behind rest)) budget budget_adds
  by_word ls rest false false true (Some n) h = let e = h refl in absurd (cc)
  by_word ls rest false false true None h = at_read (number_in (front (skipped (behind rest)))) (skipped (behind rest))
  by_word ls rest false false false (Some n) h = then_adds (length d.cells) (word_at ls (behind rest)) (register n) (register_adds n)
  by_word ls rest false false false None h = then_adds (one_on (length d.cells)) (word_at ls rest) cell cell_adds

no_register : (word : List ℕ) → bytes_eq (codes "at") word ≡ true → register_in word ≡ None
no_register [] e = refl
no_register (c ∷ cs) e = grind (arith, nat_tests)

labelled_adds : (ls : List (List ℕ)) (o : Option (List ℕ)) (n : ℕ) (line : List ℕ) (adding : Adding) (cs : List Word) (m : ℕ) → Adds cs m adding →
    Adds cs m (labelled ls o n line adding)
labelled_adds ls (Some name) n line adding cs m h =
    let left : ℕ = length (skipped line) in
    cond_both (is_name name) (cond (defined_there (defined ls name) n) adding (wrong NewLabel left)) (wrong LabelName left) (Adds cs m)
    (λ e. cond_both (defined_there (defined ls name) n) adding (wrong NewLabel left) (Adds cs m) (λ f. h) (λ f. tt))
    (λ e. tt)
labelled_adds ls None n line adding cs m h = h

-- After a line there are as many cells as the address after it says.
line_adds : (ls : List (List ℕ)) (d : Draft) (n : ℕ) (line : List ℕ) →
    Adds d.cells (address_after line (length d.cells)) (line_added ls d n line)
line_adds ls d n line =
    let rest : List ℕ = skipped (unlabelled line) in
    let word : List ℕ = front rest in
    labelled_adds ls (label_of line) n line (parsed_added d (statement_at ls (unlabelled line)) (length rest)) d.cells
    (address_after line (length d.cells))
    (by_word d (length rest) ls rest (eqb (length word) 0) (bytes_eq (codes "budget") word) (bytes_eq (codes "at") word) (register_in word)
    (no_register word))

-- The address after some lines, the first of which begins at an address.
abbrev address_past : List (List ℕ) → ℕ → ℕ
address_past [] a = a
address_past (line ∷ rest) a = address_past rest (address_after line a)

module _ (all : List (List ℕ)) (bytes : List ℕ) where
  abbrev goes_on : ℕ → List ℕ → List (List ℕ) → Adding → Outcome
  goes_on n line rest (added d) = from_line all d (n + 1) rest
  goes_on n line rest (wrong e left) = mistake n (column line left) e

  abbrev drafts_on : ℕ → List (List ℕ) → Adding → Option Draft
  drafts_on n rest (added d) = drafted all d (n + 1) rest
  drafts_on n rest (wrong e left) = None

  -- The cells of a draft are the first of the sheet that it becomes.
  record Becomes (d : Draft) (n : ℕ) (rest : List (List ℕ)) : Type 0 where
    whole : Draft
    drafts : drafted all d n rest ≡ Some whole
    budget_is : ℕ
    steps_are : whole.steps ≡ Some budget_is
    bytes_are : bytes ≡ sheet_bytes budget_is whole.hand whole.cells
    later : List Word
    cells_are : whole.cells ≡ d.cells ++ later

  finished_becomes : (o : Option ℕ) (d : Draft) (n : ℕ) → d.steps ≡ o → finished o d n ≡ sheet bytes → Becomes d n []
  finished_becomes (Some s) d n f h =
      let e : bytes ≡ sheet_bytes s d.hand d.cells = cc in
      record { whole = d; drafts = refl; budget_is = s; steps_are = f; bytes_are = e; later = []; cells_are = sym (append-nil d.cells) }
  finished_becomes None d n f h = absurd (cc)

  becomes : (rest : List (List ℕ)) (d : Draft) (n : ℕ) → from_line all d n rest ≡ sheet bytes → Becomes d n rest
  becomes [] d n h = finished_becomes d.steps d n refl h
  becomes (line ∷ rest) d n h =
      (elim (line_added all d n line)
      as (λ r. line_added all d n line ≡ r → Adds d.cells (address_after line (length d.cells)) r →
      goes_on n line rest r ≡ sheet bytes → Becomes d n (line ∷ rest)) [
        | added d' ↦ λ e g k.
            let next = becomes rest d' (n + 1) k in
            record {
              whole = next.whole;
              drafts = ap (drafts_on n rest) e ∙ next.drafts;
              budget_is = next.budget_is;
              steps_are = next.steps_are;
              bytes_are = next.bytes_are;
              later = g.more ++ next.later;
              cells_are = next.cells_are ∙ ap (λ cs. cs ++ next.later) g.longer ∙ append_assoc d.cells g.more next.later;
            }
        | wrong e left ↦ λ f g k. absurd (cc)
      ]) refl (line_adds all d n line) h

  -- Where lines with more behind them assemble, they have a draft, and the others go on from it.
  record Reached (before rest : List (List ℕ)) (d : Draft) (n : ℕ) : Type 0 where
    draft : Draft
    so_far : drafted all d n before ≡ Some draft
    through : drafted all d n (before ++ rest) ≡ drafted all draft (n + length before) rest
    on : from_line all draft (n + length before) rest ≡ sheet bytes
    many : length draft.cells ≡ address_past before (length d.cells)

  reach : (before rest : List (List ℕ)) (d : Draft) (n : ℕ) → from_line all d n (before ++ rest) ≡ sheet bytes → Reached before rest d n
  reach [] rest d n h = record { draft = d; so_far = refl; through = rw add-zero; on = rw add-zero h; many = refl }
  reach (line ∷ before) rest d n h =
      (elim (line_added all d n line)
      as (λ r. line_added all d n line ≡ r → Adds d.cells (address_after line (length d.cells)) r →
      goes_on n line (before ++ rest) r ≡ sheet bytes → Reached (line ∷ before) rest d n) [
        | added d' ↦ λ e g k.
            let next = reach before rest d' (n + 1) k in
            let place : (n + 1) + length before ≡ n + suc (length before) = omega arith in
            record {
              draft = next.draft;
              so_far = ap (drafts_on n before) e ∙ next.so_far;
              through = ap (drafts_on n (before ++ rest)) e ∙ next.through ∙ ap (λ p. drafted all next.draft p rest) place;
              on = subst (λ p. from_line all next.draft p rest ≡ sheet bytes) place next.on;
              many = next.many ∙ ap (address_past before) g.many;
            }
        | wrong e left ↦ λ f g k. absurd (cc)
      ]) refl (line_adds all d n line) h

  -- A line that is not wrong and has a label is the first with it, and the label is a name.
  abbrev UnlessWrong : Type 0 → Adding → Type 0
  UnlessWrong P (added d) = P
  UnlessWrong P (wrong e left) = Unit {0}

  holds : (P : Type 0) (adding : Adding) → P → UnlessWrong P adding
  holds P (added d) p = p
  holds P (wrong e left) p = tt

  label_holds : (name : List ℕ) (n : ℕ) (line : List ℕ) (adding : Adding) →
      UnlessWrong ((is_name name ≡ true) × (defined_there (defined all name) n ≡ true)) (labelled all (Some name) n line adding)
  label_holds name n line adding =
      let P : Type 0 = (is_name name ≡ true) × (defined_there (defined all name) n ≡ true) in
      let left : ℕ = length (skipped line) in
      cond_both (is_name name) (cond (defined_there (defined all name) n) adding (wrong NewLabel left)) (wrong LabelName left) (UnlessWrong P)
      (λ e. cond_both (defined_there (defined all name) n) adding (wrong NewLabel left) (UnlessWrong P) (λ f. holds P adding (e, f)) (λ f. tt))
      (λ e. tt)

  label_good : (name line : List ℕ) (rest : List (List ℕ)) (d : Draft) (n : ℕ) → label_of line ≡ Some name →
      from_line all d n (line ∷ rest) ≡ sheet bytes → (is_name name ≡ true) × (defined_there (defined all name) n ≡ true)
  label_good name line rest d n e h =
      let P : Type 0 = (is_name name ≡ true) × (defined_there (defined all name) n ≡ true) in
      let adding : Adding = parsed_added d (statement_at all (unlabelled line)) (length (skipped (unlabelled line))) in
      (elim (line_added all d n line) as (λ r. UnlessWrong P r → goes_on n line rest r ≡ sheet bytes → P) [
        | added d' ↦ λ p k. p
        | wrong f left ↦ λ p k. absurd (cc)
      ]) (subst (λ o. UnlessWrong P (labelled all o n line adding)) (sym e) (label_holds name n line adding)) h

-- The first line with a label, where that is the line after the lines before it, begins at the address past those.
first_there : (before after : List (List ℕ)) (line name : List ℕ) (n a : ℕ) → label_of line ≡ Some name →
    defined_there (defined_from n a (before ++ (line ∷ after)) name) (n + length before) ≡ true →
    defined_from n a (before ++ (line ∷ after)) name ≡ Some (record { line = n + length before; address = address_past before a })
first_there [] after line name n a e h =
    let here : has_label (label_of line) name ≡ true = ap (λ o. has_label o name) e ∙ (bytes_eq-Decides name name).1 refl in
    cond-true _ _ _ here ∙ ap (λ k. Some (record { line = k; address = a })) (sym (add-zero n))
first_there (other ∷ before) after line name n a e h =
    let place : (n + 1) + length before ≡ n + suc (length before) = omega arith in
    let more : Option Definition = defined_from (n + 1) (address_after other a) (before ++ (line ∷ after)) name in
    let found : ℕ → Option Definition = λ k. Some (record { line = k; address = address_past before (address_after other a) }) in
    (elim (has_label (label_of other) name)
    as (λ t. defined_there (cond t (Some (record { line = n; address = a })) more) (n + suc (length before)) ≡ true →
    cond t (Some (record { line = n; address = a })) more ≡ found (n + suc (length before))) [
      | true ↦ λ k. let same = eqb-true n (n + suc (length before)) k in absurd (omega arith)
      | false ↦ λ k.
          first_there before after line name (n + 1) (address_after other a) e (subst (λ p. defined_there more p ≡ true) (sym place) k) ∙ ap found place
    ]) h

-- A name is no integer.
no_integer : (name : List ℕ) → name_shaped name ≡ true → integer_in name ≡ None
no_integer [] e = refl
no_integer (c ∷ cs) e = grind (arith, nat_tests)

abbrev line_of : Option Definition → ℕ
line_of (Some d) = d.line
line_of None = 0

-- A line with the label.
module _ (all : List (List ℕ)) (bytes : List ℕ) (name : List ℕ) (assembles : from_line all empty_draft 1 all ≡ sheet bytes) where
  record LabelAt (before : List (List ℕ)) : Type 0 where
    draft : Draft
    so_far : drafted all empty_draft 1 before ≡ Some draft
    rest : List (List ℕ)
    through : drafted all empty_draft 1 all ≡ drafted all draft (1 + length before) rest
    then_becomes : Becomes all bytes draft (1 + length before) rest
    is_named : is_name name ≡ true
    first : defined all name ≡ Some (record { line = length before + 1; address = length draft.cells })

  label_at : (before after : List (List ℕ)) (line : List ℕ) → all ≡ before ++ (line ∷ after) → label_of line ≡ Some name → LabelAt before
  label_at before after line e l =
      let r = reach all bytes before (line ∷ after) empty_draft 1 (subst (λ ls. from_line all empty_draft 1 ls ≡ sheet bytes) e assembles) in
      let good = label_good all bytes name line after r.draft (1 + length before) l r.on in
      let there = first_there before after line name 1 0 l (subst (λ ls. defined_there (defined ls name) (1 + length before) ≡ true) e good.1) in
      let place : 1 + length before ≡ length before + 1 = omega arith in
      record {
        draft = r.draft;
        so_far = r.so_far;
        rest = line ∷ after;
        through = ap (drafted all empty_draft 1) e ∙ r.through;
        then_becomes = becomes all bytes (line ∷ after) r.draft (1 + length before) r.on;
        is_named = good.0;
        first =
            ap (λ ls. defined ls name) e ∙ there
            ∙ ap (λ k. Some (record { line = k; address = address_past before 0 })) place
            ∙ ap (λ a. Some (record { line = length before + 1; address = a })) (sym r.many);
      }

pub labels_name_cells : LabelsNameCells
labels_name_cells text bytes before after line name assembles e l =
    let all : List (List ℕ) = lines text in
    let h = label_at all bytes name assembles before after line e l in
    let end = h.then_becomes in
    let shaped = (and_parts (name_shaped name) (not (reserved name)) h.is_named).0 in
    record {
      draft = h.draft;
      so_far = h.so_far;
      first = h.first;
      only = λ others more other f m.
          let k = label_at all bytes name assembles others more other f m in
          let same : length others + 1 ≡ length before + 1 = ap line_of (sym k.first ∙ h.first) in
          omega arith;
      value = ap (λ o. or_else o (address_of (defined all name))) (no_integer name shaped) ∙ ap address_of h.first;
      whole = end.whole;
      in_all = h.through ∙ end.drafts;
      budget = end.budget_is;
      steps_are = end.steps_are;
      in_sheet = end.bytes_are;
      later = end.later;
      cells_are = end.cells_are;
    }
