-- The listing of a sheet assembles to the sheet.
use Rattle.std.proofs.Common.{◌≡◌, ℕ, zero, suc, ◌+◌, ◌-◌, ◌*◌, ◌/◌, ◌^◌, ◌<◌, ◌≤◌, Bool, true, false, cond, eqb, ltb, leb, List, [], ◌∷◌, ◌++◌, length, get_or, take, drop, set, replicate, pos, negsuc, Some, None, codes, decimal, Option, sym, refl, ap, ◌∙◌, subst, append_assoc, arith}
use Rattle.std.specs.Str.{bytes_eq}
use Rattle.std.specs.List.{All}
use Rattle.std.proofs.lemmas.List.{append-nil, get_or_at, set_at, length_push}
use Rattle.std.proofs.lemmas.List.Elements.{All-nil, All-cons, All-head, All-tail, All-append}
use Rattle.std.proofs.lemmas.Bool.Decides.{nat_tests}
use Rattle.std.proofs.lemmas.Bool.{lt-ltb, ne_eqb, leb-true, cond_both}
use Rattle.words.specs.Word.{Word, integer, capability, zero_word, is_zero}
use Rattle.groups.specs.Packing.{Exists}
use Rattle.model.specs.Survey.{count_from}
use Rattle.notation.specs.declared.expected.Expected.TheVariants.{OneWord, Room, End}
use Rattle.notation.specs.Scanning.{onto, lines, skipped, front, behind}
use Rattle.notation.specs.Numerals.{register_in}
use Rattle.notation.specs.Labels.{colon_ends, without_colon}
use Rattle.notation.specs.Places.{Parsed, got, missed, then, word_at}
use Rattle.notation.specs.Statements.{Statement, nothing, budget as budget_stated, register as register_stated, cell as cell_stated, ended, at_line, register_or_cell, statement_at}
use Rattle.notation.specs.Statements.{budget_line as budget_said}
use Rattle.notation.specs.Drafts.{Draft, added, wrong, empty_draft, parsed_added, labelled, line_added}
use Rattle.notation.specs.Assembling.{from_line}
use Rattle.notation.specs.Texts.{word_text, register_text, cell_text}
use Rattle.notation.specs.Listing.{joined_lines, hand_lines, mark_name, mark_signs, margin, picture_rows, leads_text, padding, cell_line, cell_lines, reach_line, budget_line, listing_lines}
use Rattle.notation.specs.Reading.{AllExist, PartsOfSheet, ReadsBack}
use Rattle.notation.proofs.WordsBack.{word_reads, cell_reads, Begins, cell_begins, NoFeed, no_feed_append, no_feed_decimal, no_feed_word, no_feed_cell, register_begins, steps_read}

-- Bytes without a line feed, as a test, which computes where the bytes are known.
abbrev clear : List ℕ → Bool
clear [] = true
clear (c ∷ cs) = cond (eqb c 10) false (clear cs)

cleared : (t r : Bool) → cond t false r ≡ true → (t ≡ false) × (r ≡ true)
cleared true r h = absurd (cc)
cleared false r h = (refl, h)

by_test : (bytes : List ℕ) → clear bytes ≡ true → NoFeed bytes
by_test [] h = tt
by_test (c ∷ cs) h = let both = cleared (eqb c 10) (clear cs) h in (both.0, by_test cs both.1)

-- Lines that are joined part again.
one_line : (line text : List ℕ) → NoFeed line → lines (line ++ (10 ∷ text)) ≡ line ∷ lines text
one_line [] text h = refl
one_line (c ∷ cs) text h =
    ap (λ b. cond b ([] ∷ lines (cs ++ (10 ∷ text))) (onto c (lines (cs ++ (10 ∷ text))))) h.0
    ∙ ap (onto c) (one_line cs text h.1)

pub lines_back : (ls : List (List ℕ)) → All NoFeed ls → lines (joined_lines ls) ≡ ls
lines_back [] h = refl
lines_back (line ∷ rest) h = one_line line (joined_lines rest) (All-head NoFeed line rest h) ∙ ap (λ more. line ∷ more) (lines_back rest (All-tail NoFeed line rest h))

-- No line of a listing has a line feed in it.
count_small : (k : ℕ) (marks : List ℕ) → count_from k marks ≤ length marks
count_small k [] = omega arith
count_small k (m ∷ ms) = grind (arith, nat_tests, count_small k ms)

signs_clear : (marks : List ℕ) → NoFeed (mark_signs marks)
signs_clear [] = tt
signs_clear (m ∷ ms) = (grind (arith, nat_tests), signs_clear ms)

name_clear : (m : ℕ) → NoFeed (mark_name m)
name_clear m =
    cond_both (leb 2 m) (codes "writable") (cond (eqb m 1) (codes "reached") (codes "apart")) NoFeed (λ e. by_test (codes "writable") refl)
    (λ e. cond_both (eqb m 1) (codes "reached") (codes "apart") NoFeed (λ f. by_test (codes "reached") refl) (λ f. by_test (codes "apart") refl))

margin_clear : (a : ℕ) → NoFeed (margin a)
margin_clear a =
    cond_both (ltb a 10) (codes "   ") (cond (ltb a 100) (codes "  ") (cond (ltb a 1000) (codes " ") [])) NoFeed (λ e. by_test (codes "   ") refl)
    (λ e. cond_both (ltb a 100) (codes "  ") (cond (ltb a 1000) (codes " ") []) NoFeed (λ f. by_test (codes "  ") refl)
    (λ f. cond_both (ltb a 1000) (codes " ") [] NoFeed (λ g. by_test (codes " ") refl) (λ g. tt)))

spaces_clear : (n : ℕ) → NoFeed (replicate n 32)
spaces_clear zero = tt
spaces_clear (suc n) = (refl, spaces_clear n)

budget_clear : (budget : ℕ) → budget < 2 ^ 32 → NoFeed (budget_line budget)
budget_clear budget small =
    no_feed_append (codes "budget ") (decimal budget) (by_test (codes "budget ") refl) (no_feed_decimal budget (omega arith))

register_clear : (n : ℕ) → n < 2 ^ 64 → NoFeed (register_text n)
register_clear n small = (refl, no_feed_decimal n small)

hand_clear : (n : ℕ) (hand : List Word) → n + length hand ≤ 16 → AllExist hand → All NoFeed (hand_lines n hand)
hand_clear n [] few exist = All-nil NoFeed
hand_clear n (w ∷ ws) few exist =
    let more = hand_clear (n + 1) ws (omega arith) exist.1 in
    let here : NoFeed (register_text n ++ (codes " " ++ word_text w))
    = no_feed_append (register_text n) (codes " " ++ word_text w) (register_clear n (omega arith)) (refl, no_feed_word w exist.0) in
    cond_both (is_zero w) (hand_lines (n + 1) ws) ((register_text n ++ (codes " " ++ word_text w)) ∷ hand_lines (n + 1) ws) (All NoFeed)
    (λ e. more) (λ e. All-cons NoFeed _ _ here more)

reach_clear : (marked size writable : ℕ) → marked < 2 ^ 64 → size < 2 ^ 64 → writable < 2 ^ 64 → NoFeed (reach_line marked size writable)
reach_clear marked size writable h k l =
    no_feed_append (codes "; ") _ (by_test (codes "; ") refl) (
    no_feed_append (decimal marked) _ (no_feed_decimal marked h) (
    no_feed_append (codes " of ") _ (by_test (codes " of ") refl) (
    no_feed_append (decimal size) _ (no_feed_decimal size k) (
    no_feed_append (codes " cells reached, ") _ (by_test (codes " cells reached, ") refl) (
    no_feed_append (decimal writable) _ (no_feed_decimal writable l) (by_test (codes " writable: # writable, + reached, . apart") refl))))))

picture_clear : (rows a : ℕ) (marks : List ℕ) → a + 64 * rows < 2 ^ 64 → All NoFeed (picture_rows rows a marks)
picture_clear zero a marks small = All-nil NoFeed
picture_clear (suc rows) a marks small =
    All-cons NoFeed _ _
    (no_feed_append (codes "; ") _ (by_test (codes "; ") refl) (
    no_feed_append (margin a) _ (margin_clear a) (
    no_feed_append (decimal a) _ (no_feed_decimal a (omega arith)) (
    no_feed_append (codes " ") _ (by_test (codes " ") refl) (signs_clear (take 64 marks))))))
    (picture_clear rows (a + 64) (drop 64 marks) (omega arith))

leads_clear : (a n : ℕ) (charts : List (List ℕ)) → n + length charts ≤ 16 → NoFeed (leads_text a n charts)
leads_clear a n [] few = tt
leads_clear a n (chart ∷ charts) few =
    let more = leads_clear a (n + 1) charts (omega arith) in
    cond_both (eqb (get_or chart a 0) 0) (leads_text a (n + 1) charts) ((codes " " ++ register_text n) ++ leads_text a (n + 1) charts) NoFeed
    (λ e. more) (λ e. no_feed_append (codes " " ++ register_text n) _ (refl, register_clear n (omega arith)) more)

comment_clear : (a m : ℕ) (charts : List (List ℕ)) → a < 2 ^ 64 → length charts ≤ 16 →
    NoFeed (codes "; " ++ (decimal a ++ (codes " " ++ (mark_name m ++ leads_text a 0 charts))))
comment_clear a m charts small few =
    no_feed_append (codes "; ") _ (by_test (codes "; ") refl) (
    no_feed_append (decimal a) _ (no_feed_decimal a small) (
    no_feed_append (codes " ") _ (by_test (codes " ") refl) (
    no_feed_append (mark_name m) _ (name_clear m) (leads_clear a 0 charts (omega arith)))))

cells_clear : (a : ℕ) (cells : List Word) (marks : List ℕ) (charts : List (List ℕ)) → a + length cells < 2 ^ 64 → AllExist cells →
    length charts ≤ 16 → All NoFeed (cell_lines a cells marks charts)
cells_clear a [] marks charts small exist few = All-nil NoFeed
cells_clear a (w ∷ ws) marks charts small exist few =
    All-cons NoFeed _ _
    (no_feed_append (cell_text w) _ (no_feed_cell w exist.0) (
    no_feed_append (padding (length (cell_text w))) _ (refl, spaces_clear (23 - length (cell_text w)))
    (comment_clear a (get_or marks a 0) charts (omega arith) few)))
    (cells_clear (a + 1) ws marks charts (omega arith) exist.1 few)

listing_clear : (budget : ℕ) (hand cells : List Word) (marks : List ℕ) (charts : List (List ℕ)) → PartsOfSheet budget hand cells →
    length marks ≤ 2048 → length charts ≤ 16 → All NoFeed (listing_lines budget hand cells marks charts)
listing_clear budget hand cells marks charts parts short few =
    let first = count_small 1 marks in
    let second = count_small 2 marks in
    let rows : ℕ = (length cells + 63) / 64 in
    All-cons NoFeed _ _ (budget_clear budget parts.small) (
    All-append NoFeed (hand_lines 0 hand) _ (hand_clear 0 hand (omega arith) parts.hand_exists) (
    All-cons NoFeed _ _ (reach_clear (count_from 1 marks) (length cells) (count_from 2 marks) (omega arith) (omega arith) (omega arith)) (
    All-append NoFeed (picture_rows rows 0 marks) _ (picture_clear rows 0 marks (omega arith))
    (cells_clear 0 cells marks charts (omega arith) parts.cells_exist few))))

-- What a line without a label adds is what its statement says.
plain_line : (ls : List (List ℕ)) (d : Draft) (n : ℕ) (line : List ℕ) → colon_ends (front (skipped line)) ≡ false →
    line_added ls d n line ≡ parsed_added d (statement_at ls line) (length (skipped line))
plain_line ls d n line h =
    let body : Bool → List ℕ = λ b. cond b (behind (skipped line)) line in
    ap (λ (b : Bool).
    labelled ls (cond b (Some (without_colon (front (skipped line)))) None) n line
    (parsed_added d (statement_at ls (body b)) (length (skipped (body b))))) h

abbrev draft : Option ℕ → List Word → List Bool → List Word → Draft
draft s h g cs = record { steps = s; hand = h; given = g; cells = cs }

zero_is : (w : Word) → is_zero w ≡ true → w ≡ zero_word
zero_is (integer (pos n)) e = let z : n ≡ 0 = omega (arith, leb-true n 0 e) in ap (λ k. integer (pos k)) z
zero_is (integer (negsuc n)) e = absurd (cc)
zero_is (capability c) e = absurd (cc)

-- The blanks before a comment, and the comment.
spaces_skipped : (n : ℕ) (text : List ℕ) → skipped (replicate n 32 ++ (59 ∷ text)) ≡ 59 ∷ text
spaces_skipped zero text = refl
spaces_skipped (suc n) text = spaces_skipped n text

-- The statement at a line by its first word.
abbrev by_word : List (List ℕ) → List ℕ → Bool → Bool → Bool → Option ℕ → Parsed Statement
by_word ls rest empty is_budget is_at number =
    cond empty (got nothing rest)
    (cond is_budget (budget_said ls (behind rest)) (cond is_at (at_line (behind rest)) (register_or_cell ls number rest)))

begins_cell : (ls : List (List ℕ)) (line : List ℕ) → Begins line →
    statement_at ls line ≡ then (word_at ls line) (λ w rest. ended (cell_stated w) rest)
begins_cell ls line b =
    ap (λ (rest : List ℕ).
    by_word ls rest (eqb (length (front rest)) 0) (bytes_eq (codes "budget") (front rest)) (bytes_eq (codes "at") (front rest)) (register_in (front rest)))
    b.starts
    ∙ ap (λ (t : Bool). by_word ls line t (bytes_eq (codes "budget") (front line)) (bytes_eq (codes "at") (front line)) (register_in (front line))) b.some
    ∙ ap (λ (t : Bool). by_word ls line false t (bytes_eq (codes "at") (front line)) (register_in (front line))) b.no_budget
    ∙ ap (λ (t : Bool). by_word ls line false false t (register_in (front line))) b.no_at
    ∙ ap (λ (o : Option ℕ). by_word ls line false false false o) b.no_register

module _ (ls : List (List ℕ)) where
  budget_adds : (h : List Word) (g : List Bool) (cs : List Word) (n budget : ℕ) → budget < 2 ^ 32 →
      line_added ls (draft None h g cs) n (budget_line budget) ≡ added (draft (Some budget) h g cs)
  budget_adds h g cs n budget small =
      let d : Draft = draft None h g cs in
      let left : ℕ = length (budget_line budget) in
      let read = steps_read ls budget [] small tt in
      ap (λ (bytes : List ℕ). parsed_added d (budget_said ls (32 ∷ bytes)) left) (sym (append-nil (decimal budget)))
      ∙ ap (λ (p : Parsed ℕ). parsed_added d (then p (λ steps rest. ended (budget_stated steps) rest)) left) read

  register_adds : (s : Option ℕ) (h : List Word) (g : List Bool) (cs : List Word) (n number : ℕ) (w : Word) → n < 16 → Exists w → get_or g n false ≡ false →
      line_added ls (draft s h g cs) number (register_text n ++ (codes " " ++ word_text w)) ≡ added (draft s (set h n w) (set g n true) cs)
  register_adds s h g cs n number w small exists not_given =
      let d : Draft = draft s h g cs in
      let tail : List ℕ = 32 ∷ word_text w in
      let line : List ℕ = register_text n ++ tail in
      let left : ℕ = length line in
      let begins = register_begins n tail small refl in
      let unlabelled : colon_ends (front line) ≡ false = ap colon_ends begins.1 ∙ begins.4 in
      let number_is : register_in (front line) ≡ Some n = ap register_in begins.1 ∙ begins.3 in
      let read : word_at ls (word_text w) ≡ got w [] = ap (word_at ls) (sym (append-nil (word_text w))) ∙ word_reads ls w [] exists tt in
      let some : eqb (length (front line)) 0 ≡ false = ne_eqb (length (front line)) 0 (λ e. omega arith) in
      plain_line ls d number line unlabelled
      ∙ ap (λ (t : Bool). parsed_added d (by_word ls line t false false (register_in (front line))) left) some
      ∙ ap (λ (o : Option ℕ). parsed_added d (register_or_cell ls o line) left) number_is
      ∙ ap (λ (rest : List ℕ). parsed_added d (then (word_at ls rest) (λ v more. ended (register_stated n v) more)) left) begins.2
      ∙ ap (λ (p : Parsed Word). parsed_added d (then p (λ v more. ended (register_stated n v) more)) left) read
      ∙ ap (λ (t : Bool). cond t (wrong OneWord left) (added (draft s (set h n w) (set g n true) cs))) not_given

  cell_adds : (s : Option ℕ) (h : List Word) (g : List Bool) (cs : List Word) (n : ℕ) (w : Word) (a m : ℕ) (charts : List (List ℕ)) → Exists w →
      length cs < 2048 → line_added ls (draft s h g cs) n (cell_line w a m charts) ≡ added (draft s h g (cs ++ (w ∷ [])))
  cell_adds s h g cs n w a m charts exists room =
      let d : Draft = draft s h g cs in
      let text : List ℕ = 32 ∷ (decimal a ++ (codes " " ++ (mark_name m ++ leads_text a 0 charts))) in
      let spaces : ℕ = 23 - length (cell_text w) in
      let tail : List ℕ = 32 ∷ (replicate spaces 32 ++ (59 ∷ text)) in
      let line : List ℕ = cell_text w ++ tail in
      let left : ℕ = length (skipped line) in
      let begins = cell_begins w tail exists refl in
      let unlabelled : colon_ends (front (skipped line)) ≡ false = ap (λ (rest : List ℕ). colon_ends (front rest)) begins.starts ∙ begins.no_label in
      plain_line ls d n line unlabelled
      ∙ ap (λ (p : Parsed Statement). parsed_added d p left) (begins_cell ls line begins)
      ∙ ap (λ (p : Parsed Word). parsed_added d (then p (λ v rest. ended (cell_stated v) rest)) left) (cell_reads ls w tail exists refl)
      ∙ ap (λ (rest : List ℕ). parsed_added d (cond (eqb (length (front rest)) 0) (got (cell_stated w) rest) (missed End (length rest))) left)
      (spaces_skipped spaces text)
      ∙ ap (λ (t : Bool). cond t (added (draft s h g (cs ++ (w ∷ [])))) (wrong Room left)) (lt-ltb (length cs) 2048 room)

  -- The lines take one draft to another, wherever they stand among the lines.
  record Leads (d : Draft) (some : List (List ℕ)) (d' : Draft) : Type 0 where
    on : (n : ℕ) (rest : List (List ℕ)) → (m : ℕ) × (from_line ls d n (some ++ rest) ≡ from_line ls d' m rest)

  leads_none : {d : Draft} → Leads d [] d
  leads_none = record { on = λ n rest. (n, refl) }

  leads_more : {d d' d'' : Draft} {line : List ℕ} {some : List (List ℕ)} → ((n : ℕ) → line_added ls d n line ≡ added d') → Leads d' some d'' →
      Leads d (line ∷ some) d''
  leads_more {d} {d'} {d''} {line} {some} h k = record {
    on = λ n rest.
        let next = k.on (n + 1) rest in
        let step : from_line ls d n (line ∷ (some ++ rest)) ≡ from_line ls d' (n + 1) (some ++ rest) = rw (h n, from_line) in
        (next.0, step ∙ next.1);
  }

  leads_append : {d d' d'' : Draft} {some more : List (List ℕ)} → Leads d some d' → Leads d' more d'' → Leads d (some ++ more) d''
  leads_append {d} {d'} {d''} {some} {more} h k = record {
    on = λ n rest.
        let first = h.on n (more ++ rest) in
        let second = k.on first.0 rest in
        (second.0, ap (from_line ls d n) (append_assoc some more rest) ∙ first.1 ∙ second.1);
  }

  picture_leads : (d : Draft) (rows a : ℕ) (marks : List ℕ) → Leads d (picture_rows rows a marks) d
  picture_leads d zero a marks = leads_none
  picture_leads d (suc rows) a marks = leads_more (λ n. refl) (picture_leads d rows (a + 64) (drop 64 marks))

  cells_lead : (s : Option ℕ) (h : List Word) (g : List Bool) (cs : List Word) (a : ℕ) (ws : List Word) (marks : List ℕ) (charts : List (List ℕ)) →
      length cs + length ws ≤ 2048 → AllExist ws → Leads (draft s h g cs) (cell_lines a ws marks charts) (draft s h g (cs ++ ws))
  cells_lead s h g cs a [] marks charts room exist = subst (λ row. Leads (draft s h g cs) [] (draft s h g row)) (sym (append-nil cs)) leads_none
  cells_lead s h g cs a (w ∷ ws) marks charts room exist =
      leads_more
      (λ n. cell_adds s h g cs n w a (get_or marks a 0) charts exist.0 (omega arith))
      (subst (λ row. Leads (draft s h g (cs ++ (w ∷ []))) (cell_lines (a + 1) ws marks charts) (draft s h g row)) (append_assoc cs (w ∷ []) ws)
      (cells_lead s h g (cs ++ (w ∷ [])) (a + 1) ws marks charts (omega (arith, length_push cs w)) exist.1))

  -- From register n on, where the words before it stand in the hand and the rest is 0 and not yet given.
  hand_leads : (s : Option ℕ) (done : List Word) (gs : List Bool) (h : List Word) (g : List Bool) (cs : List Word) (n : ℕ) (ws : List Word) →
      length done ≡ n → length gs ≡ n → n + length ws ≤ 16 → AllExist ws → h ≡ done ++ replicate (length ws) zero_word →
      g ≡ gs ++ replicate (length ws) false → (g' : List Bool) × Leads (draft s h g cs) (hand_lines n ws) (draft s (done ++ ws) g' cs)
  hand_leads s done gs h g cs n [] here there few exist hand_is given_is =
      (g, subst (λ row. Leads (draft s h g cs) [] (draft s row g cs)) hand_is leads_none)
  hand_leads s done gs h g cs n (w ∷ ws) here there few exist hand_is given_is =
      let zeros : List Word = replicate (length ws) zero_word in
      let flags : List Bool = replicate (length ws) false in
      let line : List ℕ = register_text n ++ (codes " " ++ word_text w) in
      let rest : List (List ℕ) = hand_lines (n + 1) ws in
      let done' : List Word = done ++ (w ∷ []) in
      let long : length done' ≡ n + 1 = omega (arith, length_push done w) in
      let regroup : done' ++ ws ≡ done ++ (w ∷ ws) = append_assoc done (w ∷ []) ws in
      cond_both (is_zero w) rest (line ∷ rest)
      (λ some. (g' : List Bool) × Leads (draft s h g cs) some (draft s (done ++ (w ∷ ws)) g' cs))
      (λ e.
      let next = hand_leads s done' (gs ++ (false ∷ [])) h g cs (n + 1) ws long (omega (arith, length_push gs false)) (omega arith) exist.1
      (hand_is ∙ ap (λ v. done ++ (v ∷ zeros)) (sym (zero_is w e)) ∙ sym (append_assoc done (w ∷ []) zeros))
      (given_is ∙ sym (append_assoc gs (false ∷ []) flags)) in
      (next.0, subst (λ row. Leads (draft s h g cs) rest (draft s row next.0 cs)) regroup next.1))
      (λ e.
      let h' : List Word = set h n w in
      let g' : List Bool = set g n true in
      let not_given : get_or g n false ≡ false = ap (λ l. get_or l n false) given_is ∙ get_or_at gs false flags false n there in
      let next = hand_leads s done' (gs ++ (true ∷ [])) h' g' cs (n + 1) ws long (omega (arith, length_push gs true)) (omega arith) exist.1
      (ap (λ l. set l n w) hand_is ∙ set_at done zero_word zeros w n here ∙ sym (append_assoc done (w ∷ []) zeros))
      (ap (λ l. set l n true) given_is ∙ set_at gs false flags true n there ∙ sym (append_assoc gs (true ∷ []) flags)) in (
        next.0,
        leads_more (λ number. register_adds s h g cs n number w (omega arith) exist.0 not_given)
            (subst (λ row. Leads (draft s h' g' cs) rest (draft s row next.0 cs)) regroup next.1),
      ))

  listing_leads : (budget : ℕ) (hand cells : List Word) (marks : List ℕ) (charts : List (List ℕ)) → PartsOfSheet budget hand cells →
      (g : List Bool) × Leads empty_draft (listing_lines budget hand cells marks charts) (draft (Some budget) hand g cells)
  listing_leads budget hand cells marks charts parts =
      let none : List Word = replicate 16 zero_word in
      let unset : List Bool = replicate 16 false in
      let hands = hand_leads (Some budget) [] [] none unset [] 0 hand refl refl (omega arith) parts.hand_exists
      (ap (λ n. replicate n zero_word) (sym parts.sixteen)) (ap (λ n. replicate n false) (sym parts.sixteen)) in
      let g : List Bool = hands.0 in
      let picture = picture_leads (draft (Some budget) hand g []) ((length cells + 63) / 64) 0 marks in
      let rows = cells_lead (Some budget) hand g [] 0 cells marks charts (omega arith) parts.cells_exist in (
        g,
        leads_more (λ n. budget_adds none unset [] n budget parts.small)
            (leads_append hands.1 (leads_more (λ n. refl) (leads_append picture rows))),
      )

-- The law, from what is known of words and numbers.
pub reads_back : ReadsBack
reads_back budget hand cells marks charts parts short few =
    let ls : List (List ℕ) = listing_lines budget hand cells marks charts in
    let whole = listing_leads ls budget hand cells marks charts parts in
    ap (λ all. from_line all empty_draft 1 all) (lines_back ls (listing_clear budget hand cells marks charts parts short few))
    ∙ ap (from_line ls empty_draft 1) (sym (append-nil ls))
    ∙ (whole.1.on 1 []).1
