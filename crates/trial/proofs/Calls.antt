-- What the calls of a trial do, one after the other.
use Rattle.std.proofs.Common.{◌*◌, ◌++◌, take, drop, sym, ap, length-append, length-drop, pos, ◌≡◌, ℕ, ◌+◌, ◌<◌, ◌≤◌, List, length, Ok, Err, Result, IsOk, rules, refl, ◌∙◌, add-one, arith, length-set}
use Rattle.std.specs.Result.{result_unwrap_or}
use Rattle.std.proofs.lemmas.List.{drop-drop, drop_at, take_at}
use Rattle.words.specs.declared.refusal.Refusal.{Refusal}
use Rattle.survey.specs.declared.surveying.Counts.{Counts}
use Rattle.words.specs.declared.word.Word.{Word as Held}
use Rattle.words.specs.declared.word.Word.TheVariants.{Int}
use Rattle.words.specs.Meaning.{meaning}
use Rattle.groups.specs.Groups.{group_word, group_at}
use Rattle.groups.specs.Answers.{unpacking, unpacking_of}
use Rattle.memory.specs.Packs.{plain_group}
use Rattle.memory.proofs.Packs.{means}
use Rattle.words.specs.Word.{Word, at}
use Rattle.model.specs.Bench.{Answer, State, placing, survey, refused, idle, cells_of, Does, places, places_no_cell, surveys_short, History, Leads, next}
use Rattle.bench.specs.Answers.{done_answer, survey_answer}
use Rattle.trial.specs.Trials.{placings}

-- A refusal tells where the address lies, or how long the chart is.
refused_beyond : {cells : List Word} {a n : ℕ} {w : Word} {after : State} → Does (idle cells) (placing a w) (refused n) after → length cells ≤ a
refused_beyond (places_no_cell h) = h

refused_short : {cells hand : List Word} {chart : List ℕ} {n : ℕ} {after : State} → Does (idle cells) (survey hand chart) (refused n) after → length chart < length cells
refused_short (surveys_short h) = h

-- A survey on a chart that is long enough counts.
pub counted : {cells hand : List Word} {chart : List ℕ} {after : State} (left : List ℕ) (r : Result Counts Refusal) → length cells ≤ length chart →
    Does (idle cells) (survey hand chart) (survey_answer r left) after → IsOk r
counted left (Ok counts) long does = search rules
counted left (Err e) long does = absurd (omega (arith, refused_short does))

keeps_size : {cells : List Word} {a : ℕ} {w : Word} {answer : Answer} {after : State} → Does (idle cells) (placing a w) answer after → length (cells_of after) ≡ length cells
keeps_size (places h) = length-set _ _ _
keeps_size (places_no_cell h) = refl

-- How far the placing of words has come.
pub record Placed (words cells cells' : List Word) (n : ℕ) : Type 0 where
  pub leads : (size : ℕ) (history : History) → Leads size history (idle cells) → Leads size (placings words n history) (idle cells')
  pub size : length cells' ≡ length cells

pub placed_more : (words cells cells' cells'' : List Word) (n : ℕ) (r : Result (Unit {0}) Refusal) → Placed words cells cells' n → n < length cells →
    Does (idle cells') (placing n (at words n)) (done_answer r) (idle cells'') → Placed words cells cells'' (n + 1)
placed_more words cells cells' cells'' n (Ok u) p h does =
    record {
      leads = λ size history l. rw add-one (next (p.leads size history l) does);
      size = keeps_size does ∙ p.size;
    }
placed_more words cells cells' cells'' n (Err e) p h does = absurd (omega (arith, refused_beyond does, p.size))

-- How far the cutting of the groups has come: n of them are taken off, and the rest is left.
pub record Cut (bytes rest : List ℕ) (size count n : ℕ) : Type 0 where
  pub eight : size ≡ 8
  pub counted : count ≡ n
  pub left : rest ≡ drop (8 * n) bytes

-- The next one is the group of its number.
pub record Next (bytes group : List ℕ) (n : ℕ) : Type 0 where
  pub there : 8 * n + 8 ≤ length bytes
  pub is_group : group ≡ group_at bytes (8 * n)

pub next_group : (bytes rest group rest' : List ℕ) (size count n : ℕ) → Cut bytes rest size count n → rest ≡ group ++ rest' → length group ≡ size → Next bytes group n
next_group bytes rest group rest' size count n cut parts full =
    let split : drop (8 * n) bytes ≡ group ++ rest' = sym cut.left ∙ parts in
    record {
      there = omega (arith, cut.eight, full, ap length split, length-drop (8 * n) bytes, length-append group rest');
      is_group = sym (take_at group rest' 8 (full ∙ cut.eight)) ∙ ap (take 8) (sym split);
    }

pub cut_more : (bytes rest group rest' : List ℕ) (size size' count count' n : ℕ) → Cut bytes rest size count n → rest ≡ group ++ rest' → length group ≡ size → size' ≡ size →
    count' ≡ count + 1 → Cut bytes rest' size' count' (n + 1)
cut_more bytes rest group rest' size size' count count' n cut parts full same more =
    let split : drop (8 * n) bytes ≡ group ++ rest' = sym cut.left ∙ parts in
    let on : 8 * n + 8 ≡ 8 * (n + 1) = omega arith in
    record {
      eight = same ∙ cut.eight;
      counted = omega (arith, more, cut.counted);
      left = sym (drop_at group rest' 8 (full ∙ cut.eight)) ∙ ap (drop 8) (sym split) ∙ drop-drop 8 (8 * n) bytes ∙ ap (λ (k : ℕ). drop k bytes) on;
    }

-- A group that packs no word means integer 0.
pub plain_word : (r : Result Held Refusal) (bytes : List ℕ) → unpacking r ≡ unpacking_of bytes → meaning (result_unwrap_or r (Int (pos 0))) ≡ plain_group bytes
unfolding plain_group
plain_word r bytes e = means (group_word bytes) r e
