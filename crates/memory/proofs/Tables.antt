-- What a table's row is like.
use Rattle.std.proofs.Common.{◌≡◌, ℕ, ◌<◌, List, map, length, get_or, take, set, ap, ◌∙◌, arith, length-take}
use lib.Seq.{take-set-lt}
use Rattle.std.proofs.lemmas.List.{get_or-map, get_or-take, map-set}
use Rattle.words.specs.Word.{at, zero_word}
use Rattle.groups.specs.Packing.{plain}
use Rattle.memory.specs.Tables.{table_row, table_length}

module _ (ns : List ℕ) (a : ℕ) (h : a < length (table_row ns)) where
  pub table_at : at (table_row ns) a ≡ plain (get_or ns a 0)
  unfolding table_row
  table_at =
      let s = table_length ns in
      let l = length-take 65536 ns in
      get_or-map plain (take 65536 ns) a 0 zero_word (omega arith) ∙ ap plain (get_or-take 65536 ns a 0 (omega arith))

  pub table_set : (n : ℕ) → table_row (set ns a n) ≡ set (table_row ns) a (plain n)
  unfolding table_row
  table_set n = let s = table_length ns in ap (map plain) (take-set-lt 65536 ns a n (omega arith)) ∙ map-set plain (take 65536 ns) a n
