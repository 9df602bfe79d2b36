-- A loop that fills a row.
use Rattle.std.proofs.Common.{◌≡◌, ℕ, ◌+◌, ◌<◌, ◌≤◌, List, [], ◌∷◌, ◌++◌, length, get_or, drop, set, replicate, sym, ap, ◌∙◌}
use lib.ListN.{length-replicate}
use Rattle.std.proofs.lemmas.List.{drop_more, drop_all, set_at, append_assoc, append-nil, replicate_more}

module _ {X : Type 0} (d : List X) (i : ℕ) (y : X) where
  pub fill_more : i < length d → set (replicate i y ++ drop i d) i y ≡ replicate (i + 1) y ++ drop (i + 1) d
  fill_more h =
      ap (λ r. set (replicate i y ++ r) i y) (drop_more d i y h)
      ∙ set_at (replicate i y) (get_or d i y) (drop (i + 1) d) y i (length-replicate i y)
      ∙ sym (append_assoc (replicate i y) (y ∷ []) (drop (i + 1) d))
      ∙ ap (λ r. r ++ drop (i + 1) d) (replicate_more i y)

  pub fill_all : length d ≤ i → replicate i y ++ drop i d ≡ replicate i y
  fill_all h = ap (λ r. replicate i y ++ r) (drop_all i d h) ∙ append-nil (replicate i y)
