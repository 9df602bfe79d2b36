use Rattle.std.proofs.Common.{◌&&◌, ◌∙◌, refl, rules, tests}
use Rattle.std.specs.List.{list_all}
use Rattle.std.proofs.lemmas.Iterator.{YieldsList-from_slice}
use Rattle.std.proofs.lemmas.Iterator.Search.{all_from_yields_List}
use Rattle.std.proofs.lemmas.List.Recursion.{same_from_clauses}
use Rattle.notation.specs.Labels.{name_byte, name_bytes}
use Rattle.scanning.proofs.names.has_name_bytes.Goals as goal

pub returns : goal.returns
returns c =
    all_from_yields_List name_byte _ _ _ c.all.ensures.ran (YieldsList-from_slice c.args.word.now cc) (λ x b q k. search (rules, tests))
    ∙ same_from_clauses (list_all name_byte) name_bytes (λ x all. name_byte x && all) refl (λ _ _. refl) (λ _ _. refl) c.args.word.now
