use Rattle.std.proofs.Common.{◌≡◌, ℕ, ◌^◌, ◌<◌, length, List, Some, None, Option, Result, sym, refl, ap, subst, ◌∙◌, arith, rules}
use Rattle.std.specs.Option.{ok_or}
use Rattle.words.specs.declared.word.Word.{Word as Held}
use Rattle.words.specs.declared.refusal.Refusal.{Refusal}
use Rattle.words.specs.declared.refusal.Refusal.TheVariants.{MalformedGroup}
use Rattle.groups.specs.Packing.{packed}
use Rattle.groups.specs.Groups.{group, number_at}
use Rattle.groups.specs.Answers.{Unpacks, Decodes}
use Rattle.groups.proofs.RoundTrip.{fits}
use Rattle.groups.proofs.Bytes.{group_number, number_group}
use Rattle.groups.proofs.group.unpack.Goals as goal

-- The number in the bytes packs a word, or it packs none.
unpacks : (bytes : List ℕ) (n : ℕ) (w : Option Held) → group n ≡ bytes → n < 2 ^ 64 → Decodes n w → Unpacks bytes (ok_or w MalformedGroup)
unpacks bytes n (Some w) back small packs = ap group packs ∙ back
unpacks bytes n None back small packs = (
  refl,
  λ w exists same.
      let numbers = ap (λ bytes. number_at bytes 0) (same ∙ sym back) in
      packs w exists (sym (number_group (packed w) (fits w exists)) ∙ numbers ∙ number_group n small),
)

pub returns-clause-exactly : goal.returns-clause-exactly
returns-clause-exactly c =
    let bytes = c.args.bytes.now in
    let same : c.in_ok-group.group ≡ bytes = search rules in
    let eight : length bytes ≡ 8 = search rules in
    let value : c.from_be_bytes.result ≡ number_at bytes 0 = search rules in
    let back = ap group value ∙ group_number bytes eight (λ i. omega (arith, c.type_inv.bytes i)) in
    let answer : Result Held Refusal → Type 0 = λ r. Unpacks bytes r in
    subst answer (sym c.ok_or.ensures.value) (unpacks bytes c.from_be_bytes.result c.decode.result back c.from_be_bytes.type_inv c.decode.ensures.exactly)
