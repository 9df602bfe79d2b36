use Rattle.std.proofs.Common.{◌≡◌, ◌+◌, ◌*◌, ◌/◌, ◌≤◌, min, length, drop, refl, ap, ◌∙◌, arith}
use Rattle.words.specs.Meaning.{meaning}
use Rattle.memory.specs.Packs.{packed_row, packed_size, packed_length, word_group, with_group}
use Rattle.memory.proofs.Answering.{store_given, below, from_on}
use Rattle.memory.proofs.Packs.{packed_set, same_length, drop_above, group_length}
use Rattle.memory.proofs.packed.PackedMemoryMemory.store.Goals as goal

pub returns-then-address-size-clause-bytes : goal.returns-then-address-size-clause-bytes
returns-then-address-size-clause-bytes c =
    let bs = c.args.self.now.bytes.now in
    let size = packed_length bs in
    from_on c.args.address (packed_size bs) _ bs (omega arith)

pub write_group-requires : goal.write_group-requires
write_group-requires c = omega (arith, packed_length c.args.self.now.bytes.now)

pub returns : goal.returns
returns c =
    let bs = c.args.self.now.bytes.now in
    let a = c.args.address in
    let w = meaning c.args.word in
    let gs = word_group w in
    let size = packed_length bs in
    let fits : 8 * a + 8 ≤ length bs = omega arith in
    let put = c.write_group.ensures.bytes in
    let same : packed_size (with_group bs a w) ≡ packed_size bs = ap (λ n. min 65536 (n / 8)) (same_length bs gs (8 * a) (group_length w) fits) in
    record {
      answer = store_given _ _ (omega arith);
      after = ap packed_row put ∙ packed_set bs gs a (group_length w) (omega arith) w c.write_group.ensures.back;
      rest = ap (λ l. drop (8 * packed_size l) l) put
          ∙ ap (λ n. drop (8 * n) (with_group bs a w)) same
          ∙ drop_above bs gs (8 * a) (group_length w) fits (8 * packed_size bs) (omega arith);
      lent = refl;
      bytes = put ∙ below a (packed_size bs) _ bs (omega arith);
    }
