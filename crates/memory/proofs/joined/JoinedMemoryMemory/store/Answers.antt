use Rattle.std.proofs.Common.{◌++◌, sym, refl, ap, arith}
use Rattle.std.proofs.lemmas.List.{set_past}
use Rattle.words.specs.Meaning.{meaning}
use Rattle.memory.proofs.Answering.{store_refused}
use Rattle.memory.proofs.Joins.{joined_length, store_first, store_second, row_first, row_second, beyond_first, beyond_second, second_kept, second_set, second_cut}
use Rattle.memory.proofs.joined.JoinedMemoryMemory.store.Goals as goal

pub returns-then-address-seam : goal.returns-then-address-seam
returns-then-address-seam g c =
    let m = c.args.self.now in
    let F = g.F.Memory in
    let S = g.S.Memory in
    let xs = F.row m.first in
    let ys = S.row m.second in
    let w = meaning c.args.word in
    let a = c.args.address in
    let done = c.store.ensures in
    record {
      answer = store_first xs ys a (omega arith) (omega arith) _ done.answer;
      after = row_first xs ys a (omega arith) (omega arith) w _ done.after;
      rest = beyond_first xs ys a (omega arith) (omega arith) w _ done.after _ (S.beyond m.second) _ done.rest;
      lent = ap (λ l. l ++ S.lent m.second) done.lent;
      first = done.after;
      second = second_kept xs ys a (omega arith) (omega arith) w;
    }

pub returns-then-address-ge-CELLS : goal.returns-then-address-ge-CELLS
returns-then-address-ge-CELLS g c =
    let m = c.args.self.now in
    let xs = g.F.Memory.row m.first in
    let ys = g.S.Memory.row m.second in
    let length = joined_length xs ys in
    record {
      answer = store_refused _ _ (omega arith);
      after = sym (set_past _ _ _ (omega arith));
      rest = refl;
      lent = refl;
      first = sym (set_past xs c.args.address _ (omega arith));
      second = second_cut xs ys c.args.address (meaning c.args.word) (omega arith);
    }

pub returns : goal.returns
returns g c =
    let m = c.args.self.now in
    let F = g.F.Memory in
    let S = g.S.Memory in
    let xs = F.row m.first in
    let ys = S.row m.second in
    let w = meaning c.args.word in
    let a = c.args.address in
    let done = c.store-2.ensures in
    let seam = c.size-seam.ensures.value in
    record {
      answer = store_second xs ys a (omega arith) _ seam (omega arith) _ done.answer;
      after = row_second xs ys a (omega arith) _ seam (omega arith) w _ done.after;
      rest = beyond_second xs ys a (omega arith) _ seam (omega arith) w _ done.after (F.beyond m.first) _ _ done.rest;
      lent = ap (λ l. F.lent m.first ++ l) done.lent;
      first = sym (set_past xs a w (omega arith));
      second = second_set xs ys a (omega arith) _ seam (omega arith) w _ done.after;
    }
