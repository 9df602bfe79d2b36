use Rattle.std.proofs.Common.{◌≡◌, pos, sym, ap, ◌∙◌, rules}
use Rattle.instructions.specs.Forms.{instruction_of}
use Rattle.instructions.specs.Packing.{unpacked}
use Rattle.instructions.proofs.RoundTrip.{exactly}
use Rattle.instructions.proofs.unpacking.unpack.Goals as goal

pub returns : goal.returns
returns c =
    let is : c.args.number ≡ pos c.in_ok-number.number = search rules in
    let e : c.decode.result ≡ unpacked c.args.number = c.decode.ensures ∙ ap instruction_of c.from.ensures ∙ sym (ap unpacked is) in
    record { value = e; exactly = exactly c.args.number c.decode.result e }
