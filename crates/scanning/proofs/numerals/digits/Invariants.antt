use Rattle.std.proofs.Common.{◌≡◌, ◌^◌, ◌<◌, drop}
use Rattle.std.specs.Str.{all_ascii_digits}
use Rattle.notation.specs.Numerals.{digits_after, kept}
use Rattle.scanning.proofs.numerals.digits.Given as goal

-- What is left of the digits goes on from the number so far.
abbrev pub invariant-loop-byte : goal.invariant-loop-byte
invariant-loop-byte l =
    let left = drop l.byte-index l.word in
    record {
      goes_on : kept (all_ascii_digits l.word) (digits_after 0 l.word) ≡ kept (all_ascii_digits left) (digits_after l.number left);
      small : l.number < 10 ^ l.byte-index;
    }
