use Rattle.std.proofs.Common.{◌≡◌, ◌<◌, ◌^◌, drop}
use Rattle.std.specs.Str.{all_ascii_digits}
use Rattle.std.specs.Str.Parse.{digits_value, digits_value_after}
use Rattle.engine.proofs.number.number_of.Given as goal

abbrev pub invariant-loop-byte : goal.invariant-loop-byte
invariant-loop-byte l = record {
  fits : l.n < 2 ^ 64;
  digits : all_ascii_digits (drop l.byte-index l.value) ≡ all_ascii_digits l.value;
  number : digits_value_after 10 l.n (drop l.byte-index l.value) ≡ digits_value 10 l.value;
}
