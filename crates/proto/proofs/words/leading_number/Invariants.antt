use Rattle.std.proofs.Common.{◌≡◌, ◌+◌, length}
use Rattle.std.specs.Char.{is_ascii_digit}
use Rattle.std.specs.List.{prefix_len, take_while}
use Rattle.std.specs.Str.Parse.{digits_value, digits_value_after}
use Rattle.proto.proofs.words.leading_number.Given as goal

-- the digits so far are counted and write n
abbrev pub invariant-loop-byte : goal.invariant-loop-byte
invariant-loop-byte l = record {
  value : digits_value_after 10 l.n (take_while is_ascii_digit l.rest)
      ≡ digits_value 10 (take_while is_ascii_digit l.bytes);
  counted : l.length + prefix_len is_ascii_digit l.rest ≡ prefix_len is_ascii_digit l.bytes;
  within : l.length + length l.rest ≡ length l.bytes;
}

abbrev pub decreases-loop-byte : goal.decreases-loop-byte
decreases-loop-byte l = length l.rest
