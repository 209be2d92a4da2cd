use Rattle.std.proofs.Common.{◌≡◌, ◌+◌, ◌≤◌, take}
use Rattle.std.specs.List.{count_by}
use Rattle.proto.specs.Words.{is_space}
use Rattle.proto.proofs.keys.Keys.from_words.Given as goal

-- one more than the spaces so far
abbrev pub invariant-loop-byte : goal.invariant-loop-byte
invariant-loop-byte l = record {
  within : l.count ≤ l.byte-index + 1;
  counted : l.count ≡ count_by is_space (take l.byte-index l.line) + 1;
}
