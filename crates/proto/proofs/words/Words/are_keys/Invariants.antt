use Rattle.std.proofs.Common.{◌≡◌, ◌≤◌, length}
use Rattle.proto.proofs.KeyWords.{goes_on}
use Rattle.proto.proofs.words.Words.are_keys.Given as goal

-- the bytes so far are keys, and the first bytes of one
abbrev pub invariant-loop-byte : goal.invariant-loop-byte
invariant-loop-byte l = record {
  same : goes_on l.length l.rest ≡ goes_on 0 l.initial.rest;
  within : l.length ≤ 250;
}

abbrev pub decreases-loop-byte : goal.decreases-loop-byte
decreases-loop-byte l = length l.rest
