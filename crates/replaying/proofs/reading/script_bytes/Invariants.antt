use Rattle.std.proofs.Common.{◌≡◌}
use Rattle.std.specs.Io.KnownBytes.{Consumes}
use Rattle.replaying.proofs.reading.script_bytes.Given as goal

-- what was read so far stands in both, and is what the reader told of first
abbrev pub invariant-loop : goal.invariant-loop
invariant-loop g l = record {
  same : l.bytes.items ≡ l.text.items;
  read : Consumes (g.R.Read.remaining l.fn.script) (g.R.Read.remaining l.script) l.text.items;
}
