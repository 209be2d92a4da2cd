use Rattle.std.proofs.Common.{◌≡◌, drop, vec_len}
use Rattle.segments.specs.Inside.{shown_segments}
use Rattle.segments.specs.Pools.{bucket_count}
use Rattle.segments.specs.LeastReadRule.{AreRests}
use Rattle.segments.proofs.MateLemmas.{IsFirstMate}
use Rattle.segments.proofs.rules.least_read.find_mates.Given as goal

abbrev pub invariant-loop-place : goal.invariant-loop-place
invariant-loop-place l = record {
  count : vec_len l.rests ≡ bucket_count;
  rests : AreRests (shown_segments l.segments) (drop l.place l.order) l.rests.items;
  found : IsFirstMate (shown_segments l.segments) l.order l.place l.looked l.found;
}
