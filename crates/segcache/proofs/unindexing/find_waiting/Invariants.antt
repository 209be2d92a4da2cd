use Rattle.std.proofs.Common.{◌≡◌, length}
use Rattle.std.specs.List.{list_any}
use Rattle.segments.specs.Items.{item_deadline}
use Rattle.segments.specs.Pools.{deadline_in, segment_at, has_live}
use Rattle.segcache.specs.LiveItems.{live_marks}
use Rattle.segcache.proofs.unindexing.find_waiting.Given as goal

abbrev pub invariant-loop-place : goal.invariant-loop-place
invariant-loop-place l = record {
  left : list_any
      (λ s. live_marks l.marks l.moment s.place s.item (item_deadline s.item (deadline_in (segment_at l.pool l.segment))))
      l.walk.left
      ≡ has_live (live_marks l.marks l.moment) l.pool l.segment;
  deadline : l.walk.deadline ≡ deadline_in (segment_at l.pool l.segment);
}

abbrev pub decreases-loop-place : goal.decreases-loop-place
decreases-loop-place l = length l.walk.left
