use Rattle.std.proofs.Common.{◌∷◌, take}
use Rattle.segments.specs.Hits.{IsFewest}
use Rattle.segments.proofs.segment_hits.SegmentHits.fewest.Given as goal

abbrev pub invariant-loop-number : goal.invariant-loop-number
invariant-loop-number l = IsFewest l.self (l.initial.found ∷ take l.number-index l.others) l.found
