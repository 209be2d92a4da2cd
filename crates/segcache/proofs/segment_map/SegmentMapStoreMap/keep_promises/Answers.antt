use Rattle.std.proofs.Common.{◌∙◌}
use Rattle.engine.proofs.EngineLemmas.{step_from_handled}
use Rattle.segcache.proofs.HandledRequests.{members, handles_segments}
use Rattle.segcache.proofs.StayingFilled.{stays_filled}
use Rattle.segcache.proofs.KeptDeadlines.{keeps_deadlines}
use Rattle.segcache.proofs.segment_map.SegmentMapStoreMap.keep_promises.Goals as goal

pub returns-clause-promised : goal.returns-clause-promised
returns-clause-promised c old t q reply new h =
    let step = step_from_handled members old t q reply new h in
    let moment = h.leaves.moment_same ∙ h.moment_is in
    let segments = handles_segments old t q reply new h in
    record {
      segments = segments;
      bounded = stays_filled old t q reply new step moment segments;
    }

pub returns-clause-deadlines : goal.returns-clause-deadlines
returns-clause-deadlines c old t q reply new h =
    let moment = h.leaves.moment_same ∙ h.moment_is in
    keeps_deadlines old t q reply new moment (handles_segments old t q reply new h)
