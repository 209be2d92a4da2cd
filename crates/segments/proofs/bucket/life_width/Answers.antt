use Rattle.std.proofs.Common.{ap, ◌∙◌}
use Rattle.proto.specs.Buckets.{width_of}
use Rattle.proto.proofs.DeadlineLemmas.{lies_in_bucket}
use Rattle.segments.proofs.bucket.life_width.Goals as goal

pub returns : goal.returns
returns c =
    c.width.ensures.value ∙ ap width_of c.bucket_of.ensures.value ∙ (lies_in_bucket c.args.life).width_is
