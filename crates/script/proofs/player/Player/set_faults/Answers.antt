use Rattle.std.proofs.Common.{nat_lt}
use Rattle.script.specs.Players.{parts_of}
use Rattle.script.proofs.EventLemmas.{true_lt}
use Rattle.script.proofs.FollowLemmas.{or_first, or_second}
use Rattle.script.proofs.StepLemmas.{faults_consistent}
use Rattle.script.proofs.player.Player.set_faults.Goals as goal

pub invariant_of-self : goal.invariant_of-self
invariant_of-self c =
    let p = parts_of c.self.inside in
    faults_consistent p c.args.accept c.args.fail_give _ c.self.invariant
    (or_first p.can_fail (nat_lt 0 c.args.fail_give))
    (λ some. or_second p.can_fail (nat_lt 0 c.args.fail_give) (true_lt 0 c.args.fail_give some))
