use Rattle.std.proofs.Common.{◌≡◌, [], refl, sym, ap, ◌∙◌, false, ℕ}
use Rattle.script.specs.PortEvents.{plays_from}
use Rattle.script.specs.Remaining.{RemainingState, in_order}
use Rattle.script.specs.Players.{events_left, is_left}
use Rattle.script.proofs.PlayerLemmas.{filter_all, no_sessions}
use Rattle.script.proofs.player.Player.new.Goals as goal

pub invariant_of-result : goal.invariant_of-result
invariant_of-result c =
    let script_is = ap (λ v. v.items) c.of-script.ensures in
    no_sessions _ c.new-2.ensures c.new-3.ensures refl refl
    (λ tells. ap (plays_from 0 (λ (t : ℕ). false)) (ap in_order c.new.ensures ∙ sym script_is) ∙ tells)
    (ap in_order c.new.ensures ∙ sym script_is) (ap (λ (r : RemainingState). r.aside) c.new.ensures)

pub returns : goal.returns
returns c =
    let script_is = ap (λ v. v.items) c.of-script.ensures in
    let left_is : events_left c.new-2.result (in_order c.new.result) ≡ c.args.events.items =
    (λ i. events_left (c.new-2.ensures i)
    (in_order (c.new.ensures i))) ∙ filter_all (is_left []) c.args.events.items (λ x. refl) in
    λ i. record {
      script = script_is i;
      left = left_is i;
      sessions = c.new-2.ensures i;
      records = c.new-3.ensures i;
      accept = 0;
      fail_give = 0;
      can_fail = false;
    }
