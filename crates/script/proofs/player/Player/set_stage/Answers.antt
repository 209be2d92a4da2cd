use Rattle.std.proofs.Common.{refl, sym, ◌∙◌, ap, subst}
use Rattle.script.specs.Remaining.{RemainingState, in_order}
use Rattle.script.specs.Players.{NoneReady, parts_of}
use Rattle.script.proofs.StageLemmas.{ChangesStage, stage_consistent, stage_state, paused_aside, resumed_aside}
use Rattle.script.proofs.PlayerLemmas.{brought_back}
use Rattle.script.proofs.player.Player.set_stage.Goals as goal

-- the session is paused, and its events stay where they are
pauses : (c : goal.Then-is_paused)
    → ChangesStage (parts_of c.self.inside) c.change.new.self c.self.inside.events c.args.session c.args.stage
pauses c = record {
  was_open = sym c.change.ensures.open ∙ c.if-not-change.false;
  stays_open = c.requires.stage;
  at = c.change.ensures.changes c.if-not-change.false;
  order = refl;
}

-- the session is resumed, and those of its events that are aside are brought back
resumes : (c : goal.After-bring_back)
    → ChangesStage (parts_of c.self.inside) c.change.new.self c.bring_back.new.self c.args.session c.args.stage
resumes c = record {
  was_open = sym c.change.ensures.open ∙ c.if-not-change.false;
  stays_open = c.requires.stage;
  at = c.change.ensures.changes c.if-not-change.false;
  order = ap in_order c.bring_back.ensures ∙ brought_back c.before_first_of-stay.result c.self.inside.events;
}

pub invariant_of-self-then-is_paused : goal.invariant_of-self-then-is_paused
invariant_of-self-then-is_paused c =
    let p = parts_of c.self.inside in let ss' = c.change.new.self in
    stage_consistent p ss' p.events c.args.session c.args.stage c.self.invariant (pauses c)
    (paused_aside p ss' p.events c.args.session c.args.stage c.self.invariant (pauses c)
    (sym c.is_paused.ensures ∙ c.if-is_paused.true))

pub invariant_of-self-2 : goal.invariant_of-self-2
invariant_of-self-2 c =
    let p = parts_of c.self.inside in let ss' = c.change.new.self in let r = c.bring_back.new.self in
    stage_consistent p ss' r c.args.session c.args.stage c.self.invariant (resumes c)
    (subst (λ (q : RemainingState). NoneReady ss' q.aside) (sym c.bring_back.ensures)
    (resumed_aside p ss' r c.args.session c.before_first_of-stay.result c.args.stage c.self.invariant (resumes c)
    c.before_first_of-stay.ensures.others))

pub returns-then-is_paused-clause-paused : goal.returns-then-is_paused-clause-paused
returns-then-is_paused-clause-paused c active =
    rw (← c.self.view_is) (stage_state (parts_of c.self.inside) c.change.new.self c.self.inside.events c.args.session
    c.args.stage (pauses c))

pub returns-clause-paused : goal.returns-clause-paused
returns-clause-paused c active =
    rw (← c.self.view_is) (stage_state (parts_of c.self.inside) c.change.new.self c.bring_back.new.self c.args.session
    c.args.stage (resumes c))
