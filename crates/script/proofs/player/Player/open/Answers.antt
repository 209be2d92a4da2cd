use Rattle.std.proofs.Common.{◌≡◌, [], ◌∷◌, ◌++◌, true, true≢false, refl, sym, ap, subst, ◌∙◌, arith}
use Rattle.script.specs.declared.event.ScriptEvent.TheVariants.{Open}
use Rattle.script.specs.declared.player.Player.{Player}
use Rattle.script.specs.PortEvents.{is_playable}
use Rattle.script.specs.Remaining.{RemainingState}
use Rattle.script.specs.Players.{IsFirst, parts_of}
use Rattle.script.proofs.SessionLemmas.{ok_of}
use Rattle.script.proofs.StepLemmas.{OpensTo, open_consistent, open_told, fresh, first_dropped, odd_consistent}
use Rattle.script.proofs.StepLemmas.{opens_new}
use Rattle.script.proofs.player.Player.open.Goals as goal

first : (c : goal.After-drop_first-2) → IsFirst (parts_of c.self.inside) (Open c.args.session)
first c = subst (λ (p : Player). IsFirst p (Open c.args.session)) (sym c.self.view_is) c.requires

opens : (c : goal.After-drop_first-2)
    → OpensTo (parts_of c.self.inside)
    (record (parts_of c.self.inside) {
      events = c.drop_first-2.new.self;
      sessions = c.open.new.self;
      records = c.note_as.new.self.items;
    })
    c.args.session (first c).after
opens c =
    let p = parts_of c.self.inside in let s = c.args.session in let f = first c in
    let added = ok_of (c.open.new.self ≡ p.sessions ++ fresh s ∷ []) c.open.result
    (sym c.is_err.ensures.value ∙ c.if-is_err.false) c.open.ensures.ok in
    record {
      newer = omega (arith, c.newest.ensures, c.if-session-newest.false);
      sessions_are = added;
      records_are = c.note_as.ensures;
      ended_is = refl;
      script_is = refl;
      accept_is = refl;
      fail_is = refl;
      can_fail_is = refl;
      events_are = first_dropped p.events c.drop_first-2.new.self
          (Open s) f.after f.rest_is c.drop_first-2.ensures.rest;
    }

pub invariant_of-self-2 : goal.invariant_of-self-2
invariant_of-self-2 c = open_consistent (parts_of c.self.inside) _ c.args.session c.self.invariant (first c) (opens c)

pub returns : goal.returns
returns c = rw (← c.self.view_is) (record {
  goes_on = (refl, refl, refl);
  played = λ tells. open_told (parts_of c.self.inside) _ c.args.session c.self.invariant (first c) (opens c)
      (first c).running tells;
})

-- a session whose number isn't new is dropped, where the port doesn't tell

dropped : (c : goal.After-drop_first) → IsFirst (parts_of c.self.inside) (Open c.args.session)
dropped c = subst (λ (p : Player). IsFirst p (Open c.args.session)) (sym c.self.view_is) c.requires

no_older : (c : goal.After-drop_first) → is_playable (parts_of c.self.inside).script ≡ true → ⊥
no_older c tells =
    let lt = opens_new (parts_of c.self.inside) c.args.session c.self.invariant (dropped c) tells in
    omega (arith, lt, c.newest.ensures, c.if-session-newest.true)

pub invariant_of-self : goal.invariant_of-self
invariant_of-self c =
    let p = parts_of c.self.inside in let f = dropped c in
    odd_consistent p _ c.self.invariant refl refl refl refl refl refl
    (ap (λ (e : RemainingState). e.aside) (first_dropped p.events c.drop_first.new.self
    (Open c.args.session) f.after f.rest_is c.drop_first.ensures.rest))
    (λ over. absurd (true≢false (sym over ∙ f.running)))
    (no_older c)

pub returns-then-session-newest : goal.returns-then-session-newest
returns-then-session-newest c = rw (← c.self.view_is) (record {
  goes_on = (refl, refl, refl);
  played = λ tells. absurd (no_older c tells);
})
