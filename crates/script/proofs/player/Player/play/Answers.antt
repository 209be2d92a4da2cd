use Rattle.std.proofs.Common.{◌≡◌, ℕ, List, [], ◌∷◌, ◌++◌, drop, subst, true, true≢false, refl, sym, ap, ◌∙◌}
use Rattle.script.specs.declared.event.ScriptEvent.{ScriptEvent}
use Rattle.script.specs.declared.event.ScriptEvent.TheVariants.{Open, Send, Gone}
use Rattle.script.specs.declared.player.Player.{Player}
use Rattle.worker_port.specs.declared.events.PortRecord.TheVariants as was
use Rattle.worker_port.specs.declared.events.PortEvent.TheVariants as event
use Rattle.worker_port.specs.Ports.{is_open}
use Rattle.script.specs.Remaining.{RemainingState}
use Rattle.script.specs.Players.{IsFirst, PlayerGoesOn, RecordsClose, parts_of, player_state, TellsNext}
use Rattle.script.proofs.EventLemmas.{bool_cases}
use Rattle.script.proofs.PlayerLemmas.{open_in_list}
use Rattle.script.proofs.StepLemmas.{GoesTo, SendsTo, first_of_rest, first_dropped, gone_consistent, gone_told}
use Rattle.script.proofs.StepLemmas.{goes_open, goes_by_line, odd_consistent, send_consistent, send_told}
use Rattle.script.proofs.player.Player.play.Goals as goal
use Rattle.script.proofs.player.Player.play.Goals.{After-take_piece, After-drop_first}

pub open-requires : goal.open-requires
open-requires c =
    let p = parts_of c.self.inside in let e = Open c.in-Some-Open.session in
    subst (λ (q : Player). IsFirst q e) c.self.view_is (first_of_rest p c.args.self.now e c.self.view_is
    (subst (λ (x : ScriptEvent). p.events.rest ≡ x ∷ drop 1 p.events.rest) c.in-Some-Open.field-0-is
    c.in-Some-Open.ensures) c.requires.first c.requires.running)

-- a piece of a send

sent : (c : After-take_piece) → IsFirst (parts_of c.self.inside) (Send c.in-Some-Send.session c.in-Some-Send.bytes)
sent c =
    let p = parts_of c.self.inside in
    first_of_rest p c.args.self.now (Send c.in-Some-Send.session c.in-Some-Send.bytes) c.self.view_is
    (subst (λ (x : ScriptEvent). p.events.rest ≡ x ∷ drop 1 p.events.rest) c.in-Some-Send.field-0-is
    c.in-Some-Send.ensures) c.requires.first c.requires.running

sends : (c : After-take_piece)
    → SendsTo (parts_of c.self.inside)
    (record (parts_of c.self.inside) { events = c.take_piece.new.self; records = c.note_as.new.self.items })
    c.in-Some-Send.session
    c.in-Some-Send.bytes (sent c).after
sends c =
    let s = c.in-Some-Send.session in let bytes = c.in-Some-Send.bytes in let f = sent c in record {
      sessions_are = refl;
      records_are = c.note_as.ensures
          ∙ ap (λ (b : List ℕ). c.self.inside.records.items ++ was.Data s b ∷ []) (c.as_slice.ensures ∙ c.in-Ok.ensures);
      ended_is = refl;
      script_is = refl;
      accept_is = refl;
      fail_is = refl;
      can_fail_is = refl;
      events_are = c.take_piece.ensures s bytes f.after f.rest_is;
    }

pub invariant_of-self : goal.invariant_of-self
invariant_of-self c = send_consistent (parts_of c.self.inside) _ c.in-Some-Send.session c.in-Some-Send.bytes
    c.self.invariant (sent c) (sends c)

pub returns-in-Ok : goal.returns-in-Ok
returns-in-Ok c =
    let p = parts_of c.self.inside in let s = c.in-Some-Send.session in let bytes = c.in-Some-Send.bytes in
    rw (← c.self.view_is) (record {
      goes_on = (refl, refl, refl);
      played = λ tells. subst (λ (b : List ℕ). TellsNext (player_state p) (event.Data s b)
          (player_state (record p { events = c.take_piece.new.self; records = c.note_as.new.self.items })))
          (sym c.in-Ok.ensures)
          (send_told p _ s bytes c.self.invariant (sent c) (sends c) (sent c).running tells);
    })

-- the peer of a session goes

pub close-requires-clause-caused : goal.close-requires-clause-caused
close-requires-clause-caused c =
    let p = parts_of c.self.inside in let s = c.in-Some-Gone.session in
    rw (← c.self.view_is) (goes_by_line p s c.self.invariant (first_of_rest p c.args.self.now (Gone s) c.self.view_is
    (subst (λ (x : ScriptEvent). p.events.rest ≡ x ∷ drop 1 p.events.rest) c.in-Some-Gone.field-0-is
    c.in-Some-Gone.ensures) c.requires.first c.requires.running))

gone : (c : After-drop_first) → IsFirst (parts_of c.self.inside) (Gone c.in-Some-Gone.session)
gone c =
    let p = parts_of c.self.inside in
    first_of_rest p c.args.self.now (Gone c.in-Some-Gone.session) c.self.view_is
    (subst (λ (x : ScriptEvent). p.events.rest ≡ x ∷ drop 1 p.events.rest) c.in-Some-Gone.field-0-is
    c.in-Some-Gone.ensures) c.requires.first c.requires.running

closed : (c : After-drop_first) → is_open c.in-Some-Gone.session c.self.inside.records.items ≡ true
    → RecordsClose (parts_of c.self.inside) c.in-Some-Gone.session (was.Gone c.in-Some-Gone.session)
    (parts_of c.self-in-Some-Gone.inside)
closed c active = rw (c.self.view_is, c.self-in-Some-Gone.view_is)
    (c.close.ensures.closes (sym (ap (λ (q : Player). is_open c.in-Some-Gone.session q.records) c.self.view_is) ∙ active))

goes : (c : After-drop_first) → RecordsClose (parts_of c.self.inside) c.in-Some-Gone.session
    (was.Gone c.in-Some-Gone.session) (parts_of c.self-in-Some-Gone.inside)
    → GoesTo (parts_of c.self-in-Some-Gone.inside) (record (parts_of c.self-in-Some-Gone.inside) { events = c.drop_first.new.self })
    (gone c).after
goes c closes = let f = gone c in record {
  q_is = refl;
  events_are = first_dropped c.self-in-Some-Gone.inside.events c.drop_first.new.self (Gone c.in-Some-Gone.session) f.after
      (ap (λ (e : RemainingState). e.rest) closes.events_are ∙ f.rest_is) c.drop_first.ensures.rest;
}

pub invariant_of-self-in-Some-Gone : goal.invariant_of-self-in-Some-Gone
invariant_of-self-in-Some-Gone c =
    let p = parts_of c.self.inside in let m = parts_of c.self-in-Some-Gone.inside in let s = c.in-Some-Gone.session in
    let f = gone c in let k = c.self.invariant in
    bool_cases (is_open s p.records)
    (λ active. gone_consistent p m _ s k f (closed c active) (goes c (closed c active)) c.self-in-Some-Gone.invariant)
    (λ not_open.
    let same : m ≡ p = c.self-in-Some-Gone.view_is
    ∙ c.close.ensures.same (sym (ap (λ (q : Player). is_open s q.records) c.self.view_is) ∙ not_open)
    ∙ sym c.self.view_is in
    odd_consistent p _ k (ap (λ (x : Player). x.sessions) same) (ap (λ (x : Player). x.records) same)
    (ap (λ (x : Player). x.ended) same) (ap (λ (x : Player). x.script) same)
    (ap (λ (x : Player). x.fail_give) same) (ap (λ (x : Player). x.can_fail) same)
    (ap (λ (e : RemainingState). e.aside) (first_dropped m.events c.drop_first.new.self (Gone s)
    f.after (ap (λ (x : Player). x.events.rest) same ∙ f.rest_is)
    c.drop_first.ensures.rest) ∙ ap (λ (x : Player). x.events.aside) same)
    (λ over. absurd (true≢false (sym over ∙ ap (λ (x : Player). x.ended) same ∙ f.running)))
    (λ tells. true≢false (sym (open_in_list p s k (goes_open p s k f tells)) ∙ not_open)))

pub returns-in-Some-Gone : goal.returns-in-Some-Gone
returns-in-Some-Gone c =
    let p = parts_of c.self.inside in let s = c.in-Some-Gone.session in let f = gone c in
    rw (← c.self.view_is) (record {
      goes_on = subst (λ (q : Player). PlayerGoesOn q (parts_of c.self-in-Some-Gone.inside)) (sym c.self.view_is)
          (subst (PlayerGoesOn c.args.self.now) (sym c.self-in-Some-Gone.view_is) c.close.ensures.goes_on);
      played = λ tells.
          let closes = closed c (open_in_list p s c.self.invariant (goes_open p s c.self.invariant f tells)) in
          gone_told p (parts_of c.self-in-Some-Gone.inside) _ s c.self.invariant f closes (goes c closes) f.running tells;
    })
