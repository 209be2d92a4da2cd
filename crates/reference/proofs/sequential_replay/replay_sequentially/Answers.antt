use Rattle.std.proofs.Common.{◌≡◌, ◌+◌, ◌<◌, List, [], ◌∷◌, ◌++◌, length, take, map, refl, sym, ap, subst, ◌∙◌, arith}
use Rattle.std.proofs.lemmas.List.{take_all, take_more}
use Rattle.std.proofs.lemmas.Result.{IfOk-weaker}
use Rattle.script.specs.declared.event.ScriptEvent.{ScriptEvent}
use Rattle.script.specs.Events.{MayFollow}
use Rattle.reference.specs.declared.sequential_replay.SessionOutput.{SessionOutput}
use Rattle.reference.specs.Execution.{Execution}
use Rattle.reference.specs.SequentialSessions.{Setup}
use Rattle.reference.specs.SequentialReplays.{IsReplay, output_of}
use Rattle.reference.proofs.Running.{run_none, replay_is}
use Rattle.reference.proofs.sequential_replay.replay_sequentially.Goals as goal

pub loop-event-init : goal.loop-event-init
loop-event-init g c =
    let x = c.new-executor.result in
    let setup : Setup = record { sizes = x.sizes; clock = x.clock } in
    rw c.new-sessions.ensures.items
    (run_none setup x refl (ap (λ (e : Execution). e.cache) c.new-executor.ensures ∙ c.requires.no_entry)
    (ap (λ (e : Execution). e.moment) c.new-executor.ensures ∙ c.requires.no_request) (λ n. refl))

pub loop-event-preserved : goal.loop-event-preserved
loop-event-preserved g c =
    let x = c.new-executor.result in
    let setup : Setup = record { sizes = x.sizes; clock = x.clock } in
    let events = c.args.events.now in
    let i = c.loop-event.event-index in
    let e = c.event-item.result in
    let within : i < length events = omega arith in
    let may : MayFollow (take i events) e = subst (λ (v : ScriptEvent). MayFollow (take i events) v)
    (sym c.event-item.is) (c.requires.playable i e within) in
    let front : take (i + 1) events ≡ take i events ++ e ∷ [] = take_more events i e within
    ∙ ap (λ (v : ScriptEvent). take i events ++ v ∷ []) (sym c.event-item.is) in
    rw front (c.in_ok-play.ensures setup (take i events) c.loop-event.invariant may)

pub returns : goal.returns
returns g c =
    let x = c.new-executor.result in
    let setup : Setup = record { sizes = x.sizes; clock = x.clock } in
    let events = c.args.events.now in
    let i = c.loop-event.event-index in
    let given = replay_is setup (take i events) c.loop-event.executor c.loop-event.sessions.items
    c.loop-event.invariant in
    let whole = rw (take_all i events (omega arith)) at given in
    let ours = rw c.new-executor.ensures at whole in
    IfOk-weaker c.outputs.result (λ outputs. outputs.items ≡ map output_of c.loop-event.sessions.items)
    (λ outputs. IsReplay (g.E.StorageEngine.sizes c.args.store) c.args.clock events outputs.items)
    (λ outputs is. subst (λ (gs : List SessionOutput). IsReplay
    (g.E.StorageEngine.sizes c.args.store) c.args.clock events gs) (sym is) ours) c.outputs.ensures
