use Rattle.std.proofs.Common.{refl}
use Rattle.reference.proofs.Running.{run_opened, run_fed, run_skipped, run_gone}
use Rattle.reference.proofs.sequential_replay.play.Goals as goal

pub returns-in_ok-push-in-Open : goal.returns-in_ok-push-in-Open
returns-in_ok-push-in-Open g c =
    rw (c.in-Open.is, c.in_ok-push-in-Open.ensures.items)
    (λ setup events run may. run_opened setup events c.in-Open.number c.args.executor.now c.args.sessions.now.items
    c.new.result run may c.new.ensures)

pub returns-in_ok-feed-in-Send : goal.returns-in_ok-feed-in-Send
returns-in_ok-feed-in-Send g c =
    let place = rw c.as_slice.ensures.value at c.in-Some.ensures in
    let feeds = rw c.as_slice-in-Some.ensures at c.in_ok-feed-in-Send.ensures in
    rw c.in-Send.is
    (λ setup events run may.
    run_fed setup events c.in-Send.number c.in-Send.bytes c.args.executor.now c.args.sessions.now.items
    c.in-Some.at c.feed.new.executor _ run may place.0 place.1
    (record {
      old = c.index_mut.result.now;
      new = c.feed.new.self;
      old_is = c.index_mut.ensures.value;
      feeds = feeds;
      after_is = refl;
    }))

pub returns-in_default : goal.returns-in_default
returns-in_default g c =
    let none = rw c.as_slice.ensures.value at c.in_default.ensures in
    rw c.in-Send.is
    (λ setup events run may. run_skipped setup events c.in-Send.number c.in-Send.bytes c.args.executor.now
    c.args.sessions.now.items run may none)

pub returns-in-Gone : goal.returns-in-Gone
returns-in-Gone g c =
    rw c.in-Gone.is
    (λ setup events run may. run_gone setup events c.in-Gone.field-0 c.args.executor.now c.args.sessions.now.items
    run may)
