use Rattle.std.proofs.Common.{sym, subst, refl}
use Rattle.std.specs.Prelude.{IsSome}
use Rattle.segments.proofs.MarkedPlaces.{item_within}
use Rattle.segcache.specs.Invariants.{IsTied}
use Rattle.segcache.proofs.TiedParts.{current_item, tied_left}
use Rattle.segcache.proofs.unindexing.unindex_found.Goals as goal

pub unmark-requires : goal.unmark-requires
unmark-requires c =
    let x = current_item c.args.pool.now c.args.index.now c.args.key.now c.args.place c.requires.there in
    item_within c.args.marks.now c.args.pool.now c.args.place c.requires.tied.known (subst IsSome (sym x.1) refl)

pub returns-clause-tied : goal.returns-clause-tied
returns-clause-tied c =
    subst (IsTied c.args.pool.now c.remove_found.new.self) (sym c.unmark.ensures)
    (tied_left c.args.pool.now c.args.index.now c.remove_found.new.self c.args.marks.now c.args.key.now c.args.place
    c.requires.tied
    c.requires.there c.remove_found.ensures.map c.remove_found.ensures.size)
