use Rattle.std.proofs.Common.{sym, subst, rules}
use Rattle.proto.specs.Sizes.{item_limit}
use Rattle.segments.specs.Shown.{item_of}
use Rattle.segments.proofs.Places.{item_storable}
use Rattle.segcache.specs.State.{MapState}
use Rattle.segcache.specs.Writes.{GoesOver}
use Rattle.segcache.proofs.TiedParts.{current_some}
use Rattle.segcache.proofs.ChangedItems.{with_reads}
use Rattle.segcache.proofs.ItemsPutOver.{AsksOver, goes_parts, puts_over}
use Rattle.segcache.proofs.segment_map.SegmentMap.put_over.Goals as goal

pub item-reads-requires : goal.item-reads-requires
item-reads-requires c =
    let a = c.self.inside in
    let i = item_of c.args.item in
    let m : MapState = record { pool = a.pool; index = a.index; marks = a.marks; moment = a.moment } in
    let asks : AsksOver m i c.args.item.deadline c.args.place =
    subst (λ (s : MapState). AsksOver s i c.args.item.deadline c.args.place) (sym c.self.view_is) (search rules) in
    current_some a.pool a.index c.args.item.key.now c.args.place asks.stands

pub overwrite-requires-clause-fits : goal.overwrite-requires-clause-fits
overwrite-requires-clause-fits c =
    let a = c.self.inside in
    let i = item_of c.args.item in
    let m : MapState = record { pool = a.pool; index = a.index; marks = a.marks; moment = a.moment } in
    let asks : AsksOver m i c.args.item.deadline c.args.place =
    subst (λ (s : MapState). AsksOver s i c.args.item.deadline c.args.place) (sym c.self.view_is) (search rules) in
    (goes_parts m c.args.item.deadline i c.args.place asks.goes).1

pub overwrite-requires-clause-storable : goal.overwrite-requires-clause-storable
overwrite-requires-clause-storable c =
    let a = c.self.inside in
    let i = item_of c.args.item in
    let m : MapState = record { pool = a.pool; index = a.index; marks = a.marks; moment = a.moment } in
    let asks : AsksOver m i c.args.item.deadline c.args.place =
    subst (λ (s : MapState). AsksOver s i c.args.item.deadline c.args.place) (sym c.self.view_is) (search rules) in
    with_reads (item_limit a.pool.sizes) i (item_of c.item-reads.result) asks.storable
    (item_storable a.pool c.args.place (item_of c.item-reads.result) c.self.invariant.tied.known.pool (sym c.item-reads.ensures.item))

pub invariant_of-self : goal.invariant_of-self
invariant_of-self c =
    let a = c.self.inside in
    let i = item_of c.args.item in
    let m : MapState = record { pool = a.pool; index = a.index; marks = a.marks; moment = a.moment } in
    let asks : AsksOver m i c.args.item.deadline c.args.place =
    subst (λ (s : MapState). AsksOver s i c.args.item.deadline c.args.place) (sym c.self.view_is) (search rules) in
    let r = puts_over m i c.args.item.deadline c.args.place (item_of c.item-reads.result) c.overwrite.new.self c.self.invariant
    asks.stands asks.goes asks.own c.item-reads.ensures.item c.overwrite.ensures.overwritten c.overwrite.ensures.pool in
    r.kept

pub returns-clause-over : goal.returns-clause-over
returns-clause-over c =
    let a = c.self.inside in
    let i = item_of c.args.item in
    let m : MapState = record { pool = a.pool; index = a.index; marks = a.marks; moment = a.moment } in
    let asks : AsksOver m i c.args.item.deadline c.args.place =
    subst (λ (s : MapState). AsksOver s i c.args.item.deadline c.args.place) (sym c.self.view_is) (search rules) in
    let r = puts_over m i c.args.item.deadline c.args.place (item_of c.item-reads.result) c.overwrite.new.self c.self.invariant
    asks.stands asks.goes asks.own c.item-reads.ensures.item c.overwrite.ensures.overwritten c.overwrite.ensures.pool in
    subst (λ (s : MapState). GoesOver s i c.args.item.deadline (record m { pool = c.overwrite.new.self })) c.self.view_is r.over
