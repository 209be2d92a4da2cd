use Rattle.std.proofs.Common.{sym, ap, ◌∙◌, Option, ℕ}
use Rattle.segments.specs.Shown.{item_of}
use Rattle.segcache.specs.Shown.{kept_entry}
use Rattle.segcache.proofs.ShownItems.{entry_is}
use Rattle.segcache.proofs.segment_map.entry_at.Goals as goal

pub returns-clause-entry : goal.returns-clause-entry
returns-clause-entry c =
    let i = item_of c.item-item.result in
    sym (entry_is c.args.pool.now c.args.place i (sym c.item-item.ensures.item)
    ∙ ap (λ (d : Option ℕ). kept_entry d i) (sym c.item-item.ensures.deadline))
