use Rattle.segments.specs.Pools.{key_at}
use Rattle.index.specs.declared.index.Entry.TheVariants.{Gap}
use Rattle.index.specs.Searches.{IsEntryOf}
use Rattle.index.proofs.FoundEntries.{removed_nothing}
use Rattle.index.proofs.index.Index.remove_found.Goals as goal

pub returns-in_default-clause-map : goal.returns-in_default-clause-map
returns-in_default-clause-map c =
    let e = c.in_default in
    let found : IsEntryOf (key_at c.args.pool.now) c.args.self.now c.args._key.now (Gap e.field-0 e.field-1) =
    rw e.is at c.requires.found in
    removed_nothing (key_at c.args.pool.now) c.args.self.now c.args._key.now e.field-0 e.field-1 c.requires.index found
