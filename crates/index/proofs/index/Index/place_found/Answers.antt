use Rattle.std.proofs.Common.{◌≡◌, sym, ap, ◌∙◌, refl, Some}
use Rattle.segments.specs.Pools.{key_at}
use Rattle.index.specs.declared.index.Entry.TheVariants.{At, Gap}
use Rattle.index.specs.Searches.{IsEntryOf}
use Rattle.index.proofs.FoundEntries.{found_place, found_none}
use Rattle.index.proofs.PoolKeys.{some_key}
use Rattle.index.proofs.index.Index.place_found.Goals as goal

pub returns-in-At-clause-place : goal.returns-in-At-clause-place
returns-in-At-clause-place c =
    let e = c.in-At in
    let found : IsEntryOf (key_at c.args._pool.now) c.args.self.now c.args._key.now (At e.hash e.slot e.place) =
    rw e.is at c.requires.found in
    sym (found_place (key_at c.args._pool.now) c.args.self.now c.args._key.now e.hash e.slot e.place c.requires.index found)

pub returns-in-At-clause-key : goal.returns-in-At-clause-key
returns-in-At-clause-key c =
    let e = c.in-At in
    let found : IsEntryOf (key_at c.args._pool.now) c.args.self.now c.args._key.now (At e.hash e.slot e.place) =
    rw e.is at c.requires.found in
    ap (key_at c.args._pool.now) found.1.1 ∙ found.1.0.key_is

pub returns-in-At-clause-item : goal.returns-in-At-clause-item
returns-in-At-clause-item c =
    let is : key_at c.args._pool.now c.in-At.place ≡ Some c.args._key.now = returns-in-At-clause-key c in
    some_key c.args._pool.now c.in-At.place (rw is refl)

pub returns-in-Gap-clause-place : goal.returns-in-Gap-clause-place
returns-in-Gap-clause-place c =
    let e = c.in-Gap in
    let found : IsEntryOf (key_at c.args._pool.now) c.args.self.now c.args._key.now (Gap e.hash e.slot) =
    rw e.is at c.requires.found in
    sym (found_none (key_at c.args._pool.now) c.args.self.now c.args._key.now e.hash e.slot c.requires.index found)
