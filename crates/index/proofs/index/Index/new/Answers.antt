use Rattle.std.proofs.Common.{length}
use Rattle.index.specs.Table.{hashing}
use Rattle.index.proofs.KeySlots.{one_empty}
use Rattle.index.proofs.index.Index.new.Goals as goal

pub returns-clause-map : goal.returns-clause-map
returns-clause-map c =
    let row = c.in_ok-new.field-0 in
    let emptied = one_empty (hashing (length row.slots) row.layout c.seeded.result) row.slots c.in_ok-new.ensures.slots in
    λ keys. record { index = emptied.indexed keys; places_are = emptied.places_are keys }
