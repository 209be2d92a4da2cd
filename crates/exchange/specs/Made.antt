-- What contracts see of the ends of one exchange while they are together.
use Rattle.std.specs.Prelude.{ℕ}
use Rattle.proto.specs.declared.terms.Terms.{Terms}
use Rattle.exchange.specs.Ends.{TableId, StorageView}

-- which exchange it is, for how many workers, and by which terms its histories are legal
pub record ExchangeView : Type 0 where
  pub id : TableId
  pub workers : ℕ
  pub terms : Terms

-- by storage's end
abbrev pub exchange_view : StorageView → ExchangeView
exchange_view storage = record { id = storage.exchange; workers = storage.workers; terms = storage.terms }
