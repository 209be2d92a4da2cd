-- What a worker starts from.
use Rattle.std.specs.Prelude.{◌≡◌, false, [], Option, Some}
use Rattle.proto.specs.declared.dialect.Dialect.{Dialect}
use Rattle.exchange.specs.Ends.{WorkerView}
use Rattle.worker_port.specs.Ports.{PortTrace}
use Rattle.worker_port.specs.Giving.{IsTraceOf}

-- an end that has sent nothing, and was told of nothing
abbrev pub HasSentNothing : WorkerView → Type 0
HasSentNothing end = (end.sent ≡ []) × (end.back ≡ []) × (end.said_bye ≡ false) × (end.seen ≡ [])

-- the port of this end's worker, at which nothing has happened yet, read in this dialect
pub record IsPortAt {P : Type 0} (told : P → Option PortTrace) (d : Dialect) (port : P)
    (end : WorkerView) : Type 0 where
  pub silent : (trace : PortTrace) → told port ≡ Some trace → trace.events ≡ []
  pub whose : (trace : PortTrace) → told port ≡ Some trace → IsTraceOf trace end
  pub spelled : (trace : PortTrace) → told port ≡ Some trace → trace.dialect ≡ d
