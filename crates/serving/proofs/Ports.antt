-- Ports over sockets, place by place.
use Rattle.std.proofs.Common.{◌≡◌, ℕ, List, [], ◌∷◌, ◌++◌, length, sym, ap, subst, ◌∙◌, ⊎_elim}
use mathlib.Core.Option.{some}
use lib.ListN.{get_elem?}
use Rattle.proto.specs.declared.dialect.Dialect.{Dialect}
use Rattle.proto.specs.Sizes.{Sizes}
use Rattle.proto.proofs.Options.{some_is}
use Rattle.exchange.specs.Ends.{TableId}
use Rattle.exchange.proofs.Lists.{at_end}
use Rattle.worker_port.specs.Ports.{PortTrace}
use Rattle.net.specs.declared.port.MioPort.{MioPort}
use Rattle.net.specs.Traces.{trace_of, IsNew}
use Rattle.group.specs.Threads.{ArePortsOf}
use Rattle.worker_port.specs.Giving.{by_system_clock}
use Rattle.serving.specs.Runs.{AreNewPorts, socket_told}

-- one more, of the worker after the last
pub new_more : {R : Type 0} (sizes : Sizes) (d : Dialect) (exchange : TableId) (ports : List (MioPort R)) (port : MioPort R)
    → AreNewPorts sizes d exchange ports → IsNew sizes d (length ports) exchange (trace_of port.served)
    → AreNewPorts sizes d exchange (ports ++ port ∷ [])
new_more {R} sizes d exchange ports port old new w p at =
    ⊎_elim (λ (l : get_elem? ports w ≡ some p). old w p l)
    (λ (l : (w ≡ length ports) × (port ≡ p)).
    subst (λ (y : ℕ × MioPort R). IsNew sizes d y.0 exchange (trace_of y.1.served)) (λ i. (sym l.0 i, l.1 i)) new)
    (at_end ports port w p at)

pub new_of : {R : Type 0} (sizes : Sizes) (d : Dialect) (exchange : TableId) (ports : List (MioPort R))
    → AreNewPorts sizes d exchange ports → ArePortsOf socket_told exchange (by_system_clock sizes) d ports
new_of sizes d exchange ports h w port at trace e =
    let same = sym (some_is _ trace e) in let k = h w port at in (
      ap (λ (s : PortTrace). s.worker) same ∙ k.worker_is,
      ap (λ (s : PortTrace). s.terms) same ∙ k.terms_are,
      ap (λ (s : PortTrace). s.dialect) same ∙ k.dialect_is,
      ap (λ (s : PortTrace). s.events) same ∙ k.none,
      ap (λ (s : PortTrace). s.history) same ∙ k.untold,
      ap (λ (s : PortTrace). s.exchange) same ∙ k.exchange_is,
    )
