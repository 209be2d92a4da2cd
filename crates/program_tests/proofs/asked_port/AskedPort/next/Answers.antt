use Rattle.std.proofs.Common.{refl, sym, ap, ◌∙◌, subst, Option, Some, None}
use Rattle.proto.specs.Reading.{asks}
use Rattle.exchange.specs.Beginnings.{StartsWith}
use Rattle.worker_port.specs.Ports.{PortTrace}
use Rattle.worker_port.specs.Giving.{sent_for}
use Rattle.program_tests.proofs.asked_port.AskedPort.next.Goals as goal

abbrev told_or : PortTrace → Option PortTrace → PortTrace
told_or other None = other
told_or other (Some trace) = trace

pub next-requires : goal.next-requires
next-requires g c = λ trace told. let whose = c.args.self.now.whose in let same = ap (told_or trace) told in record {
  exchange = sym whose.0 ∙ ap (λ (t : PortTrace). t.exchange) same;
  worker = sym whose.1 ∙ ap (λ (t : PortTrace). t.worker) same;
  asked = λ s messages rest _. subst (λ sent. StartsWith (asks messages) (sent_for sent s)) (sym whose.2) (asks messages, refl);
}
