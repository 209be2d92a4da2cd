use Rattle.std.proofs.Common.{rules}
use Rattle.serving.proofs.service.open.Goals as goal

pub returns : goal.returns
returns g c = record {
  workers = search rules;
  terms = search rules;
  new_ports = search rules;
  count = search rules;
  new_store = search rules;
}
