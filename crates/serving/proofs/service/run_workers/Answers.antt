use Rattle.std.proofs.Common.{false, [], refl, sym, subst}
use Rattle.std.specs.Prelude.{⊤}
use Rattle.proto.specs.declared.terms.Terms.{Terms}
use Rattle.segcache.specs.Keeping.{KeepsStored}
use Rattle.segcache.specs.StoreState.{sizes_in}
use Rattle.segcache.proofs.NewMaps.{exact_of}
use Rattle.serving.specs.Runs.{socket_told, clock_told}
use denote.Exit.{no}
use denote.Param.Send.{param_send, arg_send}
use Rattle.serving.proofs.Ports.{new_of}
use Rattle.serving.proofs.Sends.{port_sends}
use Rattle.group.specs.Threads.{ArePortsOf}
use Rattle.group.proofs.Keeping.{keeping_run}
use Rattle.serving.proofs.service.run_workers.Goals as goal

pub run_group-requires-clause-ports : goal.run_group-requires-clause-ports
run_group-requires-clause-ports g c κs within =
    subst (λ (z : Terms). ArePortsOf socket_told c.args.exchange.id z c.args.options.now.dialect c.args.ports.items)
    (sym c.terms_of.ensures)
    (new_of c.args.geometry c.args.options.now.dialect c.args.exchange.id c.args.ports.items c.requires.new_ports)

pub run_group-requires-send-P : goal.run_group-requires-send-P
run_group-requires-send-P g c κs within = param_send 0 _ (arg_send _ no _ (port_sends _ c.type_bounds.send-H))

-- the segmented store refuses no request that stores
pub run_group-requires-clause-refuses : goal.run_group-requires-clause-refuses
run_group-requires-clause-refuses g c κs within = λ none. refl

pub returns : goal.returns
returns g c = record {
  exchange = c.args.exchange.id;
  ports = c.args.ports.items;
  new_ports = c.requires.new_ports;
  count = c.requires.count;
  store = c.args.store;
  new_store = c.requires.new_store;
  clock = c.new-clock.result;
  unread = c.new-clock.ensures;
  run = keeping_run socket_told (λ _ _. ⊤) clock_told (λ _ _. ⊤) (KeepsStored c.args.store.map []) c.args.store.map.pool.exact
      c.args.options.now.exact_ttls false (sizes_in c.args.store) c.args.geometry c.args.ports.items c.new-clock.result
      c.in_ok-report.report c.in_ok-report.ensures.run c.requires.new_store.sizes_are
      (exact_of _ _ _ _ _ _ _ c.requires.new_store) c.requires.new_store.keeps;
}
