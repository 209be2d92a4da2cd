use Rattle.std.proofs.Common.{Some, refl}
use Rattle.std.specs.Prelude.{map}
use Rattle.segcache.proofs.NewMaps.{exact_of}
use denote.Exit.{no}
use denote.Param.Send.{param_send, arg_send}
use Rattle.script.specs.declared.clock.RecordingClock.{RecordingClock}
use Rattle.script.specs.ClockLeading.{GivesAnswers}
use Rattle.script.specs.States.{trace_told, PlaysOn}
use Rattle.replaying.specs.Printed.{lines_from, events_of}
use Rattle.group.proofs.Keeping.{keeping_run}
use Rattle.replaying.proofs.ReplayLemmas.{replayed}
use Rattle.replaying.proofs.Lines.{owned}
use Rattle.script.proofs.Sends.{port_sends}
use Rattle.replaying.proofs.run.replay.Goals as goal

pub run_group-requires-clause-ports : goal.run_group-requires-clause-ports
run_group-requires-clause-ports g c κs within =
    owned c.args.geometry c.args.options.now.dialect c.in_ok-exchange.exchange.id c.args.options.now.accept
    c.args.options.now.fail_give c.in_ok-scripts.scripts.items
    c.in_ok-ports.ports.items c.in_ok-ports.ensures

-- the segmented store refuses no request that stores
pub run_group-requires-clause-refuses : goal.run_group-requires-clause-refuses
run_group-requires-clause-refuses g c κs within = λ none. refl

pub returns-clause-ran : goal.returns-clause-ran
returns-clause-ran g c =
    let all = rw c.as_slice.ensures.value at c.in_ok-write_lines.ensures in (
      lines_from 0 (map events_of c.in_ok-report.report.workers.items),
      record {
        scripts = c.in_ok-scripts.scripts.items;
        read = c.in_ok-scripts.ensures.events;
        exchange = c.in_ok-exchange.exchange.id;
        ports = c.in_ok-ports.ports.items;
        ports_are = c.in_ok-ports.ensures;
        store = c.in_ok-store.store;
        store_is = c.in_ok-store.ensures;
        told = c.clock_of-clock.result;
        told_is = (c.clock_of-clock.ensures.clock, c.clock_of-clock.ensures.answers);
        report = c.in_ok-report.report;
        run = keeping_run trace_told PlaysOn
            (λ (k : RecordingClock). Some k.answers.items) GivesAnswers _ _ c.args.options.now.exact_ttls _ _ c.args.geometry c.in_ok-ports.ports.items c.clock_of-clock.result
            c.in_ok-report.report
            c.in_ok-report.ensures.run c.in_ok-store.ensures.new.sizes_are
            (exact_of _ _ _ _ _ _ _ c.in_ok-store.ensures.new) c.in_ok-store.ensures.new.keeps;
        printed_is = refl;
      },
      all.0,
    )

pub returns-clause-printed : goal.returns-clause-printed
returns-clause-printed g c =
    let all = rw c.as_slice.ensures.value at c.in_ok-write_lines.ensures in (
      lines_from 0 (map events_of c.in_ok-report.report.workers.items),
      replayed c.args.geometry c.args.options.now.dialect c.args.options.now.exact_ttls _ c.args.options.now.workers c.args.options.now.accept c.args.options.now.fail_give
          c.in_ok-scripts.text.items c.in_ok-scripts.scripts.items c.in_ok-scripts.ensures.events
          c.in_ok-exchange.exchange.id c.in_ok-ports.ports.items c.in_ok-ports.ensures c.clock_of-clock.result
          c.clock_of-clock.ensures.clock c.clock_of-clock.ensures.answers c.in_ok-report.report
          (keeping_run trace_told PlaysOn
          (λ (k : RecordingClock). Some k.answers.items) GivesAnswers _ _ c.args.options.now.exact_ttls _ _ c.args.geometry c.in_ok-ports.ports.items c.clock_of-clock.result
          c.in_ok-report.report
          c.in_ok-report.ensures.run c.in_ok-store.ensures.new.sizes_are
          (exact_of _ _ _ _ _ _ _ c.in_ok-store.ensures.new) c.in_ok-store.ensures.new.keeps)
          all.1,
      all.0,
    )

pub run_group-requires-send-P : goal.run_group-requires-send-P
run_group-requires-send-P g c κs within = param_send 0 _ (arg_send _ no _ port_sends)
