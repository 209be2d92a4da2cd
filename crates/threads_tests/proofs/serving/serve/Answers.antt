use Rattle.std.proofs.Common.{[], append-nil, sym, ◌∙◌}
use Rattle.threads_tests.proofs.serving.serve.Goals as goal

pub run_worker-report-requires-clause-port : goal.run_worker-report-requires-clause-port
run_worker-report-requires-clause-port g c = record {
  silent = c.requires.silent;
  whose = λ trace told. let of = c.requires.whose trace told in let end = c.made-end.ensures.whose in record {
    exchange_is = of.3 ∙ sym end.3;
    worker_is = of.0 ∙ sym end.0;
    terms_are = of.1 ∙ sym end.1;
    later = ([], end.2 ∙ sym of.2 ∙ sym (append-nil trace.history));
  };
  spelled = c.requires.spelled;
}
