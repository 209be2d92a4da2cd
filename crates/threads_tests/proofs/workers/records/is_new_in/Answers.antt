use Rattle.std.proofs.Common.{◌<◌, arith}
use Rattle.std.proofs.lemmas.Bool.{ltb-true}
use Rattle.threads_tests.proofs.workers.records.is_new_in.Goals as goal

pub returns-clause-newer : goal.returns-clause-newer
returns-clause-newer c below t opened =
    let low : c.newest_in.result < c.args.session = ltb-true c.newest_in.result c.args.session below in
    let high = c.newest_in.ensures t opened in
    omega (arith, low, high)
