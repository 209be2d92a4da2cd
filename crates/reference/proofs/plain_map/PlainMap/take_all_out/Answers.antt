use Rattle.reference.proofs.PlainLemmas.{live-of-nil}
use Rattle.reference.proofs.plain_map.PlainMap.take_all_out.Goals as goal

pub returns-clause-entries : goal.returns-clause-entries
returns-clause-entries c = live-of-nil c.clear.new.self.entries c.args.self.now.moment c.clear.ensures.empty
