use Rattle.std.proofs.Common.{sym}
use Rattle.proto.proofs.CacheLemmas.{live-live}
use Rattle.reference.specs.PlainEntries.{entries_of}
use Rattle.reference.proofs.plain_map.PlainMapLiveMap.advance.Goals as goal

pub returns-clause-entries : goal.returns-clause-entries
returns-clause-entries c =
    sym (live-live (entries_of c.args.self.now.map.entries) c.args.self.now.moment c.args.now c.requires.not_before)
