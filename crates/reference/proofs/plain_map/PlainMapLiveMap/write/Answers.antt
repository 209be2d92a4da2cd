use Rattle.std.proofs.Common.{◌≡◌, rules}
use Rattle.engine.specs.Shown.{entry_of}
use Rattle.reference.specs.PlainEntries.{plain_entries}
use Rattle.engine.proofs.EngineLemmas.{written_exactly}
use Rattle.reference.proofs.PlainLemmas.{written_plainly}
use Rattle.reference.proofs.plain_map.PlainMapLiveMap.write.Goals as goal

pub returns : goal.returns
returns c =
    let old = c.args.self.now in
    let e = entry_of c.args.entry in
    let is : c.new.result ≡ e = search rules in
    let exactly = written_plainly old.moment c.in_ok-key.key.items c.args.key.now old.map c.insert.new.self
    c.new.result e c.in_ok-key.ensures.items is c.requires.waits c.in_ok-insert.ensures.updates in
    let new = record old { map = c.insert.new.self } in record {
      written = written_exactly old.geometry old.moment (plain_entries old) c.args.key.now e (plain_entries new)
          c.requires.waits exactly;
      exactly = exactly;
      kept = λ items kept adds bound. (exactly, _);
      refused = search rules;
      err = search rules;
      err_alike = search rules;
      err_kept = search rules;
      sizes_same = search rules;
      moment_same = search rules;
    }
