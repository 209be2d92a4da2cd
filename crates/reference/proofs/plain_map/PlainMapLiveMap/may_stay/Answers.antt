use Rattle.std.proofs.Common.{rules, ◌≡◌, Some, Option, ℕ, sym, ap, ◌∙◌}
use Rattle.std.specs.FinMap as map
use Rattle.proto.specs.Cache.{Entry}
use Rattle.proto.proofs.StepLemmas.{insert-same}
use Rattle.reference.specs.PlainEntries.{plain_entries}
use Rattle.reference.specs.PlainWrites.{same_deadline}
use Rattle.reference.proofs.PlainSteps.{same_deadlines}
use Rattle.reference.proofs.plain_map.PlainMapLiveMap.may_stay.Goals as goal

pub returns-clause-kept : goal.returns-clause-kept
returns-clause-kept c holds e there items kept adds within =
    let decides : (x : Entry) → map.get (plain_entries c.args.self.now) c.args.key.now ≡ Some x
    → c.is_same_deadline.result ≡ same_deadline c.args.deadline x.deadline = search rules in
    let same : c.args.deadline ≡ e.deadline =
    same_deadlines c.args.deadline e.deadline (sym (decides e there) ∙ holds) in (
      sym (ap (λ (d : Option ℕ). map.insert (plain_entries c.args.self.now) c.args.key.now (record e { deadline = d })) same
          ∙ insert-same (plain_entries c.args.self.now) c.args.key.now e there),
      _,
    )
