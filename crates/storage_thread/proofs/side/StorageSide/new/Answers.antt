use Rattle.std.proofs.Common.{◌≡◌, [], rules, true, ap, sym, subst, ◌∙◌}
use Rattle.proto.specs.History.{RefusesBy}
use Rattle.proto.proofs.HistoryLemmas.{refuses_none}
use Rattle.exchange.specs.Ends.{StorageView, StorageLanesView}
use Rattle.storage_thread.specs.Serving.{IsStorageServing}
use Rattle.storage_thread.specs.Keeping.{LeadsKeeping}
use Rattle.storage_thread.specs.Deadlines.{LeadsAsAsked}
use Rattle.storage_thread.proofs.Kept.{leads_first}
use Rattle.storage_thread.proofs.Dated.{dated_first}
use Rattle.storage_thread.proofs.Turns.{serving_first}
use Rattle.storage_thread.proofs.side.StorageSide.new.Goals as goal
use Rattle.storage_thread.specs.Serving.{IsUnused}

pub invariant_of-result : goal.invariant_of-result
invariant_of-result g c =
    let m = g.S.StorageEngine in let n = g.C.Clock in let o = c.of-origin.ensures in
    let v : StorageView = c.batched-end.result.end in
    let v_is : v ≡ c.args.storage_end = ap (λ (b : StorageLanesView). b.end) c.batched-end.ensures in
    let unused : IsUnused v = subst IsUnused (sym v_is) c.requires.unused in record {
      serving = subst (λ (z : StorageView). IsStorageServing z v (m.cache c.args.store) (m.moment c.args.store))
          (v_is ∙ sym o.end) (serving_first v _ _ unused c.requires.empty.0 c.requires.empty.1);
      sized = search rules;
      refuses = search rules;
      left_are = search rules;
      leads = search rules;
      timed = search rules;
      counted = search rules;
      kept = subst (λ z. m.keeps z [] → LeadsKeeping v.terms.geometry v.history (m.cache c.args.store) (m.keeps c.args.store))
          (sym o.store) (leads_first _ _ _ _ unused.2 c.requires.empty.0);
      dated = subst (λ z. m.is_exact z ≡ true
          → LeadsAsAsked v.terms.geometry v.history (m.cache c.args.store) (m.is_exact c.args.store))
          (sym o.store) (dated_first _ _ _ _ unused.2 c.requires.empty.0);
      answered = search rules;
      read = search rules;
      refused = subst (RefusesBy m.may_refuse) (sym unused.2) (refuses_none m.may_refuse);
      counts_are = search rules;
    }
