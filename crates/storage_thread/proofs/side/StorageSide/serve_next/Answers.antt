use Rattle.std.proofs.Common.{◌≡◌, rules, arith, ℕ, List, refl, ap, sym, subst, ◌∙◌}
use Rattle.proto.specs.declared.history.Posted.{Posted}
use Rattle.exchange.specs.Ends.{StorageView}
use Rattle.proto.specs.ClockAnswers.{GivenAnswer}
use Rattle.proto.specs.History.{RefusesBy}
use Rattle.proto.specs.Tallies.{no_counts, counts_after}
use Rattle.storage_thread.specs.Serving.{IsReadSince, GetsNone}
use Rattle.storage_thread.specs.Keeping.{LeadsKeeping}
use Rattle.storage_thread.specs.Deadlines.{LeadsAsAsked}
use Rattle.storage_thread.proofs.Turns.{longer, same_sizes, same_byes, same_workers, serving_asked, whole}
use Rattle.storage_thread.proofs.Turns.{serving_none, serving_bye, asked_read, answers_asked, timed_asked}
use Rattle.storage_thread.proofs.Sides.{told_more}
use Rattle.storage_thread.proofs.side.StorageSide.serve_next.Goals as goal

pub invariant_of-self-in-Asked : goal.invariant_of-self-in-Asked
invariant_of-self-in-Asked g c =
    let i = c.self.invariant in let s = c.self.inside.state in
    let f = rw c.in-Asked.is at c.in_ok-taken.ensures.taken in let now : StorageView = s.end.end in
    let mid : StorageView = c.take_next.new.end.end in let new : StorageView = c.execute-executed.new.end.end in
    let w : ℕ = c.in-Asked.worker in let p : Posted = c.in-Asked.posted in
    let m : ℕ = g.S.StorageEngine.moment c.execute-executed.new.store in let a = c.execute-executed.ensures.answered in
    let told : List GivenAnswer = c.execute-executed.new.clock.answers in
    let long = longer now mid w p f new m told a in let added = c.saturating_add-self-inside.ensures in let so_far = i.counted in
    let all = i.left_are in
    let byes = same_byes now mid w p f new m told a in let workers = same_workers now mid w p f new m told a in record {
      serving = serving_asked now mid w p f new m told a s.origin.end.value (g.S.StorageEngine.cache s.store)
          (g.S.StorageEngine.cache c.execute-executed.new.store)
          (g.S.StorageEngine.moment s.store) i.serving c.execute-executed.ensures.reaches;
      sized = c.execute-executed.ensures.sizes ∙ (i.sized ∙ same_sizes now mid w p f new m told a);
      refuses = λ none. i.refuses (sym (ap (λ (z : StorageView). z.terms.may_refuse) (whole now mid w p f new m told a)) ∙ none);
      left_are = omega (arith, all, byes, workers);
      leads = g.met.C.Clock.leads_transitive s.origin.clock.value s.clock.clock c.execute-executed.new.clock.clock i.leads
          c.execute-executed.ensures.leads;
      timed = timed_asked now mid w p f new m told a g.C.Clock.told g.C.Clock.start (g.C.Clock.told s.origin.clock.value) s.clock
          c.execute-executed.new.clock (g.S.StorageEngine.moment s.store) i.answered refl i.timed c.execute-executed.ensures.moment;
      counted = omega (arith, added, so_far, long);
      kept = λ start. c.execute-executed.ensures.kept
          (subst (λ (z : StorageView). LeadsKeeping z.terms.geometry z.history (g.S.StorageEngine.cache s.store)
          (g.S.StorageEngine.keeps s.store)) (sym f.after) (i.kept start));
      dated = λ on. c.execute-executed.ensures.dated
          (subst (λ (z : StorageView). LeadsAsAsked z.terms.geometry z.history (g.S.StorageEngine.cache s.store)
          (g.S.StorageEngine.is_exact s.store)) (sym f.after) (i.dated on));
      answered = answers_asked now mid w p f new m told a;
      read = c.execute-executed.ensures.read;
      refused = c.execute-executed.ensures.refused;
      counts_are = c.execute-executed.ensures.counts;
    }

pub execute-executed-requires-clause-read : goal.execute-executed-requires-clause-read
execute-executed-requires-clause-read g c = let f = rw c.in-Asked.is at c.in_ok-taken.ensures.taken in
    asked_read c.self.inside.state.end.end c.take_next.new.end.end c.in-Asked.worker c.in-Asked.posted f _ c.self.invariant.read

pub execute-executed-requires-clause-refused : goal.execute-executed-requires-clause-refused
execute-executed-requires-clause-refused g c = let f = rw c.in-Asked.is at c.in_ok-taken.ensures.taken in
    subst (λ (z : StorageView). RefusesBy g.S.StorageEngine.may_refuse z.history) (sym f.after) c.self.invariant.refused

pub execute-executed-requires-clause-refuses : goal.execute-executed-requires-clause-refuses
execute-executed-requires-clause-refuses g c none = let f = rw c.in-Asked.is at c.in_ok-taken.ensures.taken in
    c.self.invariant.refuses (sym (ap (λ (z : StorageView). z.terms.may_refuse) f.after) ∙ none)

pub execute-executed-requires-clause-counts : goal.execute-executed-requires-clause-counts
execute-executed-requires-clause-counts g c = let f = rw c.in-Asked.is at c.in_ok-taken.ensures.taken in
    subst (λ (z : StorageView). c.self.inside.state.counts ≡ counts_after no_counts z.history) (sym f.after) c.self.invariant.counts_are

pub invariant_of-self-in-Bye : goal.invariant_of-self-in-Bye
invariant_of-self-in-Bye g c =
    let i = c.self.invariant in let s = c.self.inside.state in let now : StorageView = s.end.end in
    let new : StorageView = c.take_next.new.end.end in
    let f = rw c.in-Bye.is at c.in_ok-taken.ensures.taken in record {
      serving = serving_bye s.origin.end.value now new _ _ i.serving _ f;
      sized = search rules;
      refuses = λ none. i.refuses (sym (ap (λ (z : StorageView). z.terms.may_refuse) f.after) ∙ none);
      left_are = search rules;
      leads = i.leads;
      timed = search rules;
      counted = search rules;
      kept = search rules;
      dated = search rules;
      answered = search rules;
      read = subst (λ (z : StorageView). IsReadSince z.terms.system_clock (g.C.Clock.start s.clock.clock) z.history) (sym f.after) i.read;
      refused = subst (λ (z : StorageView). RefusesBy g.S.StorageEngine.may_refuse z.history) (sym f.after) i.refused;
      counts_are = subst (λ (z : StorageView). s.counts ≡ counts_after no_counts z.history) (sym f.after) i.counts_are;
    }

pub invariant_of-self : goal.invariant_of-self
invariant_of-self g c = let m = g.S.StorageEngine in let n = g.C.Clock in
    told_more m.cache m.moment m.sizes m.keeps m.is_exact m.may_refuse n.told n.start n.leads_to c.self.inside.state c.self.invariant
    c.tell_workers.new.end c.tell_workers.ensures.end

pub invariant_of-self-in_err-taken : goal.invariant_of-self-in_err-taken
invariant_of-self-in_err-taken g c =
    let i = c.self.invariant in let s = c.self.inside.state in let now : StorageView = s.end.end in
    let new : StorageView = c.take_next.new.end.end in
    let f : GetsNone now new = search rules in record {
      serving = serving_none s.origin.end.value now new _ _ i.serving f;
      sized = search rules;
      refuses = λ none. i.refuses (sym (ap (λ (z : StorageView). z.terms.may_refuse) f.1) ∙ none);
      left_are = search rules;
      leads = i.leads;
      timed = search rules;
      counted = search rules;
      kept = search rules;
      dated = search rules;
      answered = search rules;
      read = subst (λ (z : StorageView). IsReadSince z.terms.system_clock (g.C.Clock.start s.clock.clock) z.history) (sym f.1) i.read;
      refused = subst (λ (z : StorageView). RefusesBy g.S.StorageEngine.may_refuse z.history) (sym f.1) i.refused;
      counts_are = subst (λ (z : StorageView). s.counts ≡ counts_after no_counts z.history) (sym f.1) i.counts_are;
    }
