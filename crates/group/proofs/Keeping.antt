-- A run over a store that keeps what it stores, and of which it is known whether it keeps deadlines
-- to the second.
use Rattle.std.proofs.Common.{◌≡◌, ℕ, Bool, List, Option, subst, ◌∙◌}
use Rattle.std.specs.Prelude.{⊤}
use Rattle.proto.specs.Sizes.{Sizes}
use Rattle.worker_port.specs.Ports.{PortTrace}
use Rattle.group.specs.declared.report.GroupReport.{GroupReport}
use Rattle.group.specs.Headline.{IsRun}

-- as long as little is stored, a group's run over it may be read as one that forgets nothing
pub keeping_run : {P C : Type 0} (told : P → Option PortTrace) (leads_to : P → P → Type 0)
    (clock_told : C → Option (List ℕ)) (clock_leads : C → C → Type 0)
    → (keeps : Type 0) (was exact may_refuse : Bool) (found sizes : Sizes) (ports : List P) (clock : C) (report : GroupReport P C)
    → IsRun told leads_to clock_told clock_leads keeps was may_refuse found ports clock report → found ≡ sizes → was ≡ exact
    → keeps
    → IsRun told leads_to clock_told clock_leads ⊤ exact may_refuse sizes ports clock report
keeping_run told leads_to clock_told clock_leads keeps was exact may_refuse found sizes ports clock report run same as_was kept =
    subst (λ (s : Sizes). IsRun told leads_to clock_told clock_leads ⊤ exact may_refuse s ports clock report) same (record {
      history = run.history;
      legal = run.legal;
      inside = run.inside;
      counted = run.counted;
      moments = run.moments;
      leads = run.leads;
      one_each = run.one_each;
      each = run.each;
      none_beyond = run.none_beyond;
      refused = run.refused;
      bounded = λ _. run.bounded kept;
      dated = λ on. run.dated (as_was ∙ on);
    })
