use Rattle.std.proofs.Common.{List, ℕ, subst, sym, IsTrue}
use Rattle.proto.specs.declared.counts.Counts.{Counts}
use Rattle.proto.specs.StatTexts.{names_gauge, IsStats}
use Rattle.proto.proofs.StatLemmas.{gauge_more}
use Rattle.proto.proofs.stats.StatsText.with_word.Goals as goal

pub invariant_of-self : goal.invariant_of-self
invariant_of-self c =
    let name : IsTrue (names_gauge c.self.inside.counts.value c.args.name.now) =
    subst (λ (k : Counts). IsTrue (names_gauge k c.args.name.now)) (sym c.self.view_is) c.requires.name in
    subst (λ (l : List ℕ). IsStats c.self.inside.counts.value l) (sym c.in_ok-push_line.ensures)
    (gauge_more c.self.inside.counts.value c.self.inside.text.items c.args.name.now c.args.value.now c.self.invariant name
    c.requires.value)
