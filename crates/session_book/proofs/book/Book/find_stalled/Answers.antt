use Rattle.std.proofs.Common.{rules, ap, sym, ◌∙◌}
use Rattle.std.proofs.lemmas.Bool.{OnTrue_at}
use Rattle.std.proofs.lemmas.Map.Iter.{hash_map_turn}
use Rattle.std.specs.Bool.{nat_eq}
use Rattle.std.specs.Cmp.{nat_eq_equiv}
use Rattle.std.specs.Map.{lookup}
use Rattle.std.specs.Map.Iter.{deref_pair}
use Rattle.session_book.specs.Book.{BookState}
use Rattle.session_book.proofs.book.Book.find_stalled.Goals.{in-Strict, in_default}
use Rattle.session_book.proofs.book.Book.find_stalled.Goals as goal

pub returns-then-is_stalled : goal.returns-then-is_stalled
returns-then-is_stalled c =
    let start = c.into_iter-session-iterator.ensures.into_iter_gives ∙ c.iter-session-items.ensures.rest in
    let turn = hash_map_turn deref_pair _ _ _ _ _ _ c.loop-session.yielded_by c.in-Some.is c.next.ensures.steps
    nat_eq_equiv c.self.inside.sessions start c.iter-session-items.ensures.unique in
    record {
      lenient = elim c.match-matches.branch [ in-Strict w ↦ search (rules, w.matches-is, c.if-matches.false) | in_default w ↦ search (rules, w.in_default) ];
      s = c.in-Some.open.now;
      there = sym (ap (λ (b : BookState). lookup (nat_eq c.in-Some.session.now) b.sessions) c.self.view_is) ∙ turn.1;
      much = OnTrue_at c.if-is_stalled.true c.is_stalled.ensures;
    }
