use Rattle.std.proofs.Common.{rules, ap, sym, ◌∙◌}
use Rattle.std.proofs.lemmas.Map.Iter.{hash_map_turn}
use Rattle.std.specs.Bool.{nat_eq}
use Rattle.std.specs.Cmp.{nat_eq_equiv}
use Rattle.std.specs.Map.{lookup}
use Rattle.std.specs.Map.Iter.{deref_pair}
use Rattle.session_book.specs.Book.{BookState}
use Rattle.session_book.specs.Session.{IsEmptied}
use Rattle.session_book.proofs.Emptied.{holds_or_later, all_hold}
use Rattle.session_book.proofs.book.Book.find_unemptied.Goals as goal

pub loop-session-preserved : goal.loop-session-preserved
loop-session-preserved c = holds_or_later IsEmptied c.loop-session.session-iterator c.next.new.self c.in-Some.session.now
    c.in-Some.open.now c.in-Some.ensures.steps (search rules) c.args.self.now.sessions c.loop-session.invariant

pub returns-clause-none : goal.returns-clause-none
returns-clause-none c = λ none. all_hold IsEmptied c.loop-session.session-iterator (search rules) c.args.self.now.sessions
    c.loop-session.invariant

pub returns-then-not-is_emptied-clause-some : goal.returns-then-not-is_emptied-clause-some
returns-then-not-is_emptied-clause-some c =
    let start = c.into_iter-session-iterator.ensures.into_iter_gives ∙ c.iter-session-items.ensures.rest in
    let turn = hash_map_turn deref_pair _ _ _ _ _ _ c.loop-session.yielded_by c.in-Some.is c.next.ensures.steps
    nat_eq_equiv c.self.inside.sessions start c.iter-session-items.ensures.unique in
    record {
      s = c.in-Some.open.now;
      there = sym (ap (λ (b : BookState). lookup (nat_eq c.in-Some.session.now) b.sessions) c.self.view_is) ∙ turn.1;
      left = c.if-not-is_emptied.ensures.left;
    }
