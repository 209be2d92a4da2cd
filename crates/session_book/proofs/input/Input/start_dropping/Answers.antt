use Rattle.std.proofs.Common.{◌≤◌, refl, sym, subst, ap, ◌∙◌, List, ℕ, ◌++◌}
use Rattle.proto.specs.Grammar.{most_kept, refused_by}
use Rattle.proto.specs.Needs.{IsDropped}
use Rattle.session_book.specs.Input.{InputState}
use Rattle.session_book.proofs.Inputs.{all_kept, starts_dropping}
use Rattle.session_book.proofs.input.Input.start_dropping.Goals as goal

pub invariant_of-self : goal.invariant_of-self
invariant_of-self c =
    let i = c.self.inside in
    let few = subst (λ (j : InputState). j.need ≤ most_kept j.dialect) (sym c.self.view_is) c.requires.none_dropped in
    let dropped = subst (λ (j : InputState). IsDropped j.dialect j.unread c.args.need (refused_by c.args.key c.args.noreply)) (sym c.self.view_is)
    c.requires.dropped in
    let all = all_kept i.dialect i.gone.items i.kept i.kept i.need (refused_by i.key i.noreply) c.self.invariant.3 few refl in
    starts_dropping i.dialect i.gone.items i.kept i.kept c.note.new.self.items c.discard.new.self i.need c.args.need
    c.len-self-inside.result (refused_by i.key i.noreply) (refused_by c.args.key c.args.noreply) c.self.invariant.3 few refl
    (subst (λ (b : List ℕ). IsDropped i.dialect b c.args.need (refused_by c.args.key c.args.noreply)) (sym all) dropped)
    (c.note.ensures ∙ ap (λ (x : List ℕ). i.gone.items ++ x) c.as_slice.ensures)
    c.len-self-inside.ensures c.discard.ensures.bytes
