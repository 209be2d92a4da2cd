use Rattle.std.proofs.Common.{◌≡◌, ◌≤◌, ◌-◌, ◌++◌, List, ℕ, length, ap, sym, subst, ◌∙◌, inl, length-append, arith}
use Rattle.proto.specs.Lines.{IsSearched}
use Rattle.proto.specs.Grammar.{refused_by}
use Rattle.session_book.specs.Input.{IsDropping}
use Rattle.session_book.proofs.Inputs.{dropping, appended, with_unread, holds_behind, drops_more}
use Rattle.session_book.proofs.Needing.{needs_behind, searched_behind}
use Rattle.session_book.proofs.input.Input.append.Goals as goal

pub returns-clause-ok : goal.returns-clause-ok
returns-clause-ok c =
    let i = c.self.inside in
    let h = dropping i.dialect i.gone.items i.kept i.need (refused_by i.key i.noreply) c.self.invariant.3
    (rw c.most_kept.ensures.value at c.if-self-most_kept.false) in
    let few : c.min.result ≤ i.need - length i.gone.items = omega (arith, c.min.ensures, c.self.invariant.0) in
    with_unread c.args.self.now i.dialect (i.gone.items ++ i.kept) (c.note.new.self.items ++ c.append-2.new.self) i.need
    (λ (b : List ℕ). b ++ c.args.piece.now) c.self.view_is
    (ap (λ (x : List ℕ). x ++ c.append-2.new.self) c.note.ensures
    ∙ ap (λ (x : List ℕ). (i.gone.items ++ c.split_at.result.0.now) ++ x) c.in_ok-append.ensures.ok
    ∙ appended i.dialect i.gone.items i.kept c.split_at.result.0.now c.split_at.result.1.now c.args.piece.now i.need c.min.result
    (refused_by i.key i.noreply) h few c.split_at.ensures.front c.split_at.ensures.back)

pub invariant_of-self-2 : goal.invariant_of-self-2
invariant_of-self-2 c =
    let i = c.self.inside in
    let h = dropping i.dialect i.gone.items i.kept i.need (refused_by i.key i.noreply) c.self.invariant.3
    (rw c.most_kept.ensures.value at c.if-self-most_kept.false) in
    let few : c.min.result ≤ i.need - length i.gone.items = omega (arith, c.min.ensures, c.self.invariant.0) in
    let whole : c.note.new.self.items ++ c.append-2.new.self ≡ (i.gone.items ++ i.kept) ++ c.args.piece.now =
    ap (λ (x : List ℕ). x ++ c.append-2.new.self) c.note.ensures
    ∙ ap (λ (x : List ℕ). (i.gone.items ++ c.split_at.result.0.now) ++ x) c.in_ok-append.ensures.ok
    ∙ appended i.dialect i.gone.items i.kept c.split_at.result.0.now c.split_at.result.1.now c.args.piece.now i.need c.min.result
    (refused_by i.key i.noreply) h few c.split_at.ensures.front c.split_at.ensures.back in
    let len : length c.note.new.self.items ≡ length (i.gone.items ++ c.split_at.result.0.now) =
    ap (λ (x : List ℕ). length x) c.note.ensures in (
      omega (arith, len, length-append i.gone.items c.split_at.result.0.now, c.self.invariant.0),
      rw whole (needs_behind i.dialect (i.gone.items ++ i.kept) c.args.piece.now i.need c.self.invariant.1),
      (
        subst (λ (k : List ℕ). IsSearched k i.searched) (sym c.in_ok-append.ensures.ok)
            (searched_behind i.kept c.split_at.result.1.now i.searched c.self.invariant.2.0),
        rw whole (holds_behind i.dialect (i.gone.items ++ i.kept) c.args.piece.now _ c.self.invariant.2.1),
      ),
      inl (subst (λ (y : List ℕ × List ℕ). IsDropping i.dialect y.0 y.1 i.need (refused_by i.key i.noreply))
          (λ j. (sym c.note.ensures j, sym c.in_ok-append.ensures.ok j))
          (drops_more i.dialect i.gone.items i.kept c.split_at.result.0.now c.split_at.result.1.now c.args.piece.now i.need
          c.min.result (refused_by i.key i.noreply) h (omega (arith, c.min.ensures, c.self.invariant.0)) c.split_at.ensures.front c.split_at.ensures.back)),
    )
