use Rattle.std.proofs.Common.{◌-◌, ℕ, drop, sym, ap, ◌∙◌, arith}
use Rattle.proto.specs.Grammar.{refused_by}
use Rattle.session_book.proofs.Inputs.{took, read_anew}
use Rattle.session_book.proofs.input.Input.take.Goals as goal

pub overflow_sub-n : goal.overflow_sub-n
overflow_sub-n c =
    let i = c.self.inside in
    let t = took c.args.self.now i.dialect i.gone.items i.kept i.need c.args.n (refused_by i.key i.noreply) c.requires.0 c.self.view_is c.self.invariant.3
    c.self.invariant.1 c.requires.1 in
    let enough = t.enough in
    omega (arith, enough, c.self.invariant.0)

pub discard-requires : goal.discard-requires
discard-requires c =
    let i = c.self.inside in
    let t = took c.args.self.now i.dialect i.gone.items i.kept i.need c.args.n (refused_by i.key i.noreply) c.requires.0 c.self.view_is c.self.invariant.3
    c.self.invariant.1 c.requires.1 in
    let within = t.within in
    omega (arith, within, c.self.invariant.0)

pub returns : goal.returns
returns c =
    let i = c.self.inside in
    let t = took c.args.self.now i.dialect i.gone.items i.kept i.need c.args.n (refused_by i.key i.noreply) c.requires.0 c.self.view_is c.self.invariant.3
    c.self.invariant.1 c.requires.1 in
    read_anew c.args.self.now i.dialect i.gone.items i.kept c.new-self-inside.result.items c.discard.new.self i.need c.args.n
    c.self.view_is t c.new-self-inside.ensures
    (c.discard.ensures.bytes ∙ ap (λ (k : ℕ). drop (c.args.n - k) i.kept) (sym c.self.invariant.0))
