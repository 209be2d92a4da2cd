use Rattle.std.proofs.Common.{◌≡◌, ◌∙◌, ◌++◌, List, ℕ, ap, sym, refl, append_assoc, codes, None, true, false}
use Rattle.proto.specs.declared.message.Message.{Message}
use Rattle.proto.specs.declared.message.Message.TheVariants.{Ask, Local, Quit, Fatal}
use Rattle.proto.specs.declared.message.LocalKind.TheVariants as local
use Rattle.proto.specs.declared.pending_answer.AnswerKind.TheVariants as kinds
use Rattle.proto.specs.declared.version.TheConstants.{TOLD_VERSION}
use Rattle.proto.specs.AnswerKinds.{kind_of}
use Rattle.proto.specs.Answers.{answer}
use Rattle.proto.proofs.pending_answer.PendingAnswer.show_local.Goals as goal

-- the answer to `version`
version : (m : Message) → kind_of m ≡ kinds.Local local.Version → answer m None
    ≡ codes "VERSION " ++ TOLD_VERSION.now ++ codes "\r\n"
version (Ask q true) e = absurd cc
version (Ask q false) e = absurd cc
version (Local local.Version) e = refl
version (Local local.Unknown) e = absurd cc
version (Local local.Verbosity) e = absurd cc
version (Local local.End) e = absurd cc
version (Local local.BadLine) e = absurd cc
version (Local local.Silent) e = absurd cc
version (Local (local.TooLarge quiet)) e = absurd cc
version Quit e = absurd cc
version (Fatal kind) e = absurd cc

pub returns-in_ok-reserve-in-Local-Version-clause-ok : goal.returns-in_ok-reserve-in-Local-Version-clause-ok
returns-in_ok-reserve-in-Local-Version-clause-ok c =
    let kind : kind_of c.args.self.now ≡ kinds.Local local.Version =
    ap kind_of (sym c.self.view_is) ∙ sym c.self.invariant ∙ c.in-Local-Version.is
    ∙ ap kinds.Local (rw c.in-Local-Version.is at c.in-Local-Version.field-0-is) in
    let text : c.extend_from_slice-in-Local-Version-2.new.self.items
    ≡ c.args.out.now.items ++ (codes "VERSION " ++ TOLD_VERSION.now ++ codes "\r\n") =
    rw (
      c.extend_from_slice-in-Local-Version-2.ensures.items,
      c.unwrap-in-Local-Version-2.ensures,
      c.extend_from_slice-in-Local-Version.ensures.items,
      c.unwrap-in-Local-Version.ensures,
      c.as_bytes.ensures.value,
      c.extend_from_slice.ensures.items,
      c.unwrap.ensures,
      c.in_ok-reserve-in-Local-Version.ensures.items,
    )
    (simp append_assoc) in
    text ∙ ap (λ (l : List ℕ). c.args.out.now.items ++ l) (sym (version c.args.self.now kind))
