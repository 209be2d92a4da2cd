-- How the answers grow with the replies.
use Rattle.std.proofs.Common.{◌≡◌, ℕ, ◌≤◌, List, [], ◌∷◌, ◌++◌, length, refl, ap, ◌∙◌, append_assoc, arith}
use Rattle.proto.specs.declared.message.Reply.{Reply}
use Rattle.proto.specs.declared.message.Message.{Message}
use Rattle.proto.specs.declared.message.Message.TheVariants.{Ask, Local, Quit, Fatal}
use Rattle.std.specs.Prelude.{Some, None}
use Rattle.proto.specs.Reading.{asks}
use Rattle.proto.specs.Answers.{said, answer}
use Rattle.exchange.specs.Beginnings.{StartsWith}
use Rattle.proto.proofs.AskLemmas.{onto}

-- with more replies more is said
pub said_more : (ms : List Message) (rs more : List Reply) → StartsWith (said ms (rs ++ more)) (said ms rs)
said_more [] rs more = ([], refl)
said_more (Ask q quiet ∷ ms) [] more = (said (Ask q quiet ∷ ms) more, refl)
said_more (Ask q quiet ∷ ms) (r ∷ rs) more = let h = said_more ms rs more in
    (h.0, onto (answer (Ask q quiet) (Some r)) (said ms (rs ++ more)) (said ms rs) h.0 h.1)
said_more (Local kind ∷ ms) rs more = let h = said_more ms rs more in
    (h.0, onto (answer (Local kind) None) (said ms (rs ++ more)) (said ms rs) h.0 h.1)
said_more (Quit ∷ ms) rs more = said_more ms rs more
said_more (Fatal kind ∷ ms) rs more = let h = said_more ms rs more in
    (h.0, onto (answer (Fatal kind) None) (said ms (rs ++ more)) (said ms rs) h.0 h.1)

-- with more messages too
pub said_further : (ms ns : List Message) (rs : List Reply) → StartsWith (said (ms ++ ns) rs) (said ms rs)
said_further [] ns rs = (said ns rs, refl)
said_further (Ask q quiet ∷ ms) ns [] = ([], refl)
said_further (Ask q quiet ∷ ms) ns (r ∷ rs) = let h = said_further ms ns rs in
    (h.0, onto (answer (Ask q quiet) (Some r)) (said (ms ++ ns) rs) (said ms rs) h.0 h.1)
said_further (Local kind ∷ ms) ns rs = let h = said_further ms ns rs in
    (h.0, onto (answer (Local kind) None) (said (ms ++ ns) rs) (said ms rs) h.0 h.1)
said_further (Quit ∷ ms) ns rs = said_further ms ns rs
said_further (Fatal kind ∷ ms) ns rs = let h = said_further ms ns rs in
    (h.0, onto (answer (Fatal kind) None) (said (ms ++ ns) rs) (said ms rs) h.0 h.1)

-- nothing more where each request has its reply
pub said_all : (ms : List Message) (rs more : List Reply) → length (asks ms) ≤ length rs
    → said ms (rs ++ more) ≡ said ms rs
said_all [] rs more le = refl
said_all (Ask q quiet ∷ ms) [] more le = absurd (omega arith)
said_all (Ask q quiet ∷ ms) (r ∷ rs) more le =
    ap (λ (x : List ℕ). answer (Ask q quiet) (Some r) ++ x) (said_all ms rs more (omega arith))
said_all (Local kind ∷ ms) rs more le = ap (λ (x : List ℕ). answer (Local kind) None ++ x) (said_all ms rs more le)
said_all (Quit ∷ ms) rs more le = said_all ms rs more le
said_all (Fatal kind ∷ ms) rs more le = ap (λ (x : List ℕ). answer (Fatal kind) None ++ x) (said_all ms rs more le)

-- a beginning of a beginning of a list is a beginning of the list
pub begins_on : {A : Type 0} (a b c : List A) → StartsWith b a → StartsWith c b → StartsWith c a
begins_on a b c h k = (h.0 ++ k.0, k.1 ∙ ap (λ x. x ++ k.0) h.1 ∙ append_assoc a h.0 k.0)
