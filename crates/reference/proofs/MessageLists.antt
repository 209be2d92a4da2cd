-- One more message that is read.
use Rattle.std.proofs.Common.{◌≡◌, ℕ, Bool, true, false, ◌||◌, List, [], ◌∷◌, ◌++◌, length, Some, None, refl, ◌∙◌, arith}
use Rattle.std.specs.List.{list_any}
use Rattle.std.proofs.lemmas.List.{append-nil}
use Rattle.proto.specs.declared.dialect.Dialect.TheVariants.{Strict}
use Rattle.proto.specs.declared.message.Request.{Request}
use Rattle.proto.specs.declared.message.Reply.{Reply}
use Rattle.proto.specs.declared.message.Message.{Message}
use Rattle.proto.specs.declared.message.Message.TheVariants.{Ask, Local, Quit, Fatal}
use Rattle.proto.specs.Grammar.{Spells}
use Rattle.proto.specs.Reading.{ends_session, Reads, asks}
use Rattle.proto.specs.Answers.{answer, is_ask, said}
use Rattle.proto.proofs.AskLemmas.{asks-append, onto}
use Rattle.proto.proofs.ReadingLemmas.{reads_one, reads_on, ends-append}

-- one message more
pub read_more : (read piece : List ℕ) (ms : List Message) (m : Message) → list_any ends_session ms ≡ false
    → Reads Strict read ms [] → Spells Strict piece m → Reads Strict (read ++ piece) (ms ++ m ∷ []) []
read_more read piece ms m go_on reads spells =
    reads_on Strict (read ++ piece) read piece [] ms (m ∷ []) refl go_on reads (reads_one Strict piece m spells)

-- whether it ends the session
pub ended_more : (ms : List Message) (m : Message) → list_any ends_session ms ≡ false
    → list_any ends_session (ms ++ m ∷ []) ≡ ends_session m
ended_more ms m go_on = ends-append ms (m ∷ []) go_on ∙ or_false (ends_session m)
  where
    or_false : (b : Bool) → (b || false) ≡ b
    or_false true = refl
    or_false false = refl

-- one request more, and its answer
pub said_ask : (ms : List Message) (rs : List Reply) (q : Request) (quiet : Bool) (r : Reply)
    → length rs ≡ length (asks ms)
    → said (ms ++ Ask q quiet ∷ []) (rs ++ r ∷ []) ≡ said ms rs ++ answer (Ask q quiet) (Some r)
said_ask [] [] q quiet r e = append-nil (answer (Ask q quiet) (Some r))
said_ask [] (x ∷ rs) q quiet r e = absurd (omega arith)
said_ask (Ask p b ∷ ms) [] q quiet r e = absurd (omega arith)
said_ask (Ask p b ∷ ms) (x ∷ rs) q quiet r e =
    onto (answer (Ask p b) (Some x)) _ (said ms rs) _ (said_ask ms rs q quiet r (omega arith))
said_ask (Local kind ∷ ms) rs q quiet r e =
    onto (answer (Local kind) None) _ (said ms rs) _ (said_ask ms rs q quiet r e)
said_ask (Quit ∷ ms) rs q quiet r e = onto (answer Quit None) _ (said ms rs) _ (said_ask ms rs q quiet r e)
said_ask (Fatal kind ∷ ms) rs q quiet r e =
    onto (answer (Fatal kind) None) _ (said ms rs) _ (said_ask ms rs q quiet r e)

-- what is said to a message that is no request
said_one : (m : Message) → is_ask m ≡ false → said (m ∷ []) [] ≡ answer m None
said_one (Ask q quiet) e = absurd cc
said_one (Local kind) e = append-nil (answer (Local kind) None)
said_one Quit e = refl
said_one (Fatal kind) e = append-nil (answer (Fatal kind) None)

-- one message more that is no request, and its answer
pub said_other : (ms : List Message) (rs : List Reply) (m : Message) → is_ask m ≡ false → length rs ≡ length (asks ms)
    → said (ms ++ m ∷ []) rs ≡ said ms rs ++ answer m None
said_other [] [] m other e = said_one m other
said_other [] (x ∷ rs) m other e = absurd (omega arith)
said_other (Ask p b ∷ ms) [] m other e = absurd (omega arith)
said_other (Ask p b ∷ ms) (x ∷ rs) m other e =
    onto (answer (Ask p b) (Some x)) _ (said ms rs) _ (said_other ms rs m other (omega arith))
said_other (Local kind ∷ ms) rs m other e =
    onto (answer (Local kind) None) _ (said ms rs) _ (said_other ms rs m other e)
said_other (Quit ∷ ms) rs m other e = onto (answer Quit None) _ (said ms rs) _ (said_other ms rs m other e)
said_other (Fatal kind ∷ ms) rs m other e =
    onto (answer (Fatal kind) None) _ (said ms rs) _ (said_other ms rs m other e)

-- a message that is no request adds none
pub asks_other : (ms : List Message) (m : Message) → is_ask m ≡ false → asks (ms ++ m ∷ []) ≡ asks ms
asks_other ms (Ask q quiet) other = absurd cc
asks_other ms (Local kind) other = asks-append ms (Local kind ∷ []) ∙ append-nil (asks ms)
asks_other ms Quit other = asks-append ms (Quit ∷ []) ∙ append-nil (asks ms)
asks_other ms (Fatal kind) other = asks-append ms (Fatal kind ∷ []) ∙ append-nil (asks ms)
