-- What is read, when more is read after it.
use Rattle.std.proofs.Common.{◌≡◌, true, false, List, [], ◌∷◌, ◌++◌, Option, Some, None, is_some, refl, sym, ap, ◌∙◌}
use Rattle.std.specs.List.{list_any}
use Rattle.std.proofs.lemmas.Bool.{both_ways}
use Rattle.proto.specs.declared.message.Message.{Message}
use Rattle.proto.specs.declared.message.Message.TheVariants.{Ask, Local, Quit, Fatal}
use Rattle.proto.specs.Reading.{ends_session}
use Rattle.session_book.specs.declared.causes.EndCause.{EndCause}
use Rattle.session_book.specs.Session.{ended_by}

-- what has ended a session behind two lists of messages is found by reading one list and then the
-- other
pub ended_by-append : (ended : Option EndCause) (ms ns : List Message)
    → ended_by ended (ms ++ ns) ≡ ended_by (ended_by ended ms) ns
ended_by-append ended [] ns = refl
ended_by-append ended (Ask q quiet ∷ ms) ns = ended_by-append ended ms ns
ended_by-append ended (Local kind ∷ ms) ns = ended_by-append ended ms ns
ended_by-append ended (Quit ∷ ms) ns = ended_by-append _ ms ns
ended_by-append ended (Fatal kind ∷ ms) ns = ended_by-append _ ms ns

-- what has ended stays so
pub ended_stays : (ended : Option EndCause) (ms : List Message) → is_some ended ≡ true
    → is_some (ended_by ended ms) ≡ true
ended_stays ended [] e = e
ended_stays ended (Ask q quiet ∷ ms) e = ended_stays ended ms e
ended_stays ended (Local kind ∷ ms) e = ended_stays ended ms e
ended_stays ended (Quit ∷ ms) e = ended_stays _ ms refl
ended_stays ended (Fatal kind ∷ ms) e = ended_stays _ ms refl

-- where nothing has ended afterwards, nothing had before
pub not_ended_before : (ended : Option EndCause) (ms : List Message) → ended_by ended ms ≡ None → ended ≡ None
not_ended_before None ms e = refl
not_ended_before (Some c) ms e =
    let stays : is_some (ended_by (Some c) ms) ≡ true = ended_stays (Some c) ms refl in
    let gone : is_some (ended_by (Some c) ms) ≡ false = ap (λ (o : Option EndCause). is_some o) e in
    absurd (both_ways _ gone stays)

-- something has ended the session exactly where a message does
pub has_ended_by : (ms : List Message) → is_some (ended_by None ms) ≡ list_any ends_session ms
has_ended_by [] = refl
has_ended_by (Ask q quiet ∷ ms) = has_ended_by ms
has_ended_by (Local kind ∷ ms) = has_ended_by ms
has_ended_by (Quit ∷ ms) = ended_stays _ ms refl
has_ended_by (Fatal kind ∷ ms) = ended_stays _ ms refl

-- where nothing has, no message does
pub none_ends : (ms : List Message) → ended_by None ms ≡ None → list_any ends_session ms ≡ false
none_ends ms e = sym (has_ended_by ms) ∙ ap (λ (o : Option EndCause). is_some o) e
