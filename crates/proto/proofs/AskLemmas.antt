-- The requests among messages, and bytes that are joined.
use Rattle.std.proofs.Common.{◌≡◌, ℕ, List, [], ◌∷◌, ◌++◌, refl, sym, ap, ◌∙◌, append_assoc}
use Rattle.proto.specs.declared.message.Request.{Request}
use Rattle.proto.specs.declared.message.Message.{Message}
use Rattle.proto.specs.declared.message.Message.TheVariants.{Ask, Local, Quit, Fatal}
use Rattle.proto.specs.Reading.{asks}

-- the requests of two lists of messages
pub asks-append : (ms ns : List Message) → asks (ms ++ ns) ≡ asks ms ++ asks ns
asks-append [] ns = refl
asks-append (Ask q quiet ∷ ms) ns = ap (λ (qs : List Request). q ∷ qs) (asks-append ms ns)
asks-append (Local kind ∷ ms) ns = asks-append ms ns
asks-append (Quit ∷ ms) ns = asks-append ms ns
asks-append (Fatal kind ∷ ms) ns = asks-append ms ns

-- what is joined after a front
pub onto : (front a b c : List ℕ) → a ≡ b ++ c → front ++ a ≡ (front ++ b) ++ c
onto front a b c e = ap (λ (x : List ℕ). front ++ x) e ∙ sym (append_assoc front b c)
