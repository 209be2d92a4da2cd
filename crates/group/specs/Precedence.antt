-- Which of two answered requests comes first in real time, and what the later one sees.
use Rattle.std.specs.Prelude.{◌≡◌, ◌≤◌, ℕ, List, [], ◌∷◌, ◌++◌, length}
use mathlib.Core.Option.{some}
use lib.ListN.{get_elem?}
use Rattle.proto.specs.declared.message.Message.{Message}
use Rattle.proto.specs.declared.history.Answered.{Answered}
use Rattle.proto.specs.Sizes.{Sizes}
use Rattle.proto.specs.Cache.{Cache}
use Rattle.proto.specs.Reading.{Reads, asks}
use Rattle.proto.specs.Steps.{Step}
use Rattle.proto.specs.History.{Chain, session_share}
use Rattle.worker_port.specs.Ports.{PortTrace, fed}

-- The one was answered before the other was sent, at one port or at two. The one stands in the
-- earlier history, by which its answer was given. The other's port has told this trace by now, and
-- what came of the other's session so far spells these messages. In a later history the other is a
-- further request of the session, behind all that they ask.
abbrev pub AnsweredBeforeSent : List Answered → PortTrace → List Answered → Answered → Answered → Type 0
AnsweredBeforeSent earlier sending later one other =
    (place further : ℕ) × (messages : List Message) × (rest : List ℕ) × (get_elem? earlier place ≡ some one)
    × Reads sending.dialect (fed other.session sending.events) messages rest × (length (asks messages) ≤ further)
    × (get_elem? (session_share later sending.worker other.session) further ≡ some other)

-- In the history the one comes before the other, and a chain leads through both and all entries
-- between them. So the other is executed on the cache that the one left, or on what the entries
-- between them made of it.
abbrev pub SeesLeft : Sizes → List Answered → Answered → Answered → Type 0
SeesLeft sizes history one other =
    (before between after : List Answered) × (history ≡ before ++ one ∷ (between ++ other ∷ after))
    × (found : Cache) × (caches : List Cache) × Chain (Step sizes) found (one ∷ (between ++ other ∷ [])) caches
