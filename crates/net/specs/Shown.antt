-- What clauses see of the open streams of a port.
use Rattle.std.specs.Prelude.{◌≡◌, ⊤, ℕ, ◌<◌, ◌≤◌, Bool, true, false, cond, List, [], ◌∷◌, ◌++◌, length, Option}
use Rattle.std.specs.Option.{option_map}
use Rattle.std.specs.Map.{lookup}
use Rattle.std.specs.Bool.{nat_eq}
use Rattle.net.specs.Seen.{Seen, then_received, then_input_ended}
use Rattle.net.specs.Sockets.{served_socket}
use Rattle.net.specs.declared.open_stream.Input.{Input}
use Rattle.net.specs.declared.open_stream.Input.TheVariants.{Waiting, Listed, Draining, Paused}
use Rattle.net.specs.declared.open_stream.OpenStream.{OpenStream}
use Rattle.net.specs.declared.open_stream.Reading.{Reading}
use Rattle.net.specs.declared.open_stream.Reading.TheVariants as read

abbrev pub is_paused_input : Input → Bool
is_paused_input Waiting = false
is_paused_input Listed = false
is_paused_input Draining = false
is_paused_input (Paused _) = true

-- whether a stream stands in the list of those that are to be read
abbrev pub is_listed : Input → Bool
is_listed Waiting = false
is_listed Listed = true
is_listed Draining = true
is_listed (Paused listed) = listed

-- it was taken off the list, and is to be read
abbrev pub IsTakenOff : OpenStream → Type 0
IsTakenOff o =
    (is_listed o.input ≡ false) × (is_paused_input o.input ≡ false) × (o.stream.has_ended ≡ false)

-- its place in the list, where it stands there
abbrev pub listing : ℕ → OpenStream → List ℕ
listing session o = cond (is_listed o.input) (session ∷ []) []

-- A stream that comes to be listed goes behind the others, and one that is listed already isn't
-- listed again.
abbrev pub Lists : ℕ → OpenStream → OpenStream → List ℕ → List ℕ → Type 0
Lists session before after ready_before ready_after =
    ready_after ≡ ready_before ++ cond (is_listed before.input) [] (listing session after)

-- A stream that was read goes behind the others if more may be there, but before them while
-- something is ahead of it.
abbrev pub ListsRead : ℕ → OpenStream → List ℕ → List ℕ → Type 0
ListsRead session after ready_before ready_after =
    (length after.stream.ahead ≡ 0 → ready_after ≡ ready_before ++ listing session after)
    × (0 < length after.stream.ahead → ready_after ≡ listing session after ++ ready_before)

abbrev pub seen_of : OpenStream → Seen
seen_of o =
    record {
      socket = served_socket o.stream;
      exchange = o.stream.exchange.value;
      paused = is_paused_input o.input;
      input_ended = o.stream.has_ended;
      received = o.stream.received.items;
      sent = o.stream.sent.items;
    }

-- the open stream of this number, among these
abbrev pub shown_stream : List (ℕ × OpenStream) → ℕ → Option Seen
shown_stream streams session = option_map seen_of (lookup (nat_eq session) streams)

-- What a read of a stream, or of what is ahead of it, leaves; while it is paused, and once its
-- input has ended, nothing comes of it.
abbrev pub Arrives : Seen → Reading → Seen → Type 0
Arrives before (read.Bytes bytes) after =
    (after ≡ then_received bytes before) × (before.input_ended ≡ false) × (before.paused ≡ false)
    × (0 < length bytes) × (length bytes ≤ 16384)
Arrives before read.Nothing after = after ≡ before
Arrives before read.Ended after = (after ≡ then_input_ended before) × (before.input_ended ≡ false) × (before.paused ≡ false)
Arrives before read.Gone after = ⊤
