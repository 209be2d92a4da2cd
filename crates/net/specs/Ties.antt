-- How what a port told agrees with its open streams.
use Rattle.std.specs.Prelude.{◌≡◌, ℕ, ℤ, ◌-◌, ◌<◌, Bool, true, false, List, [], ◌++◌, length, is_some, Option, Some, slice_get}
use Rattle.std.specs.Map.{lookup}
use Rattle.std.specs.Bool.{nat_eq}
use Rattle.exchange.specs.Ends.{TableId}
use Rattle.worker_port.specs.declared.events.PortRecord.{PortRecord}
use Rattle.worker_port.specs.declared.events.PortRecord.TheVariants as was
use Rattle.worker_port.specs.Ports.{fed, given, is_in, is_open, opened_count}
use Rattle.net.specs.declared.open_stream.OpenStream.{OpenStream}
use Rattle.net.specs.Seen.{Seen, has_input_ended, received_of, sent_of, open_socket}

-- a session is open in the list exactly where its stream is
abbrev pub OpenAgrees : (ℕ → Option Seen) → List PortRecord → Type 0
OpenAgrees streams events = (s : ℕ) → is_open s events ≡ is_some (streams s)

-- the data of an open session, joined, is what was read from its stream and is told, and what was
-- accepted is what it took; and its input has ended where a read of no bytes came
abbrev pub BytesAgree : (ℕ → Option Seen) → List PortRecord → Type 0
BytesAgree streams events =
    (s : ℕ) → is_some (streams s) ≡ true
    → (fed s events ≡ received_of (streams s)) × (given s events ≡ sent_of (streams s))
    × (is_in (was.EndOfInput s) events ≡ has_input_ended (streams s))

-- nothing was told of the numbers after the last
abbrev pub NoneBehind : ℕ → List PortRecord → Type 0
NoneBehind last events =
    (s : ℕ) → last < s
    → (is_in (was.Opened s) events ≡ false) × (is_in (was.EndOfInput s) events ≡ false) × (is_in (was.Gone s) events ≡ false)
    × (is_in (was.Shut s) events ≡ false) × (fed s events ≡ []) × (given s events ≡ [])

-- what was read from an open session's stream is its data, joined, and then what is ahead
abbrev pub ReadAgrees : List (ℕ × OpenStream) → List PortRecord → Type 0
ReadAgrees streams events =
    (s : ℕ) (o : OpenStream) → lookup (nat_eq s) streams ≡ Some o → o.stream.came.items ≡ fed s events ++ o.stream.ahead

abbrev pub Ties : (ℕ → Option Seen) → ℕ → List PortRecord → Bool → Type 0
Ties streams last events ended =
    OpenAgrees streams events × BytesAgree streams events × NoneBehind last events × (is_in was.Ended events ≡ ended)
    × (opened_count events ≡ last)

-- an open session has the socket with which it was opened, of those of all sessions from number 1
-- on
abbrev pub SocketsAgree : (ℕ → Option Seen) → List ℤ → Type 0
SocketsAgree streams sockets =
    (s : ℕ) → is_some (streams s) ≡ true → slice_get sockets (s - 1) ≡ open_socket (streams s)

-- the same, and `last` sessions were opened
abbrev pub SocketTies : (ℕ → Option Seen) → ℕ → List ℤ → Type 0
SocketTies streams last sockets = SocketsAgree streams sockets × (length sockets ≡ last)

-- each open stream is of this exchange
abbrev pub AreOfExchange : TableId → (ℕ → Option Seen) → Type 0
AreOfExchange exchange streams = (s : ℕ) (x : Seen) → streams s ≡ Some x → x.exchange ≡ exchange
