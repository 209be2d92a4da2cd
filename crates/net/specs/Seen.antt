-- What clauses see of one open stream.
use Rattle.std.specs.Prelude.{◌≡◌, Bool, true, false, cond, ℕ, ℤ, List, [], ◌++◌, Option, None, Some}
use Rattle.std.specs.Option.{option_map}
use Rattle.std.specs.Bool.{nat_eq}
use Rattle.exchange.specs.Ends.{TableId}

pub record Seen : Type 0 where
  pub socket : ℤ
  pub exchange : TableId
  pub paused : Bool
  pub input_ended : Bool
  pub received : List ℕ
  pub sent : List ℕ

-- a stream over this socket that was just opened for a worker of this exchange
abbrev pub fresh : ℤ → TableId → Seen
fresh socket exchange = record {
  socket = socket;
  exchange = exchange;
  paused = false;
  input_ended = false;
  received = [];
  sent = [];
}

-- these bytes, which were read from it, are told, or it took them
abbrev pub then_received : List ℕ → Seen → Seen
then_received bytes x = record x { received = x.received ++ bytes }

abbrev pub then_sent : List ℕ → Seen → Seen
then_sent bytes x = record x { sent = x.sent ++ bytes }

-- a read of no bytes came of it
abbrev pub then_input_ended : Seen → Seen
then_input_ended x = record x { input_ended = true }

-- it is paused from now on, or no longer
abbrev pub then_paused : Bool → Seen → Seen
then_paused b x = record x { paused = b }

-- whether it is open and paused
abbrev pub is_paused_stream : Option Seen → Bool
is_paused_stream None = false
is_paused_stream (Some x) = x.paused

-- whether it is open and no more comes of it
abbrev pub has_input_ended : Option Seen → Bool
has_input_ended None = false
has_input_ended (Some x) = x.input_ended

-- what was read from it, and what it took
abbrev pub received_of : Option Seen → List ℕ
received_of None = []
received_of (Some x) = x.received

abbrev pub sent_of : Option Seen → List ℕ
sent_of None = []
sent_of (Some x) = x.sent

-- its socket, where it is open
abbrev pub open_socket : Option Seen → Option ℤ
open_socket x = option_map (λ (y : Seen). y.socket) x

-- of the open streams, the one of this number is now this one, or closed, and no other changes
abbrev pub IsSet : ℕ → Option Seen → (ℕ → Option Seen) → (ℕ → Option Seen) → Type 0
IsSet session now before after = (other : ℕ) → after other ≡ cond (nat_eq session other) now (before other)
