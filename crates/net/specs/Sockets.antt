-- What clauses see of a socket: its number with the system.
use Rattle.std.specs.Prelude.{◌≡◌, ℤ, pos, List, [], ◌∷◌, false}
use Rattle.mio.specs.Net.{stream_fd}
use Rattle.exchange.specs.Ends.{TableId}
use Rattle.net.specs.declared.sockets.raw.RawStream.{RawStream}
use Rattle.net.specs.declared.sockets.raw.RawStream.TheVariants.{Tcp, Unix}
use Rattle.net.specs.declared.sockets.NewStream.{NewStream}
use Rattle.net.specs.declared.sockets.logged_stream.LoggedStream.{LoggedStream}

-- the socket of a raw stream of either kind
abbrev pub raw_socket : RawStream → ℤ
raw_socket (Tcp stream) = stream_fd stream
raw_socket (Unix stream) = stream_fd stream

-- the socket of an accepted stream
abbrev pub socket_of : NewStream → ℤ
socket_of new = raw_socket new.stream

-- the socket of the first stream of a list
abbrev pub first_socket : List RawStream → ℤ
first_socket [] = pos 0
first_socket (stream ∷ _) = raw_socket stream

-- the socket of a session's stream, which is the one that it was handed over with
abbrev pub served_socket : LoggedStream RawStream → ℤ
served_socket served = first_socket served.origin.items

-- a stream over this socket, of this exchange, from which nothing was read, and which took nothing
pub record IsNewLog (socket : ℤ) (exchange : TableId) (served : LoggedStream RawStream) : Type 0 where
  pub socket_is : served_socket served ≡ socket
  pub exchange_is : served.exchange.value ≡ exchange
  pub received : served.received.items ≡ []
  pub sent : served.sent.items ≡ []
  pub goes_on : served.has_ended ≡ false
