-- A port that plays a script may go to another thread.
use denote.Param.Send.{IsSend, sendable}
use Rattle.std.proofs.Crossing.{crosses}
use Rattle.bytes.proofs.shared.Bytes.TheSendSync as bytes
use Rattle.std.proofs.alloc.Global.TheSendSync as heap
use Rattle.atomic_table.proofs.badge.Badge.TheSendSync as badge
use Rattle.proto.proofs.trace.Trace.TheSendSync as trace
use Rattle.script.specs.contracts.remaining.Remaining as remaining
use Rattle.script.specs.contracts.sessions.Sessions as sessions
use Rattle.script.specs.contracts.player.Player as player
use Rattle.script.specs.contracts.port.ScriptPort as port
use Rattle.exchange.specs.contracts.told.ToldHistory as told
use Rattle.exchange.specs.contracts.told.ExchangeName as name

remaining_sends : IsSend remaining.the_row
remaining_sends = search (crosses, bytes.the_send, heap.the_send, heap.the_sync, sendable) depth 60

sessions_sends : IsSend sessions.the_row
sessions_sends = search (crosses, sendable) depth 60

player_sends : IsSend player.the_row
player_sends = search (crosses, remaining_sends, sessions_sends, trace.the_send, sendable) depth 60

told_sends : IsSend told.the_row
told_sends = search (crosses, badge.the_send, sendable) depth 60

name_sends : IsSend name.the_row
name_sends = search (crosses, sendable) depth 60

pub port_sends : IsSend port.the_row
port_sends = search (crosses, player_sends, told_sends, name_sends, sendable) depth 60
