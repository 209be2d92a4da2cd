-- A port over sockets may go to another thread.
use denote.RattleType.{RattleType}
use denote.Param.Send.{IsSend, AllSend, sendable, struct_send, recorded_send}
use denote.Struct.Struct.{Struct}
use denote.Struct.Declared.{shape}
use Rattle.std.proofs.Crossing.{crosses, send, sync, frees}
use Rattle.std.proofs.MapsCrossing as maps
use Rattle.proto.specs.contracts.trace.Trace as trace
use Rattle.atomic_table.specs.contracts.badge.Badge as badge
use Rattle.atomic_table.specs.contracts.shared.Shared as shared
use Rattle.atomic_table.specs.declared.shared.TableRule.{Ghosts}
use Rattle.atomic_table.proofs.Sent.{badge_keyless, owns_keyless, shares_keyless}
use denote.Struct.Owning as owning
use denote.Param.Send.{IsSync, Frees, part_keyless}
use Rattle.std.specs.declared.alloc.Allocator as alloc
use Rattle.atomic_table.specs.contracts.send_lease.SendLease as lease
use Rattle.exchange.specs.contracts.told.ToldHistory as told
use Rattle.exchange.specs.contracts.told.ExchangeName as name
use Rattle.bytes.specs.contracts.shared.Bytes as bytes
use Rattle.bytes.proofs.shared.Bytes.TheSendSync as bytes_crosses
use Rattle.net.specs.contracts.open_stream.OpenStream as opened
use Rattle.net.specs.contracts.read_memory.ReadMemory as memory
use Rattle.net.specs.contracts.streams.Streams as streams
use Rattle.net.specs.contracts.hand.Hand as hand
use Rattle.net.specs.contracts.hand.Shared as ends
use Rattle.net.specs.contracts.sockets.NewStream as new_stream
use Rattle.net.specs.contracts.lingering.LingeringStreams as lingering
use Rattle.net.specs.contracts.peer.Peer as peer
use Rattle.net.specs.contracts.closings.Closing as closing
use Rattle.net.specs.contracts.closings.Slot as slot
use Rattle.crossbeam_queue.specs.contracts.array_queue.plain.ArrayQueue as queue
use Rattle.atomic_table.proofs.Rights.{right_send}
use Rattle.std_heap.specs.contracts.Global as heap
use Rattle.std_heap.specs.contracts.GlobalAllocator.TheImpl.{ghosts}
use Rattle.net.specs.contracts.port.MioPort as port

-- what has no bytes owns nothing
trace_sends : (A : RattleType) → IsSend (trace.the_row A)
trace_sends A = record { owned = λ d vs. ((λ vss. (tt, ((λ uss. (tt, tt)), tt))), tt); leaving = λ k f vs. tt }

badge_sends : (V : RattleType) → IsSend (badge.the_row V)
badge_sends V = record {
  owned = λ d vs. ((λ vss. (tt, ((λ uss. (tt, tt)), tt))), badge_keyless V.coded.code d.table_id d.id d.views);
  leaving = λ k f vs. tt;
}

told_sends : IsSend told.the_row
told_sends = search (crosses, badge_sends, sendable) depth 20

name_sends : IsSend name.the_row
name_sends = search (crosses, sendable) depth 20

bytes_send : IsSend (bytes.the_row heap.the_row ghosts)
bytes_send = bytes_crosses.the_send heap.the_row ghosts send sync frees

opened_sends : IsSend opened.the_row
opened_sends = search (crosses, trace_sends, bytes_send, sendable) depth 30

memory_sends : IsSend (memory.the_field).row
memory_sends = search (crosses, bytes_send, sendable) depth 30

peer_sends : IsSend (peer.the_field).row
peer_sends = search (crosses, sendable) depth 30

lingering_sends : IsSend (lingering.the_field).row
lingering_sends = search (crosses, sendable) depth 40 fits 20000

-- (field by field: one search for all of them takes too many steps)
streams_send : IsSend (Struct (shape streams.the_type))
streams_send =
    let fields : AllSend (shape streams.the_type).fields = (
      search (crosses, sendable) depth 30,
      (
        search (crosses, maps.crosses, opened_sends, sendable) depth 40 fits 20000,
        (
          search (crosses, sendable) depth 30,
          (
            search sendable,
            (
              lingering_sends,
              (
                search (crosses, sendable) depth 30,
                (
                  memory_sends,
                  (
                    search sendable,
                    (
                      search sendable,
                      (
                        peer_sends,
                        (
                          search (trace_sends, sendable) depth 10,
                          (
                            search sendable,
                            (
                              search sendable depth 30,
                              (
                                name_sends,
                                (
                                  search (crosses, told_sends, sendable) depth 30,
                                  (search (trace_sends, sendable) depth 10, tt),
                                ),
                              ),
                            ),
                          ),
                        ),
                      ),
                    ),
                  ),
                ),
              ),
            ),
          ),
        ),
      ),
    )
    in
    struct_send (shape streams.the_type) fields

shared_send : (S V K P : RattleType) (g : Ghosts P.Denot S.Denot V.Denot K.Denot) → IsSend S → IsSend (shared.the_row S V K P g)
shared_send S V K P g s = record {
  owned = λ d vs. (
    (λ vss. (tt, (tt, (tt, ((λ uss. (tt, tt)), tt))))),
    owns_keyless S s V.coded.code d.table_id (g.holds d.key) d.words d.slots,
  );
  leaving = λ k f vs. tt;
}

shared_sync : (S V K P : RattleType) (g : Ghosts P.Denot S.Denot V.Denot K.Denot) → IsSend S → IsSync (shared.the_row S V K P g)
shared_sync S V K P g s = let fields : IsSync (Struct (owning.shape (shared.the_type S V K P g))) = search sendable depth 20 in
    record {
      shared = λ d b o ν. (
        fields.shared (d.words, (d.slots, (tt, tt))) b o ν,
        shares_keyless S s V.coded.code d.table_id (g.holds d.key) d.words d.slots ν,
      );
    }

new_sends : IsSend new_stream.the_row
new_sends = search (crosses, sendable) depth 30

queue_send : IsSend (Struct (shape (queue.the_type new_stream.the_row heap.the_row ghosts)))
queue_send = search (crosses, new_sends, shared_send, right_send, sendable) depth 60

lease_sync : (T A : RattleType) (g : alloc.Ghosts A.Denot) → Frees g g.dealloc_token → IsSync (lease.the_row T A g)
lease_sync T A g f = record { shared = λ d b o ν q. part_keyless (lease.the_row T A g) (right_send T A g f) q d b o }

queue_sync : IsSync (Struct (shape (queue.the_type new_stream.the_row heap.the_row ghosts)))
queue_sync = search (crosses, new_sends, shared_sync, lease_sync, sendable) depth 60

closing_sends : IsSend closing.the_row
closing_sends = search (crosses, sendable) depth 60

told_queue_send : IsSend (Struct (shape (queue.the_type closing.the_row heap.the_row ghosts)))
told_queue_send = search (crosses, closing_sends, shared_send, right_send, sendable) depth 60

told_queue_sync : IsSync (Struct (shape (queue.the_type closing.the_row heap.the_row ghosts)))
told_queue_sync = search (crosses, closing_sends, shared_sync, lease_sync, sendable) depth 60

slot_send : IsSend slot.the_row
slot_send = search (crosses, told_queue_send, sendable) depth 30

slot_sync : IsSync slot.the_row
slot_sync = search (crosses, told_queue_sync, sendable) depth 30

ends_send : IsSend ends.the_row
ends_send = search (crosses, queue_send, slot_send, sendable) depth 30 fits 5000

ends_sync : IsSync ends.the_row
ends_sync = search (crosses, queue_sync, slot_sync, sendable) depth 30 fits 5000

hand_sends : IsSend (Struct (shape hand.the_type))
hand_sends = search (crosses, ends_send, ends_sync, sendable) depth 60

pub port_sends : (R : RattleType) → IsSend R → IsSend (port.the_row R)
port_sends R sends =
    let port_type = port.the_type R in
    let fields : AllSend (shape port_type).fields = (
      sends,
      (
        hand_sends,
        (
          search (crosses, sendable) depth 30,
          (
            search (crosses, sendable) depth 30,
            (
              streams_send,
              (search sendable depth 30, (search sendable depth 30, (search sendable, (search sendable, (search sendable, tt))))),
            ),
          ),
        ),
      ),
    ) in
    recorded_send (Struct (shape port_type)) port_type.D port_type.to port_type.to_one (struct_send (shape port_type) fields)
