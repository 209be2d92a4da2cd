-- A storage side may go to another thread, as its store and its clock may. This is written by hand,
-- since the prover does not find it for the snapshots of what a side began with.
use denote.RattleType.{RattleType}
use denote.Ref.{NamedLft}
use denote.Param.Send.{IsSend, sendable}
use denote.Param.SendFields.{declared_send}
use Rattle.std.proofs.Crossing.{crosses}
use Rattle.std.proofs.sync.OnceToken.TheSendSync as token
use Rattle.exchange.proofs.storage.StorageLanes.TheSendSync.{the_send as batch_send}
use Rattle.engine.specs.declared.storage_engine.StorageEngine as StorageEngine
use Rattle.proto.specs.declared.clock.Clock as Clock
use Rattle.storage_thread.specs.declared.sharing.LockId as LockId
use Rattle.storage_thread.specs.contracts.side.SideState as SideState
use Rattle.storage_thread.specs.contracts.side.StorageSide as StorageSide
use Rattle.storage_thread.specs.contracts.side.StorageSide.TheInside as SideInside
use Rattle.storage_thread.specs.contracts.sharing.SharedSide as SharedSide
use Rattle.storage_thread.specs.contracts.sharing.SharedSide.TheInside as SharedInside

pub state_send : (S C : RattleType) → IsSend S → IsSend C → IsSend (SideState.the_row S C)
state_send S C s c = search (sendable, crosses, batch_send) depth 60

pub inside_send : (S C : RattleType) (e : StorageEngine.Ghosts S.Denot) (k : Clock.Ghosts C.Denot) → IsSend S → IsSend C
    → IsSend (SideInside.the_row S C e k)
inside_send S C e k s c = declared_send (SideInside.the_type S C e k) (state_send S C s c, tt)

pub side_send : (S C : RattleType) (e : StorageEngine.Ghosts S.Denot) (k : Clock.Ghosts C.Denot) → IsSend S → IsSend C
    → IsSend (StorageSide.the_row S C e k)
side_send S C e k s c = denote.Param.Send.view_send (SideInside.the_row S C e k) _ _ _ _ (inside_send S C e k s c)

pub shared_inside_send : (a : NamedLft) (S C N : RattleType) (e : StorageEngine.Ghosts S.Denot) (k : Clock.Ghosts C.Denot)
    (n : LockId.Ghosts N.Denot) → IsSend S → IsSend C → IsSend N
    → IsSend (SharedInside.the_row a S C N e k n)
shared_inside_send a S C N e k n s c j = declared_send (SharedInside.the_type a S C N e k n) (
  side_send S C e k s c,
  (
    search (sendable, crosses, token.the_send) depth 60,
    (search (sendable, crosses) depth 60, (search (sendable, crosses) depth 60, tt)),
  ),
)

pub shared_send : (a : NamedLft) (S C N : RattleType) (e : StorageEngine.Ghosts S.Denot) (k : Clock.Ghosts C.Denot)
    (n : LockId.Ghosts N.Denot) → IsSend S → IsSend C → IsSend N
    → IsSend (SharedSide.the_row a S C N e k n)
shared_send a S C N e k n s c j =
    denote.Param.Send.view_send (SharedInside.the_row a S C N e k n) _ _ _ _ (shared_inside_send a S C N e k n s c j)
