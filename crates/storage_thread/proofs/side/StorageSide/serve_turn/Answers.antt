use Rattle.storage_thread.proofs.Sides.{told_more}
use Rattle.storage_thread.proofs.side.StorageSide.serve_turn.Goals as goal

pub invariant_of-self : goal.invariant_of-self
invariant_of-self g c = let m = g.S.StorageEngine in let n = g.C.Clock in
    told_more m.cache m.moment m.sizes m.keeps m.is_exact m.may_refuse n.told n.start n.leads_to c.self-2.inside.state c.self-2.invariant
    c.tell_workers.new.end c.tell_workers.ensures.end
