use Rattle.std.proofs.Common.{◌≡◌, ◌++◌, drop, sum_by}
use Rattle.proto.specs.Commands.{hits_of}
use Rattle.proto.specs.Hits.{hit_room}
use Rattle.engine.specs.Keeping.{StaysKept}
use Rattle.engine.specs.Counting.{CountsEach, keys_of}
use Rattle.engine.specs.Finding.{AreFound, keys_found}
use Rattle.engine.proofs.showing.hits_found.Given as goal

-- the hits so far are there and counted, the others stand where they were found, and their room is
-- left
abbrev pub invariant-loop-i : goal.invariant-loop-i
invariant-loop-i g l = record {
  are_found : AreFound g.M.LiveMap l.map l.found;
  found : l.hits.hits ++ hits_of l.with_cas (g.M.LiveMap.entries l.initial.map) (keys_found (drop l.i l.found))
      ≡ hits_of l.with_cas (g.M.LiveMap.entries l.initial.map) (keys_found l.found);
  room : l.hits.room
      ≡ sum_by hit_room (hits_of l.with_cas (g.M.LiveMap.entries l.initial.map) (keys_found (drop l.i l.found)));
  counted : CountsEach g.M.LiveMap.reads l.initial.map (keys_of l.hits.hits) l.map;
  entries : g.M.LiveMap.entries l.map ≡ g.M.LiveMap.entries l.initial.map;
  sizes : g.M.LiveMap.sizes l.map ≡ g.M.LiveMap.sizes l.initial.map;
  moment : g.M.LiveMap.moment l.map ≡ g.M.LiveMap.moment l.initial.map;
  kept : StaysKept g.M.LiveMap.keeps l.initial.map l.map;
}
