use Rattle.std.proofs.Common.{◌≡◌, ◌+◌, ◌≤◌, ◌++◌, length, sum_by}
use Rattle.proto.specs.Commands.{hits_of}
use Rattle.proto.specs.Hits.{hit_room}
use Rattle.engine.specs.AnswerSizes.{shown_size}
use Rattle.engine.specs.Finding.{AreFound, keys_found}
use Rattle.engine.proofs.showing.list_found.Given as goal

-- what was found so far, and the room of its hits
abbrev pub invariant-loop-key : goal.invariant-loop-key
invariant-loop-key g l = record {
  are_found : AreFound g.M.LiveMap l.map l.found.items;
  hits : hits_of l.with_cas (g.M.LiveMap.entries l.map) (keys_found l.found.items)
      ++ hits_of l.with_cas (g.M.LiveMap.entries l.map) l.words
      ≡ hits_of l.with_cas (g.M.LiveMap.entries l.map) l.initial.words;
  within : length (hits_of l.with_cas (g.M.LiveMap.entries l.map) l.words)
      ≤ length (hits_of l.with_cas (g.M.LiveMap.entries l.map) l.initial.words);
  counted : l.room + sum_by hit_room (hits_of l.with_cas (g.M.LiveMap.entries l.map) l.words) ≡ sum_by hit_room
      (hits_of l.with_cas (g.M.LiveMap.entries l.map) l.initial.words);
  enough : shown_size (hits_of l.with_cas (g.M.LiveMap.entries l.map) l.initial.words)
      ≤ l.room + shown_size (hits_of l.with_cas (g.M.LiveMap.entries l.map) l.words);
}

abbrev pub decreases-loop-key : goal.decreases-loop-key
decreases-loop-key g l = length l.words
