use Rattle.std.proofs.Common.{◌≡◌, ◌+◌, drop}
use Rattle.proto.specs.Commands.{hits_of}
use Rattle.proto.specs.declared.limits.TheConstants.{MAX_ANSWER}
use Rattle.engine.specs.AnswerSizes.{shown_size}
use Rattle.engine.specs.Finding.{keys_found}
use Rattle.engine.proofs.showing.are_too_long.Given as goal

-- what is left once the hits so far are shown, and the others
abbrev pub invariant-loop-i : goal.invariant-loop-i
invariant-loop-i g l =
    l.left + shown_size (hits_of l.with_cas (g.M.LiveMap.entries l.map) (keys_found l.found))
    ≡ MAX_ANSWER + shown_size (hits_of l.with_cas (g.M.LiveMap.entries l.map) (keys_found (drop l.i l.found)))
