use Rattle.std.proofs.Common.{◌≡◌, sym, subst}
use mathlib.Core.Option.{some}
use lib.ListN.{get_elem?}
use Rattle.proto.specs.Reading.{asks}
use Rattle.proto.specs.History.{session_share}
use Rattle.group.proofs.Precedence.{later_sees}
use Rattle.group.proofs.laws.later_requests_see_earlier_ones.Goals as goal

pub returns-clause-sees : goal.returns-clause-sees
returns-clause-sees c =
    λ sizes sending later one other asked joined legal p.
    let s = other.session in
    let place = p.0 in
    let further = p.1 in
    let sent = asked.asked s p.2 p.3 p.5 in
    let found = subst (λ w. get_elem? (session_share later w s) further ≡ some other) (sym asked.worker) p.7 in
    let more = c.order_in_real_time.ensures.behind s further (asks p.2) later other sent joined found p.6 in
    later_sees sizes c.args.earlier.items more.0 later place more.1 one other more.2 p.4 more.3 legal
