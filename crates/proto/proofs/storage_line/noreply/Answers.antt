use Rattle.std.proofs.Common.{◌≡◌, false, sym, ap, ◌∙◌}
use Rattle.std.specs.Prelude.{codes, bytes_eq}
use Rattle.proto.specs.PlainReader.{quiet_in}
use Rattle.proto.proofs.FirstWord.{quiet_other}
use Rattle.proto.proofs.storage_line.noreply.Goals as goal

pub returns-in-Some-2 : goal.returns-in-Some-2
returns-in-Some-2 c =
    let other : bytes_eq c.in-Some.rest.now (codes "noreply") ≡ false =
    ap (bytes_eq c.in-Some.rest.now) (sym c.as_slice.ensures) ∙ sym c.eq.ensures ∙ c.if-eq.false in
    quiet_other c.in-Some.rest.now other ∙ ap quiet_in c.in-Some.ensures
