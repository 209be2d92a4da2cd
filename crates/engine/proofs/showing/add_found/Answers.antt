use Rattle.std.proofs.Common.{refl}
use Rattle.engine.proofs.showing.add_found.Goals as goal

pub returns : goal.returns
returns g c = (
  record { key = c.args.key; place = c.args.place },
  refl,
  refl,
  rw (c.in_ok-push.ensures.items, c.in_ok-reserve.ensures.items) refl,
)
