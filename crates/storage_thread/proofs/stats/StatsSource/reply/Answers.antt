use Rattle.std.proofs.Common.{refl, inr, subst}
use Rattle.proto.specs.declared.counts.Counts.{Counts}
use Rattle.proto.specs.StatTexts.{IsStats}
use Rattle.storage_thread.proofs.stats.StatsSource.reply.Goals as goal

pub returns-in-Ok-clause-tells : goal.returns-in-Ok-clause-tells
returns-in-Ok-clause-tells g c = λ is. inr (
  c.into_lines.result,
  refl,
  subst (λ (z : Counts). IsStats z c.into_lines.result) c.in-Ok.ensures c.into_lines.ensures,
)
