use Rattle.proto.proofs.LifeLemmas.{lives_its_time, lives_for_good}
use Rattle.proto.proofs.laws.lives.Goals as goal

pub returns : goal.returns
returns c = record { timed = lives_its_time; untimed = lives_for_good }
