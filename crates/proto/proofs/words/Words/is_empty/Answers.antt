use Rattle.proto.proofs.FirstWord.{no_words}
use Rattle.proto.proofs.words.Words.is_empty.Goals as goal

pub returns : goal.returns
returns c = no_words c.self.inside.rest c.args.self.now c.is_none.result c.self.view_is c.is_none.ensures
