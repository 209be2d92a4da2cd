use Rattle.proto.proofs.FirstWord.{front_alone, front_spaced, front_longer}
use Rattle.proto.proofs.words.split_after.Goals as goal

pub returns-in_default : goal.returns-in_default
returns-in_default c =
    front_alone c.args.line.now c.split_at.result.0.now c.split_at.result.1.now c.args.n c.requires.no_space
    c.split_at.ensures.front c.split_at.ensures.back c.in_default.ensures.cases

pub returns : goal.returns
returns c =
    front_spaced c.args.line.now c.split_at.result.0.now c.split_at.result.1.now c.in-Some.rest.now c.args.n
    c.in-Some.byte.now c.requires.no_space
    c.split_at.ensures.front c.split_at.ensures.back c.in-Some.ensures.cases.0 c.if-byte-ne32.false

pub returns-then-byte-ne32 : goal.returns-then-byte-ne32
returns-then-byte-ne32 c =
    front_longer c.args.line.now c.split_at.result.1.now c.in-Some.rest.now c.args.n c.in-Some.byte.now
    c.requires.within c.requires.no_space
    c.split_at.ensures.back c.in-Some.ensures.cases.0 c.if-byte-ne32.true
