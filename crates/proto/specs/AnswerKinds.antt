-- What of a message its answer depends on.
use Rattle.std.specs.Prelude.{true, false}
use Rattle.proto.specs.declared.message.Message.{Message}
use Rattle.proto.specs.declared.message.Message.TheVariants.{Ask, Local, Quit, Fatal}
use Rattle.proto.specs.declared.pending_answer.AnswerKind.{AnswerKind}
use Rattle.proto.specs.declared.pending_answer.AnswerKind.TheVariants as kinds

abbrev pub kind_of : Message → AnswerKind
kind_of (Ask q true) = kinds.QuietAsk
kind_of (Ask q false) = kinds.Ask
kind_of (Local kind) = kinds.Local kind
kind_of Quit = kinds.Quit
kind_of (Fatal kind) = kinds.Fatal kind
