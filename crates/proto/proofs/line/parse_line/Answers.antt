use Rattle.std.proofs.Common.{◌≡◌, ◌≤◌, ◌<◌, Option, Some, None, inl, inr, refl, ap, ◌∙◌}
use Rattle.std.specs.Prelude.{option_map, unwrap_or}
use Rattle.std.proofs.lemmas.Bool.{le-leb, lt-leb}
use Rattle.proto.specs.Grammar.{longest_block}
use Rattle.proto.specs.declared.dialect.Dialect.{Dialect}
use Rattle.proto.specs.declared.message.Message.TheVariants.{Local, Fatal}
use Rattle.proto.specs.declared.message.LocalKind.TheVariants as local
use Rattle.proto.specs.declared.message.FatalKind.TheVariants as fatal
use Rattle.proto.specs.declared.view.MessageView.{MessageView}
use Rattle.proto.specs.declared.view.MessageView.TheVariants as messages
use Rattle.proto.specs.Views.{message_of, line_of, storage_line_of}
use Rattle.proto.specs.PlainReader.{StorageLine, storage, meaning_of}
use Rattle.proto.proofs.ViewLemmas.{storage_line, other_line, unknown_line}
use Rattle.proto.proofs.line.parse_line.Goals as goal

-- a storage line with a block of this size
block : (d : Dialect) (s : StorageLine) → s.size ≤ longest_block d → inr s ≡ meaning_of d (Fatal fatal.BadLine) (Some (storage s))
block d s small = rw (le-leb s.size (longest_block d) small) refl

-- one with a larger block
too_large : (d : Dialect) (s : StorageLine) → longest_block d < s.size
    → inl (Fatal fatal.TooLarge) ≡ meaning_of d (Fatal fatal.BadLine) (Some (storage s))
too_large d s large = rw (lt-leb s.size (longest_block d) large) refl

pub returns-in-Some : goal.returns-in-Some
returns-in-Some c =
    let is = rw c.in-Some-Storage.field-0-is at c.in-Some-Storage.ensures in
    let small : c.in-Some.head.size ≤ longest_block c.args.dialect =
    rw c.longest_block.ensures at c.if-storage_line-longest_block.true in
    block c.args.dialect (storage_line_of c.in-Some.head) small
    ∙ ap (meaning_of c.args.dialect (Fatal fatal.BadLine)) c.in-Some.ensures
    ∙ storage_line c.args.dialect c.args.line.now c.split_word-words.result.0.now c.split_word-words.result.1 c.in-Some-Storage.word
    c.split_word-words.ensures is.1 is.0

pub returns-in-Some-2 : goal.returns-in-Some-2
returns-in-Some-2 c =
    let is = rw c.in-Some-Storage.field-0-is at c.in-Some-Storage.ensures in
    let large : longest_block c.args.dialect < c.in-Some.head.size =
    rw c.longest_block.ensures at c.if-storage_line-longest_block.false in
    too_large c.args.dialect (storage_line_of c.in-Some.head) large
    ∙ ap (meaning_of c.args.dialect (Fatal fatal.BadLine)) c.in-Some.ensures
    ∙ storage_line c.args.dialect c.args.line.now c.split_word-words.result.0.now c.split_word-words.result.1 c.in-Some-Storage.word
    c.split_word-words.ensures is.1 is.0

pub returns-in-None-storage_line : goal.returns-in-None-storage_line
returns-in-None-storage_line c =
    let is = rw c.in-Some-Storage.field-0-is at c.in-Some-Storage.ensures in
    ap (meaning_of c.args.dialect (Fatal fatal.BadLine)) c.in-None-storage_line.ensures
    ∙ storage_line c.args.dialect c.args.line.now c.split_word-words.result.0.now c.split_word-words.result.1 c.in-Some-Storage.word
    c.split_word-words.ensures is.1 is.0

-- what is read of another line, or that it is faulty
other_of : (d : Dialect) (r : Option MessageView)
    → ◌≡◌ {A = _} (inl (message_of (unwrap_or r (messages.Local local.BadLine)))) (meaning_of d (Local local.BadLine) (option_map line_of r))
other_of d None = refl
other_of d (Some m) = refl

pub returns-in-Some-Other : goal.returns-in-Some-Other
returns-in-Some-Other c =
    let is = rw c.in-Some-Other.field-0-is at c.in-Some-Other.ensures in
    ap (λ m. inl (message_of m)) c.unwrap_or.ensures ∙ other_of c.args.dialect c.other_line.result
    ∙ ap (meaning_of c.args.dialect (Local local.BadLine)) c.other_line.ensures
    ∙ other_line c.args.dialect c.args.line.now c.split_word-words.result.0.now c.split_word-words.result.1 c.in-Some-Other.word
    c.split_word-words.ensures is.1 is.0

pub returns-in-None : goal.returns-in-None
returns-in-None c =
    unknown_line c.args.dialect c.args.line.now c.split_word-words.result.0.now c.split_word-words.result.1
    c.split_word-words.ensures c.in-None.ensures
