-- What the parser's views stand for.
use Rattle.std.specs.Prelude.{◌≡◌, ◌⊎◌, ◌≤◌, ◌<◌, ⊤, ℕ, Bool, List, length, take, Option, Some, None, option_map}
use Rattle.std.specs.Borrow.{Bor}
use mathlib.Core.Logic.{inl, inr}
use Rattle.proto.specs.declared.dialect.Dialect.{Dialect}
use Rattle.proto.specs.declared.storage_line.StorageLineView.{StorageLineView}
use Rattle.proto.specs.declared.view.MessageView.{MessageView}
use Rattle.proto.specs.declared.view.MessageView.TheVariants as messages
use Rattle.proto.specs.declared.view.NextView.{NextView}
use Rattle.proto.specs.declared.view.NextView.TheVariants as finds
use Rattle.proto.specs.declared.line.ParsedLine.{ParsedLine}
use Rattle.proto.specs.declared.line.ParsedLine.TheVariants as parsed
use Rattle.proto.specs.declared.message.Message.{Message}
use Rattle.proto.specs.declared.message.Message.TheVariants.{Ask, Local, Quit, Fatal}
use Rattle.proto.specs.Grammar.{most_kept, refused_by, Spells}
use Rattle.proto.specs.Needs.{IsUnfinished, IsDropped}
use Rattle.proto.specs.PlainReader.{StorageLine, Line, message, storage_message, Found, request_of}

abbrev pub storage_line_of : StorageLineView → StorageLine
storage_line_of h = record {
  word = h.word;
  unique = h.unique;
  key = h.key.now;
  flags = h.flags;
  exptime = h.exptime;
  size = h.size;
  quiet = h.noreply;
}

abbrev pub message_of : MessageView → Message
message_of (messages.Request q quiet) = Ask (request_of q) quiet
message_of (messages.Put head block) =
    storage_message (storage_line_of head) block.now
message_of (messages.Local kind) = Local kind
message_of messages.Quit = Quit
message_of (messages.Fatal kind) = Fatal kind

abbrev pub line_of : MessageView → Line
line_of m = message (message_of m)

abbrev pub parsed_line_of : ParsedLine → Message ⊎ StorageLine
parsed_line_of (parsed.Message m) = inl (message_of m)
parsed_line_of (parsed.Block head) = inr (storage_line_of head)

abbrev pub view_seen : NextView → Option Found
view_seen (finds.Found m n) = Some (message_of m, n)
view_seen (finds.More need) = None
view_seen (finds.Drop need key quiet) = None

-- the number of bytes that are needed, where nothing was found
abbrev pub need_seen : NextView → Option ℕ
need_seen (finds.Found m n) = None
need_seen (finds.More need) = Some need
need_seen (finds.Drop need key quiet) = Some need

-- the message whose block is to be dropped
abbrev pub dropped_by : Option (Bor (List ℕ)) → Bool → Message
dropped_by key quiet = refused_by (option_map (λ (k : Bor (List ℕ)). k.now) key) quiet

-- the bytes that are needed may be kept, or this message is to be dropped
abbrev pub IsKeptOr : Dialect → Message → NextView → Type 0
IsKeptOr d m (finds.Found found n) = ⊤
IsKeptOr d m (finds.More need) = need ≤ most_kept d
IsKeptOr d m (finds.Drop need key quiet) = (most_kept d < need) × (dropped_by key quiet ≡ m)

-- what the bytes begin with: a message that their first n bytes spell, or no message before need
-- bytes are there, which may be kept or dropped
abbrev pub IsView : Dialect → List ℕ → NextView → Type 0
IsView d b (finds.Found m n) = (n ≤ length b) × Spells d (take n b) (message_of m)
IsView d b (finds.More need) = IsUnfinished d b need × (need ≤ most_kept d)
IsView d b (finds.Drop need key quiet) = IsDropped d b need (dropped_by key quiet)
