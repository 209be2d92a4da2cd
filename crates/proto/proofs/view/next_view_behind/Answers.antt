use Rattle.std.proofs.Common.{◌≡◌, ℕ, List, ◌+◌, ◌<◌, ◌≤◌, false, length, take, drop, arith, Some, None, refl, sym, ap, ◌∙◌, inl, inr}
use Rattle.std.specs.Prelude.{min}
use Rattle.std.proofs.lemmas.List.{take_min, take_all}
use Rattle.proto.specs.declared.dialect.Dialect.{Dialect}
use Rattle.proto.specs.declared.dialect.Dialect.TheVariants.{Strict, Lenient}
use Rattle.proto.specs.Grammar.{longest_block}
use Rattle.proto.specs.Views.{message_of, need_seen, storage_line_of}
use Rattle.proto.specs.PlainReader.{large_message, meaning, need}
use Rattle.proto.specs.declared.message.FatalKind.TheVariants as fatal
use Rattle.proto.specs.declared.view.MessageView.TheVariants as messages
use Rattle.proto.specs.Lines.{has_line_end, longest_line}
use Rattle.proto.proofs.LineSearch.{searched_front}
use Rattle.proto.proofs.NextLemmas.{line_found, next_long, next_short, need_short, longest_least, is_found, is_more}
use Rattle.proto.proofs.NextLemmas.{need_same, next_behind, need_behind_line, read_block, large_behind, is_view}
use Rattle.proto.proofs.view.next_view_behind.Goals as goal

-- the bytes in which a line end is searched
front_is : (d : Dialect) (b front : List ℕ) (longest n : ℕ) → longest ≡ longest_line d b → n ≡ min longest (length b)
    → front ≡ take n b → front ≡ take (longest_line d b) b
front_is d b front longest n most least is = rw (is, least, most) (take_min (longest_line d b) b)

-- no longer one is read in any dialect
most_read : (d : Dialect) (n : ℕ) → n ≤ longest_block d → n ≤ 8388608
most_read Strict n h = omega (arith, h)
most_read (Lenient limit) n h = h

pub find_line_end-requires : goal.find_line_end-requires
find_line_end-requires c =
    let b = c.args.input.now in
    let front = front_is c.args.dialect b _ _ _ c.longest_line-longest.ensures c.min.ensures c.split_at.ensures.front in
    rw (c.min-2.ensures, front) (searched_front b (longest_line c.args.dialect b) c.args.searched.now c.requires)

pub block-requires-clause-read : goal.block-requires-clause-read
block-requires-clause-read c =
    most_read c.args.dialect _ (read_block c.args.dialect c.split_at-in-Some.result.0.now (storage_line_of c.in-Block.head)
    (c.in-Block.ensures ∙ ap (meaning c.args.dialect) c.line_text.ensures))

pub returns-in-Message-clause-view : goal.returns-in-Message-clause-view
returns-in-Message-clause-view c =
    let b = c.args.input.now in
    let front = front_is c.args.dialect b _ _ _ c.longest_line-longest.ensures c.min.ensures c.split_at.ensures.front in
    let first = line_found c.args.dialect b (Some c.in-Some.length) (rw front at c.in-Some.ensures) in
    is_found c.args.dialect b c.in-Message.message (c.in-Some.length + 2)
    (next_behind c.args.dialect b c.in-Some.length c.split_at-in-Some.result.0.now (drop 2 (drop c.in-Some.length b))
    (inl (message_of c.in-Message.message)) first.1 first.2 first.0 c.split_at-in-Some.ensures.front refl
    (c.in-Message.ensures ∙ ap (meaning c.args.dialect) c.line_text.ensures))

pub returns-in-Block-clause-view : goal.returns-in-Block-clause-view
returns-in-Block-clause-view c =
    let b = c.args.input.now in
    let front = front_is c.args.dialect b _ _ _ c.longest_line-longest.ensures c.min.ensures c.split_at.ensures.front in
    let first = line_found c.args.dialect b (Some c.in-Some.length) (rw front at c.in-Some.ensures) in
    let line = c.split_at-in-Some.ensures in
    let means = c.in-Block.ensures ∙ ap (meaning c.args.dialect) c.line_text.ensures in
    let needed : (c.in-Some.length + 2) + (c.in-Block.head.size + 2) ≡ need c.args.dialect b =
    need_behind_line c.args.dialect b c.in-Some.length c.split_at-in-Some.result.0.now (storage_line_of c.in-Block.head)
    first.1 first.2 first.0 line.front means in
    is_view c.args.dialect b (large_message (storage_line_of c.in-Block.head)) c.block.result
    (c.block.ensures.seen
    ∙ next_behind c.args.dialect b c.in-Some.length c.split_at-in-Some.result.0.now c.split_at-in-Block.result.1.now
    (inr (storage_line_of c.in-Block.head)) first.1 first.2 first.0
    line.front (c.split_at-in-Block.ensures.back ∙ ap (drop 2) line.back) means)
    (need_same (need_seen c.block.result) ((c.in-Some.length + 2) + (c.in-Block.head.size + 2))
    (need c.args.dialect b) c.block.ensures.needs needed)
    c.block.ensures.kept
    (λ large more whole.
    large_behind c.args.dialect b c.in-Some.length c.split_at-in-Some.result.0.now (storage_line_of c.in-Block.head)
    first.1 first.2 first.0 line.front means
    (omega (arith, large, needed, first.0, longest_least c.args.dialect b)) more (whole ∙ sym needed))

pub returns-then-input-longest-clause-view : goal.returns-then-input-longest-clause-view
returns-then-input-longest-clause-view c =
    let b = c.args.input.now in
    let longest = c.longest_line-longest.ensures in
    let front = front_is c.args.dialect b _ _ _ longest c.min.ensures c.split_at.ensures.front in
    let clear = line_found c.args.dialect b None (rw front at c.in_default.ensures) in
    rw longest (is_found c.args.dialect b (messages.Fatal fatal.LongLine) (longest_line c.args.dialect b)
    (next_long c.args.dialect b clear (rw longest at c.if-input-longest.true) (rw longest at c.if-longest-eq0.false)))

pub returns-clause-view : goal.returns-clause-view
returns-clause-view c =
    let b = c.args.input.now in
    let longest = c.longest_line-longest.ensures in
    let front = front_is c.args.dialect b _ _ _ longest c.min.ensures c.split_at.ensures.front in
    let clear = line_found c.args.dialect b None (rw front at c.in_default.ensures) in
    let short : length b < longest_line c.args.dialect b = rw longest at c.if-input-longest.false in
    is_more c.args.dialect b (length b + 1) (next_short c.args.dialect b clear short)
    (need_short c.args.dialect b clear short) (omega (arith, short, longest_least c.args.dialect b))

pub returns-clause-searched : goal.returns-clause-searched
returns-clause-searched c =
    let b = c.args.input.now in
    let longest = c.longest_line-longest.ensures in
    let front = front_is c.args.dialect b _ _ _ longest c.min.ensures c.split_at.ensures.front in
    let clear : has_line_end (take (longest_line c.args.dialect b) b) ≡ false =
    line_found c.args.dialect b None (rw front at c.in_default.ensures) in
    let short : length b < longest_line c.args.dialect b = rw longest at c.if-input-longest.false in
    record {
      within = omega arith;
      no_end = rw (take_all (length b) b (omega arith)) (rw (take_all (longest_line c.args.dialect b) b (omega (arith, short))) at clear);
    }
