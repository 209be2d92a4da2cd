-- What is said, and what is left to say, when messages or replies come onto.
use Rattle.std.proofs.Common.{◌≡◌, ℕ, ◌+◌, ◌<◌, ◌≤◌, true, false, List, [], ◌∷◌, ◌++◌, length, Some, None, refl, sym}
use Rattle.std.proofs.Common.{ap, ◌∙◌, arith}
use Rattle.std.specs.Prelude.{IsTrue, codes, decimal, flat_map}
use Rattle.proto.specs.Hits.{hit_bytes}
use Rattle.proto.specs.Lines.{line_end}
use Rattle.proto.specs.declared.message.Reply.{Reply}
use Rattle.proto.specs.declared.message.Message.{Message}
use Rattle.proto.specs.declared.message.Message.TheVariants.{Ask, Local, Quit, Fatal}
use Rattle.proto.specs.declared.message.Reply.TheVariants as replies
use Rattle.proto.specs.declared.message.LocalKind.TheVariants as local
use Rattle.proto.specs.declared.message.FatalKind.TheVariants as fatal
use Rattle.proto.specs.Reading.{asks}
use Rattle.proto.specs.Answers.{answer, reply_bytes, said, is_ask, is_silent}
use Rattle.session_book.specs.Session.{messages_left, begins_asked}
use Rattle.proto.proofs.AskLemmas.{onto}

-- more messages are said onto what is left, where no reply was too many
pub said-append : (ms ns : List Message) (rs : List Reply) → length rs ≤ length (asks ms)
    → said (ms ++ ns) rs ≡ said ms rs ++ said (messages_left ms rs ++ ns) []
said-append [] ns [] le = refl
said-append [] ns (r ∷ rs) le = absurd (omega arith)
said-append (Ask q quiet ∷ ms) ns [] le = refl
said-append (Ask q quiet ∷ ms) ns (r ∷ rs) le = onto _ _ _ _ (said-append ms ns rs (omega arith))
said-append (Local kind ∷ ms) ns rs le = onto _ _ _ _ (said-append ms ns rs le)
said-append (Quit ∷ ms) ns rs le = said-append ms ns rs le
said-append (Fatal kind ∷ ms) ns rs le = onto _ _ _ _ (said-append ms ns rs le)

-- of joined messages that is left which is left of the later ones put onto what was left of the
-- first, where no reply was too many
pub left-append : (ms ns : List Message) (rs : List Reply) → length rs ≤ length (asks ms)
    → messages_left (ms ++ ns) rs ≡ messages_left (messages_left ms rs ++ ns) []
left-append [] ns [] le = refl
left-append [] ns (r ∷ rs) le = absurd (omega arith)
left-append (Ask q quiet ∷ ms) ns [] le = refl
left-append (Ask q quiet ∷ ms) ns (r ∷ rs) le = left-append ms ns rs (omega arith)
left-append (Local kind ∷ ms) ns rs le = left-append ms ns rs le
left-append (Quit ∷ ms) ns rs le = left-append ms ns rs le
left-append (Fatal kind ∷ ms) ns rs le = left-append ms ns rs le

-- more replies go to what is left
pub said_more : (ms : List Message) (rs ss : List Reply)
    → said ms (rs ++ ss) ≡ said ms rs ++ said (messages_left ms rs) ss
said_more [] rs ss = refl
said_more (Ask q quiet ∷ ms) [] ss = refl
said_more (Ask q quiet ∷ ms) (r ∷ rs) ss = onto _ _ _ _ (said_more ms rs ss)
said_more (Local kind ∷ ms) rs ss = onto _ _ _ _ (said_more ms rs ss)
said_more (Quit ∷ ms) rs ss = said_more ms rs ss
said_more (Fatal kind ∷ ms) rs ss = onto _ _ _ _ (said_more ms rs ss)

-- what more replies leave is what they leave of that which was left
pub left_more : (ms : List Message) (rs ss : List Reply)
    → messages_left ms (rs ++ ss) ≡ messages_left (messages_left ms rs) ss
left_more [] rs ss = refl
left_more (Ask q quiet ∷ ms) [] ss = refl
left_more (Ask q quiet ∷ ms) (r ∷ rs) ss = left_more ms rs ss
left_more (Local kind ∷ ms) rs ss = left_more ms rs ss
left_more (Quit ∷ ms) rs ss = left_more ms rs ss
left_more (Fatal kind ∷ ms) rs ss = left_more ms rs ss

-- the requests left are those without a reply
pub asks-left : (ms : List Message) (rs : List Reply) → length rs ≤ length (asks ms)
    → length rs + length (asks (messages_left ms rs)) ≡ length (asks ms)
asks-left [] [] le = refl
asks-left [] (r ∷ rs) le = absurd (omega arith)
asks-left (Ask q quiet ∷ ms) [] le = omega arith
asks-left (Ask q quiet ∷ ms) (r ∷ rs) le = omega (arith, asks-left ms rs (omega arith))
asks-left (Local kind ∷ ms) rs le = asks-left ms rs le
asks-left (Quit ∷ ms) rs le = asks-left ms rs le
asks-left (Fatal kind ∷ ms) rs le = asks-left ms rs le

-- what is left begins with a request
pub begins_asked-left : (ms : List Message) (rs : List Reply) → begins_asked (messages_left ms rs) ≡ true
begins_asked-left [] rs = refl
begins_asked-left (Ask q quiet ∷ ms) [] = refl
begins_asked-left (Ask q quiet ∷ ms) (r ∷ rs) = begins_asked-left ms rs
begins_asked-left (Local kind ∷ ms) rs = begins_asked-left ms rs
begins_asked-left (Quit ∷ ms) rs = begins_asked-left ms rs
begins_asked-left (Fatal kind ∷ ms) rs = begins_asked-left ms rs

-- a queue that begins with a request stays as it is, and says nothing, until the reply comes
pub left_waits : (m : Message) (ms : List Message) → is_ask m ≡ true → messages_left (m ∷ ms) [] ≡ m ∷ ms
left_waits (Ask q quiet) ms e = refl
left_waits (Local kind) ms e = absurd cc
left_waits Quit ms e = absurd cc
left_waits (Fatal kind) ms e = absurd cc

-- as long as a request has no reply, nothing is said to it nor to what follows
pub said_waits : (m : Message) (ms : List Message) → is_ask m ≡ true → said (m ∷ ms) [] ≡ []
said_waits (Ask q quiet) ms e = refl
said_waits (Local kind) ms e = absurd cc
said_waits Quit ms e = absurd cc
said_waits (Fatal kind) ms e = absurd cc

-- a message that is no request is answered at once
pub left_local : (m : Message) (ms : List Message) → is_ask m ≡ false → messages_left (m ∷ ms) [] ≡ messages_left ms []
left_local (Ask q quiet) ms e = absurd cc
left_local (Local kind) ms e = refl
left_local Quit ms e = refl
left_local (Fatal kind) ms e = refl

-- a message that is no request is answered at once, and then what follows
pub said_local : (m : Message) (ms : List Message) → is_ask m ≡ false → said (m ∷ ms) [] ≡ answer m None ++ said ms []
said_local (Ask q quiet) ms e = absurd cc
said_local (Local kind) ms e = refl
said_local Quit ms e = refl
said_local (Fatal kind) ms e = refl

-- a request that has its reply is answered
pub left_reply : (m : Message) (ms : List Message) (r : Reply) → is_ask m ≡ true
    → messages_left (m ∷ ms) (r ∷ []) ≡ messages_left ms []
left_reply (Ask q quiet) ms r e = refl
left_reply (Local kind) ms r e = absurd cc
left_reply Quit ms r e = absurd cc
left_reply (Fatal kind) ms r e = absurd cc

-- a request that has its reply is answered with it, and then what follows, up to the next request
pub said_reply : (m : Message) (ms : List Message) (r : Reply) → is_ask m ≡ true
    → said (m ∷ ms) (r ∷ []) ≡ answer m (Some r) ++ said ms []
said_reply (Ask q quiet) ms r e = refl
said_reply (Local kind) ms r e = absurd cc
said_reply Quit ms r e = absurd cc
said_reply (Fatal kind) ms r e = absurd cc

-- a queue that is what some messages and replies leave is empty or begins with a request
pub begins_asked_by : (queue ms : List Message) (rs : List Reply) → queue ≡ messages_left ms rs
    → begins_asked queue ≡ true
begins_asked_by queue ms rs e = rw e (begins_asked-left ms rs)

-- with something after it a list isn't nothing
some : (xs ys : List ℕ) → 0 < length ys → 0 < length (xs ++ ys)
some [] ys lt = lt
some (x ∷ xs) ys lt = omega arith

-- each reply has bytes
shown : (r : Reply) → 0 < length (reply_bytes r)
shown (replies.Values hits) = some (flat_map hit_bytes hits) (codes "END\r\n") (omega arith)
shown (replies.Number n) = some (decimal n) line_end (omega arith)
shown (replies.Stats lines) = some lines (codes "END\r\n") (omega arith)
shown _ = omega arith

-- of two lists that are nothing together the first is nothing
none_front : (xs ys : List ℕ) → xs ++ ys ≡ [] → length xs ≡ 0
none_front [] ys e = refl
none_front (x ∷ xs) ys e = absurd (let l = ap length e in omega (arith, l))

-- a request to which nothing is said, nor to what follows, is quiet
pub silent_reply : (m : Message) (ms : List Message) (r : Reply) → is_ask m ≡ true → said (m ∷ ms) (r ∷ []) ≡ []
    → IsTrue (is_silent m)
silent_reply (Ask q true) ms r e none = refl
silent_reply (Ask q false) ms r e none =
    absurd (let l = none_front (reply_bytes r) (said ms []) none in let some = shown r in omega (arith, l, some))
silent_reply (Local kind) ms r e none = absurd cc
silent_reply Quit ms r e none = refl
silent_reply (Fatal kind) ms r e none = absurd cc

-- a message to which nothing is said at once has no answer
pub silent_local : (m : Message) (ms : List Message) → is_ask m ≡ false → said (m ∷ ms) [] ≡ [] → IsTrue (is_silent m)
silent_local (Ask q quiet) ms e none = absurd cc
silent_local (Local local.Silent) ms e none = refl
silent_local (Local (local.TooLarge true)) ms e none = refl
silent_local Quit ms e none = refl
silent_local (Fatal fatal.Binary) ms e none = refl
silent_local _ ms e none = absurd (let l = ap length none in omega (arith, l))

-- of two lists that are nothing together the second is nothing
pub none_behind : (xs ys : List ℕ) → xs ++ ys ≡ [] → ys ≡ []
none_behind [] ys e = e
none_behind (x ∷ xs) ys e = absurd (let l = ap length e in omega (arith, l))

-- the first of a queue that begins with a request is one
pub first_ask : (queue : List Message) (m : Message) (ms : List Message) → queue ≡ m ∷ ms → begins_asked queue ≡ true
    → is_ask m ≡ true
first_ask queue m ms is asked = sym (ap begins_asked is) ∙ asked

-- where nothing is said to a queue with a reply for its first request, nothing is said to the rest
pub silent_rest : (queue : List Message) (m : Message) (ms : List Message) (r : Reply) → queue ≡ m ∷ ms → is_ask m ≡ true
    → said queue (r ∷ []) ≡ [] → said ms [] ≡ []
silent_rest queue m ms r is ask none =
    none_behind (answer m (Some r)) (said ms [])
    (sym (said_reply m ms r ask) ∙ ap (λ (q : List Message). said q (r ∷ [])) (sym is) ∙ none)
