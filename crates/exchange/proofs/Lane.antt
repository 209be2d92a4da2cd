-- Each step keeps its lane in order.
use Rattle.std.proofs.Common.{◌≡◌, ◌≢◌, ◌⊎◌, ℕ, zero, suc, ◌+◌, ◌%◌, ◌<◌, ◌≤◌, List, [], ◌∷◌, ◌++◌, map, length, take, Some, None, Bool, true, false}
use Rattle.std.proofs.Common.{true≢false, refl, sym, ap, ◌∙◌, subst, inl, inr, ⊎_elim, arith, length-append, append_assoc, suc-ne-zero}
use mathlib.Core.Logic.{dite}
use mathlib.Core.Option.{none, some, some-injective, some-ne-none}
use mathlib.Core.Option as maybe
use mathlib.Core.List.{map-append}
use native.Mathlib.Decide.{ℕ_discrete, dec_le}
use lib.ListN.{get_elem?, length-map}
use Rattle.atomic_table.proofs.Lists.{at_longer, one_turn}
use Rattle.proto.specs.declared.limits.TheConstants.{WINDOW}
use Rattle.proto.specs.declared.history.Posted.{Posted}
use Rattle.proto.specs.declared.history.Answered.{Answered}
use Rattle.exchange.specs.declared.messages.LaneMessage.{LaneMessage}
use Rattle.exchange.specs.declared.messages.LaneMessage.TheVariants.{Ask, Bye, Answer}
use Rattle.exchange.specs.declared.rule.WorkerState.{WorkerState}
use Rattle.exchange.specs.Beginnings.{StartsWith, posted_of}
use Rattle.proto.specs.History.{asked_posted}
use Rattle.exchange.specs.Lanes.{bye_at_end, messages, count_of, SlotContents, IsLaneConsistent}
use Rattle.exchange.specs.Steps.{holding_slot, placed_count, put_on, all_sent, with_bye, with_history, with_seen_slot_taken}
use Rattle.exchange.proofs.Lists.{at_below, at_end, at_either, starts_at, starts_more, starts_longer, starts_below, starts_self, starts_trans, take_more}
use Rattle.exchange.proofs.Lists.{take_front, take_whole}
use Rattle.std.proofs.lemmas.List.{append-nil}

-- nothing but the slot of the message i changes
abbrev pub Else : SlotContents → SlotContents → ℕ → Type 0
Else at at' i = (k : ℕ) → k % WINDOW ≢ i % WINDOW → at' k ≡ at k

-- two numbers of one window have different slots
pub apart : (a b : ℕ) → a < b → b < a + WINDOW → a % WINDOW ≢ b % WINDOW
apart a b lt near e = let same : a ≡ b = one_turn a b WINDOW (omega arith) near e in omega arith

-- the same, the other way round
pub apart' : (a b : ℕ) → a < b → b < a + WINDOW → b % WINDOW ≢ a % WINDOW
apart' a b lt near e = apart a b lt near (sym e)

-- the cases of a message
abbrev kind : LaneMessage → ℕ
kind (Ask p) = 0
kind Bye = 1
kind (Answer a) = 2

-- the request of a message, or another one
abbrev posted_or : Posted → LaneMessage → Posted
posted_or p (Ask q) = q
posted_or p Bye = p
posted_or p (Answer a) = p

-- equal messages have equal requests
pub ask_injective : (p q : Posted) → Ask p ≡ Ask q → p ≡ q
ask_injective p q e = ap (posted_or p) e

-- a message is the request at its place, or the bye after the last one
abbrev pub SentAt : List Posted → Bool → ℕ → LaneMessage → Type 0
SentAt l b t m = ((p : Posted) × (m ≡ Ask p) × (get_elem? l t ≡ some p)) ⊎ ((m ≡ Bye) × (b ≡ true) × (t ≡ length l))

-- so each of a worker's messages is
pub sent_at : (l : List Posted) (b : Bool) (t : ℕ) (m : LaneMessage) → get_elem? (map Ask l ++ bye_at_end b) t ≡ some m
    → SentAt l b t m
sent_at [] true zero m e = inr (sym (some-injective Bye m e), refl, refl)
sent_at [] true (suc t) m e = absurd (some-ne-none m (sym e))
sent_at [] false t m e = absurd (some-ne-none m (sym e))
sent_at (p ∷ l) b zero m e = inl (p, sym (some-injective (Ask p) m e), refl)
sent_at (p ∷ l) b (suc t) m e = ⊎_elim (λ h. inl h)
    (λ (h : (m ≡ Bye) × (b ≡ true) × (t ≡ length l)). inr (h.0, h.1, ap suc h.2)) (sent_at l b t m e)

-- a request stands among the requests
pub ask_at : (l : List Posted) (b : Bool) (t : ℕ) (p : Posted) → get_elem? (map Ask l ++ bye_at_end b) t ≡ some (Ask p)
    → get_elem? l t ≡ some p
ask_at l b t p e = ⊎_elim (λ (h : (q : Posted) × (Ask p ≡ Ask q) × (get_elem? l t ≡ some q)). h.2
    ∙ ap (λ (q : Posted). some q) (sym (ask_injective p h.0 h.1)))
    (λ (h : (Ask p ≡ Bye) × (b ≡ true) × (t ≡ length l)). let e : 0 ≡ 1 = ap kind h.0 in absurd (omega arith))
    (sent_at l b t (Ask p) e)

-- a bye stands after all requests, and was said
pub bye_at : (l : List Posted) (b : Bool) (t : ℕ) → get_elem? (map Ask l ++ bye_at_end b) t ≡ some Bye
    → (b ≡ true) × (t ≡ length l)
bye_at l b t e = ⊎_elim (λ (h : (q : Posted) × (Bye ≡ Ask q) × (get_elem? l t ≡ some q)). let e : 1 ≡ 0 = ap kind h.1 in
    absurd (omega arith))
    (λ (h : (Bye ≡ Bye) × (b ≡ true) × (t ≡ length l)). (h.1, h.2)) (sent_at l b t Bye e)

-- 1 where a bye was said
abbrev pub bye_count : Bool → ℕ
bye_count true = 1
bye_count false = 0

-- so long is the bye
length-bye : (b : Bool) → length (bye_at_end b) ≡ bye_count b
length-bye true = refl
length-bye false = refl

-- how many messages there are
pub count : (c : WorkerState) → length (messages c) ≡ length c.sent + bye_count c.said_bye
count c = length-append (map Ask c.sent) (bye_at_end c.said_bye)
    ∙ (omega (arith, length-map c.sent Ask, length-bye c.said_bye))

-- there is one bye at most
pub at_most_one : (b : Bool) → bye_count b ≤ 1
at_most_one true = omega arith
at_most_one false = omega arith

-- the requests that were put are messages after the others, once they are sent
pub all_more : (c : WorkerState) → c.said_bye ≡ false → messages (all_sent c) ≡ messages c ++ map Ask c.put
all_more c e = subst (λ (b : Bool). map Ask (c.sent ++ c.put) ++ bye_at_end b
    ≡ (map Ask c.sent ++ bye_at_end b) ++ map Ask c.put) (sym e)
    (append-nil (map Ask (c.sent ++ c.put)) ∙ (map-append Ask c.sent c.put
    ∙ ap (λ (l : List LaneMessage). l ++ map Ask c.put) (sym (append-nil (map Ask c.sent)))))

-- a message made of a request
pub ask_of : (l : List Posted) (k : ℕ) (m : LaneMessage) → get_elem? (map Ask l) k ≡ some m
    → (p : Posted) × (Ask p ≡ m) × (get_elem? l k ≡ some p)
ask_of [] k m e = absurd (some-ne-none m (sym e))
ask_of (p ∷ l) zero m e = (p, some-injective (Ask p) m e, refl)
ask_of (p ∷ l) (suc k) m e = ask_of l k m e

-- a bye is one more message
pub one_bye : (c : WorkerState) → c.said_bye ≡ false → messages (with_bye c) ≡ messages c ++ Bye ∷ []
one_bye c e = subst (λ (b : Bool). map Ask c.sent ++ Bye ∷ [] ≡ (map Ask c.sent ++ bye_at_end b) ++ Bye ∷ []) (sym e)
    (ap (λ (l : List LaneMessage). l ++ Bye ∷ []) (sym (append_nil (map Ask c.sent))))
  where
    append_nil : (l : List LaneMessage) → l ++ [] ≡ l
    append_nil [] = refl
    append_nil (x ∷ l) = λ i. x ∷ append_nil l i

-- the requests of the answers that were told of are the first that the worker sent
pub asked_told : (sent : List Posted) (mine told : List Answered) → asked_posted mine ≡ take (length mine) sent
    → StartsWith mine told
    → asked_posted told ≡ take (length told) sent
asked_told sent mine told asked first = let low : length told ≤ length mine = starts_below mine told first in
    sym (take_of (asked_posted told) (asked_posted first.0) (length told) (length-map told posted_of))
    ∙ (ap (take (length told)) (sym (ap asked_posted first.1 ∙ map-append posted_of told first.0) ∙ asked)
    ∙ take-take-le (length told) (length mine) sent low)
  where
    take_of : (l m : List Posted) (k : ℕ) → length l ≡ k → take k (l ++ m) ≡ l
    take_of l m k e = take_front l m k (let g : k ≤ length l = omega arith in g)
        ∙ take_whole l k (let g : length l ≤ k = omega arith in g)

    take-take-le : (a b : ℕ) (l : List Posted) → a ≤ b → take a (take b l) ≡ take a l
    take-take-le zero b l h = none_of (take b l) ∙ sym (none_of l)
      where
        none_of : (m : List Posted) → take 0 m ≡ []
        none_of [] = refl
        none_of (x ∷ m) = refl
    take-take-le (suc a) zero l h = absurd (omega arith)
    take-take-le (suc a) (suc b) [] h = refl
    take-take-le (suc a) (suc b) (x ∷ l) h = λ i. x ∷ take-take-le a b l (omega arith) i

-- A worker's steps

module _ (c : WorkerState) (mine told : List Answered) (byes : ℕ) (held : maybe.Option LaneMessage) (posted done : ℕ)
    (at : SlotContents)
    (r : IsLaneConsistent c mine told byes held posted done at) where
  -- the number of messages
  len : ℕ
  len = length (messages c)

  -- no more came back than the worker's share has
  pub back_below : length c.back ≤ length mine
  back_below = starts_below mine c.back (starts_trans mine told c.back r.told_is r.known)

  -- no more came back than storage told of
  pub back_told : length c.back ≤ length told
  back_told = starts_below told c.back r.known

  -- no more was told of than answered
  told_below : length told ≤ length mine
  told_below = starts_below mine told r.told_is

  -- the worker takes the slot of its next message
  pub begins : (at' : SlotContents) → c.slot_held ≡ 0 → c.said_bye ≡ false → placed_count c < length c.back + WINDOW
      → Else at at' (placed_count c)
      → IsLaneConsistent (holding_slot c (suc (placed_count c))) mine told byes held posted done at'
  begins at' idle open_ room same = let n : ℕ = placed_count c in let b : ℕ = length c.back in
      let q : ℕ = length c.put in
      let n_is : n ≡ length c.sent + q = refl in
      let e : length (messages c) ≡ length c.sent = count c ∙ (omega (arith, ap bye_count open_)) in
      let low : b ≤ length mine = back_below in let high : length mine ≤ length c.sent = r.answered in
      let room' : n < b + WINDOW = room in record {
        posted_is = r.posted_is;
        done_is = r.done_is;
        told_is = r.told_is;
        order = r.order;
        asked_is = r.asked_is;
        answered = r.answered;
        known = r.known;
        numbered = r.numbered;
        leaves = r.leaves;
        all_back = r.all_back;
        behind = r.behind;
        open_is = r.open_is;
        slot_held_is = λ _. (
          let g : length (messages c) + q < suc n = omega arith in
              g,
          let g : suc n ≤ b + WINDOW = omega arith in g,
        );
        within = r.within;
        answers = λ k a le is. let below : k < length mine = at_below mine k a is in
            same k (apart k n (omega arith) (omega arith)) ∙ r.answers k a le is;
        requests = λ k m le is. let below : k < length (messages c) = at_below (messages c) k m is in
            let le' : length mine + byes + count_of held ≤ k = le in
            same k (apart k n (omega arith) (omega arith)) ∙ r.requests k m le is;
        unsent = λ k p is. let below : k < q = at_below c.put k p is in
            same (length (messages c) + k) (apart (length (messages c) + k) n (omega arith) (omega arith))
            ∙ r.unsent k p is;
        frees = λ k le near other. let le' : length (messages c) + q ≤ k = le in let near' : k < b + WINDOW = near in
            let ne : suc k ≢ suc n = other in
            same k (apart' n k (omega arith) (omega arith)) ∙ r.frees k le near (λ z. suc-ne-zero k (z ∙ idle));
      }

  -- the worker gives the slot back, with a request in it
  pub puts : (at' : SlotContents) (p : Posted) → p.number ≡ suc (placed_count c) → c.slot_held ≡ suc (placed_count c)
      → c.said_bye ≡ false
      → at' (placed_count c) ≡ some (some (Some (Ask p))) → Else at at' (placed_count c)
      → IsLaneConsistent (put_on c p) mine told byes held posted done at'
  puts at' p next mineis open_ here same = let n : ℕ = placed_count c in let b : ℕ = length c.back in
      let q : ℕ = length c.put in
      let n_is : n ≡ length c.sent + q = refl in
      let e : length (messages c) ≡ length c.sent = count c ∙ (omega (arith, ap bye_count open_)) in
      let low : b ≤ length mine = back_below in let high : length mine ≤ length c.sent = r.answered in
      let slot_held : c.slot_held ≡ suc n = mineis in
      let hands = r.slot_held_is (let g : 0 < c.slot_held = omega arith in g) in
      let room : c.slot_held ≤ b + WINDOW = hands.1 in
      let longer : length (c.put ++ p ∷ []) ≡ suc q = length-append c.put (p ∷ []) ∙ (omega arith) in
      let both : length (c.sent ++ c.put) ≡ n = length-append c.sent c.put in record {
        posted_is = r.posted_is;
        done_is = r.done_is;
        told_is = r.told_is;
        order = r.order;
        asked_is = r.asked_is;
        answered = r.answered;
        known = r.known;
        numbered = λ k x y. ⊎_elim (λ (h : get_elem? (c.sent ++ c.put) k ≡ some x). r.numbered k x h)
            (λ (h : (k ≡ length (c.sent ++ c.put)) × (p ≡ x)). ap (λ (z : Posted). z.number) (sym h.1)
            ∙ (next ∙ ap suc (sym (h.0 ∙ both))))
            (at_end (c.sent ++ c.put) p k x
            (subst (λ (l : List Posted). get_elem? l k ≡ some x) (sym (append_assoc c.sent c.put (p ∷ []))) y));
        leaves = r.leaves;
        all_back = r.all_back;
        behind = r.behind;
        open_is = r.open_is;
        slot_held_is = λ (y : 0 < 0). absurd (omega arith);
        within = let g : length (messages c) + length (c.put ++ p ∷ []) ≤ b + WINDOW = omega arith in g;
        answers = λ k a le is. let below : k < length mine = at_below mine k a is in
            same k (apart k n (omega arith) (omega arith)) ∙ r.answers k a le is;
        requests = λ k m le is. let below : k < length (messages c) = at_below (messages c) k m is in
            let le' : length mine + byes + count_of held ≤ k = le in
            same k (apart k n (omega arith) (omega arith)) ∙ r.requests k m le is;
        unsent = λ k x is. ⊎_elim (λ (h : get_elem? c.put k ≡ some x). let below : k < q = at_below c.put k x h in
            same (length (messages c) + k) (apart (length (messages c) + k) n (omega arith) (omega arith))
            ∙ r.unsent k x h)
            (λ (h : (k ≡ length c.put) × (p ≡ x)). let k_is : k ≡ q = h.0 in
            let at_is : length (messages c) + k ≡ n = omega arith in
            ap at' at_is ∙ (here ∙ ap (λ (z : Posted). some (some (Some (Ask z)))) h.1)) (at_end c.put p k x is);
        frees = λ k le near other. let le' : length (messages c) + length (c.put ++ p ∷ []) ≤ k = le in
            let near' : k < b + WINDOW = near in
            same k (apart' n k (omega arith) (omega arith))
            ∙ r.frees k (let g : length (messages c) + q ≤ k = omega arith in
            g) near (λ z. let z' : suc k ≡ suc n = z ∙ mineis in let k' : n < k = omega arith in absurd (omega arith));
      }

  -- the store of posted
  pub sends : c.slot_held ≡ 0 → c.said_bye ≡ false → IsLaneConsistent (all_sent c) mine told byes held (placed_count c) done at
  sends idle open_ = let n : ℕ = placed_count c in let b : ℕ = length c.back in let q : ℕ = length c.put in
      let n_is : n ≡ length c.sent + q = refl in
      let e : length (messages c) ≡ length c.sent = count c ∙ (omega (arith, ap bye_count open_)) in
      let low : b ≤ length mine = back_below in let high : length mine ≤ length c.sent = r.answered in
      let is = all_more c open_ in
      let free : c.slot_held ≡ 0 = idle in let room : length (messages c) + q ≤ b + WINDOW = r.within in
      let long : length (messages (all_sent c)) ≡ n =
      ap length is ∙ (length-append (messages c) (map Ask c.put) ∙ (omega (arith, length-map c.put Ask))) in
      let longer : length (c.sent ++ c.put) ≡ n = length-append c.sent c.put in record {
        posted_is = let g : n ≡ length (messages (all_sent c)) = omega arith in g;
        done_is = r.done_is;
        told_is = r.told_is;
        order = (
          let o : done ≤ posted = r.order.0 in let p : posted ≡ length (messages c) = r.posted_is in
              let g : done ≤ n = omega arith in g,
          let d : done ≡ length told + byes = r.done_is in let low' : b ≤ length told = back_told in
              let g : n ≤ done + WINDOW = omega arith in g,
        );
        asked_is = r.asked_is ∙ sym (take_front c.sent c.put (length mine) r.answered);
        answered = let g : length mine ≤ length (c.sent ++ c.put) = omega arith in g;
        known = r.known;
        numbered = λ k x y. r.numbered k x
            (subst (λ (l : List Posted). get_elem? l k ≡ some x) (append-nil (c.sent ++ c.put)) y);
        leaves = r.leaves;
        all_back = λ y. absurd (true≢false (sym y ∙ open_));
        behind = let h : length mine + byes + count_of held ≤ length (messages c) = r.behind in
            let g : length mine + byes + count_of held ≤ length (messages (all_sent c)) = omega arith in g;
        open_is = λ m y. subst (λ (l : List LaneMessage). get_elem? l (length mine + byes) ≡ some m) (sym is)
            (at_longer (messages c) (map Ask c.put) (length mine + byes) m (r.open_is m y));
        slot_held_is = λ (y : 0 < c.slot_held). absurd (omega arith);
        within = let g : length (messages (all_sent c)) + 0 ≤ b + WINDOW = omega arith in g;
        answers = r.answers;
        requests = λ k m le y. ⊎_elim (λ (h : get_elem? (messages c) k ≡ some m). r.requests k m le h)
            (λ (h : (j : ℕ) × (k ≡ length (messages c) + j) × (get_elem? (map Ask c.put) j ≡ some m)). let x = ask_of
            c.put h.0 m h.2 in
            ap at h.1 ∙ (r.unsent h.0 x.0 x.2 ∙ ap (λ (z : LaneMessage). some (some (Some z))) x.1))
            (at_either (messages c) (map Ask c.put) k m
            (subst (λ (l : List LaneMessage). get_elem? l k ≡ some m) is y));
        unsent = λ k p y. absurd (some-ne-none p (sym y));
        frees = λ k le near other. let le' : length (messages (all_sent c)) + 0 ≤ k = le in
            r.frees k (let g : length (messages c) + q ≤ k = omega arith in g) near other;
      }

  -- the store of posted, with the Bye
  pub posts_last : (at' : SlotContents) → c.put ≡ [] → c.slot_held ≡ suc (placed_count c) → c.said_bye ≡ false
      → length c.back ≡ length c.sent
      → at' (placed_count c) ≡ some (some (Some Bye)) → Else at at' (placed_count c)
      → IsLaneConsistent (with_bye c) mine told byes held (suc posted) done at'
  posts_last at' none_put mineis open_ all here same = let n : ℕ = placed_count c in let b : ℕ = length c.back in
      let q : ℕ = length c.put in
      let n_is : n ≡ length c.sent + q = refl in let empty_put : q ≡ 0 = ap length none_put in
      let sent_is : length c.sent ≡ n = omega arith in
      let e : length (messages c) ≡ n = count c ∙ (omega (arith, ap bye_count open_)) in
      let low : b ≤ length mine = back_below in
      let high' : length mine ≤ length c.sent = r.answered in let high : length mine ≤ n = omega arith in
      let slot_held : c.slot_held ≡ suc n = mineis in let is = one_bye c open_ in
      let long : length (messages (with_bye c)) ≡ suc n =
      ap length is ∙ length-append (messages c) (Bye ∷ []) ∙ (omega arith) in
      let all_ : b ≡ length c.sent = all in let all' : b ≡ n = omega arith in record {
        posted_is = ap suc r.posted_is ∙ (let g : suc (length (messages c))
            ≡ length (messages (with_bye c)) = omega arith in g);
        done_is = r.done_is;
        told_is = r.told_is;
        order = (
          let o : done ≤ posted = r.order.0 in let g : done ≤ suc posted = omega arith in g,
          let o : posted ≡ length (messages c) = r.posted_is in
              let d : done ≡ length told + byes = r.done_is in let low' : b ≤ length told = back_told in
              let g : suc posted ≤ done + WINDOW = omega arith in g,
        );
        asked_is = r.asked_is;
        answered = r.answered;
        known = r.known;
        numbered = r.numbered;
        leaves = λ _. refl;
        all_back = λ _. all;
        behind = let h : length mine + byes + count_of held ≤ length (messages c) = r.behind in
            let g : length mine + byes + count_of held ≤ length (messages (with_bye c)) = omega arith in g;
        open_is = λ m y. subst (λ (l : List LaneMessage). get_elem? l (length mine + byes) ≡ some m) (sym is)
            (at_longer (messages c) (Bye ∷ []) (length mine + byes) m (r.open_is m y));
        slot_held_is = λ (y : 0 < 0). absurd (omega arith);
        within = let g : length (messages (with_bye c)) + q ≤ b + WINDOW = omega arith in g;
        answers = λ k a le y. let below : k < length mine = at_below mine k a y in
            same k (apart k n (omega arith) (omega arith)) ∙ r.answers k a le y;
        requests = λ k m le y. let le' : length mine + byes + count_of held ≤ k = le in
            ⊎_elim (λ (h : get_elem? (messages c) k ≡ some m). let below : k
            < length (messages c) = at_below (messages c) k m h in
            same k (apart k n (omega arith) (omega arith)) ∙ r.requests k m le h)
            (λ (h : (k ≡ length (messages c)) × (Bye ≡ m)). let k_is : k ≡ n = h.0 ∙ e in ap at' k_is
            ∙ (here ∙ ap (λ (z : LaneMessage). some (some (Some z))) h.1))
            (at_end (messages c) Bye k m (subst (λ (l : List LaneMessage). get_elem? l k ≡ some m) is y));
        unsent = λ k p y. absurd (some-ne-none p (sym (subst (λ (l : List Posted). get_elem? l k ≡ some p) none_put y)));
        frees = λ k le near other. let le' : length (messages (with_bye c)) + q ≤ k = le in
            let near' : k < b + WINDOW = near in
            same k (apart' n k (omega arith) (omega arith))
            ∙ r.frees k (let g : length (messages c) + q ≤ k = omega arith in g) near
            (λ z. let z' : suc k ≡ suc n = z ∙ mineis in let k' : n < k = omega arith in absurd (omega arith));
      }

  -- the load of done, where an answer is taken
  pub takes_back : (at' : SlotContents) (a : Answered) → c.slot_held ≡ 0 → get_elem? told (length c.back) ≡ some a
      → Else at at' (length c.back)
      → IsLaneConsistent (with_seen_slot_taken c a) mine told byes held posted done at'
  takes_back at' a idle is same = let b : ℕ = length c.back in let q : ℕ = length c.put in let all = count c in
      let high : length mine ≤ length c.sent = r.answered in
      let low : b < length mine = at_below mine b a (starts_at mine told b a r.told_is is) in
      let longer : length (c.back ++ a ∷ []) ≡ suc b = length-append c.back (a ∷ []) ∙ (omega arith) in
      let room : length (messages c) + q ≤ b + WINDOW = r.within in
      let behind' : length mine + byes + count_of held ≤ length (messages c) = r.behind in record {
        posted_is = r.posted_is;
        done_is = r.done_is;
        told_is = r.told_is;
        order = r.order;
        asked_is = r.asked_is;
        answered = r.answered;
        known = starts_more told c.back a r.known is;
        numbered = r.numbered;
        leaves = r.leaves;
        all_back = λ y. let q : b ≡ length c.sent = r.all_back y in absurd (omega arith);
        behind = r.behind;
        open_is = r.open_is;
        slot_held_is = λ _. (
          let h : length (messages c) + q < suc (b + WINDOW) = omega arith in
              h,
          let h : suc (b + WINDOW) ≤ length (c.back ++ a ∷ []) + WINDOW = omega arith in h,
        );
        within = let h : length (messages c) + q ≤ length (c.back ++ a ∷ []) + WINDOW = omega arith in h;
        answers = λ k x le y. let below : k < length mine = at_below mine k x y in
            let le' : length (c.back ++ a ∷ []) ≤ k = le in
            same k (apart' b k (omega arith) (omega arith)) ∙ r.answers k x (let h : b ≤ k = omega arith in h) y;
        requests = λ k m le y. let below : k < length (messages c) = at_below (messages c) k m y in
            let le' : length mine + byes + count_of held ≤ k = le in
            same k (apart' b k (omega arith) (omega arith)) ∙ r.requests k m le y;
        unsent = λ k p y. let below : k < q = at_below c.put k p y in
            same (length (messages c) + k) (apart' b (length (messages c) + k) (omega arith) (omega arith))
            ∙ r.unsent k p y;
        frees = λ k le near other. let le' : length (messages c) + q ≤ k = le in
            let near' : k < length (c.back ++ a ∷ []) + WINDOW = near in
            let ne : suc k ≢ suc (b + WINDOW) = other in
            same k (apart' b k (omega arith) (omega arith))
            ∙ r.frees k le (let h : k < b + WINDOW = omega arith in h) (λ z. suc-ne-zero k (z ∙ idle));
      }

  -- the load of done, where nothing is taken
  pub is_told : (g : List Answered) (n : ℕ) → IsLaneConsistent (with_history c n g) mine told byes held posted done at
  is_told g n = record {
    posted_is = r.posted_is;
    done_is = r.done_is;
    told_is = r.told_is;
    order = r.order;
    asked_is = r.asked_is;
    answered = r.answered;
    known = r.known;
    numbered = r.numbered;
    leaves = r.leaves;
    all_back = r.all_back;
    behind = r.behind;
    open_is = r.open_is;
    slot_held_is = r.slot_held_is;
    within = r.within;
    answers = r.answers;
    requests = r.requests;
    unsent = r.unsent;
    frees = r.frees;
  }

  -- the worker gives back the slot of i, empty
  pub returns_slot : (at' : SlotContents) (i : ℕ) → c.slot_held ≡ suc i → at' i ≡ some (some None) → Else at at' i
      → IsLaneConsistent (holding_slot c 0) mine told byes held posted done at'
  returns_slot at' i slot_held here same = let b : ℕ = length c.back in let q : ℕ = length c.put in let all = count c in
      let high : length mine ≤ length c.sent = r.answered in let low : b ≤ length mine = back_below in
      let hand' : c.slot_held ≡ suc i = slot_held in
      let hands = r.slot_held_is (let g : 0 < c.slot_held = omega arith in g) in
      let above : length (messages c) + q < c.slot_held = hands.0 in let below_ : c.slot_held ≤ b + WINDOW = hands.1 in
      let behind' : length mine + byes + count_of held ≤ length (messages c) = r.behind in record {
        posted_is = r.posted_is;
        done_is = r.done_is;
        told_is = r.told_is;
        order = r.order;
        asked_is = r.asked_is;
        answered = r.answered;
        known = r.known;
        numbered = r.numbered;
        leaves = r.leaves;
        all_back = r.all_back;
        behind = r.behind;
        open_is = r.open_is;
        slot_held_is = λ (y : 0 < 0). absurd (omega arith);
        within = r.within;
        answers = λ k a le y. let below : k < length mine = at_below mine k a y in let le' : b ≤ k = le in
            same k (apart k i (omega arith) (omega arith)) ∙ r.answers k a le y;
        requests = λ k m le y. let below : k < length (messages c) = at_below (messages c) k m y in
            let le' : length mine + byes + count_of held ≤ k = le in
            same k (apart k i (omega arith) (omega arith)) ∙ r.requests k m le y;
        unsent = λ k p y. let below : k < q = at_below c.put k p y in
            same (length (messages c) + k) (apart (length (messages c) + k) i (omega arith) (omega arith))
            ∙ r.unsent k p y;
        frees = λ k le near _. let le' : length (messages c) + q ≤ k = le in let near' : k < b + WINDOW = near in
            dite (ℕ_discrete k i) (λ e. ap at' e ∙ here)
            (λ ne. same k (λ e. ne (window k i (omega arith) (omega arith) e))
            ∙ r.frees k le near (λ z. let z' : suc k ≡ suc i = z ∙ slot_held in let e : k ≡ i = omega arith in
            absurd (ne e)));
      }
    where
      window : (k i : ℕ) → k < i + WINDOW → i < k + WINDOW → k % WINDOW ≡ i % WINDOW → k ≡ i
      window k i a z e = ⊎_elim (λ (l : k ≤ i). one_turn k i WINDOW l z e)
          (λ (l : i ≤ k). sym (one_turn i k WINDOW l a (sym e))) (le_total k i)
        where
          le_total : (k i : ℕ) → (k ≤ i) ⊎ (i ≤ k)
          le_total k i = dite (dec_le k i) (λ l. inl l) (λ l. inr (omega arith))

  -- Storage's steps on the lane

  -- storage takes the next message out
  pub opens : (at' : SlotContents) (x : LaneMessage) → held ≡ none → get_elem? (messages c) (length mine + byes) ≡ some x
      → Else at at' (length mine + byes)
      → IsLaneConsistent c mine told byes (some x) posted done at'
  opens at' x none_ is same = let t : ℕ = length mine + byes in let b : ℕ = length c.back in
      let low : b ≤ length mine = back_below in
      let below_ : t < length (messages c) = at_below (messages c) t x is in
      let room : length (messages c) + length c.put ≤ b + WINDOW = r.within in
      let zero_ : count_of held ≡ 0 = ap count_of none_ in record {
        posted_is = r.posted_is;
        done_is = r.done_is;
        told_is = r.told_is;
        order = r.order;
        asked_is = r.asked_is;
        answered = r.answered;
        known = r.known;
        numbered = r.numbered;
        leaves = r.leaves;
        all_back = r.all_back;
        behind = let g : length mine + byes + 1 ≤ length (messages c) = omega arith in g;
        open_is = λ m y. is ∙ y;
        slot_held_is = r.slot_held_is;
        within = r.within;
        answers = λ k a le y. let below : k < length mine = at_below mine k a y in let le' : b ≤ k = le in
            same k (apart k t (omega arith) (omega arith)) ∙ r.answers k a le y;
        requests = λ k m le y. let below : k < length (messages c) = at_below (messages c) k m y in
            let le' : length mine + byes + 1 ≤ k = le in same k (apart' t k (omega arith) (omega arith))
            ∙ r.requests k m (let g : length mine + byes + count_of held ≤ k = omega arith in g) y;
        unsent = λ k p y. let below : k < length c.put = at_below c.put k p y in
            same (length (messages c) + k) (apart' t (length (messages c) + k) (omega arith) (omega arith))
            ∙ r.unsent k p y;
        frees = λ k le near other. let le' : length (messages c) + length c.put ≤ k = le in
            let near' : k < b + WINDOW = near in same k (apart' t k (omega arith) (omega arith)) ∙ r.frees k le near other;
      }

  -- the store of done, with an answer
  pub replies : (at' : SlotContents) (p : Posted) (a : Answered) → held ≡ some (Ask p) → posted_of a ≡ p
      → at' (length mine + byes) ≡ some (some (Some (Answer a)))
      → Else at at' (length mine + byes)
      → IsLaneConsistent c (mine ++ a ∷ []) told byes none posted done at'
  replies at' p a held_ for here same = let t : ℕ = length mine + byes in let n : ℕ = length mine in
      let b : ℕ = length c.back in
      let low : b ≤ n = back_below in
      let item : get_elem? (messages c) t ≡ some (Ask p) = r.open_is (Ask p) held_ in
      let below_ : t < length (messages c) = at_below (messages c) t (Ask p) item in
      let item' : get_elem? c.sent t ≡ some p = ask_at c.sent c.said_bye t p item in
      let below' : t < length c.sent = at_below c.sent t p item' in
      let room : length (messages c) + length c.put ≤ b + WINDOW = r.within in
      let one_ : count_of held ≡ 1 = ap count_of held_ in
      let zero_ : byes ≡ 0 = dite (ℕ_discrete byes 0) (λ z. z)
      (λ nz. let bye = r.leaves (let g : 0 < byes = omega arith in g) in let q : b ≡ length c.sent = r.all_back bye in
      absurd (omega arith)) in
      let longer : length (mine ++ a ∷ []) ≡ suc n = length-append mine (a ∷ []) ∙ (omega arith) in
      let t_is : t ≡ n = omega arith in
      let item'' : get_elem? c.sent n ≡ some p = subst (λ (z : ℕ). get_elem? c.sent z ≡ some p) t_is item' in record {
        posted_is = r.posted_is;
        done_is = r.done_is;
        told_is = starts_longer mine told (a ∷ []) r.told_is;
        order = r.order;
        asked_is = map-append posted_of mine (a ∷ [])
            ∙ (ap (λ (z : List Posted). z ++ posted_of a ∷ []) r.asked_is
            ∙ (ap (λ (z : Posted). take n c.sent ++ z ∷ []) for
            ∙ (sym (take_more c.sent n p item'') ∙ ap (λ (z : ℕ). take z c.sent) (sym longer))));
        answered = let g : length (mine ++ a ∷ []) ≤ length c.sent = omega arith in g;
        known = r.known;
        numbered = r.numbered;
        leaves = r.leaves;
        all_back = r.all_back;
        behind = let g : length (mine ++ a ∷ []) + byes + 0 ≤ length (messages c) = omega arith in g;
        open_is = λ m y. absurd (some-ne-none m (sym y));
        slot_held_is = r.slot_held_is;
        within = r.within;
        answers = λ k x le y. let le' : b ≤ k = le in
            ⊎_elim (λ (h : get_elem? mine k ≡ some x). let below : k < n = at_below mine k x h in
            same k (apart k t (omega arith) (omega arith))
            ∙ r.answers k x le h)
            (λ (h : (k ≡ length mine) × (a ≡ x)). let k_is : k ≡ t = h.0 ∙ sym t_is in ap at' k_is
            ∙ (here ∙ ap (λ (z : Answered). some (some (Some (Answer z)))) h.1)) (at_end mine a k x y);
        requests = λ k m le y. let below : k < length (messages c) = at_below (messages c) k m y in
            let le' : length (mine ++ a ∷ []) + byes + 0 ≤ k = le in
            same k (apart' t k (omega arith) (omega arith))
            ∙ r.requests k m (let g : length mine + byes + count_of held ≤ k = omega arith in g) y;
        unsent = λ k p y. let below : k < length c.put = at_below c.put k p y in
            same (length (messages c) + k) (apart' t (length (messages c) + k) (omega arith) (omega arith))
            ∙ r.unsent k p y;
        frees = λ k le near other. let le' : length (messages c) + length c.put ≤ k = le in
            let near' : k < b + WINDOW = near in same k (apart' t k (omega arith) (omega arith)) ∙ r.frees k le near other;
      }

  -- the store of done, for all answers of the lane
  pub tells : IsLaneConsistent c mine mine byes held posted (length mine + byes) at
  tells = let low : length told ≤ length mine = told_below in record {
    posted_is = r.posted_is;
    done_is = refl;
    told_is = starts_self mine;
    order = (
      let o : posted ≡ length (messages c) = r.posted_is in
          let h : length mine + byes + count_of held ≤ length (messages c) = r.behind in
          let g : length mine + byes ≤ posted = omega arith in g,
      let o : posted ≤ done + WINDOW = r.order.1 in let d : done ≡ length told + byes = r.done_is in
          let g : posted ≤ length mine + byes + WINDOW = omega arith in g,
    );
    asked_is = r.asked_is;
    answered = r.answered;
    known = starts_trans mine told c.back r.told_is r.known;
    numbered = r.numbered;
    leaves = r.leaves;
    all_back = r.all_back;
    behind = r.behind;
    open_is = r.open_is;
    slot_held_is = r.slot_held_is;
    within = r.within;
    answers = r.answers;
    requests = r.requests;
    unsent = r.unsent;
    frees = r.frees;
  }

  -- the store of done, after a Bye
  pub settles_bye : (at' : SlotContents) → held ≡ some Bye → Else at at' (length mine + byes)
      → IsLaneConsistent c mine told (suc byes) none posted (suc (length mine + byes)) at'
  settles_bye at' held_ same = let t : ℕ = length mine + byes in let n : ℕ = length mine in let b : ℕ = length c.back in
      let low : b ≤ n = back_below in
      let item : get_elem? (messages c) t ≡ some Bye = r.open_is Bye held_ in
      let below_ : t < length (messages c) = at_below (messages c) t Bye item in
      let last = bye_at c.sent c.said_bye t item in let all_back : b ≡ length c.sent = r.all_back last.0 in
      let high : n ≤ length c.sent = r.answered in
      let low' : b ≤ length told = back_told in let told_low : length told ≤ n = told_below in
      let room : length (messages c) + length c.put ≤ b + WINDOW = r.within in
      let one_ : count_of held ≡ 1 = ap count_of held_ in record {
        posted_is = r.posted_is;
        done_is = let g : suc (n + byes) ≡ length told + suc byes = omega arith in g;
        told_is = r.told_is;
        order = (
          let o : posted ≡ length (messages c) = r.posted_is in
              let h : length mine + byes + count_of held ≤ length (messages c) = r.behind in
              let g : suc (n + byes) ≤ posted = omega arith in g,
          let o : posted ≤ done + WINDOW = r.order.1 in let d : done ≡ length told + byes = r.done_is in
              let g : posted ≤ suc (n + byes) + WINDOW = omega arith in g,
        );
        asked_is = r.asked_is;
        answered = r.answered;
        known = r.known;
        numbered = r.numbered;
        leaves = λ _. last.0;
        all_back = r.all_back;
        behind = let g : length mine + suc byes + 0 ≤ length (messages c) = omega arith in g;
        open_is = λ m y. absurd (some-ne-none m (sym y));
        slot_held_is = r.slot_held_is;
        within = r.within;
        answers = λ k x le y. let le' : b ≤ k = le in
            let below : k < n = at_below mine k x y in
            same k (apart k t (omega arith) (omega arith)) ∙ r.answers k x le y;
        requests = λ k m le y. let below : k < length (messages c) = at_below (messages c) k m y in
            let le' : length mine + suc byes + 0 ≤ k = le in
            same k (apart' t k (omega arith) (omega arith))
            ∙ r.requests k m (let g : length mine + byes + count_of held ≤ k = omega arith in g) y;
        unsent = λ k p y. let below : k < length c.put = at_below c.put k p y in
            same (length (messages c) + k) (apart' t (length (messages c) + k) (omega arith) (omega arith))
            ∙ r.unsent k p y;
        frees = λ k le near other. let le' : length (messages c) + length c.put ≤ k = le in
            let near' : k < b + WINDOW = near in same k (apart' t k (omega arith) (omega arith)) ∙ r.frees k le near other;
      }
