-- A book stays a book when one session changes.
use Rattle.std.proofs.Common.{◌≡◌, ℕ, zero, suc, ◌+◌, ◌<◌, ◌≤◌, Bool, true, false, cond, List, []}
use Rattle.std.proofs.Common.{◌∷◌, ◌++◌, length, drop, Option, Some, None, Result, Ok, Err}
use Rattle.std.proofs.Common.{refl, sym, ap, subst, ◌∙◌, arith, inl, inr, add-zero, zero-add, length-append}
use Rattle.std.proofs.lemmas.List.{append-nil}
use Rattle.session_book.proofs.Steps.{reads_nothing}
use Rattle.std.specs.Prelude.{◌==◌, ◌⊎◌, slice_get}
use Rattle.std.proofs.lemmas.Bool.{cases_Bool, cases_eq, cases_lt, eq-eqb, ne_eqb}
use Rattle.std.specs.Prelude.{IsSome, is_some}
use Rattle.std.specs.Bool.{nat_eq}
use Rattle.std.specs.HashMap.{HashMap, UpdatesBy, IsUnique}
use Rattle.std.specs.Cmp.{nat_eq_equiv}
use Rattle.std.specs.Option.{option_map}
use Rattle.std.proofs.lemmas.Map.Entries.{hash_map_get_place}
use Rattle.indexmap.specs.IndexMap.{IndexMap, with_value_at, set_value_at}
use Rattle.indexmap.proofs.CallerLemmas.{updates-with_value_at}
use Rattle.std.specs.Map.{lookup}
use Rattle.proto.specs.declared.message.Request.{Request}
use Rattle.proto.specs.declared.message.Message.{Message}
use Rattle.proto.specs.declared.message.Reply.{Reply}
use Rattle.proto.specs.declared.history.Answered.{Answered}
use Rattle.proto.specs.declared.no_memory.NoMemory.{NoMemory}
use Rattle.proto.specs.Reading.{asks}
use Rattle.proto.specs.Answers.{said}
use Rattle.session_book.specs.declared.causes.Unasked.{Unasked}
use Rattle.session_book.specs.declared.causes.Unsettled.{Unsettled}
use Rattle.session_book.specs.declared.causes.Received.{Received}
use Rattle.session_book.specs.declared.causes.Received.TheVariants as receptions
use Rattle.session_book.specs.Session.{SessionState, new_session, begins_asked, messages_left, with_reply, IsInputFull}
use Rattle.session_book.specs.Session.{held_fed, TakesPiece, FeedsHeld, IsReady}
use Rattle.session_book.specs.Session.{ReadsMessages, ReadsAsk, given_request}
use Rattle.session_book.specs.Book.{BookState, session_of, unsettled_in, OnlyAt, ChangesSession, ChangesOpen, Receives}
use Rattle.session_book.specs.Book.{FeedsHeldOf, IsBook, GivesNone, NextAsk, given_in}
use Rattle.session_book.specs.Book.{IsOldest, SettlesReply, Starves}
use Rattle.session_book.proofs.Answering.{asks-left, begins_asked_by}
use Rattle.proto.proofs.AskLemmas.{asks-append}

-- an open session's number is not above the greatest one
pub open_within : (book : BookState) (session : ℕ) (s : SessionState) → IsBook book → session_of book session ≡ Some s
    → session ≤ book.greatest
open_within book session s is open_now =
    elim (cases_lt book.greatest session) [
      | inl above ↦ absurd (let none = is.open_below session above in cc)
      | inr within ↦ within
    ]

-- where only one session is another one, that is what stands at its number
pub at_session : (before after : BookState) (session : ℕ) (o : Option SessionState) → OnlyAt before after session o
    → session_of after session ≡ o
at_session before after session o only = only session ∙ rw (eq-eqb session session refl) refl

-- and each other session is as it was
pub at_other : (before after : BookState) (session other : ℕ) (o : Option SessionState) → OnlyAt before after session o
    → (other ≡ session → ⊥) → session_of after other ≡ session_of before other
at_other before after session other o only apart = only other ∙ rw (ne_eqb other session apart) refl

-- a session that may stand in a book, with this number of unsettled requests
pub record FitsBook (t : SessionState) (unsettled : ℕ) : Type 0 where
  pub asked : begins_asked t.queue ≡ true
  pub queued : length (asks t.queue) ≡ unsettled

-- one session becomes another one, or is closed
pub stays_book : (before after : BookState) (session : ℕ) (o : Option SessionState) → IsBook before
    → OnlyAt before after session o
    → session ≤ after.greatest → before.greatest ≤ after.greatest
    → ((t : SessionState) → o ≡ Some t → FitsBook t (unsettled_in after.unsettled session))
    → ((other : ℕ) → (other ≡ session → ⊥) → unsettled_in after.unsettled other ≡ unsettled_in before.unsettled other)
    → IsBook after
stays_book before after session o is only within grows mine others = record {
  asked = λ other s open_now.
      elim (cases_eq other session) [
        | inl same ↦ (mine s (sym (at_session before after session o only) ∙ ap (session_of after) (sym same)
            ∙ open_now)).asked
        | inr apart ↦ is.asked other s (sym (at_other before after session other o only apart) ∙ open_now)
      ];
  queued = λ other s open_now.
      elim (cases_eq other session) [
        | inl same ↦
            let there : o ≡ Some s = sym (at_session before after session o only) ∙ ap (session_of after) (sym same)
            ∙ open_now in
            (mine s there).queued ∙ ap (unsettled_in after.unsettled) (sym same)
        | inr apart ↦ is.queued other s (sym (at_other before after session other o only apart) ∙ open_now)
            ∙ sym (others other apart)
      ];
  open_below = λ other above. at_other before after session other o only (λ same. absurd (omega arith))
      ∙ is.open_below other (omega arith);
  unsettled_below = λ other above. others other (λ same. absurd (omega arith)) ∙ is.unsettled_below other (omega arith);
}

-- what holds of one session holds of the one that is there
of_one : (t u : SessionState) (n : ℕ) → FitsBook t n → Some t ≡ Some u → FitsBook u n
of_one t u n fits e = let u_is : t ≡ u = cc in rw (← u_is) fits

-- a session's messages are read, and the unsettled requests stay as they are
pub stays_unsettled : (before after : BookState) (session : ℕ) (s t : SessionState) → IsBook before
    → session_of before session ≡ Some s → OnlyAt before after session (Some t)
    → after.greatest ≡ before.greatest → after.unsettled ≡ before.unsettled
    → (begins_asked s.queue ≡ true → FitsBook t (length (asks s.queue))) → IsBook after
stays_unsettled before after session s t is open_now only greatest unsettled fits =
    let within = open_within before session s is open_now in
    let fits_now : FitsBook t (unsettled_in after.unsettled session) =
    rw (unsettled, ← is.queued session s open_now) (fits (is.asked session s open_now)) in
    stays_book before after session (Some t) is only (omega (arith, greatest, within)) (omega (arith, greatest))
    (λ u e. of_one t u _ fits_now e) (λ other apart. rw unsettled refl)

-- where the queue stays the session fits
pub same_queue : (s t : SessionState) → t.queue ≡ s.queue → begins_asked s.queue ≡ true
    → FitsBook t (length (asks s.queue))
same_queue s t same asked = record { asked = rw same asked; queued = rw same refl }

-- a new session fits at a number that wasn't in use
pub opens_book : (before after : BookState) (session : ℕ) → IsBook before
    → OnlyAt before after session (Some (new_session before.dialect))
    → before.greatest < session → after.greatest ≡ session
    → after.unsettled ≡ before.unsettled → IsBook after
opens_book before after session is only new greatest unsettled =
    stays_book before after session (Some (new_session before.dialect)) is only (omega (arith, greatest)) (omega (arith, greatest))
    (λ u e. of_one (new_session before.dialect) u _ (record {
      asked = refl;
      queued = rw unsettled (sym (is.unsettled_below session new));
    }) e)
    (λ other apart. rw unsettled refl)

-- ---- reading and settling

-- the requests read go to the queue
asks_read : (s t : SessionState) (ms : List Message) → ReadsMessages s ms t
    → length (asks t.queue) ≡ length (asks s.queue) + length (asks ms)
asks_read s t ms h = rw h.queue
    (sym (zero-add _) ∙ asks-left (s.queue ++ ms) [] (omega arith) ∙ ap length (asks-append s.queue ms)
    ∙ length-append (asks s.queue) (asks ms))

-- the queue after reading is empty or begins with a request
begins_read : (s t : SessionState) (ms : List Message) → ReadsMessages s ms t → begins_asked t.queue ≡ true
begins_read s t ms h = begins_asked_by t.queue (s.queue ++ ms) [] h.queue

-- a session that has read no request fits as before
pub fits_unasked : (s t : SessionState) (looks looks_after : ℕ) (r : Result (Option Request) Unasked)
    → ReadsAsk s looks r t looks_after → given_request r ≡ [] → FitsBook t (length (asks s.queue))
fits_unasked s t looks looks_after r h none = record {
  asked = begins_read s t h.messages h.reading.reads;
  queued = omega (arith, asks_read s t h.messages h.reading.reads, ap length (h.reading.requests_are ∙ none));
}

-- a request more is unsettled in its session, and in no other
count_more : (us : List Unsettled) (number session other : ℕ) (b : Bool) → (session == other) ≡ b
    → unsettled_in (us ++ record { number = number; session = session } ∷ []) other ≡ unsettled_in us other + cond b 1 0
count_more [] number session other true e = rw e refl
count_more [] number session other false e = rw e refl
count_more (u ∷ us) number session other b e =
    elim (cases_Bool (u.session == other)) [
      | inl same ↦ rw same (omega (arith, count_more us number session other b e))
      | inr apart ↦ rw apart (count_more us number session other b e)
    ]

-- a session has read a request, which is unsettled
pub asks_book : (before after : BookState) (session number : ℕ) (s t : SessionState) (q : Request)
    (r : Result (Option Request) Unasked) (looks looks_after : ℕ) → IsBook before → session_of before session ≡ Some s
    → OnlyAt before after session (Some t) → after.greatest ≡ before.greatest
    → after.unsettled ≡ before.unsettled ++ record { number = number; session = session } ∷ []
    → r ≡ Ok (Some q) → ReadsAsk s looks r t looks_after → IsBook after
asks_book before after session number s t q r looks looks_after is open_now only greatest unsettled r_is h =
    let within = open_within before session s is open_now in
    let mine : unsettled_in after.unsettled session ≡ unsettled_in before.unsettled session + 1 =
    rw unsettled (count_more before.unsettled number session session true (eq-eqb session session refl)) in
    let queued : length (asks t.queue) ≡ unsettled_in after.unsettled session =
    omega (
      arith,
      asks_read s t h.messages h.reading.reads,
      ap length (h.reading.requests_are ∙ ap given_request r_is),
      is.queued session s open_now,
      mine,
    ) in
    stays_book before after session (Some t) is only (omega (arith, greatest, within)) (omega (arith, greatest))
    (λ u e. of_one t u _ (record { asked = begins_read s t h.messages h.reading.reads; queued = queued }) e)
    (λ other apart. rw unsettled (count_more before.unsettled number session other false
    (ne_eqb session other (λ e. apart (sym e))) ∙ add-zero _))

-- the first of the unsettled requests is one of its session
first_unsettled : (us : List Unsettled) (number session other : ℕ) (b : Bool) → (session == other) ≡ b
    → slice_get us 0 ≡ Some (record { number = number; session = session })
    → unsettled_in us other ≡ unsettled_in (drop 1 us) other + cond b 1 0
first_unsettled [] number session other b e first = absurd cc
first_unsettled (u ∷ us) number session other true e first =
    let at : u.session ≡ session = (let same : u ≡ record { number = number; session = session } = cc in
    ap (λ (v : Unsettled). v.session) same) in
    rw (at, e) (omega arith)
first_unsettled (u ∷ us) number session other false e first =
    let at : u.session ≡ session = (let same : u ≡ record { number = number; session = session } = cc in
    ap (λ (v : Unsettled). v.session) same) in
    rw (at, e) (omega arith)

-- the oldest request is no longer unsettled
pub settles_book : (before after : BookState) (session number : ℕ) (o : Option SessionState) → IsBook before
    → OnlyAt before after session o → after.greatest ≡ before.greatest
    → slice_get before.unsettled 0 ≡ Some (record { number = number; session = session })
    → after.unsettled ≡ drop 1 before.unsettled
    → ((t : SessionState) → o ≡ Some t → begins_asked t.queue ≡ true)
    → ((t : SessionState) → o ≡ Some t → length (asks t.queue) + 1 ≡ unsettled_in before.unsettled session)
    → IsBook after
settles_book before after session number o is only greatest oldest unsettled asked queued =
    let counted : unsettled_in before.unsettled session ≡ unsettled_in after.unsettled session + 1 =
    first_unsettled before.unsettled number session session true (eq-eqb session session refl) oldest
    ∙ ap (λ (us : List Unsettled). unsettled_in us session + 1) (sym unsettled) in
    let within : session ≤ before.greatest =
    elim (cases_lt before.greatest session) [
      | inl above ↦ absurd (omega (arith, is.unsettled_below session above, counted))
      | inr below ↦ below
    ] in
    stays_book before after session o is only (omega (arith, greatest, within)) (omega (arith, greatest))
    (λ t e. record { asked = asked t e; queued = omega (arith, queued t e, counted) })
    (λ other apart.
    rw unsettled (sym (first_unsettled before.unsettled number session other false
    (ne_eqb session other (λ e. apart (sym e))) oldest ∙ add-zero _)))

-- the session of the oldest request has a request in its queue
pub first_asked : (before : BookState) (session number : ℕ) (s : SessionState) → IsBook before
    → session_of before session ≡ Some s
    → slice_get before.unsettled 0 ≡ Some (record { number = number; session = session }) → 0 < length (asks s.queue)
first_asked before session number s is open_now oldest =
    omega (
      arith,
      is.queued session s open_now,
      first_unsettled before.unsettled number session session true (eq-eqb session session refl) oldest,
    )

-- it gets its reply
pub settles_kept : (before after : BookState) (session number : ℕ) (s t : SessionState) (reply : Reply) → IsBook before
    → session_of before session ≡ Some s → OnlyAt before after session (Some t)
    → after.greatest ≡ before.greatest → slice_get before.unsettled 0
    ≡ Some (record { number = number; session = session })
    → after.unsettled ≡ drop 1 before.unsettled
    → t ≡ with_reply s reply → IsBook after
settles_kept before after session number s t reply is open_now only greatest oldest unsettled t_is =
    let queue : t.queue ≡ messages_left s.queue (reply ∷ []) = ap (λ (x : SessionState). x.queue) t_is in
    let one : 0 < length (asks s.queue) = first_asked before session number s is open_now oldest in
    let queued : length (asks t.queue) + 1 ≡ unsettled_in before.unsettled session =
    rw queue (omega (arith, asks-left s.queue (reply ∷ []) one, is.queued session s open_now)) in
    settles_book before after session number (Some t) is only greatest oldest unsettled
    (λ u e. (let u_is : t ≡ u = cc in rw (← u_is) (begins_asked_by t.queue s.queue (reply ∷ []) queue)))
    (λ u e. (let u_is : t ≡ u = cc in rw (← u_is) queued))

-- ---- the map of the sessions

-- the two tests of equal numbers agree, in either order
same_number : (a b : ℕ) → nat_eq a b ≡ (b == a)
same_number a b =
    elim (cases_eq a b) [
      | inl same ↦ eq-eqb a b same ∙ sym (eq-eqb b a (sym same))
      | inr apart ↦ ne_eqb a b apart ∙ sym (ne_eqb b a (λ e. apart (sym e)))
    ]

-- the map has another value, or none, at one number
abbrev pub OnlySession : List (ℕ × SessionState) → List (ℕ × SessionState) → ℕ → Option SessionState → Type 0
OnlySession before after session o = (q : ℕ)
    → lookup (nat_eq q) after ≡ cond (q == session) o (lookup (nat_eq q) before)

-- a map that was updated by a session's number has the new value there, or none, and the old ones
-- elsewhere
pub updated_only : {S : Type 0} (m n : HashMap ℕ SessionState S) (session : ℕ) (o : Option SessionState)
    → UpdatesBy nat_eq (nat_eq session) m n o → OnlySession m.entries n.entries session o
updated_only m n session o h q = h.0 q ∙ ap (λ (b : Bool). cond b o (lookup (nat_eq q) m.entries))
    (same_number session q)

-- a value that is written over itself changes nothing
set_same : (es : List (ℕ × SessionState)) (i k : ℕ) (s : SessionState) → slice_get es i ≡ Some (k, s) → set_value_at es i s ≡ es
set_same [] i k s at = refl
set_same (e ∷ es) zero k s at =
    let e_is : e ≡ (k, s) = cc in ap (λ (x : ℕ × SessionState). (e.0, x.1) ∷ es) (sym e_is)
set_same (e ∷ es) (suc i) k s at = ap (λ (rest : List (ℕ × SessionState)). e ∷ rest) (set_same es i k s at)

-- a session s that stands at place i: it is open; what is written there is written at its number
-- alone, and stands there; and writing it back changes nothing
pub record Placed (es : List (ℕ × SessionState)) (i session : ℕ) (s : SessionState) : Type 0 where
  pub there : lookup (nat_eq session) es ≡ Some s
  pub only : (t : SessionState) → OnlySession es (set_value_at es i t) session (Some t)
  pub now : (t : SessionState) → lookup (nat_eq session) (set_value_at es i t) ≡ Some t
  pub back : (t : SessionState) → t ≡ s → set_value_at es i t ≡ es

pub placed : {S : Type 0} (m : IndexMap ℕ SessionState S) (i session k : ℕ) (s : SessionState) → IsUnique nat_eq m
    → slice_get m.entries i ≡ Some (k, s)
    → option_map (λ (e : ℕ × SessionState). e.0) (slice_get m.entries i) ≡ Some session → Placed m.entries i session s
placed m i session k s unique at found =
    let here : Some k ≡ Some session = sym (ap (option_map (λ (e : ℕ × SessionState). e.0)) at) ∙ found in
    let same : k ≡ session = cc in
    let only : (t : SessionState) → OnlySession m.entries (set_value_at m.entries i t) k (Some t) =
    λ t. updated_only m (with_value_at m i t) k (Some t) (updates-with_value_at m i t nat_eq_equiv unique k s at) in
    subst (λ (n : ℕ). Placed m.entries i n s) same (record {
      there = hash_map_get_place nat_eq_equiv m i k s unique at;
      only = only;
      now = λ t. only t k ∙ rw (eq-eqb k k refl) refl;
      back = λ t e. subst (λ (x : SessionState). set_value_at m.entries i x ≡ m.entries) (sym e) (set_same m.entries i k s at);
    })

-- the last change counts
pub only_again : (a b c : List (ℕ × SessionState)) (session : ℕ) (o p : Option SessionState) → OnlySession a b session o
    → OnlySession b c session p → OnlySession a c session p
only_again a b c session o p h k q =
    elim (cases_Bool (q == session)) [
      | inl at ↦ k q ∙ rw at refl
      | inr apart ↦ k q ∙ rw apart (h q ∙ rw apart refl)
    ]

-- what stands at a number, or that nothing does, stays as it is
pub nothing_only : (a : List (ℕ × SessionState)) (session : ℕ) (o : Option SessionState) → lookup (nat_eq session) a ≡ o
    → OnlySession a a session o
nothing_only a session o there q =
    elim (cases_eq q session) [
      | inl at ↦ rw (at, eq-eqb session session refl) there
      | inr apart ↦ rw (ne_eqb q session apart) refl
    ]

-- ---- what the calls answer

-- no request is given, and nothing was read
pub idle_ask : (before : BookState) (session : ℕ) (s : SessionState) (result : Result (Option (Request × ℕ)) Unasked)
    (after : BookState) → given_in result ≡ [] → after ≡ before → IsBook before
    → session_of before session ≡ Some s → (result ≡ Ok None → GivesNone before s)
    → ((e : Unasked) → result ≡ Err e → IsReady s) → NextAsk before session s result after
idle_ask before session s result after none same is open_now cause failed = record {
  messages = [];
  read = s;
  reading = record {
    reads = reads_nothing s (is.asked session s open_now);
    ask_at_last = tt;
    requests_are = rw none refl;
    waits = λ over. refl;
    most_looks = rw same (omega arith);
    no_look = λ short. ap (λ (b : BookState). b.looks) same;
  };
  only_at = rw same (nothing_only before.sessions session (Some s) open_now);
  numbers = rw none refl;
  rest = rw (none, same, append-nil, add-zero) refl;
  room = rw (same) (omega arith);
  enough = rw (same) (omega arith);
  none = cause;
  refused = failed;
}

-- the reply went to the session
pub settles_reply : (before now after : BookState) (answered : Answered) (s t : SessionState) → before ≡ now
    → IsBook before
    → session_of before answered.session ≡ Some s
    → OnlyAt before after answered.session (Some t) → IsOldest before answered
    → after ≡ record before { sessions = after.sessions; unsettled = drop 1 before.unsettled }
    → t ≡ with_reply s answered.reply → SettlesReply now after answered
settles_reply before now after answered s t same is open_now only oldest rest t_is =
    subst (λ (b : BookState). SettlesReply b after answered) same (record {
      s = s;
      was_open = open_now;
      unsettled = first_asked before answered.session answered.number s is open_now oldest;
      settles = record {
        oldest = oldest;
        only_at = subst (λ (x : SessionState). OnlyAt before after answered.session (Some x)) t_is only;
        rest = rest;
      };
    })

-- the session was closed, since there was no room for what it is to be said
pub settles_starved : (before now after : BookState) (answered : Answered) (s : SessionState) → before ≡ now
    → session_of before answered.session ≡ Some s → ¬ (said s.queue (answered.reply ∷ []) ≡ [])
    → OnlyAt before after answered.session None → IsOldest before answered
    → after ≡ record before { sessions = after.sessions; unsettled = drop 1 before.unsettled }
    → Starves now after answered
settles_starved before now after answered s same open_now something only oldest rest =
    subst (λ (b : BookState). Starves b after answered) same (record {
      s = s;
      was_open = open_now;
      something = something;
      settles = record { oldest = oldest; only_at = only; rest = rest };
    })

-- a session is open no more, if it was
pub closes_book : (before after : BookState) (session : ℕ) → IsBook before → OnlyAt before after session None
    → after.greatest ≡ before.greatest → after.unsettled ≡ before.unsettled → IsBook after
closes_book before after session is only greatest unsettled =
    let closed = at_session before after session None only in
    record {
      asked = λ other s open_now.
          elim (cases_eq other session) [
            | inl same ↦ absurd (let none = sym (ap (session_of after) same ∙ closed) ∙ open_now in cc)
            | inr apart ↦ is.asked other s (sym (at_other before after session other None only apart) ∙ open_now)
          ];
      queued = λ other s open_now.
          elim (cases_eq other session) [
            | inl same ↦ absurd (let none = sym (ap (session_of after) same ∙ closed) ∙ open_now in cc)
            | inr apart ↦ is.queued other s (sym (at_other before after session other None only apart) ∙ open_now)
                ∙ ap (λ (us : List Unsettled). unsettled_in us other) (sym unsettled)
          ];
      open_below = λ other above.
          elim (cases_eq other session) [
            | inl same ↦ ap (session_of after) same ∙ closed
            | inr apart ↦ at_other before after session other None only apart
                ∙ is.open_below other (omega (arith, greatest, above))
          ];
      unsettled_below = λ other above.
          ap (λ (us : List Unsettled). unsettled_in us other) unsettled ∙ is.unsettled_below other (omega (arith, greatest, above));
    }

pub closed_at : (before after now : BookState) → before ≡ now → (session : ℕ) → OnlyAt before after session None
    → after ≡ record before { sessions = after.sessions } → ChangesSession now after session None
closed_at before after now same session only rest =
    subst (λ (b : BookState). ChangesSession b after session None) same (record { only_at = only; rest = rest })

-- only an open session has changed
changed : (before after now : BookState) → before ≡ now
    → (session : ℕ) (s t u : SessionState) (Changes : SessionState → SessionState → Type 0)
    → session_of before session ≡ Some s → OnlyAt before after session (Some u)
    → after ≡ record before { sessions = after.sessions }
    → Changes s t → u ≡ t → ChangesOpen now after session Changes
changed before after now same session s t u Changes open_now only rest changes u_is =
    subst (λ (b : BookState). ChangesOpen b after session Changes) same (record {
      s = s;
      t = t;
      was_open = open_now;
      changes = changes;
      only = record {
        only_at = subst (λ (x : SessionState). OnlyAt before after session (Some x)) u_is only;
        rest = rest;
      };
    })

-- an open session has become another one
pub changes_by : (before after now : BookState) → before ≡ now → (session : ℕ) (f : SessionState → SessionState) (s t : SessionState)
    → session_of before session ≡ Some s → OnlyAt before after session (Some t)
    → after ≡ record before { sessions = after.sessions } → t ≡ f s
    → ChangesSession now after session (option_map f (session_of now session))
changes_by before after now same session f s t open_now only rest t_is =
    subst (λ (b : BookState). ChangesSession b after session (option_map f (session_of b session))) same (record {
      only_at = subst (λ (o : Option SessionState). OnlyAt before after session o)
          (ap Some t_is ∙ ap (option_map f) (sym open_now)) only;
      rest = rest;
    })

-- a session that is open in a book is open in the book that this is
still_open : (before now : BookState) → before ≡ now → (session : ℕ) (s : SessionState)
    → session_of before session ≡ Some s → IsSome (session_of now session)
still_open before now same session s open_now =
    subst (λ (b : BookState). IsSome (session_of b session)) same
    (subst (λ (o : Option SessionState). IsSome o) (sym open_now) refl)

-- where the sessions stay the book does
pub unchanged : (before after now : BookState) → before ≡ now → after ≡ record before { sessions = after.sessions }
    → after.sessions ≡ before.sessions → after ≡ now
unchanged before after now same rest back =
    rest ∙ ap (λ (es : List (ℕ × SessionState)). record before { sessions = es }) back ∙ same

once_queue : (b : Bool) (s : SessionState) (piece : List ℕ) → (cond b s (record s { unread = s.unread ++ piece })).queue ≡ s.queue
once_queue true s piece = refl
once_queue false s piece = refl

-- a piece that came leaves the queue
pub taken_queue : (r : Received) (s t : SessionState) (piece : List ℕ) → TakesPiece s piece r t → t.queue ≡ s.queue
taken_queue receptions.Fed s t piece h = ap (λ (x : SessionState). x.queue) h.2 ∙ once_queue (is_some s.ended) s piece
taken_queue receptions.Held s t piece h = ap (λ (x : SessionState). x.queue) h.2
taken_queue receptions.Refused s t piece h = ap (λ (x : SessionState). x.queue) h
taken_queue receptions.Unknown s t piece h = absurd h

-- a piece came of an open session
pub received : (r : Received) (before after now : BookState) → before ≡ now
    → (session : ℕ) (piece : List ℕ) (s t u : SessionState)
    → session_of before session ≡ Some s → OnlyAt before after session (Some u)
    → after ≡ record before { sessions = after.sessions }
    → TakesPiece s piece r t → u ≡ t → (u ≡ s → after.sessions ≡ before.sessions) → Receives now session piece r after
received receptions.Fed before after now same session piece s t u open_now only rest takes u_is back =
    changed before after now same session s t u
    (λ x y. TakesPiece x piece receptions.Fed y) open_now only rest takes u_is
received receptions.Held before after now same session piece s t u open_now only rest takes u_is back =
    changed before after now same session s t u
    (λ x y. TakesPiece x piece receptions.Held y) open_now only rest takes u_is
received receptions.Refused before after now same session piece s t u open_now only rest takes u_is back = (
  still_open before now same session s open_now,
  unchanged before after now same rest (back (u_is ∙ takes)),
)
received receptions.Unknown before after now same session piece s t u open_now only rest takes u_is back = absurd takes

-- nor does the held piece change it
pub fed_queue : (r : Result Bool NoMemory) (s t : SessionState) → FeedsHeld s r t → t.queue ≡ s.queue
fed_queue (Ok true) s t h = ap (λ (x : SessionState). x.queue) h.1 ∙ once_queue (is_some s.ended) s s.held
fed_queue (Ok false) s t h = ap (λ (x : SessionState). x.queue) h.1
fed_queue (Err e) s t h = ap (λ (x : SessionState). x.queue) h

-- the held piece of an open session was tried
pub fed_again : (r : Result Bool NoMemory) (before after now : BookState) → before ≡ now
    → (session : ℕ) (s t u : SessionState)
    → session_of before session ≡ Some s → OnlyAt before after session (Some u)
    → after ≡ record before { sessions = after.sessions }
    → FeedsHeld s r t → u ≡ t → (u ≡ s → after.sessions ≡ before.sessions) → FeedsHeldOf now session r after
fed_again (Ok true) before after now same session s t u open_now only rest feeds u_is back =
    changed before after now same session s t u (λ x y. ¬ (IsInputFull x x.held) × (y ≡ held_fed x)) open_now only rest
    feeds u_is
fed_again (Ok false) before after now same session s t u open_now only rest feeds u_is back = (
  λ x x_open.
      let x_is : Some s ≡ Some x = sym open_now ∙ ap (λ (b : BookState). session_of b session) same ∙ x_open in
      let s_is : s ≡ x = cc in
      subst (λ (y : SessionState). (y.held ≡ []) ⊎ IsInputFull y y.held) s_is feeds.0,
  unchanged before after now same rest (back (u_is ∙ feeds.1)),
)
fed_again (Err e) before after now same session s t u open_now only rest feeds u_is back = (
  still_open before now same session s open_now,
  unchanged before after now same rest (back (u_is ∙ feeds)),
)
