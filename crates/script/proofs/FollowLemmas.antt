-- What a port's list says of its script, after each step.
use Rattle.std.proofs.Common.{◌≡◌, ◌≢◌, ℕ, ◌≤◌, ◌==◌, nat_lt, Bool, true, false, true≢false, not, ◌||◌, cond, eq-eqb}
use Rattle.std.proofs.Common.{ne_eqb, List, [], ◌∷◌, ◌++◌, length}
use Rattle.std.proofs.Common.{take, drop, append-nil, append_assoc, refl, sym, ap, subst, ◌∙◌, arith, None}
use Rattle.std.specs.List.{AllByRecursion}
use Rattle.std.proofs.lemmas.List.Folds.{list_any-append}
use Rattle.std.proofs.lemmas.Grind.{flat_map-append}
use Rattle.std.proofs.lemmas.List.{drop_all, take-append-drop}
use Rattle.std.proofs.lemmas.List.Elements.{filter_map-append}
use Rattle.exchange.specs.Beginnings.{StartsWith}
use Rattle.script.specs.declared.event.ScriptEvent.{ScriptEvent}
use Rattle.script.specs.declared.event.ScriptEvent.TheVariants.{Open, Send, Gone}
use Rattle.script.specs.Events.{open_after, sent_bytes, sent_by, goes_by_event, goes_in_script}
use Rattle.script.specs.Events as script
use Rattle.worker_port.specs.declared.events.PortRecord.{PortRecord}
use Rattle.worker_port.specs.declared.events.PortRecord.TheVariants as was
use Rattle.worker_port.specs.Ports.{fed, is_entry, is_in}
use Rattle.worker_port.proofs.Facts.{any_more, any_no, fed_both}
use Rattle.script.specs.PortEvents.{event_session, events_without, send_after, plays_from}
use Rattle.script.specs.Records.{opened_sessions, opened_by}
use Rattle.script.specs.Following.{Follows, MayGo}
use Rattle.script.proofs.EventLemmas.{bool_cases, and_left, and_right, lt_true, lt_false, IsApart}
use Rattle.script.proofs.PlayerLemmas.{opened_more, opened_one}
use Rattle.proto.proofs.CountLemmas.{either_way}

-- ---- lists of events, and of records

-- two lists of events, one after the other, send a session the bytes of the first and then those of
-- the second
sent_more : (xs ys : List ScriptEvent) (s : ℕ) → sent_bytes (xs ++ ys) s ≡ sent_bytes xs s ++ sent_bytes ys s
sent_more xs ys s = flat_map-append (sent_by s) xs ys

-- two lists of events, one after the other, open the sessions of the first and then those of the
-- second
opens_more : (xs ys : List ScriptEvent)
    → script.sessions_opened (xs ++ ys) ≡ script.sessions_opened xs ++ script.sessions_opened ys
opens_more xs ys = filter_map-append script.session_opened_by xs ys

-- one more record puts the bytes that it has of a session after those that came before
fed_more : (l l' : List PortRecord) (x : PortRecord) (s : ℕ) → l' ≡ l ++ x ∷ [] → fed s l' ≡ fed s l ++ fed s (x ∷ [])
fed_more l l' x s e = ap (fed s) e ∙ fed_both s l (x ∷ [])

-- a record with no bytes of a session leaves what came of it as it was
fed_same : (l l' : List PortRecord) (x : PortRecord) (s : ℕ) → l' ≡ l ++ x ∷ [] → fed s (x ∷ []) ≡ []
    → fed s l' ≡ fed s l
fed_same l l' x s e none = fed_more l l' x s e ∙ ap (λ (b : List ℕ). fed s l ++ b) none ∙ append-nil (fed s l)

-- an event of another session sends this one nothing
sends_nothing : (e : ScriptEvent) (s : ℕ) → event_session e ≢ s → sent_by s e ≡ []
sends_nothing (Open t) s other = refl
sends_nothing (Send t bytes) s other = ap (λ b. cond b bytes []) (ne_eqb t s other)
sends_nothing (Gone t) s other = refl

-- events of other sessions send an event's session nothing
pub sent_apart : (n : ℕ) (e : ScriptEvent) (xs : List ScriptEvent) → AllByRecursion (IsApart n e) xs
    → sent_bytes xs (event_session e) ≡ []
sent_apart n e [] apart = refl
sent_apart n e (x ∷ xs) apart = (λ i. sends_nothing x (event_session e) apart.0.other i ++ sent_apart n e xs apart.1 i)

-- events of sessions that were opened before open none
pub no_opens : (n : ℕ) (o : ℕ → Bool) (e : ScriptEvent) (xs ys : List ScriptEvent) → AllByRecursion (IsApart n e) xs
    → plays_from n o (xs ++ ys) ≡ true → script.sessions_opened xs ≡ []
no_opens n o e [] ys apart h = refl
no_opens n o e (Open s ∷ xs) ys apart h = let lt = lt_true n s
    (and_left (nat_lt n s) (plays_from s (λ t. open_after t (o t) (Open s)) (xs ++ ys)) h) in
    absurd (omega (arith, lt, apart.0.old))
no_opens n o e (Send s bytes ∷ xs) ys apart h =
    no_opens n o e xs ys apart.1 (and_right (o s) (plays_from n o (xs ++ ys)) h)
no_opens n o e (Gone s ∷ xs) ys apart h = no_opens n (λ t. open_after t (o t) (Gone s)) e xs ys apart.1
    (and_right (o s) (plays_from n (λ t. open_after t (o t) (Gone s)) (xs ++ ys)) h)

-- without a session's events the others send the same
sent_without : (s t : ℕ) (xs : List ScriptEvent) → t ≢ s → sent_bytes (events_without s xs) t ≡ sent_bytes xs t
sent_without s t [] other = refl
sent_without s t (x ∷ xs) other =
    either_way (event_session x) s
    (λ same.
    ap (λ b. sent_bytes (cond (not b) (x ∷ events_without s xs) (events_without s xs)) t)
    (eq-eqb (event_session x) s same)
    ∙ sent_without s t xs other
    ∙ sym (ap (λ (b : List ℕ). b ++ sent_bytes xs t) (sends_nothing x t (λ e. other (sym e ∙ same)))))
    (λ apart.
    ap (λ b. sent_bytes (cond (not b) (x ∷ events_without s xs) (events_without s xs)) t)
    (ne_eqb (event_session x) s apart)
    ∙ ap (λ (b : List ℕ). sent_by t x ++ b) (sent_without s t xs other))

-- and the same sessions are opened, where this one was opened before
pub opens_without : (n : ℕ) (o : ℕ → Bool) (s : ℕ) (xs : List ScriptEvent) → s ≤ n → plays_from n o xs ≡ true
    → script.sessions_opened (events_without s xs) ≡ script.sessions_opened xs
opens_without n o s [] le h = refl
opens_without n o s (Open t ∷ xs) le h =
    let lt = lt_true n t (and_left (nat_lt n t) (plays_from t (λ u. open_after u (o u) (Open t)) xs) h) in
    let apart : t ≢ s = λ e. omega (arith, lt, e) in
    ap (λ b. script.sessions_opened (cond (not b) (Open t ∷ events_without s xs) (events_without s xs)))
    (ne_eqb t s apart)
    ∙ ap (λ (l : List ℕ). t ∷ l)
    (opens_without t (λ u. open_after u (o u) (Open t)) s xs (omega (arith, lt, le))
    (and_right (nat_lt n t) (plays_from t (λ u. open_after u (o u) (Open t)) xs) h))
opens_without n o s (Send t bytes ∷ xs) le h =
    either_way t s
    (λ same. ap (λ b. script.sessions_opened (cond (not b) (Send t bytes ∷ events_without s xs) (events_without s xs)))
    (eq-eqb t s same)
    ∙ opens_without n o s xs le (and_right (o t) (plays_from n o xs) h))
    (λ apart. ap (λ b. script.sessions_opened (cond (not b) (Send t bytes ∷ events_without s xs) (events_without s xs)))
    (ne_eqb t s apart)
    ∙ opens_without n o s xs le (and_right (o t) (plays_from n o xs) h))
opens_without n o s (Gone t ∷ xs) le h =
    let rest = opens_without n (λ u. open_after u (o u) (Gone t)) s xs le
    (and_right (o t) (plays_from n (λ u. open_after u (o u) (Gone t)) xs) h) in
    either_way t s
    (λ same. ap (λ b. script.sessions_opened (cond (not b) (Gone t ∷ events_without s xs) (events_without s xs)))
    (eq-eqb t s same) ∙ rest)
    (λ apart. ap (λ b. script.sessions_opened (cond (not b) (Gone t ∷ events_without s xs) (events_without s xs)))
    (ne_eqb t s apart) ∙ rest)

-- ---- which peers go

-- a test joined by `||` with false stays as it is
or_no : (b : Bool) → (b || false) ≡ b
or_no true = refl
or_no false = refl

-- if the first of two tests passes, one of the two does
pub or_first : (a b : Bool) → a ≡ true → (a || b) ≡ true
or_first a b e = ap (λ c. c || b) e

-- if the second of two tests passes, one of the two does
pub or_second : (a b : Bool) → b ≡ true → (a || b) ≡ true
or_second true b e = refl
or_second false b e = e

-- what follows from each of two tests follows where one of the two passes
or_either : {A : Type 0} (a b : Bool) → (a || b) ≡ true → (a ≡ true → A) → (b ≡ true → A) → A
or_either true b e f g = f refl
or_either false b e f g = g e

-- in two lists of events, one after the other, a peer goes exactly where it goes in one of them
goes_more : (xs ys : List ScriptEvent) (s : ℕ)
    → goes_in_script (xs ++ ys) s ≡ (goes_in_script xs s || goes_in_script ys s)
goes_more xs ys s = list_any-append (goes_by_event s) xs ys

-- what goes with an event goes in a list that has it
pub goes_here : (xs : List ScriptEvent) (s : ℕ) (ys : List ScriptEvent) → goes_in_script (xs ++ Gone s ∷ ys) s ≡ true
goes_here xs s ys =
    goes_more xs (Gone s ∷ ys) s
    ∙ or_second (goes_in_script xs s) ((s == s) || goes_in_script ys s)
    (or_first (s == s) (goes_in_script ys s) (eq-eqb s s refl))

-- without a session's events no other peer goes
goes_without : (s t : ℕ) (xs : List ScriptEvent) → goes_in_script (events_without s xs) t ≡ true
    → goes_in_script xs t ≡ true
goes_without s t [] goes = goes
goes_without s t (x ∷ xs) goes =
    bool_cases (event_session x == s)
    (λ same. or_second (goes_by_event t x) (goes_in_script xs t)
    (goes_without s t xs (sym (ap (λ b. goes_in_script (cond (not b) (x ∷ events_without s xs) (events_without s xs)) t)
    same) ∙ goes)))
    (λ other.
    or_either (goes_by_event t x) (goes_in_script (events_without s xs) t)
    (sym (ap (λ b. goes_in_script (cond (not b) (x ∷ events_without s xs) (events_without s xs)) t) other) ∙ goes)
    (or_first (goes_by_event t x) (goes_in_script xs t))
    (λ rest. or_second (goes_by_event t x) (goes_in_script xs t) (goes_without s t xs rest)))

-- an entry of which none goes leaves those that have gone
gone_same : (l l' : List PortRecord) (x : PortRecord) (s : ℕ) → l' ≡ l ++ x ∷ [] → is_entry (was.Gone s) x ≡ false
    → is_in (was.Gone s) l' ≡ is_in (was.Gone s) l
gone_same l l' x s e stays = ap (is_in (was.Gone s)) e ∙ any_no (is_entry (was.Gone s)) l x stays

-- one more entry that ends no input
over_same : (l l' : List PortRecord) (x : PortRecord) (s : ℕ) → l' ≡ l ++ x ∷ [] → is_entry (was.EndOfInput s) x ≡ false
    → is_in (was.EndOfInput s) l ≡ false → is_in (was.EndOfInput s) l' ≡ false
over_same l l' x s e other never = ap (is_in (was.EndOfInput s)) e ∙ any_no (is_entry (was.EndOfInput s)) l x other ∙ never

-- ---- what the rest of a send is

-- what is left of a send after its next piece sends its session all bytes but the first 16,384
rest_sent : (s : ℕ) (bytes : List ℕ) → sent_bytes (send_after s bytes) s ≡ drop 16384 bytes
rest_sent s bytes =
    bool_cases (nat_lt 16384 (length bytes))
    (λ more.
    ap (λ b. sent_bytes (cond b (Send s (drop 16384 bytes) ∷ []) []) s) more
    ∙ ap (λ b. cond b (drop 16384 bytes) [] ++ []) (eq-eqb s s refl) ∙ append-nil (drop 16384 bytes))
    (λ last. ap (λ b. sent_bytes (cond b (Send s (drop 16384 bytes) ∷ []) []) s) last
    ∙ sym (drop_all 16384 bytes (lt_false 16384 (length bytes) last)))

-- what is left of a send after its next piece sends the other sessions nothing
rest_others : (s t : ℕ) (bytes : List ℕ) → t ≢ s → sent_bytes (send_after s bytes) t ≡ []
rest_others s t bytes other =
    bool_cases (nat_lt 16384 (length bytes))
    (λ more.
    ap (λ b. sent_bytes (cond b (Send s (drop 16384 bytes) ∷ []) []) t) more
    ∙ ap (λ b. cond b (drop 16384 bytes) [] ++ []) (ne_eqb s t (λ e. other (sym e))))
    (λ last. ap (λ b. sent_bytes (cond b (Send s (drop 16384 bytes) ∷ []) []) t) last)

-- what is left of a send after its next piece opens no session
rest_opens : (s : ℕ) (bytes : List ℕ) → script.sessions_opened (send_after s bytes) ≡ []
rest_opens s bytes =
    bool_cases (nat_lt 16384 (length bytes))
    (λ more. ap (λ b. script.sessions_opened (cond b (Send s (drop 16384 bytes) ∷ []) [])) more)
    (λ last. ap (λ b. script.sessions_opened (cond b (Send s (drop 16384 bytes) ∷ []) [])) last)

-- in what is left of a send after its next piece no peer goes
rest_goes : (s t : ℕ) (bytes : List ℕ) → goes_in_script (send_after s bytes) t ≡ false
rest_goes s t bytes =
    bool_cases (nat_lt 16384 (length bytes))
    (λ more. ap (λ b. goes_in_script (cond b (Send s (drop 16384 bytes) ∷ []) []) t) more)
    (λ last. ap (λ b. goes_in_script (cond b (Send s (drop 16384 bytes) ∷ []) []) t) last)

-- ---- the steps

-- a step that takes no event away and adds no session and no bytes
pub follows_still : (played left left' : List ScriptEvent) (l l' : List PortRecord) (x : PortRecord)
    (closed closed' : ℕ → Bool)
    (can_fail : Bool) → left' ≡ left → l' ≡ l ++ x ∷ [] → opened_by x ≡ None → ((t : ℕ) → fed t (x ∷ []) ≡ [])
    → ((t : ℕ) → is_entry (was.Gone t) x ≡ false) → ((t : ℕ) → is_entry (was.EndOfInput t) x ≡ false)
    → ((t : ℕ) → closed' t ≡ closed t) → Follows played left l closed can_fail
    → Follows played left' l' closed' can_fail
follows_still played left left' l l' x closed closed' can_fail left_is l_is none nothing stays more same f = record {
  opened_are = f.opened_are ∙ (λ i. sym (opened_more l l' x l_is none) i ++ script.sessions_opened (sym left_is i));
  fed_are = λ t active. f.fed_are t (sym (same t) ∙ active)
      ∙ (λ i. sym (fed_same l l' x t l_is (nothing t)) i ++ sent_bytes (sym left_is i) t);
  begun = λ t ended. subst (StartsWith (sent_bytes played t)) (sym (fed_same l l' x t l_is (nothing t)))
      (f.begun t (sym (same t) ∙ ended));
  to_go = λ t goes. f.to_go t (ap (λ xs. goes_in_script xs t) (sym left_is) ∙ goes);
  gone_by = λ t gone. f.gone_by t (sym (gone_same l l' x t l_is (stays t)) ∙ gone);
  never_over = λ t. over_same l l' x t l_is (more t) (f.never_over t);
}

-- nothing is added
pub follows_as : (played left left' : List ScriptEvent) (l : List PortRecord) (closed closed' : ℕ → Bool)
    (can_fail : Bool) → left' ≡ left
    → ((t : ℕ) → closed' t ≡ closed t) → Follows played left l closed can_fail → Follows played left' l closed' can_fail
follows_as played left left' l closed closed' can_fail left_is same f = record {
  opened_are = f.opened_are ∙ (λ i. opened_sessions l ++ script.sessions_opened (sym left_is i));
  fed_are = λ t active. f.fed_are t (sym (same t) ∙ active) ∙ (λ i. fed t l ++ sent_bytes (sym left_is i) t);
  begun = λ t ended. f.begun t (sym (same t) ∙ ended);
  to_go = λ t goes. f.to_go t (ap (λ xs. goes_in_script xs t) (sym left_is) ∙ goes);
  gone_by = f.gone_by;
  never_over = f.never_over;
}

-- a session begins
pub follows_open : (played left left' before after : List ScriptEvent) (l l' : List PortRecord) (s : ℕ)
    (closed closed' : ℕ → Bool)
    (can_fail : Bool) → left ≡ before ++ Open s ∷ after → left' ≡ before ++ after → l' ≡ l ++ was.Opened s ∷ []
    → script.sessions_opened before ≡ [] → ((t : ℕ) → closed' t ≡ closed t) → Follows played left l closed can_fail
    → Follows played left' l' closed' can_fail
follows_open played left left' before after l l' s closed closed' can_fail left_is left'_is l_is none same f = record {
  opened_are = f.opened_are
      ∙ ap (λ (xs : List ℕ). opened_sessions l ++ xs)
      (ap script.sessions_opened left_is ∙ opens_more before (Open s ∷ after)
      ∙ ap (λ (xs : List ℕ). xs ++ s ∷ script.sessions_opened after) none)
      ∙ sym (append_assoc (opened_sessions l) (s ∷ []) (script.sessions_opened after))
      ∙ (λ i. sym (opened_one l l' s l_is) i ++ sym
      (ap script.sessions_opened left'_is ∙ opens_more before after
      ∙ ap (λ (xs : List ℕ). xs ++ script.sessions_opened after) none) i);
  fed_are = λ t active. f.fed_are t (sym (same t) ∙ active)
      ∙ (λ i. sym (fed_same l l' (was.Opened s) t l_is refl) i ++
      (ap (λ (xs : List ScriptEvent). sent_bytes xs t) left_is ∙ sent_more before (Open s ∷ after) t
      ∙ sym (sent_more before after t)
      ∙ sym (ap (λ (xs : List ScriptEvent). sent_bytes xs t) left'_is)) i);
  begun = λ t ended. subst (StartsWith (sent_bytes played t)) (sym (fed_same l l' (was.Opened s) t l_is refl))
      (f.begun t (sym (same t) ∙ ended));
  to_go = λ t goes. f.to_go t
      (ap (λ xs. goes_in_script xs t) left_is ∙ goes_more before (Open s ∷ after) t ∙ sym (goes_more before after t)
      ∙ sym (ap (λ xs. goes_in_script xs t) left'_is) ∙ goes);
  gone_by = λ t gone. f.gone_by t (sym (gone_same l l' (was.Opened s) t l_is refl) ∙ gone);
  never_over = λ t. over_same l l' (was.Opened s) t l_is refl (f.never_over t);
}

-- a piece of a session's bytes comes
pub follows_send : (played left left' before after : List ScriptEvent) (l l' : List PortRecord) (s : ℕ) (bytes : List ℕ)
    (closed closed' : ℕ → Bool) (can_fail : Bool) → left ≡ before ++ Send s bytes ∷ after
    → left' ≡ before ++ send_after s bytes ++ after
    → l' ≡ l ++ was.Data s (take 16384 bytes) ∷ [] → sent_bytes before s ≡ [] → closed s ≡ false
    → ((t : ℕ) → closed' t ≡ closed t)
    → Follows played left l closed can_fail → Follows played left' l' closed' can_fail
follows_send played left left' before after l l' s bytes closed closed' can_fail left_is left'_is l_is none active same
    f = record {
      opened_are = f.opened_are
          ∙ (λ i. sym (opened_more l l' (was.Data s (take 16384 bytes)) l_is refl) i ++
          (ap script.sessions_opened left_is ∙ opens_more before (Send s bytes ∷ after)
          ∙ sym (ap script.sessions_opened left'_is ∙ opens_around)) i);
      fed_are = λ t is_open. either_way t s
          (λ here. subst (λ (u : ℕ). sent_bytes played u
          ≡ fed u l' ++ sent_bytes left' u) (sym here) (f.fed_are s active ∙ moved))
          (λ other. f.fed_are t (sym (same t) ∙ is_open)
          ∙ (λ i. sym
          (fed_same l l' (was.Data s (take 16384 bytes)) t l_is
          (ap (λ b. cond b (take 16384 bytes) [] ++ []) (ne_eqb s t (λ e. other (sym e))))) i ++ stays t other i));
      begun = λ t ended. either_way t s
          (λ here. absurd (true≢false (sym ended ∙ same t ∙ ap closed here ∙ active)))
          (λ other. subst (StartsWith (sent_bytes played t))
          (sym (fed_same l l' (was.Data s (take 16384 bytes)) t l_is
          (ap (λ b. cond b (take 16384 bytes) [] ++ []) (ne_eqb s t (λ e. other (sym e))))))
          (f.begun t (sym (same t) ∙ ended)));
      to_go = λ t goes. f.to_go t
          (ap (λ xs. goes_in_script xs t) left_is ∙ goes_more before (Send s bytes ∷ after) t ∙ sym (goes_around t)
          ∙ sym (ap (λ xs. goes_in_script xs t) left'_is) ∙ goes);
      gone_by = λ t gone. f.gone_by t (sym (gone_same l l' (was.Data s (take 16384 bytes)) t l_is refl) ∙ gone);
      never_over = λ t. over_same l l' (was.Data s (take 16384 bytes)) t l_is refl (f.never_over t);
    }
  where
    goes_around : (t : ℕ) → goes_in_script (before ++ send_after s bytes ++ after) t
        ≡ (goes_in_script before t || goes_in_script after t)
    goes_around t =
        goes_more (before ++ send_after s bytes) after t
        ∙ ap (λ b. b || goes_in_script after t)
        (goes_more before (send_after s bytes) t ∙ ap (λ b. goes_in_script before t || b) (rest_goes s t bytes)
        ∙ or_no (goes_in_script before t))

    sent_around : (t : ℕ) → sent_bytes (before ++ send_after s bytes ++ after) t
        ≡ (sent_bytes before t ++ sent_bytes (send_after s bytes) t) ++ sent_bytes after t
    sent_around t = sent_more (before ++ send_after s bytes) after t
        ∙ ap (λ (xs : List ℕ). xs ++ sent_bytes after t) (sent_more before (send_after s bytes) t)

    opens_around : script.sessions_opened (before ++ send_after s bytes ++ after)
        ≡ script.sessions_opened before ++ script.sessions_opened after
    opens_around =
        opens_more (before ++ send_after s bytes) after
        ∙ ap (λ (xs : List ℕ). xs ++ script.sessions_opened after)
        (opens_more before (send_after s bytes)
        ∙ ap (λ (xs : List ℕ). script.sessions_opened before ++ xs) (rest_opens s bytes)
        ∙ append-nil (script.sessions_opened before))

    stays : (t : ℕ) → t ≢ s → sent_bytes left t ≡ sent_bytes left' t
    stays t other =
        ap (λ (xs : List ScriptEvent). sent_bytes xs t) left_is ∙ sent_more before (Send s bytes ∷ after) t
        ∙ ap (λ b. sent_bytes before t ++ (cond b bytes [] ++ sent_bytes after t)) (ne_eqb s t (λ e. other (sym e)))
        ∙ sym (ap (λ (xs : List ScriptEvent). sent_bytes xs t) left'_is ∙ sent_around t
        ∙ ap (λ (xs : List ℕ). (sent_bytes before t ++ xs) ++ sent_bytes after t) (rest_others s t bytes other)
        ∙ ap (λ (xs : List ℕ). xs ++ sent_bytes after t) (append-nil (sent_bytes before t)))

    old_sent : sent_bytes left s ≡ bytes ++ sent_bytes after s
    old_sent =
        ap (λ (xs : List ScriptEvent). sent_bytes xs s) left_is ∙ sent_more before (Send s bytes ∷ after) s
        ∙ ap (λ (xs : List ℕ). xs ++ sent_bytes (Send s bytes ∷ after) s) none
        ∙ ap (λ b. cond b bytes [] ++ sent_bytes after s) (eq-eqb s s refl)

    new_sent : sent_bytes left' s ≡ drop 16384 bytes ++ sent_bytes after s
    new_sent =
        ap (λ (xs : List ScriptEvent). sent_bytes xs s) left'_is ∙ sent_around s
        ∙ ap (λ (xs : List ℕ). (xs ++ sent_bytes (send_after s bytes) s) ++ sent_bytes after s) none
        ∙ ap (λ (xs : List ℕ). xs ++ sent_bytes after s) (rest_sent s bytes)

    moved : fed s l ++ sent_bytes left s ≡ fed s l' ++ sent_bytes left' s
    moved =
        ap (λ (xs : List ℕ). fed s l ++ xs)
        (old_sent ∙ ap (λ (xs : List ℕ). xs ++ sent_bytes after s) (sym (take-append-drop 16384 bytes))
        ∙ append_assoc (take 16384 bytes) (drop 16384 bytes) (sent_bytes after s))
        ∙ sym (append_assoc (fed s l) (take 16384 bytes) (drop 16384 bytes ++ sent_bytes after s))
        ∙ (λ i. sym
        (fed_more l l' (was.Data s (take 16384 bytes)) s l_is
        ∙ ap (λ b. fed s l ++ (cond b (take 16384 bytes) [] ++ [])) (eq-eqb s s refl)
        ∙ ap (λ (xs : List ℕ). fed s l ++ xs) (append-nil (take 16384 bytes))) i ++ sym new_sent i)

-- a session is closed
pub follows_close : (played left left' : List ScriptEvent) (l l' : List PortRecord) (x : PortRecord) (s : ℕ)
    (closed closed' : ℕ → Bool) (can_fail : Bool) → left' ≡ events_without s left → l' ≡ l ++ x ∷ []
    → opened_by x ≡ None
    → ((t : ℕ) → fed t (x ∷ []) ≡ []) → ((t : ℕ) → is_entry (was.Gone t) x ≡ true → MayGo played can_fail t)
    → ((t : ℕ) → is_entry (was.EndOfInput t) x ≡ false)
    → script.sessions_opened (events_without s left) ≡ script.sessions_opened left → closed s ≡ false → closed' s ≡ true
    → ((t : ℕ) → t ≢ s → closed' t ≡ closed t) → Follows played left l closed can_fail
    → Follows played left' l' closed' can_fail
follows_close played left left' l l' x s closed closed' can_fail left'_is l_is none nothing caused more opens active ended
    others f = record {
      opened_are = f.opened_are ∙ (λ i. sym (opened_more l l' x l_is none) i
          ++ sym (ap script.sessions_opened left'_is ∙ opens) i);
      fed_are = λ t is_open. either_way t s
          (λ here. absurd (true≢false (sym ended ∙ ap closed' (sym here) ∙ is_open)))
          (λ other. f.fed_are t (sym (others t other) ∙ is_open)
          ∙ (λ i. sym (fed_same l l' x t l_is (nothing t)) i
          ++ sym (ap (λ (xs : List ScriptEvent). sent_bytes xs t) left'_is ∙ sent_without s t left other) i));
      begun = λ t gone. subst (StartsWith (sent_bytes played t)) (sym (fed_same l l' x t l_is (nothing t)))
          (either_way t s
          (λ here. (sent_bytes left t, f.fed_are t (ap closed here ∙ active)))
          (λ other. f.begun t (sym (others t other) ∙ gone)));
      to_go = λ t goes. f.to_go t (goes_without s t left (ap (λ xs. goes_in_script xs t) (sym left'_is) ∙ goes));
      gone_by = λ t gone.
          or_either (is_in (was.Gone t) l) (is_entry (was.Gone t) x)
          (sym (ap (is_in (was.Gone t)) l_is ∙ any_more (is_entry (was.Gone t)) l x) ∙ gone)
          (f.gone_by t) (caused t);
      never_over = λ t. over_same l l' x t l_is (more t) (f.never_over t);
    }
