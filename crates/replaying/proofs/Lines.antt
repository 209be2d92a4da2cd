-- The lines of a run, one after the other.
use Rattle.std.proofs.Common.{◌≡◌, ◌≢◌, cond, ℕ, zero, suc, ◌+◌, ◌<◌, List, [], ◌∷◌, ◌++◌, length, map, take, Option}
use Rattle.std.proofs.Common.{Some, None, refl, sym, ap, ◌∙◌, subst}
use Rattle.std.proofs.Common.{arith, append_assoc, append-nil, length-append, ⊎_elim}
use Rattle.std.specs.Prelude.{flat_map, slice_index_or}
use Rattle.std.specs.Io.KnownBytes.{Appends, Keeps}
use Rattle.exchange.specs.Ends.{TableId}
use Rattle.exchange.proofs.Lists.{at_some, at_below, at_end}
use Rattle.proto.specs.declared.dialect.Dialect.{Dialect}
use Rattle.proto.specs.Sizes.{Sizes}
use Rattle.script.specs.declared.event.ScriptEvent.{ScriptEvent}
use Rattle.script.specs.Scripts.{Workers}
use Rattle.script.specs.PortSessions.{ScriptSessionState, numbers}
use Rattle.script.specs.States.{PortState, script_trace, trace_told}
use Rattle.script.specs.PortEvents.{is_playable}
use Rattle.script.proofs.EventLemmas.{bool_cases}
use Rattle.worker_port.specs.Ports.{PortTrace}
use Rattle.group.specs.declared.report.GroupWorker.{GroupWorker}
use Rattle.group.specs.Threads.{ArePortsOf}
use Rattle.worker_port.specs.Giving.{by_any_clock}
use mathlib.Core.Logic.{dite}
use mathlib.Core.Option.{some, some-injective}
use native.Mathlib.Decide.{ℕ_discrete}
use lib.ListN.{get_elem?}
use Rattle.replaying.specs.Printed.{printed_lines, lines_from, events_of, IsPort, ArePorts, IsPlayedAt}
use Rattle.storage_thread.proofs.Callers.{or_at, take_zero}

-- the bytes joined for each session of a table by its number are those joined for the list of its
-- numbers
pub over_numbers : (f : ℕ → List ℕ) (xs : List ScriptSessionState)
    → flat_map (λ (x : ScriptSessionState). f x.number) xs ≡ flat_map f (numbers xs)
over_numbers f [] = refl
over_numbers f (x ∷ xs) = ap (λ l. f x.number ++ l) (over_numbers f xs)

-- the lines of one worker more
pub lines_more : (w k : ℕ) (ws : List (GroupWorker PortState)) (d : GroupWorker PortState) → k < length ws
    → lines_from w (map events_of (take (suc k) ws))
    ≡ lines_from w (map events_of (take k ws)) ++ printed_lines (w + k) (events_of (slice_index_or ws k d))
lines_more w k [] d low = absurd (omega arith)
lines_more w zero (x ∷ ws) d low =
    ap (λ l. printed_lines w (events_of x) ++ lines_from (w + 1) (map events_of l)) (take_zero ws)
    ∙ append-nil (printed_lines w (events_of x)) ∙ ap (λ n. printed_lines n (events_of x)) (omega arith)
lines_more w (suc k) (x ∷ ws) d low =
    ap (λ l. printed_lines w (events_of x) ++ l) (lines_more (w + 1) k ws d (omega arith))
    ∙ sym (append_assoc (printed_lines w (events_of x)) (lines_from (w + 1) (map events_of (take k ws)))
    (printed_lines (w + 1 + k) (events_of (slice_index_or ws k d))))
    ∙ ap (λ n. (printed_lines w (events_of x) ++ lines_from (w + 1) (map events_of (take k ws)))
    ++ printed_lines n (events_of (slice_index_or ws k d))) (omega arith)

-- bytes that were written one after the other
pub appended : (old mid new : Option (List ℕ)) (xs ys : List ℕ) → Appends old mid xs → Appends mid new ys
    → Appends old new (xs ++ ys)
appended None mid new xs ys a b = tt
appended (Some o) None new xs ys a b = absurd a
appended (Some o) (Some m) None xs ys a b = absurd b
appended (Some o) (Some m) (Some n) xs ys a b = b ∙ ap (λ l. l ++ ys) a ∙ append_assoc o xs ys

-- and then nothing more
pub kept_after : (old mid new : Option (List ℕ)) (xs : List ℕ) → Appends old mid xs → Keeps mid new → Appends old new xs
kept_after None mid new xs a kept = tt
kept_after (Some o) None new xs a kept = absurd a
kept_after (Some o) (Some m) None xs a kept = absurd kept
kept_after (Some o) (Some m) (Some n) xs a kept = kept ∙ a

-- one element more
pub mapped_more : {A : Type 0} (f : A → List ℕ) (xs : List A) (k : ℕ) (d : A) → k < length xs
    → flat_map f (take (suc k) xs) ≡ flat_map f (take k xs) ++ f (slice_index_or xs k d)
mapped_more f [] k d low = absurd (omega arith)
mapped_more f (x ∷ xs) zero d low = ap (λ l. f x ++ flat_map f l) (take_zero xs) ∙ append-nil (f x)
mapped_more f (x ∷ xs) (suc k) d low = ap (λ l. f x ++ l) (mapped_more f xs k d (omega arith))
    ∙ sym (append_assoc (f x) (flat_map f (take k xs)) (f (slice_index_or xs k d)))

-- one element's bytes were written after those of the elements before it
pub one_more : {A : Type 0} (f : A → List ℕ) (xs : List A) (k : ℕ) (x : A) (bytes : List ℕ)
    (old mid new : Option (List ℕ))
    → k < length xs → slice_index_or xs k x ≡ x → bytes ≡ f x
    → Appends old mid (flat_map f (take k xs)) → Appends mid new bytes → Appends old new (flat_map f (take (k + 1) xs))
one_more f xs k x bytes old mid new low is bytes_are before wrote =
    let plus : suc k ≡ k + 1 = omega arith in
    subst (λ n. Appends old new (flat_map f (take n xs))) plus
    (subst (Appends old new) (sym (mapped_more f xs k x low
    ∙ ap (λ l. flat_map f (take k xs) ++ l) (ap f is ∙ sym bytes_are)))
    (appended old mid new (flat_map f (take k xs)) bytes before wrote))

-- one worker's lines were written after those of the workers before it
pub one_worker_more : (ws : List (GroupWorker PortState)) (k : ℕ) (x : GroupWorker PortState)
    (old mid new : Option (List ℕ))
    → k < length ws → slice_index_or ws k x ≡ x
    → Appends old mid (lines_from 0 (map events_of (take k ws))) → Appends mid new (printed_lines k (events_of x))
    → Appends old new (lines_from 0 (map events_of (take (k + 1) ws)))
one_worker_more ws k x old mid new low is before wrote =
    let plus : suc k ≡ k + 1 = omega arith in let zero_more : 0 + k ≡ k = omega arith in
    subst (λ n. Appends old new (lines_from 0 (map events_of (take n ws)))) plus
    (subst (Appends old new)
    (sym (lines_more 0 k ws x low
    ∙ ap (λ n. lines_from 0 (map events_of (take k ws)) ++ printed_lines n (events_of (slice_index_or ws k x)))
    zero_more
    ∙ ap (λ y. lines_from 0 (map events_of (take k ws)) ++ printed_lines k (events_of y)) is))
    (appended old mid new (lines_from 0 (map events_of (take k ws))) (printed_lines k (events_of x)) before wrote))

-- one worker more, at whose port the list is what the script does
pub one_played_more : (ws : List (GroupWorker PortState)) (n : ℕ) (x : GroupWorker PortState) → n < length ws
    → slice_index_or ws n x ≡ x
    → ((k : ℕ) (y : GroupWorker PortState) → k < n → get_elem? ws k ≡ some y → IsPlayedAt y.port) → IsPlayedAt x.port
    → (k : ℕ) (y : GroupWorker PortState) → k < n + 1 → get_elem? ws k ≡ some y → IsPlayedAt y.port
one_played_more ws n x low is before here k y small at =
    dite (ℕ_discrete k n)
    (λ same.
    let there : some x ≡ some y = sym (ap (λ (z : GroupWorker PortState). some z) is) ∙ sym (or_at ws n x low)
    ∙ ap (get_elem? ws) (sym same) ∙ at in
    subst (λ (z : GroupWorker PortState). IsPlayedAt z.port) (some-injective x y there) here)
    (λ other. let apart : k ≢ n = other in before k y (omega arith) at)

-- the trace that a port tells is its own
trace_is : (port : PortState) (trace : PortTrace) → trace_told port ≡ Some trace → script_trace port ≡ trace
trace_is port trace told =
    bool_cases (is_playable port.player.script)
    (λ yes.
    let same : Some (script_trace port) ≡ Some trace = sym
    (ap (λ b. cond b (Some (script_trace port)) None) yes) ∙ told in cc)
    (λ no. let wrong : None ≡ Some trace = sym (ap (λ b. cond b (Some (script_trace port)) None) no) ∙ told in absurd (cc))

-- ---- the ports of a run

-- one more, of the worker after the last
pub ports_more : (sizes : Sizes) (d : Dialect) (exchange : TableId) (accept fail_give : ℕ) (scripts : Workers) (ports : List PortState)
    (events : List ScriptEvent) (port : PortState)
    → ArePorts sizes d exchange accept fail_give scripts ports → IsPort sizes d exchange accept fail_give (length ports) events port
    → ArePorts sizes d exchange accept fail_give (scripts ++ events ∷ []) (ports ++ port ∷ [])
ports_more sizes d exchange accept fail_give scripts ports events port old new = (
  length-append scripts (events ∷ []) ∙ ap (λ n. n + 1) old.0 ∙ sym (length-append ports (port ∷ [])),
  λ w e p left right.
      ⊎_elim
      (λ (l : get_elem? scripts w ≡ some e). ⊎_elim (λ (r : get_elem? ports w ≡ some p). old.1 w e p l r)
      (λ (r : (w ≡ length ports) × (port ≡ p)). let low : w < length scripts = at_below scripts w e l in
      let high : length ports ≡ w = sym r.0 in
      absurd (omega (arith, low, high, old.0))) (at_end ports port w p right))
      (λ (l : (w ≡ length scripts) × (events ≡ e)). ⊎_elim
      (λ (r : get_elem? ports w ≡ some p). let low : w < length ports = at_below ports w p r in
      let high : length scripts ≡ w = sym l.0 in
      absurd (omega (arith, low, high, old.0)))
      (λ (r : (w ≡ length ports) × (port ≡ p)).
      subst (λ (q : ℕ × List ScriptEvent × PortState). IsPort sizes d exchange accept fail_give q.0 q.1 q.2)
      (λ i. (sym r.0 i, l.1 i, r.1 i)) new)
      (at_end ports port w p right))
      (at_end scripts events w e left),
)

module _ (sizes : Sizes) (d : Dialect) (exchange : TableId) (accept fail_give : ℕ) (scripts : Workers) (ports : List PortState)
    (each : ArePorts sizes d exchange accept fail_give scripts ports) where
  -- each is one of them
  port_at : (w : ℕ) (port : PortState) → get_elem? ports w ≡ some port
      → (events : List ScriptEvent) × IsPort sizes d exchange accept fail_give w events port
  port_at w port at =
      let s = at_some scripts w (subst (λ n. w < n) (sym each.0) (at_below ports w port at)) in
      (s.0, each.1 w s.0 port s.1 at)

  -- they are the ports of their workers, at which nothing has happened yet
  pub owned : ArePortsOf trace_told exchange (by_any_clock sizes) d ports
  owned w port at trace told =
      let is = (port_at w port at).1 in let same = sym (trace_is port trace told) in (
        ap (λ (z : PortTrace). z.worker) same ∙ ap (λ (p : PortState). p.worker) is.1,
        ap (λ (z : PortTrace). z.terms) same ∙ ap (λ (p : PortState). by_any_clock p.sizes) is.1,
        ap (λ (z : PortTrace). z.dialect) same ∙ ap (λ (p : PortState). p.dialect) is.1,
        ap (λ (z : PortTrace). z.events) same ∙ ap (λ (p : PortState). p.player.records) is.1,
        ap (λ (z : PortTrace). z.history) same ∙ ap (λ (p : PortState). p.history) is.1,
        ap (λ (z : PortTrace). z.exchange) same ∙ ap (λ (p : PortState). p.exchange) is.1,
      )
