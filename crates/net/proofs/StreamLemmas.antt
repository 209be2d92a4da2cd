-- The same of the open streams of a port, as its calls leave them.
use Rattle.std.proofs.Common.{◌≡◌, ℕ, ◌+◌, ◌<◌, ◌≤◌, Bool, true, false, cond, List, [], ◌∷◌, ◌++◌, length, refl, sym}
use Rattle.std.proofs.Common.{ap, ◌∙◌, subst}
use Rattle.std.specs.Prelude.{ℤ, Option, None, Some, is_some}
use Rattle.std.specs.Option.{option_map}
use Rattle.std.specs.Map.{lookup}
use Rattle.std.specs.Bool.{nat_eq}
use Rattle.worker_port.specs.declared.events.PortRecord.{PortRecord}
use Rattle.worker_port.specs.declared.events.PortRecord.TheVariants.{Opened, Data, EndOfInput, Gone, Accepted, Shut}
use Rattle.worker_port.specs.declared.events.PortEvent.TheVariants as event
use Rattle.worker_port.specs.Ports.{PortTrace, is_open}
use Rattle.exchange.specs.Ends.{TableId}
use Rattle.net.specs.Seen.{Seen, IsSet, fresh, then_received, then_input_ended, then_sent, is_paused_stream, has_input_ended}
use Rattle.net.specs.Shown.{shown_stream, seen_of}
use Rattle.net.specs.Ties.{Ties}
use Rattle.net.specs.Traces.{whose_of, trace, trace_of, Tells, GoesOn}
use Rattle.net.specs.declared.open_stream.OpenStream.{OpenStream}
use Rattle.net.specs.declared.streams.Streams.{Streams}
use Rattle.net.proofs.TieLemmas.{ties_opened, ties_fed, ties_input_ended, ties_given, ties_gone, ties_shut}
use Rattle.net.proofs.TraceLemmas.{tells_opened, tells_fed, tells_input_ended, tells_gone}

map_cond : (b : Bool) (x y : Option OpenStream) → option_map seen_of (cond b x y) ≡ cond b (option_map seen_of x) (option_map seen_of y)
map_cond true x y = refl
map_cond false x y = refl

map_some : (x : Option OpenStream) → is_some (option_map seen_of x) ≡ is_some x
map_some None = refl
map_some (Some x) = refl

-- what is shown where one entry is set
pub set_shown : (old new : List (ℕ × OpenStream)) (s : ℕ) (now : Option OpenStream)
    → ((o : ℕ) → lookup (nat_eq o) new ≡ cond (nat_eq s o) now (lookup (nat_eq o) old))
    → IsSet s (option_map seen_of now) (shown_stream old) (shown_stream new)
set_shown old new s now h o = ap (option_map seen_of) (h o) ∙ map_cond (nat_eq s o) now (lookup (nat_eq o) old)

-- a session with a stream is open
pub open_with : (old : Streams) (s : ℕ) (x : OpenStream) → Some x ≡ lookup (nat_eq s) old.open.entries → is_open s old.told.items ≡ true
open_with old s x h = old.ties.0 s ∙ map_some (lookup (nat_eq s) old.open.entries) ∙ ap is_some (sym h)

-- what is shown of a session's stream
pub shown_with : (old : Streams) (s : ℕ) (x : OpenStream) → Some x ≡ lookup (nat_eq s) old.open.entries
    → Some (seen_of x) ≡ shown_stream old.open.entries s
shown_with old s x h = ap (option_map seen_of) h

-- what a call of a session's stream makes of it
pub set_by : (old : Streams) (after : List (ℕ × OpenStream)) (s : ℕ) (x y : OpenStream) (f : Seen → Seen)
    → Some x ≡ lookup (nat_eq s) old.open.entries → seen_of y ≡ f (seen_of x)
    → IsSet s (Some (seen_of y)) (shown_stream old.open.entries) (shown_stream after)
    → IsSet s (option_map f (shown_stream old.open.entries s)) (shown_stream old.open.entries) (shown_stream after)
set_by old after s x y f found e set =
    subst (λ (n : Option Seen). IsSet s n (shown_stream old.open.entries) (shown_stream after))
    (ap Some e ∙ ap (option_map f) (shown_with old s x found)) set

module _ (old : Streams) (after : List (ℕ × OpenStream)) (s : ℕ) (told : List PortRecord) where
  abbrev before : ℕ → Option Seen
  before = shown_stream old.open.entries

  -- what was told agrees with the streams
  abbrev pub Agree : Type 0
  Agree = Ties (shown_stream after) old.last told old.has_ended

  abbrev pub trace_after : PortTrace
  trace_after = trace (whose_of old) (shown_stream after) told

  -- one more entry was told, of an open session
  module _ (is_open_now : is_open s old.told.items ≡ true) where
    pub agree_fed : (b : List ℕ) → told ≡ old.told.items ++ Data s b ∷ []
        → IsSet s (option_map (then_received b) (before s)) before (shown_stream after) → Agree
    agree_fed b e set = subst (λ (k : List PortRecord). Ties (shown_stream after) old.last k old.has_ended) (sym e)
        (ties_fed before (shown_stream after) old.last old.last old.told.items old.has_ended s old.ties b is_open_now
        refl set)

    pub agree_input_ended : told ≡ old.told.items ++ EndOfInput s ∷ []
        → IsSet s (option_map then_input_ended (before s)) before (shown_stream after) → Agree
    agree_input_ended e set = subst (λ (k : List PortRecord). Ties (shown_stream after) old.last k old.has_ended) (sym e)
        (ties_input_ended before (shown_stream after) old.last old.last old.told.items old.has_ended s old.ties is_open_now
        refl set)

    pub agree_given : (b : List ℕ) → told ≡ old.told.items ++ Accepted s b ∷ []
        → IsSet s (option_map (then_sent b) (before s)) before (shown_stream after) → Agree
    agree_given b e set = subst (λ (k : List PortRecord). Ties (shown_stream after) old.last k old.has_ended) (sym e)
        (ties_given before (shown_stream after) old.last old.last old.told.items old.has_ended s old.ties b is_open_now
        refl set)

    pub agree_gone : told ≡ old.told.items ++ Gone s ∷ [] → IsSet s None before (shown_stream after) → Agree
    agree_gone e set = subst (λ (k : List PortRecord). Ties (shown_stream after) old.last k old.has_ended) (sym e)
        (ties_gone before (shown_stream after) old.last old.last old.told.items old.has_ended s old.ties is_open_now
        refl set)

    pub agree_shut : told ≡ old.told.items ++ Shut s ∷ [] → IsSet s None before (shown_stream after) → Agree
    agree_shut e set = subst (λ (k : List PortRecord). Ties (shown_stream after) old.last k old.has_ended) (sym e)
        (ties_shut before (shown_stream after) old.last old.last old.told.items old.has_ended s old.ties is_open_now
        refl set)

    module _ (goes_on : GoesOn (trace_of old)) where
      pub tell_fed : (b : List ℕ) → is_paused_stream (before s) ≡ false → has_input_ended (before s) ≡ false → 0 < length b
          → length b ≤ 16384
          → told ≡ old.told.items ++ Data s b ∷ []
          → IsSet s (option_map (then_received b) (before s)) before (shown_stream after)
          → Tells (trace_of old) (event.Data s b) trace_after
      tell_fed b ready more some fits e set = let t = old.ties in
          subst (λ (k : List PortRecord). Tells (trace_of old) (event.Data s b)
          (trace (whose_of old) (shown_stream after) k)) (sym e)
          (tells_fed (whose_of old) before (shown_stream after) old.last old.told.items s
          (t.0, t.1, t.2, goes_on, t.4) b is_open_now ready more some fits set)

      pub tell_input_ended : is_paused_stream (before s) ≡ false → has_input_ended (before s) ≡ false
          → told ≡ old.told.items ++ EndOfInput s ∷ []
          → IsSet s (option_map then_input_ended (before s)) before (shown_stream after)
          → Tells (trace_of old) (event.EndOfInput s) trace_after
      tell_input_ended ready more e set = let t = old.ties in
          subst (λ (k : List PortRecord). Tells (trace_of old) (event.EndOfInput s)
          (trace (whose_of old) (shown_stream after) k)) (sym e)
          (tells_input_ended (whose_of old) before (shown_stream after) old.last old.told.items s
          (t.0, t.1, t.2, goes_on, t.4) is_open_now ready more set)

      pub tell_gone : told ≡ old.told.items ++ Gone s ∷ [] → IsSet s None before (shown_stream after)
          → Tells (trace_of old) (event.Gone s) trace_after
      tell_gone e set = let t = old.ties in
          subst (λ (k : List PortRecord). Tells (trace_of old) (event.Gone s)
          (trace (whose_of old) (shown_stream after) k)) (sym e)
          (tells_gone (whose_of old) before (shown_stream after) old.last old.told.items s
          (t.0, t.1, t.2, goes_on, t.4) is_open_now set)

  -- a session was opened
  module _ (socket : ℤ) (exchange : TableId) (number : s ≡ old.last + 1) (e : told ≡ old.told.items ++ Opened s ∷ [])
      (set : IsSet s (Some (fresh socket exchange)) before (shown_stream after)) where
    pub agree_opened : Ties (shown_stream after) s told old.has_ended
    agree_opened = subst (λ (k : List PortRecord). Ties (shown_stream after) s k old.has_ended) (sym e)
        (ties_opened before (shown_stream after) old.last s old.told.items old.has_ended s old.ties socket exchange number refl
        set)

    pub tell_opened : GoesOn (trace_of old) → Tells (trace_of old) (event.Opened s) trace_after
    tell_opened goes_on = let t = old.ties in
        subst (λ (k : List PortRecord). Tells (trace_of old) (event.Opened s)
        (trace (whose_of old) (shown_stream after) k)) (sym e)
        (tells_opened (whose_of old) before (shown_stream after) old.last old.told.items s
        (t.0, t.1, t.2, goes_on, t.4) socket exchange number set)
