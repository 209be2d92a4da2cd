-- What is told when the streams of a port change.
use Rattle.std.proofs.Common.{◌≡◌, ℕ, ◌+◌, ◌<◌, ◌≤◌, ◌==◌, Bool, true, false, not, ◌||◌, cond}
use Rattle.std.proofs.Common.{List, [], ◌∷◌, ◌++◌, length, refl, sym, ap, ◌∙◌, append-nil, arith, ⊎_elim}
use Rattle.std.specs.Prelude.{ℤ, Option, None, Some, is_some}
use Rattle.std.specs.Option.{option_map}
use Rattle.std.specs.Bool.{nat_eq}
use Rattle.std.proofs.lemmas.Bool.{both_ways, eqb-true, eq-eqb, ne_eqb, cases_lt, and_left}
use Rattle.worker_port.specs.declared.events.PortRecord.{PortRecord}
use Rattle.worker_port.specs.declared.events.PortRecord.TheVariants.{Opened, Data, EndOfInput, Gone, Accepted, Shut}
use Rattle.worker_port.specs.declared.events.PortEvent.TheVariants as event
use Rattle.worker_port.specs.Ports.{PortTrace, then_told, with_pause, is_in, is_open}
use Rattle.exchange.specs.Ends.{TableId}
use Rattle.net.specs.Seen.{Seen, IsSet, fresh, then_received, then_sent, then_input_ended, then_paused, is_paused_stream}
use Rattle.net.specs.Seen.{has_input_ended}
use Rattle.net.specs.Ties.{Ties}
use Rattle.net.specs.Traces.{Whose, trace, Tells}
use Rattle.proto.specs.declared.history.Answered.{Answered}

pub same_trace : (o : Whose) (streams next : ℕ → Option Seen) (l : List PortRecord)
    → ((s : ℕ) → next s ≡ streams s) → trace o next l ≡ trace o streams l
same_trace o streams next l h = λ i. record (trace o streams l) { paused = λ s. is_paused_stream (h s i) }

-- no entry, and nothing changes
pub told_none : (s : PortTrace) → s ≡ then_told [] s
told_none s = λ i. record s { events = sym (append-nil s.events) i }

told_by : (o : Whose) (streams next : ℕ → Option Seen) (l xs : List PortRecord)
    → ((o : ℕ) → is_paused_stream (next o) ≡ cond (is_in (Gone o) xs || is_in (Shut o) xs) false
    (is_paused_stream (streams o)))
    → trace o next (l ++ xs) ≡ then_told xs (trace o streams l)
told_by o streams next l xs h = λ i. record (trace o streams l) { events = l ++ xs; paused = λ k. h k i }

-- a stream that isn't is_open_now isn't paused
not_open : (n : Option Seen) → is_some n ≡ false → is_paused_stream n ≡ false
not_open None h = refl
not_open (Some x) h = absurd (both_ways true h refl)

received_pause : (n : Option Seen) (b : List ℕ) → is_paused_stream (option_map (then_received b) n) ≡ is_paused_stream n
received_pause None b = refl
received_pause (Some x) b = refl

sent_pause : (n : Option Seen) (b : List ℕ) → is_paused_stream (option_map (then_sent b) n) ≡ is_paused_stream n
sent_pause None b = refl
sent_pause (Some x) b = refl

input_ended_pause : (n : Option Seen) → is_paused_stream (option_map then_input_ended n) ≡ is_paused_stream n
input_ended_pause None = refl
input_ended_pause (Some x) = refl

set_pause : (n : Option Seen) (b : Bool) → is_some n ≡ true → is_paused_stream (option_map (then_paused b) n) ≡ b
set_pause None b h = absurd (both_ways false refl h)
set_pause (Some x) b h = refl

gone_pause : (c : Bool) (n m : Option Seen) → n ≡ cond c None m
    → is_paused_stream n ≡ cond ((c || false) || false) false (is_paused_stream m)
gone_pause true n m e = ap is_paused_stream e
gone_pause false n m e = ap is_paused_stream e

shut_pause : (c : Bool) (n m : Option Seen) → n ≡ cond c None m
    → is_paused_stream n ≡ cond (c || false) false (is_paused_stream m)
shut_pause true n m e = ap is_paused_stream e
shut_pause false n m e = ap is_paused_stream e

-- where what one stream is set to is as little paused as before, nothing is
module _ (w : Whose) (streams next : ℕ → Option Seen) (s : ℕ) (now : Option Seen) where
  kept_case : (o : ℕ) → next o ≡ cond (nat_eq s o) now (streams o) → is_paused_stream now ≡ is_paused_stream (streams s)
      → (b : Bool) → nat_eq s o ≡ b
      → is_paused_stream (next o) ≡ is_paused_stream (streams o)
  kept_case o set same true is = ap is_paused_stream (set ∙ ap (λ c. cond c now (streams o)) is) ∙ same
      ∙ ap (λ (k : ℕ). is_paused_stream (streams k)) (eqb-true s o is)
  kept_case o set same false is = ap is_paused_stream (set ∙ ap (λ c. cond c now (streams o)) is)

  kept : IsSet s now streams next → is_paused_stream now ≡ is_paused_stream (streams s) → (o : ℕ)
      → is_paused_stream (next o) ≡ is_paused_stream (streams o)
  kept set same o = kept_case o (set o) same (nat_eq s o) refl

module _ (w : Whose) (streams next : ℕ → Option Seen) (last : ℕ) (l : List PortRecord) (s : ℕ) (t : Ties streams last l false) where
  pub tells_opened : (socket : ℤ) (exchange : TableId) → s ≡ last + 1 → IsSet s (Some (fresh socket exchange)) streams next
      → Tells (trace w streams l) (event.Opened s) (trace w next (l ++ Opened s ∷ []))
  tells_opened socket exchange n set =
      let behind = t.2 s (omega arith) in
      let closed : is_some (streams s) ≡ false = sym (t.0 s) ∙ and_left (is_in (Opened s) l) (not (is_in (Gone s) l || is_in (Shut s) l)) behind.0 in
      record {
        told = told_by w streams next l (Opened s ∷ []) (kept w streams next s (Some (fresh socket exchange)) set (sym (not_open (streams s) closed)));
        may = (
          omega arith,
          (λ k was. ⊎_elim (λ (b : last < k). absurd (both_ways (is_in (Opened k) l) (t.2 k b).0 was))
              (λ (b : k ≤ last). omega arith) (cases_lt last k)),
          t.3,
        );
        orders = omega (arith, t.4);
      }

  -- no end of input was told of an open session of whose stream more may come
  input_not_ended : is_open s l ≡ true → has_input_ended (streams s) ≡ false → is_in (EndOfInput s) l ≡ false
  input_not_ended is_open_now more = (t.1 s (sym (t.0 s) ∙ is_open_now)).2 ∙ more

  pub tells_fed : (b : List ℕ) → is_open s l ≡ true → is_paused_stream (streams s) ≡ false → has_input_ended (streams s) ≡ false
      → 0 < length b → length b ≤ 16384
      → IsSet s (option_map (then_received b) (streams s)) streams next → Tells (trace w streams l) (event.Data s b) (trace w next (l ++ Data s b ∷ []))
  tells_fed b is_open_now ready more some fits set = record {
    told = told_by w streams next l (Data s b ∷ []) (kept w streams next s (option_map (then_received b) (streams s)) set (received_pause (streams s) b));
    may = ((is_open_now, ready, input_not_ended is_open_now more, t.3), fits);
    orders = some;
  }

  pub tells_input_ended : is_open s l ≡ true → is_paused_stream (streams s) ≡ false → has_input_ended (streams s) ≡ false
      → IsSet s (option_map then_input_ended (streams s)) streams next
      → Tells (trace w streams l) (event.EndOfInput s) (trace w next (l ++ EndOfInput s ∷ []))
  tells_input_ended is_open_now ready more set = record {
    told = told_by w streams next l (EndOfInput s ∷ []) (kept w streams next s (option_map then_input_ended (streams s)) set (input_ended_pause (streams s)));
    may = (is_open_now, ready, input_not_ended is_open_now more, t.3);
    orders = tt;
  }

  pub tells_gone : is_open s l ≡ true → IsSet s None streams next → Tells (trace w streams l) (event.Gone s) (trace w next (l ++ Gone s ∷ []))
  tells_gone is_open_now set = record {
    told = told_by w streams next l (Gone s ∷ []) (λ o. gone_pause (nat_eq s o) (next o) (streams o) (set o));
    may = (is_open_now, t.3);
    orders = tt;
  }

module _ (w : Whose) (streams next : ℕ → Option Seen) (l : List PortRecord) (s : ℕ) where
  pub tells_given : (b : List ℕ) → IsSet s (option_map (then_sent b) (streams s)) streams next
      → trace w next (l ++ Accepted s b ∷ []) ≡ then_told (Accepted s b ∷ []) (trace w streams l)
  tells_given b set = told_by w streams next l (Accepted s b ∷ [])
      (kept w streams next s (option_map (then_sent b) (streams s)) set (sent_pause (streams s) b))

  lost_at : (o : ℕ) → next o ≡ cond (nat_eq s o) None (streams o) → (c : Bool) → nat_eq s o ≡ c
      → is_paused_stream (next o) ≡ cond (o == s) false (is_paused_stream (streams o))
  lost_at o set true is =
      ap is_paused_stream (set ∙ ap (λ c. cond c None (streams o)) is)
      ∙ sym (ap (λ c. cond c false (is_paused_stream (streams o))) (eq-eqb o s (sym (eqb-true s o is))))
  lost_at o set false is =
      ap is_paused_stream (set ∙ ap (λ c. cond c None (streams o)) is)
      ∙ sym (ap (λ c. cond c false (is_paused_stream (streams o)))
      (ne_eqb o s (λ e. both_ways (nat_eq s o) is (eq-eqb s o (sym e)))))

  -- at a write it is found to have gone
  pub gave_lost : (history : List Answered) → IsSet s None streams next
      → trace (record w { history = history }) next (l ++ Gone s ∷ [])
      ≡ record (trace w streams l) {
        events = l ++ Gone s ∷ [];
        paused = λ o. cond (o == s) false (is_paused_stream (streams o));
        history = history;
      }
  gave_lost history set = λ i. record (trace w streams l) {
    events = l ++ Gone s ∷ [];
    paused = λ o. lost_at o (set o) (nat_eq s o) refl i;
    history = history;
  }

  -- the same, by a history
  pub gave_by : (xs : List PortRecord) (history : List Answered) → trace w next (l ++ xs) ≡ then_told xs (trace w streams l)
      → trace (record w { history = history }) next (l ++ xs)
      ≡ record (then_told xs (trace w streams l)) { history = history }
  gave_by xs history e = λ i. record (e i) { history = history }

  pub tells_shut : IsSet s None streams next → trace w next (l ++ Shut s ∷ []) ≡ then_told (Shut s ∷ []) (trace w streams l)
  tells_shut set = told_by w streams next l (Shut s ∷ []) (λ o. shut_pause (nat_eq s o) (next o) (streams o) (set o))

  paused_at : (b : Bool) (o : ℕ) → is_some (streams s) ≡ true → next o ≡ cond (nat_eq s o) (option_map (then_paused b) (streams s)) (streams o)
      → (c : Bool) → nat_eq s o ≡ c
      → is_paused_stream (next o) ≡ cond (o == s) b (is_paused_stream (streams o))
  paused_at b o is_open_now set true is =
      ap is_paused_stream (set ∙ ap (λ c. cond c (option_map (then_paused b) (streams s)) (streams o)) is)
      ∙ set_pause (streams s) b is_open_now
      ∙ sym (ap (λ c. cond c b (is_paused_stream (streams o))) (eq-eqb o s (sym (eqb-true s o is))))
  paused_at b o is_open_now set false is =
      ap is_paused_stream (set ∙ ap (λ c. cond c (option_map (then_paused b) (streams s)) (streams o)) is)
      ∙ sym (ap (λ c. cond c b (is_paused_stream (streams o)))
      (ne_eqb o s (λ e. both_ways (nat_eq s o) is (eq-eqb s o (sym e)))))

  pub tells_pause : (b : Bool) → is_some (streams s) ≡ true → IsSet s (option_map (then_paused b) (streams s)) streams next
      → trace w next l ≡ with_pause s b (trace w streams l)
  tells_pause b is_open_now set = λ i. record (trace w streams l) { paused = λ o. paused_at b o is_open_now (set o) (nat_eq s o) refl i }

  same_case : (now : Option Seen) → now ≡ streams s → (o : ℕ) → next o ≡ cond (nat_eq s o) now (streams o)
      → (c : Bool) → nat_eq s o ≡ c → next o ≡ streams o
  same_case now same o set true is = set ∙ ap (λ c. cond c now (streams o)) is ∙ same ∙ ap streams (eqb-true s o is)
  same_case now same o set false is = set ∙ ap (λ c. cond c now (streams o)) is

  -- a stream that is set to what it was
  pub set_same : (now : Option Seen) → now ≡ streams s → IsSet s now streams next → (o : ℕ) → next o ≡ streams o
  set_same now same set o = same_case now same o (set o) (nat_eq s o) refl

  -- a stream that took no bytes is as it was
  sent_none : (n : Option Seen) → option_map (then_sent []) n ≡ n
  sent_none None = refl
  sent_none (Some x) = λ i. Some (record x { sent = append-nil x.sent i })

  pub sent_no_bytes : IsSet s (option_map (then_sent []) (streams s)) streams next → (o : ℕ) → next o ≡ streams o
  sent_no_bytes set = set_same (option_map (then_sent []) (streams s)) (sent_none (streams s)) set
