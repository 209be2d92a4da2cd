-- What an engine over a plain map handles is a plain step.
use Rattle.std.proofs.Common.{◌≡◌, ℕ, true, List, Option, Some, None, refl, sym, ap, ◌∙◌, inl, inr}
use Rattle.std.specs.Prelude.{⊤}
use Rattle.proto.specs.declared.message.Request.{Request}
use Rattle.proto.specs.declared.message.Reply.{Reply}
use Rattle.proto.specs.Cache.{Entry, Cache, found_at}
use Rattle.proto.specs.Commands.{Outcome, cache_of}
use Rattle.engine.specs.declared.commands.Engine.{Engine}
use Rattle.engine.specs.declared.live_map.LiveMap.{Ghosts as MapOf}
use Rattle.reference.specs.declared.plain_map.PlainMap.{PlainMap}
use Rattle.engine.specs.Outcomes.{outcome_at}
use Rattle.engine.specs.Deadlines.{KeepsDeadlines}
use Rattle.engine.specs.Engines.{Changes, Stores, Way, as_written, as_changed, as_touched, way_of, IsHandled}
use Rattle.reference.specs.PlainEntries.{plain_entries}
use Rattle.reference.specs.PlainState.{plain_sizes, plain_cache}
use Rattle.reference.specs.Plain.{HandlesPlainly}
use Rattle.reference.specs.PlainWrites.{WritesPlainly, ReadsPlainly, same_deadline}
use Rattle.std.specs.FinMap as map
use Rattle.std.proofs.lemmas.Bool.{eqb-true, false≢true}
use Rattle.proto.proofs.StepLemmas.{insert-same}
use Rattle.engine.proofs.EngineLemmas.{denied}

-- the members of a plain map
abbrev members : MapOf PlainMap ⊤ ⊤
members =
    record {
      sizes = λ m. m.geometry;
      entries = plain_entries;
      moment = λ m. m.moment;
      may_refuse = true;
      stands = λ m key place. ⊤;
      finds = λ m key spot. ⊤;
      writes = WritesPlainly;
      changes = WritesPlainly;
      reads = ReadsPlainly;
      touches = ReadsPlainly;
      stays = λ m t asked given. same_deadline asked given;
      alike = λ m n. ⊤;
      keeps = λ m items. ⊤;
    }

-- deadlines that are told to be the same are
pub same_deadlines : (asked given : Option ℕ) → same_deadline asked given ≡ true → asked ≡ given
same_deadlines None None is = refl
same_deadlines None (Some given) is = absurd (false≢true is)
same_deadlines (Some asked) None is = absurd (false≢true is)
same_deadlines (Some asked) (Some given) is = ap Some (eqb-true asked given is)

-- the entries are exactly those asked for
exact_entries : (way : Way) (found : PlainMap) (done : Outcome) (stored : Option (List ℕ)) (after : PlainMap)
    → Changes members way found done stored after → plain_entries after ≡ done.entries
exact_entries way found done None after is = is.entries
exact_entries way found done (Some key) after s = each way found key s.entry done.reply after s.exactly ∙ sym s.asked_is
  where
    each : (way : Way) (found : PlainMap) (key : List ℕ) (e : Entry) (answered : Reply) (after : PlainMap)
        → Stores members way found key e answered after → WritesPlainly found key e after
    each as_written found key e answered after w = w
    each as_changed found key e answered after w = w
    each as_touched found key e answered after (inl left) =
        let same : e.deadline ≡ left.deadline = same_deadlines e.deadline left.deadline left.stays in
        let there : map.get (plain_entries found) key ≡ Some e =
        left.there ∙ ap (λ (d : Option ℕ). Some (record e { deadline = d })) (sym same) in
        left.entries ∙ sym (insert-same (plain_entries found) key e there)
    each as_touched found key e answered after (inr w) = w.writes

-- what was handled is a plain step
pub handles_plainly : (before : Engine PlainMap) (t : ℕ) (q : Request) (reply : Reply) (after : Engine PlainMap)
    → IsHandled members before t q reply after → HandlesPlainly before t q reply after
handles_plainly before t q reply after h =
    let done = outcome_at (plain_sizes before) (plain_cache before) t q in
    elim h.leaves.gives [
      | inl d ↦
          let entries = exact_entries (way_of q h.found.in_place) h.found.map done done.stored after.map d.changes in
          let cache : plain_cache after ≡ cache_of done = λ i. record {
            entries = entries i;
            last_cas = d.last_cas i;
            pending = d.pending i;
          } in
          inl (record { reply_is = d.reply_is; cache_is = cache })
      | inr d ↦ inr (denied members h.found after (found_at (plain_cache before) t) done reply h.found_is d)
    ]

-- and a plain step stores what it stores as it asks to be
pub keeps_deadlines : (before : Engine PlainMap) (t : ℕ) (q : Request) (reply : Reply) (after : Engine PlainMap)
    → HandlesPlainly before t q reply after → KeepsDeadlines plain_sizes plain_cache (λ _. true) before t q reply after
keeps_deadlines before t q reply after (inl e) =
    (refl, λ _ other key entry stored is near. ap (λ (c : Cache). map.get c.entries key) e.cache_is ∙ is)
keeps_deadlines before t q reply after (inr r) = (refl, λ _ other key entry stored is near. absurd (other r.reply_is))
