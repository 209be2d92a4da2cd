-- What append and prepend leave.
use Rattle.std.proofs.Common.{rules, ◌≡◌, ℕ, ◌+◌, Bool, true, false, List, length, Option, Some, refl, subst, inl, inr, arith, length-append}
use Rattle.proto.specs.declared.message.Put.{Put}
use Rattle.proto.specs.declared.message.Reply.{Reply}
use Rattle.proto.specs.declared.message.Reply.TheVariants.{Stored, TooLarge}
use Rattle.proto.specs.Cache.{Entry, Cache}
use Rattle.proto.specs.Commands.{Outcome, join, write, leaving, is_too_large}
use Rattle.engine.specs.declared.commands.Engine.{Engine}
use Rattle.engine.specs.declared.scratch.Scratch.{Scratch}
use Rattle.engine.specs.Members.{MapOf}
use Rattle.engine.specs.Change.{joined_by}
use Rattle.engine.specs.Written.{IsFitting}
use Rattle.engine.specs.Engines.{Way, cache_in, Leaves}

-- the length of what is joined
pub joined_length : (behind : Bool) (more value : List ℕ) → length (joined_by behind more value) ≡ length value + length more
joined_length true more value = length-append value more
joined_length false more value = omega (arith, length-append more value)

-- the put of the joined value
abbrev pub joined_put : Bool → Put → Entry → Put
joined_put behind p e = record p { value = joined_by behind p.value e.value }

-- what is too large
pub join_large : (behind : Bool) (o : Option Entry) (e : Entry) (limit : ℕ) (cache : Cache) (p : Put) → o ≡ Some e
    → is_too_large limit (joined_put behind p e) ≡ true
    → leaving cache TooLarge ≡ join (joined_by behind p.value) o limit cache p
join_large behind o e limit cache p there large = rw (there, large) refl

-- what isn't
pub join_fits : (behind : Bool) (o : Option Entry) (e : Entry) (limit : ℕ) (cache : Cache) (p : Put) → o ≡ Some e
    → is_too_large limit (joined_put behind p e) ≡ false
    → write cache p.key (λ cas. record { value = joined_by behind p.value e.value; flags = e.flags; deadline = e.deadline; cas = cas }) Stored
    ≡ join (joined_by behind p.value) o limit cache p
join_fits behind o e limit cache p there small = rw (there, small) refl

-- an item that isn't too large fits
pub fits_put : (limit : ℕ) (q : Put) → is_too_large limit q ≡ false → IsFitting limit q.key q.value
fits_put limit q small = search rules

-- an engine that leaves what it had
pub leaves_large : {M P S : Type 0} (m : MapOf M P S) (way : Way) (old : Engine M) (done : Outcome) → leaving (cache_in m.entries old) TooLarge ≡ done
    → Leaves m way old old done TooLarge
leaves_large m way old done is =
    subst (λ (d : Outcome). Leaves m way old old d TooLarge) is
    (record {
      sizes_same = refl;
      moment_same = refl;
      in_place_same = refl;
      dialect_same = refl;
      gives = inl (record {
        reply_is = refl;
        last_cas = refl;
        pending = refl;
        changes = record { entries = refl; shown = λ first a. a; kept = λ items k. k };
      });
    })

-- what the scratch has doesn't matter
pub leaves_with : {M P S : Type 0} (m : MapOf M P S) (way : Way) (old new : Engine M) (s : Scratch) (done asked : Outcome) (reply : Reply)
    → done ≡ asked → Leaves m way (record old { scratch = s }) new done reply → Leaves m way old new asked reply
leaves_with m way old new s done asked reply is h =
    subst (λ (d : Outcome). Leaves m way old new d reply) is
    (record {
      sizes_same = h.sizes_same;
      moment_same = h.moment_same;
      in_place_same = h.in_place_same;
      dialect_same = h.dialect_same;
      gives = elim h.gives [
        | inl d ↦ inl (record { reply_is = d.reply_is; last_cas = d.last_cas; pending = d.pending; changes = d.changes })
        | inr d ↦ inr (record {
          reply_is = d.reply_is;
          entries_same = d.entries_same;
          last_cas = d.last_cas;
          pending = d.pending;
          alike = d.alike;
          kept = d.kept;
          cause = d.cause;
        })
      ];
    })
