-- What is left of a map that shows the hits of keys.
use Rattle.std.specs.Prelude.{◌≡◌, ◌<◌, Bool, false, List, ℕ, length, Result, Err, IfOk, OnOk, OnErr, IsTrue}
use Rattle.proto.specs.declared.dialect.Dialect.{Dialect}
use Rattle.proto.specs.Commands.{hits_of}
use Rattle.proto.specs.Hits.{Writing}
use Rattle.engine.specs.declared.showing.Unshown.{Unshown}
use Rattle.engine.specs.declared.showing.Unshown.TheVariants.{TooLong}
use Rattle.engine.specs.AnswerSizes.{shown_size, is_too_long}
use Rattle.engine.specs.Members.{MapOf}
use Rattle.engine.specs.Keeping.{StaysKept}
use Rattle.engine.specs.Counting.{CountsEach, keys_of}

-- What was written are the hits of the keys, without room that is left; a read of each was counted,
-- one after the other, and the map has what it had.
pub record HasShown {M P S : Type 0} (m : MapOf M P S) (with_cas : Bool) (old : M) (keys : List (List ℕ)) (new : M)
    (written : Writing) : Type 0 where
  pub hits : written.hits ≡ hits_of with_cas (m.entries old) keys
  pub exact : written.room ≡ 0
  pub counted : CountsEach m.reads old (keys_of (hits_of with_cas (m.entries old) keys)) new
  pub entries : m.entries new ≡ m.entries old
  pub sizes : m.sizes new ≡ m.sizes old
  pub moment : m.moment new ≡ m.moment old
  pub kept : StaysKept m.keeps old new

-- The hits of the keys were shown, which an answer of the dialect may; or none, and the map stays:
-- they take too many bytes, or memory was refused, and only if there are some.
pub record ShowsOrRefuses {M P S : Type 0} (m : MapOf M P S) (with_cas : Bool) (dialect : Dialect) (old : M) (keys : List (List ℕ))
    (new : M) (result : Result Writing Unshown) : Type 0 where
  pub ok : IfOk result (λ written. HasShown m with_cas old keys new written)
  pub too_long : result ≡ Err TooLong
      → IsTrue (is_too_long dialect (shown_size (hits_of with_cas (m.entries old) keys)))
  pub limit : OnOk result (is_too_long dialect (shown_size (hits_of with_cas (m.entries old) keys)) ≡ false)
  pub err : OnErr result (0 < length (hits_of with_cas (m.entries old) keys))
  pub refused : OnErr result (new ≡ old)
