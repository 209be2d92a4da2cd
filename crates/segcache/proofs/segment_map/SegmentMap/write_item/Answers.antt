use Rattle.std.proofs.Common.{◌≡◌, ℕ, false, sym, ap, subst, ◌∙◌, refl}
use Rattle.std.specs.FinMap as finite
use Rattle.std.proofs.lemmas.Slice.Eq.{bytes_eq-Decides}
use Rattle.proto.specs.Sizes.{item_limit}
use Rattle.proto.specs.Cache.{has_arrived}
use Rattle.segments.specs.Items.{IsStorable}
use Rattle.segments.specs.Shown.{item_of}
use Rattle.segments.specs.Pools.{PoolState}
use Rattle.segments.specs.Changes.{HasNoRoom}
use Rattle.index.specs.Table.{Places}
use Rattle.index.proofs.SlotsAsMap.{get-remove}
use Rattle.segcache.specs.State.{MapState}
use Rattle.segcache.specs.Shown.{current}
use Rattle.segcache.specs.LiveItems.{live_others}
use Rattle.segcache.specs.Writes.{FindsKey}
use Rattle.segcache.proofs.ForgottenKeys.{placed_left, room_was, room_there}
use Rattle.segcache.proofs.AppendedItems.{put_over, put_left, put_placed, was_refused, was_done}
use Rattle.segcache.proofs.segment_map.SegmentMap.write_item.Goals as goal
use Rattle.segcache.specs.OwnDeadlines.{own_deadline_by}
use Rattle.segcache.specs.ItemBuckets.{bucket_for}

pub remove_key-requires : goal.remove_key-requires
remove_key-requires c =
    let first = was_refused c.append.result _ _ c.append.ensures.appended
    (sym c.is_err.ensures.value ∙ c.if-is_err.true) in
    subst (λ (s : MapState). FindsKey s c.args.item.key.now c.args.found) (sym first.1) c.requires.found

pub append_to_freed-requires-clause-storable : goal.append_to_freed-requires-clause-storable
append_to_freed-requires-clause-storable c =
    let first = was_refused c.append.result _ _ c.append.ensures.appended
    (sym c.is_err.ensures.value ∙ c.if-is_err.true) in
    let pool : c.remove_key.new.self.pool ≡ c.args.self.now.pool =
    c.remove_key.ensures.same.pool ∙ ap (λ (x : MapState). x.pool) first.1 in
    subst (λ (q : PoolState). IsStorable (item_limit q.sizes) (item_of c.args.item)) (sym pool) c.requires.storable

pub append_to_freed-requires-clause-absent : goal.append_to_freed-requires-clause-absent
append_to_freed-requires-clause-absent c =
    let key = c.args.item.key.now in
    ap (λ (m : Places). finite.get m key) c.remove_key.ensures.left
    ∙ get-remove (current c.append.new.self.pool c.append.new.self.index) key key
    ∙ (let z = (bytes_eq-Decides key key).1 refl in rw z refl)

pub append_to_freed-requires-clause-no_room : goal.append_to_freed-requires-clause-no_room
append_to_freed-requires-clause-no_room c =
    let left = c.remove_key.new.self in
    let i = item_of c.args.item in
    let first = was_refused c.append.result _ _ c.append.ensures.appended
    (sym c.is_err.ensures.value ∙ c.if-is_err.true) in
    let pool : left.pool ≡ c.args.self.now.pool =
    c.remove_key.ensures.same.pool ∙ ap (λ (x : MapState). x.pool) first.1 in
    let moment : left.moment ≡ c.args.self.now.moment = c.remove_key.ensures.moment ∙ c.append.ensures.moment in
    subst (λ (q : PoolState). HasNoRoom q c.args.bucket left.moment i) (sym pool)
    (subst (λ (t : ℕ). HasNoRoom c.args.self.now.pool c.args.bucket t i) (sym moment) first.0)

pub append_to_freed-requires-clause-own : goal.append_to_freed-requires-clause-own
append_to_freed-requires-clause-own c =
    let first = was_refused c.append.result _ _ c.append.ensures.appended
    (sym c.is_err.ensures.value ∙ c.if-is_err.true) in
    let pool : c.remove_key.new.self.pool ≡ c.args.self.now.pool =
    c.remove_key.ensures.same.pool ∙ ap (λ (x : MapState). x.pool) first.1 in
    c.requires.own ∙ ap (λ (q : PoolState). own_deadline_by q.exact c.args.item.deadline) (sym pool)

pub append_to_freed-requires-clause-waits : goal.append_to_freed-requires-clause-waits
append_to_freed-requires-clause-waits c =
    subst (λ (t : ℕ). has_arrived c.args.item.deadline t ≡ false)
    (sym (c.remove_key.ensures.moment ∙ c.append.ensures.moment)) c.requires.waits

pub append_to_freed-requires-clause-of_bucket : goal.append_to_freed-requires-clause-of_bucket
append_to_freed-requires-clause-of_bucket c =
    let first = was_refused c.append.result _ _ c.append.ensures.appended
    (sym c.is_err.ensures.value ∙ c.if-is_err.true) in
    let pool : c.remove_key.new.self.pool ≡ c.args.self.now.pool =
    c.remove_key.ensures.same.pool ∙ ap (λ (x : MapState). x.pool) first.1 in
    subst (λ (q : PoolState). c.args.bucket ≡ bucket_for q c.remove_key.new.self.moment c.args.item.deadline) (sym pool)
    (subst (λ (t : ℕ). c.args.bucket ≡ bucket_for c.args.self.now.pool t c.args.item.deadline)
    (sym (c.remove_key.ensures.moment ∙ c.append.ensures.moment)) c.requires.of_bucket)

pub returns-then-is_err-clause-put : goal.returns-then-is_err-clause-put
returns-then-is_err-clause-put c =
    let s = c.args.self.now in
    let i = item_of c.args.item in
    let left = c.remove_key.new.self in
    let first = was_refused c.append.result _ _ c.append.ensures.appended
    (sym c.is_err.ensures.value ∙ c.if-is_err.true) in
    let is : current left.pool left.index ≡ finite.remove (current s.pool s.index) i.key =
    subst (λ (x : MapState). current left.pool left.index ≡ finite.remove (current x.pool x.index) i.key) first.1
    c.remove_key.ensures.left in
    put_left s left i c.args.item.deadline c.append_to_freed.new.self.pool c.append_to_freed.new.self.index
    (c.remove_key.ensures.same.pool ∙ ap (λ (x : MapState). x.pool) first.1)
    (c.remove_key.ensures.moment ∙ c.append.ensures.moment) is c.append_to_freed.ensures.put

pub returns-else-is_err-clause-put : goal.returns-else-is_err-clause-put
returns-else-is_err-clause-put c =
    let s = c.args.self.now in
    let done = was_done c.append.result _ _ c.append.ensures.appended
    (sym c.is_err.ensures.value ∙ c.if-is_err.false) in
    put_over s.pool s.index s.marks c.args.bucket s.moment
    (item_of c.args.item) c.args.item.deadline
    c.append.new.self.pool c.append.new.self.index done.0 c.append.ensures.kept.past c.append.ensures.kept.tied
    done.1.0 done.1.1 c.requires.own c.requires.waits c.requires.of_bucket

pub returns-then-is_err-clause-placed : goal.returns-then-is_err-clause-placed
returns-then-is_err-clause-placed c =
    let s = c.args.self.now in
    let i = item_of c.args.item in
    let left = c.remove_key.new.self in
    let first = was_refused c.append.result _ _ c.append.ensures.appended
    (sym c.is_err.ensures.value ∙ c.if-is_err.true) in
    let is : current left.pool left.index ≡ finite.remove (current s.pool s.index) i.key =
    subst (λ (x : MapState). current left.pool left.index ≡ finite.remove (current x.pool x.index) i.key) first.1
    c.remove_key.ensures.left in
    placed_left s left c.args.bucket i c.append_to_freed.new.self.pool c.append_to_freed.new.self.index c.append.ensures.kept
    c.remove_key.ensures.same.kept (c.remove_key.ensures.same.pool ∙ ap (λ (x : MapState). x.pool) first.1)
    (c.remove_key.ensures.moment ∙ c.append.ensures.moment) is c.append_to_freed.ensures.placed

pub returns-else-is_err-clause-placed : goal.returns-else-is_err-clause-placed
returns-else-is_err-clause-placed c =
    let s = c.args.self.now in
    let i = item_of c.args.item in
    let lives = live_others i.key s.marks s.moment in
    let done = was_done c.append.result _ _ c.append.ensures.appended
    (sym c.is_err.ensures.value ∙ c.if-is_err.false) in
    put_placed lives s.pool s.index s.pool s.index s.marks c.args.bucket s.moment i c.args.item.deadline
    c.append.new.self.pool c.append.new.self.index done.0
    (room_there lives s.pool s.index c.args.bucket s.moment i
    (room_was s.pool c.args.bucket s.moment i c.append.new.self.pool done.0 done.1.0))
    c.append.ensures.kept.past c.append.ensures.kept.tied done.1.0 done.1.1 c.requires.own c.requires.waits
    c.requires.of_bucket
