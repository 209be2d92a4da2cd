use Rattle.std.proofs.Common.{◌≡◌, ◌++◌, List, ℕ, append_assoc, codes, decimal, ◌∙◌}
use Rattle.std.specs.List.{flat_map}
use Rattle.std.proofs.lemmas.Grind.{flat_map-append}
use Rattle.proto.specs.StatTexts.{more, stat_bytes, tally_lines, count_lines}
use Rattle.proto.proofs.stats.push_counts.Goals as goal

-- texts one after the other
joined : (text a b c d e f g behind : List ℕ)
    → (((((((text ++ a) ++ b) ++ c) ++ d) ++ e) ++ f) ++ g) ++ behind
    ≡ text ++ (a ++ (b ++ (c ++ (d ++ (e ++ (f ++ (g ++ behind)))))))
joined text a b c d e f g behind = simp append_assoc

-- the lines of lists one after the other
tallies : (text : List ℕ) (a b c d e f : List (List ℕ × List ℕ))
    → (((((text ++ flat_map stat_bytes a) ++ flat_map stat_bytes b) ++ flat_map stat_bytes c) ++ flat_map stat_bytes d)
    ++ flat_map stat_bytes e) ++ flat_map stat_bytes f ≡ text ++ flat_map stat_bytes (a ++ b ++ c ++ d ++ e ++ f)
tallies text a b c d e f = simp (flat_map-append, append_assoc)

pub returns : goal.returns
unfolding count_lines
returns c =
    let m = c.args.counts.now in
    let text = c.args.text.now.items in
    let last = flat_map stat_bytes (tally_lines (codes "get") m.gets ++ tally_lines (codes "delete") m.deletes
    ++ tally_lines (codes "incr") m.incrs ++ tally_lines (codes "decr") m.decrs ++ tally_lines (codes "touch") m.touches
    ++ tally_lines (codes "cas") m.cas) in
    rw (
      c.in_ok-push_tally-6.ensures,
      c.in_ok-push_tally-5.ensures,
      c.in_ok-push_tally-4.ensures,
      c.in_ok-push_tally-3.ensures,
      c.in_ok-push_tally-2.ensures,
      c.in_ok-push_tally.ensures,
      c.in_ok-push_count-7.ensures,
      c.in_ok-push_count-6.ensures,
      c.in_ok-push_count-5.ensures,
      c.in_ok-push_count-4.ensures,
      c.in_ok-push_count-3.ensures,
      c.in_ok-push_count-2.ensures,
      c.in_ok-push_count.ensures,
      c.total.ensures,
      c.total-2.ensures,
      c.total-3.ensures,
    )
    (tallies _ (tally_lines (codes "get") m.gets) (tally_lines (codes "delete") m.deletes) (tally_lines (codes "incr") m.incrs)
    (tally_lines (codes "decr") m.decrs) (tally_lines (codes "touch") m.touches) (tally_lines (codes "cas") m.cas)
    ∙ joined text (stat_bytes (codes "cmd_get", decimal (more m.gets.hits m.gets.misses)))
    (stat_bytes (codes "cmd_set", decimal (more m.sets.hits m.sets.misses)))
    (stat_bytes (codes "cmd_touch", decimal (more m.touches.hits m.touches.misses)))
    (stat_bytes (codes "cmd_flush", decimal m.flushes)) (stat_bytes (codes "total_items", decimal m.sets.hits))
    (stat_bytes (codes "cas_badval", decimal m.badvals)) (stat_bytes (codes "out_of_memory", decimal m.refused)) last)
