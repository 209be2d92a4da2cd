use Rattle.std.proofs.Common.{ap, ◌≡◌, true, length, sym, ◌∙◌, arith}
use Rattle.index.specs.Slots.{is_used, slot_at}
use Rattle.index.proofs.RowDistances.{distance_itself}
use Rattle.index.proofs.SearchesUpToGap.{way_begins, way_goes_on, way_shortens, nears}
use Rattle.index.proofs.search.first_gap_before.Goals as goal

pub loop-at-init : goal.loop-at-init
loop-at-init c = record {
  way = way_begins c.args.slots.now.slots c.args.home c.requires.home;
  near = (let z = distance_itself (length c.args.slots.now.slots) c.args.home in omega (arith, z));
}

pub loop-at-smaller : goal.loop-at-smaller
loop-at-smaller c =
    let used : is_used (slot_at c.args.slots.now.slots c.loop-at.at) ≡ true =
    ap is_used (sym c.get.ensures) ∙ sym c.is_used.ensures ∙ c.if-is_used.true in
    rw (c.next_slot-at.ensures.value, c.len.ensures)
    (way_shortens c.args.slots.now.slots c.args.home c.loop-at.at c.requires.home c.requires.gap
    c.loop-at.invariant.way used)

pub loop-at-preserved : goal.loop-at-preserved
loop-at-preserved c =
    let used : is_used (slot_at c.args.slots.now.slots c.loop-at.at) ≡ true =
    ap is_used (sym c.get.ensures) ∙ sym c.is_used.ensures ∙ c.if-is_used.true in
    rw (c.next_slot-at.ensures.value, c.len.ensures) record {
      way = way_goes_on c.args.slots.now.slots c.args.home c.loop-at.at c.requires.home c.requires.gap
          c.loop-at.invariant.way used;
      near = nears _ c.args.home c.loop-at.at c.args.end c.requires.home c.loop-at.invariant.way.at_range c.requires.end
          c.loop-at.invariant.near c.loop-at-test.true;
    }
