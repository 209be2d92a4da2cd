use Rattle.std.proofs.Common.{rules, ◌∷◌, [], refl, sym, ◌∙◌, None, Some}
use Rattle.exchange.specs.declared.messages.LaneMessage.TheVariants.{Answer}
use Rattle.exchange.specs.declared.rule.StorageState.{StorageState}
use Rattle.exchange.specs.declared.rule.LaneView.TheVariants.{Storage}
use Rattle.exchange.specs.Beginnings.{posted_of}
use Rattle.exchange.specs.Lanes.{lane_slot}
use Rattle.exchange.specs.Seats.{storage_state_in}
use Rattle.exchange.proofs.Known.{exchanged, answers_as}
use Rattle.exchange.proofs.steps.put_answer.Goals as goal

pub load-requires : goal.load-requires
load-requires c = let h = c.requires.held in let d : StorageState = storage_state_in c.args.seat.now.me.0 in
    let a = c.args.answered in
    let me = exchanged _ _ _ _ _ None (Some (Answer a)) c.exchange.ensures.3 h.0 c.slot_at-slot.ensures in (
      search rules,
      search rules,
      answers_as _ _ _ _ d a.worker (posted_of a) a _ (me
          ∙ (λ j. (Storage d, (lane_slot a.worker (sym h.1 j), Some (Answer a)) ∷ []))) h.2 refl refl c.requires.table.2
          c.requires.legal,
    )

pub returns-clause-answered : goal.returns-clause-answered
returns-clause-answered c = let h = c.requires.held in let d : StorageState = storage_state_in c.args.seat.now.me.0 in
    let a = c.args.answered in
    c.load.ensures.2 d a _ (exchanged _ _ _ _ _ None (Some (Answer a)) c.exchange.ensures.3 h.0 c.slot_at-slot.ensures)
