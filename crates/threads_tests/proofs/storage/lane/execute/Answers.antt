use Rattle.std.proofs.Common.{inl, ◌≡◌, rules, List, [], ◌∷◌, ◌++◌, true≢false, ap, ◌∙◌, sym, subst}
use Rattle.proto.specs.declared.history.Answered.{Answered}
use Rattle.proto.specs.declared.message.Request.{Request}
use Rattle.proto.specs.ClockAnswers.{GivenAnswer}
use Rattle.proto.specs.Sizes.{Sizes}
use Rattle.proto.specs.Steps.{Step, IsCarriedOut}
use Rattle.engine.proofs.ReachingLemmas.{reaches_more, legal_of}
use Rattle.threads_tests.proofs.storage.lane.execute.Goals as goal

pub answer-requires-clause-legal : goal.answer-requires-clause-legal
answer-requires-clause-legal g c =
    let p = c.args.posted in
    let e : Answered = record {
      worker = c.args.worker;
      session = p.session;
      number = p.number;
      request = c.carry_out-stored.new.request;
      moment = c.next_moment-moment.result;
      clock = c.answers-told.result;
      reply = c.uncounted-reply.result;
    } in
    record {
      legal = legal_of _ _ _ _
          (reaches_more c.args.end.now.terms.geometry c.args.end.now.history (g.S.StorageEngine.cache c.args.store.now)
          (g.S.StorageEngine.cache c.carry_out-stored.new.store) (g.S.StorageEngine.moment c.args.store.now) e c.requires.reaches (
            c.carry_out-stored.result,
            c.uncounted-reply.ensures.same,
            subst (λ (z : Sizes × Request). IsCarriedOut (Step z.0 e.moment) (g.S.StorageEngine.cache c.args.store.now) z.1 c.carry_out-stored.result
                (g.S.StorageEngine.cache c.carry_out-stored.new.store))
                (λ i. (c.requires.sizes i, sym c.carry_out-stored.ensures.request i)) c.carry_out-stored.ensures.steps,
          )
          (λ is. inl (c.uncounted-reply.ensures.refused is))
          (search rules) c.next_moment-moment.ensures.moment.0 (c.answers-told.ensures ∙ c.next_moment-moment.ensures.moment.2
          ∙ ap (λ (l : List GivenAnswer). l ++ c.next_moment-moment.ensures.moment.0 ∷ []) c.requires.answers)
          (search rules) c.requires.next);
      read = λ is. absurd (true≢false (sym is ∙ c.requires.any_terms.0));
      refused = λ none. absurd (true≢false (sym c.requires.any_terms.1 ∙ none));
    }
