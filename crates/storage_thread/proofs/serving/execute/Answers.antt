use Rattle.std.proofs.Common.{◌≡◌, rules, ℕ, List, [], ◌∷◌, ◌++◌, ap, ◌∙◌, sym, subst}
use Rattle.proto.specs.declared.history.Answered.{Answered}
use Rattle.proto.specs.declared.message.Request.{Request}
use Rattle.proto.specs.ClockAnswers.{GivenAnswer}
use Rattle.proto.specs.History.{answers_by, RefusesBy}
use Rattle.proto.proofs.HistoryLemmas.{refuses_more}
use Rattle.proto.specs.Sizes.{Sizes}
use Rattle.proto.specs.Steps.{Step, IsCarriedOut}
use Rattle.proto.specs.declared.counts.Counts.{Counts}
use Rattle.proto.specs.Tallies.{no_counts, counted, counts_after}
use Rattle.exchange.specs.Ends.{StorageView}
use Rattle.engine.specs.Reaching.{Reaches}
use Rattle.storage_thread.specs.Serving.{IsReadSince}
use Rattle.storage_thread.specs.Keeping.{LeadsKeeping}
use Rattle.storage_thread.specs.Deadlines.{LeadsAsAsked}
use Rattle.engine.specs.Deadlines.{IsExactStep}
use Rattle.engine.proofs.ReachingLemmas.{TellsCounts, reaches_more, legal_of, counted_more}
use Rattle.proto.proofs.Outcomes.{IsGet}
use Rattle.storage_thread.proofs.Turns.{read_more}
use Rattle.storage_thread.proofs.Kept.{KeepsStep, keeps_told, refused_told, leads_more}
use Rattle.storage_thread.proofs.Dated.{dated_more}
use Rattle.storage_thread.proofs.serving.execute.Goals as goal

-- what an entry tells, by the counts before it
tells : (c : Counts) (h : List Answered) (e : Answered) → c ≡ counts_after no_counts h → TellsCounts c e.request e.reply
    → TellsCounts (counts_after no_counts h) e.request e.reply
tells c h e is t = subst (λ (z : Counts). TellsCounts z e.request e.reply) is t

pub returns-clause-counts : goal.returns-clause-counts
returns-clause-counts g c = let p = c.args.posted in
    let e : Answered = record {
      worker = c.args.worker;
      session = p.session;
      number = p.number;
      request = c.carry_out-stored.new.request;
      moment = c.next_moment-moment.result;
      clock = c.answers.result;
      reply = c.reply-reply.result;
    } in
    c.count.ensures ∙ ap (λ (z : Counts). counted z e.request e.reply) c.requires.counts
    ∙ sym (counted_more no_counts c.args.end.now.end.history e)
    ∙ ap (λ (z : StorageView). counts_after no_counts z.history) (sym c.answer_later-told.ensures.answered)

pub answer_later-told-requires-clause-legal : goal.answer_later-told-requires-clause-legal
answer_later-told-requires-clause-legal g c = let p = c.args.posted in
    let e : Answered = record {
      worker = c.args.worker;
      session = p.session;
      number = p.number;
      request = c.carry_out-stored.new.request;
      moment = c.next_moment-moment.result;
      clock = c.answers.result;
      reply = c.reply-reply.result;
    } in
    let by : e.clock ≡ answers_by [] c.args.end.now.end.history ++ c.next_moment-moment.ensures.moment.0 ∷ [] =
    c.answers.ensures ∙ c.next_moment-moment.ensures.moment.2
    ∙ ap (λ (l : List GivenAnswer). l ++ c.next_moment-moment.ensures.moment.0 ∷ []) c.requires.answers in
    let legal = legal_of _ _ _ _
    (reaches_more c.args.end.now.end.terms.geometry c.args.end.now.end.history (g.S.StorageEngine.cache c.args.store.now)
    (g.S.StorageEngine.cache c.carry_out-stored.new.store) (g.S.StorageEngine.moment c.args.store.now) e c.requires.reaches (
      c.carry_out-stored.result,
      c.reply-reply.ensures.same,
      subst (λ (z : Sizes × Request). IsCarriedOut (Step z.0 e.moment) (g.S.StorageEngine.cache c.args.store.now) z.1 c.carry_out-stored.result
          (g.S.StorageEngine.cache c.carry_out-stored.new.store))
          (λ i. (c.requires.sizes i, sym c.carry_out-stored.ensures.request i)) c.carry_out-stored.ensures.steps,
    )
    (tells c.args.counts.now c.args.end.now.end.history e c.requires.counts c.reply-reply.ensures.tells)
    (search rules) c.next_moment-moment.ensures.moment.0 (c.answers.ensures ∙ c.next_moment-moment.ensures.moment.2
    ∙ ap (λ (l : List GivenAnswer). l ++ c.next_moment-moment.ensures.moment.0 ∷ []) c.requires.answers) (search rules) c.requires.next) in record {
      legal = legal;
      read = λ is. let f = read_more _ _ _ c.args.end.now.end.history e c.next_moment-moment.ensures.moment.0 by c.requires.read
          c.next_moment-moment.ensures.moment.4 c.next_moment-moment.ensures.moment.5 is in (f.0, f.2);
      refused = λ none. refuses_more g.S.StorageEngine.may_refuse c.args.end.now.end.history e c.requires.refused
          (λ is. refused_told e c.carry_out-stored.result c.reply-reply.ensures.same
          (λ refused. subst IsGet (sym c.carry_out-stored.ensures.request) (c.carry_out-stored.ensures.refused is refused)))
          (c.requires.refuses none);
    }

pub returns-clause-reaches : goal.returns-clause-reaches
returns-clause-reaches g c = let p = c.args.posted in
    let e : Answered = record {
      worker = c.args.worker;
      session = p.session;
      number = p.number;
      request = c.carry_out-stored.new.request;
      moment = c.next_moment-moment.result;
      clock = c.answers.result;
      reply = c.reply-reply.result;
    } in
    let more = reaches_more c.args.end.now.end.terms.geometry c.args.end.now.end.history
    (g.S.StorageEngine.cache c.args.store.now)
    (g.S.StorageEngine.cache c.carry_out-stored.new.store) (g.S.StorageEngine.moment c.args.store.now) e c.requires.reaches (
      c.carry_out-stored.result,
      c.reply-reply.ensures.same,
      subst (λ (z : Sizes × Request). IsCarriedOut (Step z.0 e.moment) (g.S.StorageEngine.cache c.args.store.now) z.1 c.carry_out-stored.result
          (g.S.StorageEngine.cache c.carry_out-stored.new.store))
          (λ i. (c.requires.sizes i, sym c.carry_out-stored.ensures.request i)) c.carry_out-stored.ensures.steps,
    )
    (tells c.args.counts.now c.args.end.now.end.history e c.requires.counts c.reply-reply.ensures.tells)
    (search rules) c.next_moment-moment.ensures.moment.0 (c.answers.ensures ∙ c.next_moment-moment.ensures.moment.2
    ∙ ap (λ (l : List GivenAnswer). l ++ c.next_moment-moment.ensures.moment.0 ∷ []) c.requires.answers) (search rules) c.requires.next in
    subst (λ (z : StorageView × ℕ). Reaches z.0.terms.geometry z.0.history
    (g.S.StorageEngine.cache c.carry_out-stored.new.store) z.1)
    (λ i. (sym c.answer_later-told.ensures.answered i, sym c.carry_out-stored.ensures.moment i)) more

pub returns-clause-kept : goal.returns-clause-kept
returns-clause-kept g c l = let p = c.args.posted in let m = g.S.StorageEngine in
    let e : Answered = record {
      worker = c.args.worker;
      session = p.session;
      number = p.number;
      request = c.carry_out-stored.new.request;
      moment = c.next_moment-moment.result;
      clock = c.answers.result;
      reply = c.reply-reply.result;
    } in
    let old = m.cache c.args.store.now in let after = m.cache c.carry_out-stored.new.store in
    let sizes : m.sizes c.args.store.now ≡ c.args.end.now.end.terms.geometry = c.requires.sizes in
    let request : p.request ≡ c.carry_out-stored.new.request = sym c.carry_out-stored.ensures.request in
    let more = leads_more c.args.end.now.end.terms.geometry c.args.end.now.end.history old after e (m.keeps c.args.store.now)
    (m.keeps c.carry_out-stored.new.store) l (
      c.carry_out-stored.result,
      c.reply-reply.ensures.same,
      subst (λ (z : Sizes × Request). IsCarriedOut (Step z.0 e.moment) old z.1 c.carry_out-stored.result after)
          (λ i. (sizes i, request i)) c.carry_out-stored.ensures.steps,
    )
    (keeps_told c.args.end.now.end.terms.geometry old e c.carry_out-stored.result after (m.keeps c.args.store.now)
    (m.keeps c.carry_out-stored.new.store) c.reply-reply.ensures.same
    (λ is. c.carry_out-stored.ensures.told (request ∙ is))
    (subst (λ (z : Sizes × Request). KeepsStep z.0 old (record e { request = z.1; reply = c.carry_out-stored.result }) after
    (m.keeps c.args.store.now) (m.keeps c.carry_out-stored.new.store)) (λ i. (sizes i, request i)) c.carry_out-stored.ensures.kept)) in
    subst (λ (z : StorageView). LeadsKeeping z.terms.geometry z.history after (m.keeps c.carry_out-stored.new.store))
    (sym c.answer_later-told.ensures.answered) more

pub returns-clause-dated : goal.returns-clause-dated
returns-clause-dated g c l = let p = c.args.posted in let m = g.S.StorageEngine in
    let e : Answered = record {
      worker = c.args.worker;
      session = p.session;
      number = p.number;
      request = c.carry_out-stored.new.request;
      moment = c.next_moment-moment.result;
      clock = c.answers.result;
      reply = c.reply-reply.result;
    } in
    let old = m.cache c.args.store.now in let after = m.cache c.carry_out-stored.new.store in
    let sizes : m.sizes c.args.store.now ≡ c.args.end.now.end.terms.geometry = c.requires.sizes in
    let request : p.request ≡ c.carry_out-stored.new.request = sym c.carry_out-stored.ensures.request in
    let more = dated_more c.args.end.now.end.terms.geometry c.args.end.now.end.history old after e (m.is_exact c.args.store.now)
    (m.is_exact c.carry_out-stored.new.store) l c.carry_out-stored.ensures.exact
    (λ on. (
      c.carry_out-stored.result,
      c.reply-reply.ensures.same,
      subst (λ (z : Sizes × Request). IsCarriedOut (IsExactStep z.0 e.moment) old z.1 c.carry_out-stored.result after)
          (λ i. (sizes i, request i)) (c.carry_out-stored.ensures.deadlines on),
    )) in
    subst (λ (z : StorageView). LeadsAsAsked z.terms.geometry z.history after (m.is_exact c.carry_out-stored.new.store))
    (sym c.answer_later-told.ensures.answered) more

pub returns-clause-read : goal.returns-clause-read
returns-clause-read g c = let p = c.args.posted in
    let e : Answered = record {
      worker = c.args.worker;
      session = p.session;
      number = p.number;
      request = c.carry_out-stored.new.request;
      moment = c.next_moment-moment.result;
      clock = c.answers.result;
      reply = c.reply-reply.result;
    } in
    let by : e.clock ≡ answers_by [] c.args.end.now.end.history ++ c.next_moment-moment.ensures.moment.0 ∷ [] =
    c.answers.ensures ∙ c.next_moment-moment.ensures.moment.2
    ∙ ap (λ (l : List GivenAnswer). l ++ c.next_moment-moment.ensures.moment.0 ∷ []) c.requires.answers in
    subst (λ (z : StorageView). IsReadSince z.terms.system_clock (g.C.Clock.start c.next_moment-moment.new.clock.clock) z.history)
    (sym c.answer_later-told.ensures.answered)
    (read_more _ _ _ c.args.end.now.end.history e c.next_moment-moment.ensures.moment.0 by c.requires.read
    c.next_moment-moment.ensures.moment.4 c.next_moment-moment.ensures.moment.5)

pub returns-clause-refused : goal.returns-clause-refused
returns-clause-refused g c = let p = c.args.posted in let m = g.S.StorageEngine in
    let e : Answered = record {
      worker = c.args.worker;
      session = p.session;
      number = p.number;
      request = c.carry_out-stored.new.request;
      moment = c.next_moment-moment.result;
      clock = c.answers.result;
      reply = c.reply-reply.result;
    } in
    subst (λ (z : StorageView). RefusesBy m.may_refuse z.history) (sym c.answer_later-told.ensures.answered)
    (refuses_more m.may_refuse c.args.end.now.end.history e c.requires.refused
    (λ is. refused_told e c.carry_out-stored.result c.reply-reply.ensures.same
    (λ refused. subst IsGet (sym c.carry_out-stored.ensures.request) (c.carry_out-stored.ensures.refused is refused))))
