-- An empty body. The borrow is opened, and closed at the longer list.
use Rattle.std.proofs.Common.{ℕ, List, [], ◌∷◌, ◌++◌, refl}
use Rattle.std.proofs.raw_atomic.Walks.{proved}
use base.Logic.{id⊢}
use base.Fml.{Fml, ftrue, flft}
use mir.Syntax.{Fn, Args, a_type, dcons, dnil, named}
use mir.Val.{Val, vunit, vptr}
use mir.MapTy.{inst_fn}
use types.Kit.{‵, raw, ◌⊛◌, ◌$◌, ◌∵◌, !, qed, move, keep, use1, split, join, fsplit, fsplit3, fjoin, fjoin3, feq_i, suffices, frame, done}
use types.Run.{unit_lit, of_opd, returns, enter}
use types.ByLocal.{alloc_all, pass_all, free_all, look_at, sets}
use denote.Exit.{yes}
use denote.RattleType.{RattleType, owns}
use denote.Param.{param, bounded}
use denote.Ref.{MutRef, ShrRef, mut_vals, mut_Tells, shr_vals, shr_Tells}
use denote.Signature.{plain}
use denote.Steps.{opens, closes}
use denote.Triple.Walked.{says, Stays, stay_ref, stay_none_ref, walk_of, Goes-ref, Goes-none_ref, ends_at}
use Rattle.proto.specs.contracts.trace.Trace as T
use Rattle.proto.specs.contracts.trace.Trace.note_as as f
use Rattle.proto.proofs.trace.Trace.note_as.Statement.{statement}
use Rattle.proto.proofs.trace.Trace.note_as.Code as code

pub note_as_spec : {M : Type 1} → statement M
note_as_spec 𝓤 𝓛 𝓜 𝓡 wired A N L LN G d bound =
    let E = f.ended A N G d in let c = f.clauses A N G d 𝓛 𝓜.mem 𝓡.returns in
    let args : Args = bounded (a_type ∷ a_type ∷ []) (A, (N, tt)) (dcons d dnil) in let function : Fn = inst_fn args code.function in
    let R : RattleType = T.the_row (param 0 A) in let Value : RattleType = param 1 N in
    let stayed : Stays E.signature.params E.kept =
    (stay_ref (0 ∷ []) tt (plain (λ _. R)), (stay_none_ref (1 ∷ []) tt (plain (λ _. Value)) yes, tt)) in
    proved 𝓛 E stayed c 𝓜 𝓡 (Goes-ref 𝓛 4 0 tt (plain (λ _. R)), (Goes-none_ref 𝓛 4 (1 ∷ []) tt (plain (λ _. Value)) yes, tt))
    (f.Key.name args) function (code.unfolded 𝓤 𝓛.H 𝓜 𝓡 wired (A, (N, tt)) d)
    (λ κs. (mut_vals, (shr_vals, tt))) (λ κs. (mut_Tells (named 0) κs.0 R, (shr_Tells (named 1) κs.1.0 Value, tt)))
    (λ κs qs bounds a g are.
    let b : ℕ = a.0.ref_ptr.0 in let o : ℕ = a.0.ref_ptr.1 in let h : R.Denot = a.0.now in
    let h' : R.Denot = record h { items = h.items ++ G.noted a.1.0.now } in
    let y : (walk_of 𝓛 E stayed c).Ghost = ((κs, qs, bounds, a, (mut_vals a.0, (shr_vals a.1.0, tt))), g) in
    let rest : Fml = owns (ShrRef (named 1) κs.1.0 Value ∷ []) a.1 (shr_vals a.1.0, tt) in
    qed 𝓛 (((‵ (flft κs.0 qs.0) ⊛ (‵ (flft κs.1.0 qs.1.0) ⊛ (‵ (flft κs.1.1.0 qs.1.1.0)
    ⊛ (‵ (flft κs.1.1.1.0 qs.1.1.1.0) ⊛ ‵ ftrue))))
    ⊛ ‵ (owns (MutRef (named 0) κs.0 R ∷ ShrRef (named 1) κs.1.0 Value ∷ []) a y.0.4)) ∷ raw ((c κs a).requires g) ∷ []) ∵
    split ! $ split ! $ move ! (2 ∷ []) $ fsplit ! $ fsplit3 ! $ move ! (1 ∷ 2 ∷ 4 ∷ 3 ∷ 5 ∷ []) $ keep ! (0 ∷ 1 ∷ 2 ∷ 3 ∷ 4 ∷ []) $
    enter ! _ _ _ _ _ $ alloc_all ! (λ l. pass_all ! refl ((tt, tt), ((tt, tt), tt)) $
    opens ! tt R {h = h} b o (λ vs.
    sets ! (of_opd ! (unit_lit !)) refl (tt, tt) $
    move ! (1 ∷ []) $ use1 𝓛 (‵ (R.own_val h' vs)) (id⊢ 𝓤 _) $ move ! (1 ∷ 0 ∷ []) $ closes ! tt R h' vs b o $
    returns ! (look_at ! 0 refl) $ free_all ! refl $
    suffices ! _ (ends_at 𝓛 E stayed c y vunit tt (h', (tt, tt)) (tt, (tt, tt))) $ says ! refl $ move ! (2 ∷ 4 ∷ []) $ join ! $
    frame ! $ feq_i ! (List Val) (vptr b o ∷ []) (vptr b o ∷ []) refl $ fjoin3 ! $ fjoin ! $
    feq_i ! (List Val) (vunit ∷ []) (vunit ∷ []) refl $ move ! (1 ∷ 0 ∷ []) $ done !)))
