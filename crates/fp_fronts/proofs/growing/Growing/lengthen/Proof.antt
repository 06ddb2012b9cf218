use Rattle.std.proofs.Common.{◌≡◌, ℕ, List, [], ◌∷◌, ◌++◌, refl}
use mir.Syntax.{a_type, dcons, dnil, named}
use mir.Val.{Val, vptr}
use mir.MapTy.{inst_fn}
use base.Fraction.{full_share}
use base.Logic.{SProp, emp}
use base.Fml.{Fml, ftrue, fsep, flft}
use types.Kit.{‵, raw, ◌⊛◌, later, ◌$◌, ◌∵◌, !, qed, by, move, keep, use0, use1, split, fsplit, fsplit3, fjoin, fjoin3, await, feq_i}
use types.Run.{no_more, and_then, returns, enter}
use types.ByLocal.{alloc_all, pass_all, free_all, look_at, get, sets}
use types.Part.{agg}
use contract.Running.{tables}
use contract.Monad.{fact, fact_i}
use denote.Exit.{yes}
use denote.RattleType.{RattleType, owns}
use denote.Signature.{types_at, plain}
use denote.Steps.{nothing, opens, closes}
use denote.Param.{param, bounded}
use denote.Builtin.{RefOf}
use denote.Ref.{shr_vals, shr_Tells, mut_vals, mut_Tells}
use denote.Triple.Walked.{Stays, stay_dropped, stay_ref, walk_of, Goes-dropped, Goes-ref}
use Rattle.std.proofs.raw_atomic.Walks.{proved, leaves}
use Rattle.fp_fronts.specs.Growth.{whole, reached}
use Rattle.fp_fronts.specs.contracts.growing.Growing as Growing
use Rattle.fp_fronts.specs.contracts.growing.Front as Front
use Rattle.fp_fronts.proofs.Steps as steps
use Rattle.fp_fronts.proofs.Made.{token, front_made}
use Rattle.fp_fronts.specs.contracts.growing.Growing.lengthen.{ended, clauses}
use Rattle.fp_fronts.specs.contracts.growing.Growing.lengthen.Key.{name as #self}
use Rattle.fp_fronts.proofs.growing.Growing.lengthen.Statement.{statement}
use Rattle.fp_fronts.proofs.growing.Growing.lengthen.Code as code

pub lengthen_spec : {M : Type 1} → statement M
lengthen_spec 𝓤 𝓛 𝓜 𝓡 wired T X N _ _ _ g d _ =
    let H = 𝓛.H in let 𝓣 = tables 𝓤 H 𝓜 𝓡 𝓡.env in let R : RattleType = param 0 T in
    let X' : RattleType = param 1 X in let En = ended T X N g d in let S : RattleType = Growing.the_row R in
    let F : RattleType = Front.the_row R in
    let inst = bounded (a_type ∷ a_type ∷ a_type ∷ []) (T, (X, (N, tt))) (dcons d dnil) in
    let fn = inst_fn inst code.function in let c = clauses T X N g d 𝓛 𝓜.mem 𝓡.returns in
    let other = RefOf (1 ∷ []) tt (plain (λ _. X')) (λ _. tt) in
    let hs : Stays En.signature.params En.kept =
    (stay_ref (0 ∷ []) tt (plain (λ _. S)), (stay_dropped other yes, tt)) in
    proved 𝓛 En hs c 𝓜 𝓡 (Goes-ref 𝓛 5 0 tt (plain (λ _. S)), (Goes-dropped 𝓛 5 other yes (λ κs x f. refl), tt))
    (#self inst) fn (code.unfolded 𝓤 H 𝓜 𝓡 wired (T, (X, (N, tt))) d)
    (λ κs. (mut_vals, (shr_vals, tt))) (λ κs. (mut_Tells (named 0) κs.0 S, (shr_Tells (named 1) κs.1.0 X', tt))) (λ κs qs bounds a gh are.
    let b = a.0.ref_ptr.0 in let o = a.0.ref_ptr.1 in let me = a.0.now in let γ : ℕ = me.name in
    let more : List T.Denot = g.items a.1.0.now in let log : List T.Denot = me.log ++ more in
    let y : (walk_of 𝓛 En hs c).Ghost =
    ((κs, qs, bounds, a, (vptr b o ∷ [], (vptr a.1.0.ref_ptr.0 a.1.0.ref_ptr.1 ∷ [], tt))), gh) in
    let Post : Val → SProp 𝓤 = (walk_of 𝓛 En hs c).post y in
    let others : Fml = fsep (flft κs.1.1.0 qs.1.1.0) (fsep (flft κs.1.1.1.0 qs.1.1.1.0) (fsep (flft κs.1.1.1.1.0 qs.1.1.1.1.0) ftrue)) in
    let new : S.Denot = record { marker = record {}; name = γ; log = log } in
    let r : F.Denot = record { marker = record {}; name = γ; log = log } in
    qed 𝓛 ((‵ (fsep (flft κs.0 qs.0) (fsep (flft κs.1.0 qs.1.0) others)) ⊛ ‵
    (owns (types_at En.signature.params κs) a y.0.4)) ∷ raw ((c κs a).requires gh) ∷ []) ∵ keep ! (0 ∷ []) $
    split ! $
    fsplit ! $ move ! (1 ∷ []) $ fsplit ! $ move ! (3 ∷ []) $ fsplit ! $ fsplit3 ! $ move ! (3 ∷ []) $ fsplit ! $
    fsplit ! $ keep ! (4 ∷ 5 ∷ 6 ∷ 7 ∷ 8 ∷ []) $
    enter ! 𝓣.C 𝓣.Λ fn (vptr b o ∷ vptr a.1.0.ref_ptr.0 a.1.0.ref_ptr.1 ∷ []) Post $ alloc_all !
    (λ l. pass_all ! refl ((tt, tt), ((tt, tt), tt)) $
    move ! (0 ∷ 1 ∷ 4 ∷ []) $ opens ! tt S b o (λ vs0. move ! (1 ∷ []) $ fsplit ! $ move ! (1 ∷ []) $
    use1 𝓛 (later (‵ (whole R.coded.code full_share γ log))) (steps.lengthens 𝓛 R.coded γ me.log more) $ await ! tt $
    use1 𝓛 (‵ (whole R.coded.code full_share γ log) ⊛ ‵ (reached R.coded.code γ log)) (steps.shows 𝓛 R.coded full_share γ log) $ split ! $
    move ! (2 ∷ 0 ∷ []) $ fjoin ! $ move ! (2 ∷ 0 ∷ 3 ∷ 4 ∷ 5 ∷ []) $ closes ! tt S new vs0 b o $
    move ! (3 ∷ []) $ use1 𝓛 (‵ (F.own_val r (token ∷ []))) (front_made 𝓛 R γ log) $
    sets ! (agg ! (no_more !)) refl (tt, tt) $ sets ! (agg ! (and_then ! (get ! refl) (no_more !))) refl (tt, (tt, tt)) $
    move ! (4 ∷ 5 ∷ []) $ fjoin ! $ move ! (4 ∷ 0 ∷ []) $ fjoin ! $ nothing ! $ nothing ! $ fjoin ! $ feq_i !
    (List Val) (vptr b o ∷ []) (vptr b o ∷ []) refl $ move ! (0 ∷ 4 ∷ 5 ∷ []) $ fjoin3 ! $ fjoin ! $
    let Told : Type 0 = (γ ≡ γ) × (log ≡ me.log ++ more) × (γ ≡ γ) × (log ≡ log) in
    use0 𝓛 (raw (fact 𝓤 Told)) (fact_i 𝓤 Told (emp 𝓤) (refl, refl, refl, refl)) $
    returns ! (look_at ! 0 refl) $ free_all ! refl $ keep ! (2 ∷ 1 ∷ 3 ∷ 0 ∷ []) $ by !
    (leaves 𝓛 En hs c y token r (new, (tt, tt)) (tt, (tt, tt))))))
