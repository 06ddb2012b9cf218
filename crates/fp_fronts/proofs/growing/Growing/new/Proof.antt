use Rattle.std.proofs.Common.{◌≡◌, ℕ, List, [], ◌∷◌, ◌++◌, refl}
use mir.Syntax.{a_type}
use mir.Val.{Val, vstruct, vcons, vnil, of_list}
use mir.MapTy.{inst_fn}
use base.Fraction.{full_share}
use base.Logic.{SProp, emp}
use base.Fml.{ftrue, fsep, feq}
use types.Kit.{‵, raw, ◌⊛◌, some, later, ◌$◌, ◌∵◌, !, qed, by, move, keep, use0, use1, split, fjoin, fjoin3, fpack, pick, await, feq_i}
use types.Run.{no_more, and_then, returns, enter}
use types.ByLocal.{alloc_all, pass_all, free_all, look_at, get, sets}
use types.Part.{agg}
use contract.Running.{tables}
use contract.Monad.{fact, fact_i}
use denote.RattleType.{RattleType, owns, Valss}
use denote.Steps.{nothing}
use denote.Param.{param, layouts}
use denote.Triple.Entry.{alive}
use denote.Triple.Walked.{walk_of}
use Rattle.std.proofs.raw_atomic.Walks.{proved, leaves}
use Rattle.fp_fronts.specs.Growth.{whole, reached}
use Rattle.fp_fronts.specs.contracts.growing.Growing as Growing
use Rattle.fp_fronts.specs.contracts.growing.Front as Front
use Rattle.fp_fronts.proofs.Steps as steps
use Rattle.fp_fronts.proofs.Made.{token, front_made, growing_made}
use Rattle.fp_fronts.specs.contracts.growing.Growing.new.{ended, clauses}
use Rattle.fp_fronts.specs.contracts.growing.Growing.new.Key.{name as #self}
use Rattle.fp_fronts.proofs.growing.Growing.new.Statement.{statement}
use Rattle.fp_fronts.proofs.growing.Growing.new.Code as code

pub new_spec : {M : Type 1} → statement M
new_spec 𝓤 𝓛 𝓜 𝓡 wired T L =
    let H = 𝓛.H in let 𝓣 = tables 𝓤 H 𝓜 𝓡 𝓡.env in let R : RattleType = param 0 T in let En = ended T in
    let c = clauses T 𝓛 𝓜.mem 𝓡.returns in let inst = layouts (a_type ∷ []) (T, tt) in
    let fn = inst_fn inst code.function in
    proved 𝓛 En tt c 𝓜 𝓡 tt (#self inst) fn (code.unfolded 𝓤 H 𝓜 𝓡 wired (T, tt)) (λ κs. tt) (λ κs. tt) (λ κs qs bounds a gh are.
    let y : (walk_of 𝓛 En tt c).Ghost = ((κs, qs, bounds, a, tt), gh) in let Post : Val → SProp 𝓤 = (walk_of 𝓛 En tt c).post y in
    qed 𝓛 ((raw (alive 𝓛 En.signature κs qs) ⊛ ‵ ftrue) ∷ raw ((c κs a).requires gh) ∷ []) ∵ split ! $ keep ! (0 ∷ []) $
    enter ! 𝓣.C 𝓣.Λ fn [] Post $ alloc_all ! (λ l. pass_all ! refl tt $
    use0 𝓛 (later (some (λ (γ : ℕ). ‵ (whole R.coded.code full_share γ [])))) (steps.begins 𝓛 R.coded) $ await ! tt $ pick ! (λ γ.
    use1 𝓛 (‵ (whole R.coded.code full_share γ []) ⊛ ‵ (reached R.coded.code γ [])) (steps.shows 𝓛 R.coded full_share γ []) $ split ! $
    let s : (Growing.the_row R).Denot = record { marker = record {}; name = γ; log = [] } in
    let f : (Front.the_row R).Denot = record { marker = record {}; name = γ; log = [] } in
    let v : Val = vstruct (vcons token (vcons token vnil)) in let Rs : List RattleType = Growing.the_row R ∷ Front.the_row R ∷ [] in
    use1 𝓛 (‵ ((Growing.the_row R).own_val s (token ∷ []))) (growing_made 𝓛 R γ []) $ move ! (1 ∷ []) $
    use1 𝓛 (‵ ((Front.the_row R).own_val f (token ∷ []))) (front_made 𝓛 R γ []) $
    sets ! (agg ! (no_more !)) refl (tt, tt) $ sets ! (agg ! (and_then ! (get ! refl) (no_more !))) refl (tt, (tt, tt)) $
    sets ! (agg ! (no_more !)) refl (tt, tt) $ sets ! (agg ! (and_then ! (get ! refl) (no_more !))) refl (tt, (tt, tt)) $
    sets ! (agg ! (and_then ! (get ! refl) (and_then ! (get ! refl) (no_more !)))) refl (tt, ((tt, tt), ((tt, tt), tt))) $
    nothing ! $ move ! (2 ∷ 1 ∷ 0 ∷ []) $ fjoin3 ! $
    feq_i ! (List Val) (v ∷ []) (v ∷ []) refl $ fjoin ! $ fpack ! (Valss Rs)
    (λ vss. fsep (feq (List Val) (v ∷ []) (vstruct (of_list (vss.0 ++ (vss.1.0 ++ []))) ∷ []))
    (owns Rs (s, (f, tt)) vss)) (token ∷ [], (token ∷ [], tt)) $
    let Told : Type 0 = (s.log ≡ []) × (f.log ≡ []) × (f.name ≡ s.name) in
    use0 𝓛 (raw (fact 𝓤 Told)) (fact_i 𝓤 Told (emp 𝓤) (refl, refl, refl)) $ nothing ! $
    returns ! (look_at ! 0 refl) $ free_all ! refl $ keep ! (3 ∷ 0 ∷ 2 ∷ 1 ∷ []) $ by ! (leaves 𝓛 En tt c y v (s, f) tt tt))))
