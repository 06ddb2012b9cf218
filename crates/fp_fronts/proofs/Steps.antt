-- The ghost side of each step. Assumes `Logic`.
use Rattle.std.proofs.Common.{◌≡◌, ℕ, List, [], ◌∷◌, ◌++◌, map, refl, sym, ap, ◌∙◌}
use mathlib.Core.List.{IsPrefix}
use seplogic.Ra.Ura.{Ura}
use base.Fraction.{full_share}
use base.Stored.{Gv, Coded}
use base.Logic.{ent, sep, wand, ex, guard, emp, via, apply∗}
use base.Fml.{Lft, Share, Fml, fbor}
use base.Growing.{Least, at_least}
use contract.Monad.{fact, fact_i}
use Rattle.std.proofs.lemmas.List.{append-nil}
use base.Share
use ghost.Rules.{Halves}
use types.Owned.{basic}
use types.Logic.{Logic, sem, lfts}
use types.Growing.{latest_new, latest_grows, latest_shows, latest_bounds, latest_cut, latest_glue, at_least_dup, at_least_join}
use types.Kit.{‵, raw, ◌⊛◌, some, given, later, ◌$◌, ◌∵◌, !, qed, by, move, drop, split, use1, use2, await, updating}
use types.Kit.{now, learn, check, pick, done}
use denote.Sharing.{said}
use denote.Struct.Lending.{Lends}
use Rattle.fp_fronts.specs.Growth.{logs, whole, reached}

uncoded : {E : Type 0} (cv : Coded E) (xs ys : List E) (t : List Gv) → map cv.code xs ++ t ≡ map cv.code ys → IsPrefix xs ys
uncoded cv [] ys t e = (ys, refl)
uncoded cv (x ∷ xs) [] t e = absurd (cc e)
uncoded cv (x ∷ xs) (y ∷ ys) t e =
    let here : cv.code x ≡ cv.code y = cc e in
    let rest = uncoded cv xs ys t (cc e) in
    (rest.0, ap (λ (z : _). z ∷ (xs ++ rest.0)) (cv.inj x y here) ∙ ap (λ (zs : List _). y ∷ zs) rest.1)

pub prefix_out : {E : Type 0} (cv : Coded E) (xs ys : List E) → IsPrefix (map cv.code xs) (map cv.code ys) → IsPrefix xs ys
prefix_out cv xs ys p = uncoded cv xs ys p.0 p.1

pub map_append : {E F : Type 0} (f : E → F) (xs ys : List E) → map f xs ++ map f ys ≡ map f (xs ++ ys)
map_append f [] ys = refl
map_append f (x ∷ xs) ys = ap (λ (zs : List _). f x ∷ zs) (map_append f xs ys)

module _ {M : Type 1} {𝓤 : Ura M} (𝓛 : Logic 𝓤) where
  pub lends_twice : (P : Fml) → ent 𝓤 (sem 𝓛 P) (sep 𝓤 (sem 𝓛 P) (sem 𝓛 P)) → (l : Lft) → Lends 𝓛 P (said P) l
  lends_twice P twice l κ ts inc sp = let Back = 𝓛.H.⇛ (sep 𝓤 (𝓛.A.bor κ P) (lfts 𝓛 ts)) in
      qed 𝓛 (‵ (fbor κ P) ∷ raw (lfts 𝓛 ts) ∷ []) ∵ updating ! $ use2 𝓛 (later (‵ P ⊛ raw (wand 𝓤 (sem 𝓛 P) Back)))
      (𝓛.more.bor_acc_by κ ts P sp) $ await ! tt $ split ! $ use1 𝓛 (‵ P ⊛ ‵ P) twice $ split ! $ move !
      (0 ∷ 2 ∷ []) $
      use2 𝓛 (later (‵ (fbor κ P) ⊛ raw (lfts 𝓛 ts))) (apply∗ 𝓤 (sem 𝓛 P) Back) $ await ! tt $ split ! $ drop ! $
      move ! (1 ∷ 0 ∷ []) $ now ! $ done !

  module _ {E : Type 0} (cv : Coded E) where
    abbrev Now : Share → ℕ → List E → Fml
    Now = whole cv.code

    abbrev Past : ℕ → List E → Fml
    Past = reached cv.code

    pub twice : (γ : ℕ) (l : List E) → ent 𝓤 (sem 𝓛 (Past γ l)) (sep 𝓤 (sem 𝓛 (Past γ l)) (sem 𝓛 (Past γ l)))
    twice γ l = at_least_dup logs 𝓛 γ (map cv.code l)

    pub shows : (q : Share) (γ : ℕ) (l : List E) → ent 𝓤 (sem 𝓛 (Now q γ l)) (sep 𝓤 (sem 𝓛 (Now q γ l)) (sem 𝓛 (Past γ l)))
    shows q γ l = latest_shows logs 𝓛 q γ (map cv.code l) (map cv.code l) (logs.same (map cv.code l))

    pub bounds : (q : Share) (γ : ℕ) (l f : List E) →
        ent 𝓤 (sep 𝓤 (sem 𝓛 (Now q γ l)) (sem 𝓛 (Past γ f)))
        (guard 𝓤 (IsPrefix f l) (sep 𝓤 (sem 𝓛 (Now q γ l)) (sem 𝓛 (Past γ f))))
    bounds q γ l f = qed 𝓛 (‵ (Now q γ l) ∷ ‵ (Past γ f) ∷ []) ∵ use2 𝓛
        (given (IsPrefix (map cv.code f) (map cv.code l)) (‵ (Now q γ l) ⊛ ‵ (Past γ f)))
        (latest_bounds logs 𝓛 q γ (map cv.code l) (map cv.code f)) $
        learn ! (λ p. check ! (prefix_out cv f l p) $ done !)

    -- the longer of two coded lists is the code of one
    longer : (xs ys : List E) (c : List Gv) → IsPrefix (map cv.code xs) c × IsPrefix (map cv.code ys) c →
        (w : List E) × IsPrefix xs w × IsPrefix ys w
    longer [] ys c p = (ys, (ys, refl), ([], append-nil ys))
    longer (x ∷ xs) [] c p = (x ∷ xs, ([], append-nil (x ∷ xs)), (x ∷ xs, refl))
    longer (x ∷ xs) (y ∷ ys) [] p = absurd (cc (p.0.1))
    longer (x ∷ xs) (y ∷ ys) (z ∷ zs) p =
        let here : cv.code x ≡ cv.code y = cc (p.0.1, p.1.1) in
        let same : x ≡ y = cv.inj x y here in
        let rest = longer xs ys zs ((p.0.0, cc (p.0.1)), (p.1.0, cc (p.1.1))) in (
          x ∷ rest.0,
          (rest.1.0, ap (λ (l : List E). x ∷ l) rest.1.1),
          (rest.2.0, ap (λ (l : List E). y ∷ l) rest.2.1 ∙ ap (λ (h : E). h ∷ rest.0) (sym same)),
        )

    pub joint : (γ : ℕ) (f g : List E) →
        ent 𝓤 (sep 𝓤 (sem 𝓛 (Past γ f)) (sem 𝓛 (Past γ g))) (fact 𝓤 ((w : List E) × IsPrefix f w × IsPrefix g w))
    joint γ f g = qed 𝓛 (‵ (Past γ f) ∷ ‵ (Past γ g) ∷ []) ∵ use2 𝓛
        (some (λ (c : List Gv). given (Least IsPrefix (map cv.code f) (map cv.code g) c)
        (raw (sem 𝓛 (at_least logs γ c))))) (at_least_join logs 𝓛 γ (map cv.code f) (map cv.code g)) $
        pick ! (λ c. learn ! (λ least. drop ! $ by ! (fact_i 𝓤 _ (emp 𝓤) (longer f g c (least.0, least.1)))))

    pub begins : ent 𝓤 (emp 𝓤) (𝓛.H.⇛ (ex 𝓤 (λ (γ : ℕ). sem 𝓛 (Now full_share γ []))))
    begins = via 𝓤 _ (latest_new logs 𝓛 []) (basic 𝓛 _)

    pub lengthens : (γ : ℕ) (l more : List E) → ent 𝓤 (sem 𝓛 (Now full_share γ l)) (𝓛.H.⇛ (sem 𝓛 (Now full_share γ (l ++ more))))
    lengthens γ l more = via 𝓤 _ (latest_grows logs 𝓛 γ (map cv.code l) (map cv.code (l ++ more))
        (map cv.code more, map_append cv.code l more)) (basic 𝓛 _)

    pub halved : (γ : ℕ) (l : List E) → Halves 𝓤 𝓛.H 𝓛.A (λ q. Now q γ l)
    halved γ l = record {
      cut = λ q. latest_cut logs 𝓛 q (base.Share.left q) (base.Share.right q) γ (map cv.code l) (base.Share.halves q);
      join = λ q. latest_glue logs 𝓛 q (base.Share.left q) (base.Share.right q) γ (map cv.code l) (base.Share.halves q);
    }
