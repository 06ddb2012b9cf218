-- A `Growing` and a `Front` as values. Assumes `Logic`.
use Rattle.std.proofs.Common.{ℕ, List, [], ◌∷◌, refl}
use seplogic.Ra.Ura.{Ura}
use mir.Val.{Val, vstruct, vcons, vnil}
use base.Fraction.{full_share}
use base.Logic.{ent}
use types.Logic.{Logic, sem}
use types.Kit.{‵, ◌$◌, ◌∵◌, !, qed, use0, done}
use denote.RattleType.{RattleType}
use denote.Shadow.{makes_shadow}
use denote.Struct.Struct.{Struct}
use denote.Struct.Owning.{shape}
use Rattle.fp_fronts.specs.Growth.{whole, reached}
use Rattle.fp_fronts.specs.contracts.growing.Growing as Growing
use Rattle.fp_fronts.specs.contracts.growing.Front as Front

abbrev pub token : Val
token = vstruct (vcons (vstruct vnil) vnil)

pub front_made : {M : Type 1} {𝓤 : Ura M} (𝓛 : Logic 𝓤) (R : RattleType) (γ : ℕ) (l : List R.Denot)
    → ent 𝓤 (sem 𝓛 (reached R.coded.code γ l))
    (sem 𝓛 ((Front.the_row R).own_val (record { marker = record {}; name = γ; log = l }) (token ∷ [])))
front_made 𝓛 R γ l = let F = (Struct (shape (Front.the_type R))).own_val (tt, tt) (token ∷ []) in
    qed 𝓛 (‵ (reached R.coded.code γ l) ∷ []) ∵ use0 𝓛 (‵ F)
    (makes_shadow 𝓛 F (λ vss. (tt, ((λ uss. (tt, tt)), tt)))
    ((vstruct vnil ∷ [], tt), (refl, ((tt, (refl, tt)), tt)))) $ done !

pub growing_made : {M : Type 1} {𝓤 : Ura M} (𝓛 : Logic 𝓤) (R : RattleType) (γ : ℕ) (l : List R.Denot)
    → ent 𝓤 (sem 𝓛 (whole R.coded.code full_share γ l))
    (sem 𝓛 ((Growing.the_row R).own_val (record { marker = record {}; name = γ; log = l }) (token ∷ [])))
growing_made 𝓛 R γ l = let F = (Struct (shape (Growing.the_type R))).own_val (tt, tt) (token ∷ []) in
    qed 𝓛 (‵ (whole R.coded.code full_share γ l) ∷ []) ∵ use0 𝓛 (‵ F)
    (makes_shadow 𝓛 F (λ vss. (tt, ((λ uss. (tt, tt)), tt)))
    ((vstruct vnil ∷ [], tt), (refl, ((tt, (refl, tt)), tt)))) $ done !
