-- A `&` to the list's owner holds shares of the right to lengthen it. Assumes `Logic`.
use mathlib.Core.List.{[], ◌∷◌}
use base.Fraction.{full_share}
use base.Fml.{fbor}
use types.Logic.{lfts}
use types.Kit.{‵, raw, ◌$◌, ◌∵◌, !, qed, updating, now, done}
use types.Tokens.{bor_fracture}
use denote.RattleType.{RattleType}
use denote.Param.Laws.{Laws}
use denote.Param.Shared.{copy_shared}
use denote.SharingLaws.{one_shr_laws}
use denote.Struct.Laws.{field_copy}
use denote.Struct.Lending.{of_Lends}
use Rattle.std.specs.contracts.marker.PhantomData as P
use Rattle.fp_fronts.specs.Growth.{whole}
use Rattle.fp_fronts.specs.contracts.growing.Growing as C
use Rattle.fp_fronts.proofs.growing.Growing.TheLaw.Statement.{statement}

pub shares : (E : RattleType) (L : Laws E) → statement E L
shares E L = of_Lends (C.struct E) (C.the_codes E.Denot E.coded (P.the_row E).coded) (C.the_heap E) (C.the_lent E)
    (λ d p. one_shr_laws (λ q. whole E.coded.code q d.name d.log))
    (copy_shared (P.the_field E) (field_copy (P.the_type E) tt), tt)
    (λ M 𝓤 𝓛 d p κ ts inc sp. qed 𝓛 (‵ (fbor κ (whole E.coded.code full_share d.name d.log)) ∷ raw (lfts 𝓛 ts) ∷ [])
    ∵ updating ! $ bor_fracture ! tt (λ q. whole E.coded.code q d.name d.log) full_share $ now ! $ done !)
