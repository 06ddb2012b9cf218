-- A `&` to a front holds what it knows, which can be had twice. Assumes `Logic`.
use base.Logic.{snd∗}
use base.Before.{before}
use types.Logic.{sem}
use denote.RattleType.{RattleType}
use denote.Param.Laws.{Laws}
use denote.Param.Shared.{copy_shared}
use denote.Struct.Laws.{field_copy}
use denote.Struct.Lending.{of_Lends}
use Rattle.std.specs.contracts.marker.PhantomData as P
use Rattle.fp_fronts.specs.Growth.{reached}
use Rattle.fp_fronts.specs.contracts.growing.Front as C
use Rattle.fp_fronts.proofs.Steps.{twice, lends_twice}
use Rattle.fp_fronts.proofs.growing.Front.TheLaw.Statement.{statement}

pub shares : (E : RattleType) (L : Laws E) → statement E L
shares E L = of_Lends (C.struct E) (C.the_codes E.Denot E.coded (P.the_row E).coded) (C.the_heap E) (C.the_lent E)
    (λ d p. record {
      contraction = λ M 𝓤 𝓛 κ. twice 𝓛 E.coded d.name d.log;
      mono =
          λ M 𝓤 𝓛 κ' κ. snd∗ 𝓤 (sem 𝓛 (before κ' κ)) (sem 𝓛 (reached E.coded.code d.name d.log));
    })
    (copy_shared (P.the_field E) (field_copy (P.the_type E) tt), tt)
    (λ M 𝓤 𝓛 d p. lends_twice 𝓛 (reached E.coded.code d.name d.log) (twice 𝓛 E.coded d.name d.log) (C.the_row E).lives)
