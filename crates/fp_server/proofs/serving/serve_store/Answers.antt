use Rattle.std.proofs.Common.{◌≡◌, ◌≢◌, ◌++◌, List, [], ap, subst, sym, ◌∙◌}
use Rattle.fp_commands.specs.declared.fault.CommandFault.TheVariants.{StoreFailed, Memory}
use Rattle.fp_committer.specs.StoreHalf.{StoreHalfState}
use Rattle.fp_desk.specs.Desk.{DeskState}
use Rattle.fp_edit.specs.Edits.{Change}
use Rattle.fp_group_commit.specs.Store.{StoreState}
use Rattle.fp_server.specs.Ends.{IsBrokenStore, IsServedStore}
use Rattle.fp_server.proofs.EndsLemmas.{broken_store, served_store, untouched_store}
use Rattle.fp_server.proofs.serving.serve_store.Goals as goal

-- no halves were made
pub returns-in-Err-clause-broken : goal.returns-in-Err-clause-broken
returns-in-Err-clause-broken g c =
    let D = g.D.Disk in let t = c.args.store in let f = c.into.result in
    let never : f ≢ StoreFailed = (λ failed. (let both : Memory ≡ StoreFailed = sym c.into.ensures ∙ failed in absurd cc)) in
    subst (λ (s : StoreState g.row.D.Denot). IsBrokenStore D t s f) (sym c.in-Err.ensures.given_back.0)
    (untouched_store D t c.untouched.ensures f never)

-- it was served
pub returns-in-Ok-serve_named-clause-well : goal.returns-in-Ok-serve_named-clause-well
returns-in-Ok-serve_named-clause-well g c =
    let D = g.D.Disk in let w = c.in-Ok.ensures in let first = c.in-Ok.halves.1 in
    let last = c.in-Ok-serve_named.half in let t = c.into_store.result in
    let at : first.store ≡ c.args.store = ap (λ (h : StoreHalfState g.row.D.Denot). h.store) w.store in
    let settled : first.half.settled ≡ [] = w.halves.1.0 ∙ ap (λ (d : DeskState). d.settled) w.desk in
    let idle = c.rest.ensures.idle (ap (λ (h : StoreHalfState g.row.D.Denot). h.progress) w.store) in
    let all : first.half.all ≡ [] = c.rest.ensures.whole ∙ ap (λ (l : List Change). l ++ first.drawn) settled ∙ idle.1 in
    let flushed = c.in-Ok-serve_named.ensures.well in let end = c.rest-in-Ok-serve_named.ensures in let now = end.idle flushed.rest.0 in
    let is : t ≡ last.store = c.into_store.ensures.store in (
      subst (λ (s : StoreState g.row.D.Denot). IsServedStore D s t)
          at (served_store D first last t all settled is flushed end.whole now.1 now.2),
      (ap (λ (s : StoreState g.row.D.Denot). s.phase) is ∙ now.0, ap (λ (s : StoreState g.row.D.Denot). s.failed) is ∙ flushed.rest.1),
    )

-- a fault ended that
pub returns-in-Err-serve_named-clause-broken : goal.returns-in-Err-serve_named-clause-broken
returns-in-Err-serve_named-clause-broken g c =
    let D = g.D.Disk in let w = c.in-Ok.ensures in let first = c.in-Ok.halves.1 in
    let last = c.in-Err-serve_named.half in let t = c.into_store-in-Err-serve_named.result in
    let at : first.store ≡ c.args.store = ap (λ (h : StoreHalfState g.row.D.Denot). h.store) w.store in
    let settled : first.half.settled ≡ [] = w.halves.1.0 ∙ ap (λ (d : DeskState). d.settled) w.desk in
    let idle = c.rest.ensures.idle (ap (λ (h : StoreHalfState g.row.D.Denot). h.progress) w.store) in
    let all : first.half.all ≡ [] = c.rest.ensures.whole ∙ ap (λ (l : List Change). l ++ first.drawn) settled ∙ idle.1 in
    let is : t ≡ last.store = c.into_store-in-Err-serve_named.ensures.store in
    subst (λ (s : StoreState g.row.D.Denot). IsBrokenStore D s t c.in-Err-serve_named.fault) at
    (broken_store D first last t all settled is c.in-Err-serve_named.fault c.in-Err-serve_named.ensures.broken)
