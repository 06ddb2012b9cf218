-- The calls of a disk that a function makes, by those of the functions that it calls in turn.
use Rattle.std.proofs.Common.{◌≡◌, inl, inr, ⊎_elim, List, [], ◌∷◌, ◌++◌, sym, ◌∙◌, ap, subst, append_assoc}
use Rattle.std.specs.Prelude.{Result, Ok, Err, OnOk}
use Rattle.std.proofs.lemmas.List.{append-nil}
use Rattle.fp_disk.specs.History.{Makes, MakesSome}
use Rattle.fp_disk.specs.declared.disk.DiskFault.{DiskFault}
use Rattle.fp_disk.specs.declared.history.CallKind.{CallKind}
use Rattle.fp_journal.specs.Pieces.{ThenReads, ThenSomeReads}

-- ---- some first ones of a list
pub none_made : (kinds : List CallKind) (old new : List CallKind) → new ≡ old → MakesSome kinds old new
none_made [] old new is = is
none_made (kind ∷ kinds) old new is = inl is

some_more : (kinds more : List CallKind) (old new : List CallKind) → MakesSome kinds old new → MakesSome (kinds ++ more) old new
some_more [] more old new is = none_made more old new is
some_more (kind ∷ kinds) more old new (inl is) = inl is
some_more (kind ∷ kinds) more old new (inr some) = inr (some_more kinds more (old ++ kind ∷ []) new some)

some_behind : (done kinds : List CallKind) (old new : List CallKind) → MakesSome kinds (old ++ done) new → MakesSome (done ++ kinds) old new
some_behind [] kinds old new some = subst (λ (l : List CallKind). MakesSome kinds l new) (append-nil old) some
some_behind (kind ∷ done) kinds old new some =
    inr (some_behind done kinds (old ++ kind ∷ []) new
    (subst (λ (l : List CallKind). MakesSome kinds l new) (sym (append_assoc old (kind ∷ []) done)) some))

-- those that were made, and then some of these, of which more would have followed
pub breaks_off : (done part rest : List CallKind) (old middle new : List CallKind) → middle ≡ old ++ done →
    MakesSome part middle new → MakesSome (done ++ (part ++ rest)) old new
breaks_off done part rest old middle new is some =
    some_behind done (part ++ rest) old new
    (some_more part rest (old ++ done) new (subst (λ (l : List CallKind). MakesSome part l new) is some))

-- all of them
pub calls_joined : (first next : List CallKind) (old middle new : List CallKind) → middle ≡ old ++ first →
    new ≡ middle ++ next → new ≡ old ++ (first ++ next)
calls_joined first next old middle new is more = more ∙ ap (λ (l : List CallKind). l ++ next) is ∙ append_assoc old first next

pub makes_behind : {T : Type 0} (r : Result T DiskFault) (done kinds : List CallKind)
    (old middle new : List CallKind) → middle ≡ old ++ done → Makes kinds middle new r →
    Makes (done ++ kinds) old new r
makes_behind (Ok x) done kinds old middle new is made = calls_joined done kinds old middle new is made
makes_behind (Err e) done kinds old middle new is some =
    some_behind done kinds old new (subst (λ (l : List CallKind). MakesSome kinds l new) is some)

all_some : (kinds : List CallKind) (old new : List CallKind) → new ≡ old ++ kinds → MakesSome kinds old new
all_some [] old new is = is ∙ append-nil old
all_some (kind ∷ kinds) old new is = inr (all_some kinds (old ++ kind ∷ []) new (is ∙ sym (append_assoc old (kind ∷ []) kinds)))

pub all_makes : {T : Type 0} (r : Result T DiskFault) (kinds : List CallKind) (old new : List CallKind) →
    new ≡ old ++ kinds → Makes kinds old new r
all_makes (Ok x) kinds old new is = is
all_makes (Err e) kinds old new is = all_some kinds old new is

-- ---- one, and then reads
pub reads_after : (kind : CallKind) (kinds : List CallKind) (old middle new : List CallKind) →
    middle ≡ old ++ kind ∷ [] → ThenReads kinds middle new → ThenReads (kind ∷ kinds) old new
reads_after kind kinds old middle new is reads = (reads.0, reads.1, calls_joined (kind ∷ []) (kinds ++ reads.0) old middle new is reads.2)

pub some_reads_after : (kind : CallKind) (kinds : List CallKind) (old middle new : List CallKind) →
    middle ≡ old ++ kind ∷ [] → ThenSomeReads kinds middle new → ThenSomeReads (kind ∷ kinds) old new
some_reads_after kind kinds old middle new is =
    ⊎_elim (λ some. inl (inr (subst (λ (l : List CallKind). MakesSome kinds l new) is some)))
    (λ reads. inr (reads_after kind kinds old middle new is reads))

-- ---- how it ended
pub ok_no_fault : {T E : Type 0} {x : T} {e : E} → Ok x ≡ Err e → ⊥
ok_no_fault is = cc is

pub on_ok_always : {T E : Type 0} (r : Result T E) (P : Type 0) → P → OnOk r P
on_ok_always (Ok x) P p = p
on_ok_always (Err e) P p = tt
