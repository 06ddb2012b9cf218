use Rattle.std.proofs.Common.{◌≡◌, ℕ, ◌++◌, ◌∷◌, [], List, Ok, map, refl, sym, ap, subst, ◌∙◌}
use Rattle.std.proofs.lemmas.Result.{err_from_is_err_and}
use Rattle.std.proofs.lemmas.List.{map_push}
use Rattle.fp_edit.specs.Keys.{AreMet}
use Rattle.fp_edit.specs.Parts.{Part, free, keys_of, part_key, parts_of, proposed_of}
use Rattle.fp_edit.specs.declared.edit.Change.{Change}
use Rattle.fp_record.specs.Reading.{next_part, part_at}
use Rattle.fp_record.specs.declared.fault.RecordFault.{RecordFault}
use Rattle.fp_record.proofs.Loop.{Fails, ends, fails_on}
use Rattle.fp_record.proofs.Many.{one_more}
use Rattle.fp_record.proofs.MetBefore.{met_more, part_same}
use Rattle.fp_record.proofs.edits.parts_from.Goals as goal

-- ---- one change more

module _ (changes : List Change) (change : Change) where
  parts_more : parts_of (map proposed_of (changes ++ change ∷ [])) ≡ parts_of (map proposed_of changes) ++ (proposed_of change).part ∷ []
  parts_more = ap parts_of (map_push proposed_of changes change) ∙ map_push _ (map proposed_of changes) (proposed_of change)

  free_more : map proposed_of changes ≡ map free (parts_of (map proposed_of changes)) → proposed_of change ≡ free (proposed_of change).part
      → map proposed_of (changes ++ change ∷ []) ≡ map free (parts_of (map proposed_of (changes ++ change ∷ [])))
  free_more all this = let parts = parts_of (map proposed_of changes) in
      map_push proposed_of changes change
      ∙ ap (λ done. done ++ proposed_of change ∷ []) all
      ∙ ap (λ p. map free parts ++ p ∷ []) this
      ∙ sym (map_push free parts (proposed_of change).part)
      ∙ ap (map free) (sym parts_more)

-- ---- one reading more

module _ (bytes : List ℕ) (before : List (List ℕ)) (at : ℕ) where
  next_is : (x : Part × ℕ) → part_at before bytes at ≡ Ok x → next_part bytes (before, at) ≡ Ok (x.0, (before ++ part_key x.0 ∷ [], x.1))
  unfolding next_part
  next_is x e = rw e refl

  next_fails : (e : RecordFault) → Fails e (part_at before bytes at) → Fails e (next_part bytes (before, at))
  unfolding next_part
  next_fails e h = fails_on e (part_at before bytes at) (λ part. Ok (part.0, (before ++ part_key part.0 ∷ [], part.1))) h

pub returns-in_err-part-clause-value : goal.returns-in_err-part-clause-value
returns-in_err-part-clause-value c =
    let p = err_from_is_err_and c.from_residual.result c.from_residual.ensures.1 in
    let bytes = c.args.bytes.now in
    let parts = c.loop.parts.items in
    let e = c.in_err-part.field-0.0 in
    let fails : Fails e (part_at (keys_of parts) bytes c.loop.place) =
    rw (← part_same c.loop.met (keys_of parts) c.loop.invariant.met bytes c.loop.place)
    c.in_err-part.ensures.value in
    rw (p.1, p.2) (ends (next_part bytes) e c.loop.counter c.args.count ([], c.args.at)
    (parts_of (map proposed_of parts), (keys_of parts, c.loop.place)) c.loop-test.true c.loop.invariant.read
    (next_fails bytes (keys_of parts) c.loop.place e fails))

pub loop-preserved : goal.loop-preserved
loop-preserved c =
    let bytes = c.args.bytes.now in
    let parts = c.loop.parts.items in
    let part = c.in_ok-part.part in
    let key = part_key (proposed_of part).part in
    let found : part_at (keys_of parts) bytes c.loop.place ≡ Ok ((proposed_of part).part, c.in_ok-part.next) =
    sym (part_same c.loop.met (keys_of parts) c.loop.invariant.met bytes c.loop.place) ∙
    c.in_ok-part.ensures.value in
    let keys_more : keys_of (parts ++ part ∷ []) ≡ keys_of parts ++ key ∷ [] =
    ap (map part_key) (parts_more parts part) ∙
    map_push part_key (parts_of (map proposed_of parts)) (proposed_of part).part in
    let met = c.part_from.new.met in
    let x : List Part × (List (List ℕ) × ℕ) = (parts_of (map proposed_of parts), (keys_of parts, c.loop.place)) in
    let y : Part × (List (List ℕ) × ℕ) =
    ((proposed_of part).part, (keys_of parts ++ part_key (proposed_of part).part ∷ [], c.in_ok-part.next)) in
    rw c.in_ok-push.ensures.items (record {
      read = rw (parts_more parts part, map_push part_key (parts_of (map proposed_of parts)) (proposed_of part).part)
          (one_more (next_part bytes) c.loop.counter ([], c.args.at) x y c.loop.invariant.read
          (next_is bytes (keys_of parts) c.loop.place ((proposed_of part).part, c.in_ok-part.next) found));
      free = free_more parts part c.loop.invariant.free c.in_ok-part.ensures.free;
      met = subst (AreMet met) (sym keys_more) (met_more met c.loop.met (keys_of parts) key c.in_ok-part.ensures.met c.loop.invariant.met);
      within = c.in_ok-part.ensures.within;
    })
