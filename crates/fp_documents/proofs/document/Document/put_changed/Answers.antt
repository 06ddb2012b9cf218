use Rattle.std.proofs.Common.{◌≡◌, ◌<◌, ◌++◌, ℕ, List, length, refl, sym, ap, subst, ◌∙◌}
use Rattle.std.specs.Prelude.{slice_set}
use Rattle.fp_definition.specs.Key.{key_bytes}
use Rattle.fp_documents.specs.Outline.{part, IsAlike}
use Rattle.fp_documents.specs.declared.document.Document.{Document}
use Rattle.fp_documents.specs.declared.flags.Flag.{Flag}
use Rattle.fp_documents.proofs.document.Document.put_changed.Goals as goal
use Rattle.fp_documents.proofs.document.Document.put_changed.Goals.{in-Some+in_ok-part+in_ok-new+in-Some-new+in_ok-replace, in_default}

alike : (d : Document) → IsAlike d d
alike d = (refl, refl, refl)

pub returns-in_default-new-clause-other : goal.returns-in_default-new-clause-other
returns-in_default-new-clause-other c _ =
    let told = rw c.in_default-new.is at c.in_ok-new.ensures 0 in
    (c.in-Some.ensures.other (rw c.deref.ensures.value at told), alike c.args.self.now)

pub index_mut-requires : goal.index_mut-requires
index_mut-requires c =
    let told = rw c.in-Some-new.is at c.in_ok-new.ensures 0 in
    subst (λ n. c.in-Some.place.index < n) (sym c.args.self.now.lengths.ok.0)
    (c.in-Some.ensures.place (rw c.deref.ensures.value at told.0)).counted

pub returns-clause-put : goal.returns-clause-put
returns-clause-put c _ =
    let before = c.args.self.now in
    let after : Document = record c.match-first_changed.self { revision = c.args.revision } in
    elim c.match-first_changed.branch [
      | in-Some+in_ok-part+in_ok-new+in-Some-new+in_ok-replace w ↦
          let place = w.in-Some.place in
          let f : List ℕ × Flag = (key_bytes place.key.now, place.flag.now) in
          let told = rw w.in-Some-new.is at w.in_ok-new.ensures f.1.changed in
          let own = w.in-Some.ensures.place (rw w.deref.ensures.value at told.0) in
          let new = w.put_in_place_of.new.out.items in
          let is : new ≡ part place.later f = told.1 ∙ ap (λ l. l ++ part place.later f) w.in_ok-part.ensures.items in
          let len = told.2 ∙ sym (ap length is) in (
            own.outlines after new is
                (ap (λ (d : Document). d.text.items) w.self-is ∙ w.in_ok-replace.ensures.replaced)
                (ap (λ (d : Document). d.lengths.items) w.self-is ∙ ap (slice_set before.lengths.items place.index) len),
            refl,
          )
      | in_default w ↦ let o = w.in_default.ensures in (rw w.self-is (record { text = o.text; lengths = o.lengths }), refl)
    ]
