-- Sets on their way back.
use Rattle.std.proofs.Common.{◌≡◌, ◌≤◌, ℕ, List, [], ◌∷◌, length, refl, sym, ap, subst, ◌∙◌, arith}
use Rattle.std.specs.FinMap as fin
use Rattle.fp_base.specs.Bytes.{bytes_cmp}
use Rattle.fp_record.specs.WellFormed.{IsImage}
use Rattle.fp_record.specs.Encoding.{encoding_of_image}
use Rattle.fp_record.proofs.Lengths.{length-encoding_of_image}
use Rattle.fp_edit.specs.Flags.{State, Flags}
use Rattle.fp_documents.specs.declared.flags.Flag.{Flag}
use Rattle.fp_edit.specs.Edits.{Change}
use Rattle.fp_journal.specs.Reading.{Reads}
use Rattle.fp_recovery.specs.Refusals.{Replayed, TakesBody}
use Rattle.fp_recovery.specs.Stands.{Leads, IsImageAt, IsImageOf, TakesBatch}

-- ---- images
entries_none : (es : List (List ℕ × Flag)) → length es ≡ 0 → es ≡ []
entries_none [] h = refl
entries_none (e ∷ es) h = absurd (omega (arith, h))

abbrev No_flags : Flags
No_flags = fin.empty

pub entries-empty : fin.entries No_flags ≡ []
entries-empty = entries_none (fin.entries No_flags) (sym (fin.len-entries No_flags) ∙ fin.len-empty bytes_cmp Flag)

pub image_within : (base limit : ℕ) (bytes : List ℕ) (s : State) → IsImageOf base limit bytes s → length bytes ≤ limit
image_within base limit bytes s h = let len = ap length h.spelled ∙ length-encoding_of_image (fin.entries s.flags) in
    let le = h.here.within in omega (arith, len, le)

pub image_of : (base limit : ℕ) (bytes : List ℕ) (image : List (List ℕ × Flag)) (s : State) → IsImage image →
    bytes ≡ encoding_of_image image → IsImageAt base limit image → fin.entries s.flags ≡ image → s.revision ≡ base →
    s.limit ≡ limit → IsImageOf base limit bytes s
image_of base limit bytes image s lawful spelled here is revision limit_is = record {
  lawful = subst (λ (es : List (List ℕ × Flag)). IsImage es) (sym is) lawful;
  spelled = spelled ∙ ap encoding_of_image (sym is);
  here = subst (λ (es : List (List ℕ × Flag)). IsImageAt base limit es) (sym is) here;
  revision_is = revision;
  limit_is = limit_is;
}

-- ---- changes one after another
pub leads_one : (s : State) (cs : List Change) (t u : State) → Leads s cs t → Leads s cs u → t ≡ u
leads_one s [] t u a b = a ∙ sym b
leads_one s (c ∷ cs) t u a b =
    let same : a.0 ≡ b.0 = a.1.1 ∙ sym b.1.1 in
    leads_one b.0 cs t u (subst (λ (v : State). Leads v cs t) same a.2) b.2

-- ---- bodies one after another
-- a reader of them stays in its slot
pub sets_read : (before after : Replayed) (bodies : List (List ℕ)) → Reads TakesBody before bodies after →
    Reads (TakesBatch before.version) before.set bodies after.set
sets_read before after [] r = ap (λ (x : Replayed). x.set) r
sets_read before after (b ∷ bs) r =
    let middle = r.0 in
    (middle.set, r.1.1, subst (λ (v : ℕ). Reads (TakesBatch v) middle.set bs after.set) r.1.0 (sets_read middle after bs r.2))

pub bodies_read : (version : ℕ) (s t : State) (bodies : List (List ℕ)) → Reads (TakesBatch version) s bodies t →
    Reads TakesBody (record { version = version; set = s }) bodies (record { version = version; set = t })
bodies_read version s t [] r = ap (λ (x : State). let read : Replayed = record { version = version; set = x } in read) r
bodies_read version s t (b ∷ bs) r = (record { version = version; set = r.0 }, (refl, r.1), bodies_read version r.0 t bs r.2)
