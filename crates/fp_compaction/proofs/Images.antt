-- The image of a set, and a text that begins with it.
use Rattle.std.proofs.Common.{All, ◌≡◌, ◌<◌, ◌≤◌, ◌/◌, ◌^◌, ℕ, List, [], ◌∷◌, refl, sym, subst, ◌∙◌, arith}
use Rattle.std.specs.Prelude.{suc}
use Rattle.std.specs.List.{AllByRecursion}
use Rattle.std.specs.FinMap as fin
use Rattle.std.proofs.lemmas.List.{append-nil}
use Rattle.fp_definition.specs.declared.key.FlagKey.{FlagKey}
use Rattle.fp_documents.specs.Entries.{entries_of}
use Rattle.fp_edit.specs.Flags.{State, IsChangedBy, size}
use Rattle.fp_documents.specs.declared.flags.Flag.{Flag}
use Rattle.fp_record.specs.Encoding.{encoding_of_image}
use Rattle.fp_record.specs.WellFormed.{IsImage}
use Rattle.fp_recovery.specs.Stands.{IsImageOf, Spells}
use Rattle.fp_recovery.proofs.Restored.{image_within}
use Rattle.fp_slots.specs.Head.{head_text}
use Rattle.fp_slots.specs.declared.places.TheConstants.{VERSION}

all_changed : (es : List (FlagKey × Flag)) (r : ℕ) → All (λ e. IsChangedBy r e.1) es → AllByRecursion (λ f. f.1.changed ≤ r) (entries_of es)
all_changed [] r h = tt
all_changed (e ∷ es) r h = ((h 0 e (omega arith)).1, all_changed es r (λ i d lt. h (suc i) d (omega (arith, lt))))

pub image_made : (set : State) (es : List (FlagKey × Flag)) (bytes : List ℕ) →
    entries_of es ≡ fin.entries set.flags → All (λ e. IsChangedBy set.revision e.1) es → set.revision < 2 ^ 63 →
    size set.flags ≤ set.limit
    → IsImage (fin.entries set.flags) → bytes ≡ encoding_of_image (fin.entries set.flags) → IsImageOf set.revision set.limit bytes set
image_made set es bytes is changed numbered within lawful spelled = record {
  lawful = lawful;
  spelled = spelled;
  here = record {
    numbered = numbered;
    changed =
        subst (λ (xs : List (List ℕ × Flag)). AllByRecursion (λ f. f.1.changed ≤ set.revision) xs) is
        (all_changed es set.revision changed);
    within = within;
  };
  revision_is = refl;
  limit_is = refl;
}

pub planned_for : (size : ℕ) (set : State) (generation : ℕ) (bytes text : List ℕ) → set.limit ≡ size / 2 →
    generation < 2 ^ 64 → IsImageOf set.revision set.limit bytes set →
    text ≡ head_text VERSION generation set.revision bytes → (p : Spells size text set) × (p.version ≡ VERSION)
planned_for size set generation bytes text limit small image is = let within = image_within set.revision set.limit bytes set image in (
  record {
    version = VERSION;
    known = record { least = omega arith; greatest = omega arith };
    generation = generation;
    base = set.revision;
    image = bytes;
    first = set;
    batches = [];
    text_is = is ∙ sym (append-nil (head_text VERSION generation set.revision bytes));
    numbered = small;
    small = omega (arith, within, limit);
    image_is = subst (λ (n : ℕ). IsImageOf set.revision n bytes set) limit image;
    short = tt;
    leads = refl;
  },
  refl,
)
