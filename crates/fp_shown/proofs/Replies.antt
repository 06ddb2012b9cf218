-- A reply tells of a revision, of keys and of definitions alone.
use Rattle.std.proofs.Common.{◌≡◌, ℕ, List, [], ◌∷◌, length, map, Bool, true, false, Option, Some}
use Rattle.std.proofs.Common.{None, Result, Ok, Err, refl, sym, ap, ◌∙◌, cond, is_eq}
use Rattle.std.specs.Prelude.{bytes_eq, codes, if◌then◌else◌, is_some, nat_lt, option_map}
use Rattle.std.specs.FinMap as fin
use Rattle.std.specs.FinMap.Entries.{find}
use Rattle.std.specs.Str.{is_utf8}
use Rattle.std.specs.Str.Lossy.{utf8_lossy}
use Rattle.std.proofs.lemmas.Bool.{false≢true}
use Rattle.percent_encoding.specs.Percent.{percent_decode}
use Rattle.serde_json.specs.Data.{Data, Items, array, member, no_items, no_members, object}
use Rattle.serde_json.specs.Written.{compact_text}
use Rattle.fp_base.specs.Bytes.{bytes_cmp}
use Rattle.fp_definition.specs.Key.{is_key}
use Rattle.fp_definition.specs.Resolving.{data_of}
use Rattle.fp_documents.specs.declared.flags.Flag.{Flag}
use Rattle.fp_edit.specs.Flags.{Flags, State}
use Rattle.fp_ofrep.specs.Bulk.{bulk_data, bulk_in, flag_items, with_flag_item}
use Rattle.fp_ofrep.specs.Context.{context_of}
use Rattle.fp_ofrep.specs.Reply.{reply_to_evaluation, reply_to_post, reply_to_route}
use Rattle.fp_ofrep.specs.Response.{Response, empty, not_allowed}
use Rattle.fp_ofrep.specs.Route.{Route, bulk, key, single}
use Rattle.fp_ofrep.specs.Single.{after_body, evaluation_at, evaluation_of, flag_at}
use Rattle.fp_ofrep.specs.Single.{reply_for_decoded_key, reply_with_key, response_of}
use Rattle.fp_ofrep.specs.Tag.{response_with_tag}
use Rattle.fp_ofrep.specs.declared.failure.Failure.{Failure}
use Rattle.fp_ofrep.specs.Numbers.{LONGEST_BODY}
use Rattle.fp_shown.specs.Reading.{told, told_of}
use Rattle.fp_shown.proofs.Ends.{same_some}

abbrev Told : Type 0
Told = List ℕ × List ℕ

-- ---- all flags

items_told : List Told → Data → ℕ → Items
items_told [] context now = no_items
items_told (t ∷ ts) context now =
    with_flag_item t.0 (evaluation_of t.0 (data_of t.1) context now) (items_told ts context now)

items-told : (es : List (List ℕ × Flag)) (context : Data) (now : ℕ)
    → flag_items es context now ≡ items_told (map told_of es) context now
unfolding items_told
items-told [] context now = refl
items-told (e ∷ es) context now =
    ap (with_flag_item e.0 (evaluation_of e.0 (data_of e.1.definition) context now))
    (items-told es context now)

bulk-same : (a b : Flags) → told a ≡ told b → (context : Data) (now : ℕ)
    → bulk_data a context now ≡ bulk_data b context now
bulk-same a b same context now =
    ap (λ (items : Items). object (member (codes "flags") (array items) no_members))
    (items-told (fin.entries a) context now ∙ ap (λ ts. items_told ts context now) same
    ∙ sym (items-told (fin.entries b) context now))

-- ---- one flag

abbrev definition_of : Option Flag → Option (List ℕ)
definition_of o = option_map (λ (f : Flag). f.definition) o

found-told : (k : List ℕ) (es : List (List ℕ × Flag))
    → definition_of (find bytes_cmp k es) ≡ find bytes_cmp k (map told_of es)
found-told k [] = refl
found-told k (e ∷ es) = at (is_eq (bytes_cmp k e.0)) (found-told k es)
  where
    at : (b : Bool) → definition_of (find bytes_cmp k es) ≡ find bytes_cmp k (map told_of es)
        → definition_of (cond b (Some e.1) (find bytes_cmp k es)) ≡ cond b (Some e.1.definition)
        (find bytes_cmp k (map told_of es))
    at true rest = refl
    at false rest = rest

get-same : (a b : Flags) (k : List ℕ) → told a ≡ told b
    → definition_of (fin.get a k) ≡ definition_of (fin.get b k)
get-same a b k same =
    ap definition_of (fin.get-entries a k) ∙ found-told k (fin.entries a)
    ∙ ap (find bytes_cmp k) same
    ∙ sym (ap definition_of (fin.get-entries b k) ∙ found-told k (fin.entries b))

flag-same : (a b : Flags) (k : List ℕ) → told a ≡ told b
    → definition_of (flag_at a k) ≡ definition_of (flag_at b k)
flag-same a b k same = at (is_key k)
  where
    at : (c : Bool)
        → definition_of (if c then fin.get a k else None) ≡ definition_of
        (if c then fin.get b k else None)
    at true = get-same a b k same
    at false = refl

evaluated-same : (k : List ℕ) (o p : Option Flag) (context : Data) (now : ℕ)
    → definition_of o ≡ definition_of p
    → evaluation_at k o context now ≡ evaluation_at k p context now
evaluated-same k None None context now same = refl
evaluated-same k None (Some g) context now same = absurd (false≢true (ap is_some same))
evaluated-same k (Some f) None context now same = absurd (false≢true (ap is_some (sym same)))
evaluated-same k (Some f) (Some g) context now same =
    ap (λ t. evaluation_of k (data_of t) context now) (same_some f.definition g.definition same)

after-same : (k : List ℕ) (o p : Option Flag) (context : Result Data Failure) (now : ℕ)
    → definition_of o ≡ definition_of p → after_body k o context now ≡ after_body k p context now
after-same k o p (Err f) now same = refl
after-same k o p (Ok context) now same = evaluated-same k o p context now same

-- ---- replies

module _ (a b : State) (revision : a.revision ≡ b.revision) (same : told a.flags ≡ told b.flags)
    (now : ℕ) where
  keyed-same : (k body : List ℕ) → reply_with_key a k body now ≡ reply_with_key b k body now
  keyed-same k body =
      ap (λ (r : ℕ).
      response_of r k (after_body k (flag_at a.flags k) (context_of body) now)) revision
      ∙ ap (λ (r : Result Data Failure). response_of b.revision k r)
      (after-same k (flag_at a.flags k) (flag_at b.flags k) (context_of body) now
      (flag-same a.flags b.flags k same))

  decoded-same : (k body : List ℕ)
      → reply_for_decoded_key a k body now ≡ reply_for_decoded_key b k body now
  decoded-same k body =
      ap (λ (r : ℕ). if is_utf8 k then reply_with_key a k body now else response_of r (utf8_lossy k)
      (after_body (utf8_lossy k) None (context_of body) now)) revision
      ∙ ap (λ (r : Response). if is_utf8 k then r else response_of b.revision (utf8_lossy k)
      (after_body (utf8_lossy k) None (context_of body) now)) (keyed-same k body)

  listed-same : (if_none_match : Option (List ℕ)) (context : Result Data Failure)
      → bulk_in a if_none_match context now ≡ bulk_in b if_none_match context now
  listed-same if_none_match (Err f) = refl
  listed-same if_none_match (Ok context) =
      ap (λ (r : ℕ).
      response_with_tag r if_none_match (compact_text (bulk_data a.flags context now))) revision
      ∙ ap (λ d. response_with_tag b.revision if_none_match (compact_text d))
      (bulk-same a.flags b.flags same context now)

  evaluation-same : (route : Route) (if_none_match : Option (List ℕ)) (body : List ℕ)
      → reply_to_evaluation a route if_none_match body now
      ≡ reply_to_evaluation b route if_none_match body now
  evaluation-same bulk if_none_match body = listed-same if_none_match (context_of body)
  evaluation-same (single segment) if_none_match body = decoded-same (percent_decode segment) body
  evaluation-same (key k) if_none_match body = keyed-same k body

  posted-same : (route : Route) (if_none_match body : Option (List ℕ))
      → reply_to_post a route if_none_match body now ≡ reply_to_post b route if_none_match body now
  posted-same route if_none_match None = refl
  posted-same route if_none_match (Some body) =
      ap (λ (r : Response). if nat_lt LONGEST_BODY (length body) then empty 413 else r)
      (evaluation-same route if_none_match body)

  pub routed-same : (route : Option Route) (method : List ℕ) (if_none_match body : Option (List ℕ))
      → reply_to_route a route method if_none_match body now
      ≡ reply_to_route b route method if_none_match body now
  routed-same None method if_none_match body = refl
  routed-same (Some route) method if_none_match body =
      ap (λ (r : Response). if bytes_eq method (codes "POST") then r else not_allowed)
      (posted-same route if_none_match body)
