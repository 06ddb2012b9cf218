-- Lists of all flags, and replies that differ in the set alone.
use Rattle.std.proofs.Common.{◌≡◌, ℕ, Bool, true, false, ◌&&◌, T, List, [], ◌∷◌, refl, sym, ap, subst, ◌∙◌}
use Rattle.std.specs.Prelude.{bytes_eq, codes, nat_lt, length, if◌then◌else◌, Option, Some, None, Result, Ok, Err}
use Rattle.std.specs.FinMap as map
use Rattle.std.specs.FinMap.Entries.{find, is_sorted, below_all}
use Rattle.std.specs.Ordering.{is_lt, is_eq}
use Rattle.std.specs.declared.cmp.Ordering.{Ordering}
use Rattle.std.specs.declared.cmp.Ordering.TheVariants.{Less, Equal, Greater}
use Rattle.std.specs.Str.{is_utf8}
use Rattle.std.specs.Str.Lossy.{utf8_lossy}
use Rattle.std.proofs.lemmas.Map.Text.{is_eq-slice_cmp}
use Rattle.std.proofs.lemmas.Slice.Eq.{bytes_eq-Decides}
use Rattle.percent_encoding.specs.Percent.{percent_decode}
use Rattle.serde_json.specs.Data.{Data, Items, no_items}
use Rattle.fp_base.specs.Bytes.{bytes_cmp}
use Rattle.fp_definition.specs.Key.{is_key}
use Rattle.fp_definition.specs.Outcome.{outcome_of}
use Rattle.fp_definition.specs.Resolving.{Said, data_of}
use Rattle.fp_definition.specs.declared.resolving.EvalFault.{EvalFault}
use Rattle.fp_definition.specs.declared.resolving.EvalFault.TheVariants.{Disabled, NoVariant, Memory}
use Rattle.fp_edit.specs.Flags.{Flags, State}
use Rattle.fp_documents.specs.declared.flags.Flag.{Flag}
use Rattle.serde_json.specs.Written.{compact_text}
use Rattle.fp_ofrep.specs.Bulk.{bulk_data, bulk_in, flag_items, with_flag_item}
use Rattle.fp_ofrep.specs.Context.{context_of}
use Rattle.fp_ofrep.specs.Laws.{items_of, part_of, without_revision}
use Rattle.fp_ofrep.specs.Reply.{reply_to_evaluation, reply_to_post, reply_to_route}
use Rattle.fp_ofrep.specs.Response.{Response, empty}
use Rattle.fp_ofrep.specs.Route.{Route, bulk, single, key}
use Rattle.fp_ofrep.specs.Single.{after_body, reply_for_invalid_utf8, reply_for_decoded_key, evaluation_at, flag_at}
use Rattle.fp_ofrep.specs.Single.{reply_with_key, response_of, value_or_failure}
use Rattle.fp_ofrep.specs.Tag.{is_known, tag_of, response_with_tag}
use Rattle.fp_ofrep.specs.declared.failure.Failure.{Failure}
use Rattle.fp_ofrep.specs.declared.request.TheConstants.{LONGEST_BODY}

-- ---- the list of all flags

-- what tells the evaluation of a flag is of its key
items-told : (k l : List ℕ) (d : Data) (o : Result Said EvalFault) (rest : Items)
    → items_of k (with_flag_item l (value_or_failure l d o) rest) ≡
    (if bytes_eq k l then with_flag_item l (value_or_failure l d o) (items_of k rest) else items_of k rest)
items-told k l d (Ok said) rest = refl
items-told k l d (Err Disabled) rest =
    elim (bytes_eq k l) as (λ b. items_of k rest ≡ (if b then items_of k rest else items_of k rest))
    [ true ↦ refl | false ↦ refl ]
items-told k l d (Err NoVariant) rest = refl
items-told k l d (Err Memory) rest = refl

part-told : (k : List ℕ) (d : Data) (o : Result Said EvalFault) →
    with_flag_item k (value_or_failure k d o) no_items ≡ part_of k (value_or_failure k d o)
part-told k d (Ok said) = refl
part-told k d (Err Disabled) = refl
part-told k d (Err NoVariant) = refl
part-told k d (Err Memory) = refl

first : (a b : Bool) → T (a && b) → T a
first true b h = tt
first false b h = h

second : (a b : Bool) → T (a && b) → T b
second true b h = h
second false b h = absurd h

apart : (o : Ordering) → T (is_lt o) → is_eq o ≡ false
apart Less h = refl
apart Equal h = absurd h
apart Greater h = absurd h

module _ (context : Data) (now : ℕ) where
  -- a key that is below all others isn't among them
  none_below : (k : List ℕ) (es : List (List ℕ × Flag)) → T (below_all bytes_cmp k es) → items_of k (flag_items es context now) ≡ no_items
  none_below k [] h = refl
  none_below k (e ∷ es) h =
      let other : bytes_eq k e.0 ≡ false = sym (is_eq-slice_cmp k e.0) ∙
      apart (bytes_cmp k e.0) (first (is_lt (bytes_cmp k e.0)) (below_all bytes_cmp k es) h) in
      let d = data_of e.1.definition in let o = outcome_of d e.0 context now in
      items-told k e.0 d o (flag_items es context now)
      ∙ ap (λ (b : Bool). if b then with_flag_item e.0 (value_or_failure e.0 d o)
      (items_of k (flag_items es context now)) else items_of k (flag_items es context now)) other
      ∙ none_below k es (second (is_lt (bytes_cmp k e.0)) (below_all bytes_cmp k es) h)

  items-sorted : (k : List ℕ) (es : List (List ℕ × Flag)) → T (is_sorted bytes_cmp es) →
      items_of k (flag_items es context now) ≡ part_of k (evaluation_at k (find bytes_cmp k es) context now)
  items-sorted k [] h = refl
  items-sorted k (e ∷ es) h =
      let d = data_of e.1.definition in let o = outcome_of d e.0 context now in let rest = flag_items es context now in
      let low = first (below_all bytes_cmp e.0 es) (is_sorted bytes_cmp es) h in
      let later = items-sorted k es (second (below_all bytes_cmp e.0 es) (is_sorted bytes_cmp es) h) in
      items-told k e.0 d o rest
      ∙ elim (bytes_eq k e.0) as (λ b. bytes_eq k e.0 ≡ b →
      (if b then with_flag_item e.0 (value_or_failure e.0 d o) (items_of k rest) else items_of k rest) ≡ part_of
      k (evaluation_at k (if b then Some e.1 else find bytes_cmp k es) context now)) [
        | true ↦ λ is.
            let same : k ≡ e.0 = (bytes_eq-Decides k e.0).0 is in
            subst (λ (l : List ℕ). with_flag_item e.0 (value_or_failure e.0 d o) (items_of l rest) ≡ part_of l
            (evaluation_at l (Some e.1) context now)) (sym same)
            (ap (with_flag_item e.0 (value_or_failure e.0 d o)) (none_below e.0 es low) ∙ part-told e.0 d o)
        | false ↦ λ is. later
      ] refl
      ∙ ap (λ (b : Bool). part_of k (evaluation_at k (if b then Some e.1 else find bytes_cmp k es) context now))
      (sym (is_eq-slice_cmp k e.0))

pub items-entries : (flags : Flags) (k : List ℕ) (context : Data) (now : ℕ) →
    items_of k (flag_items (map.entries flags) context now) ≡ part_of k
    (evaluation_at k (map.get flags k) context now)
items-entries flags k context now = items-sorted context now k (map.entries flags) (map.entries_sorted flags) ∙
    ap (λ (f : Option Flag). part_of k (evaluation_at k f context now)) (sym (map.get-entries flags k))

-- ---- two sets

module _ (a b : State) (body : List ℕ) (now : ℕ) where
  keyed-same : (k : List ℕ) → a.revision ≡ b.revision → map.get a.flags k ≡ map.get b.flags k →
      reply_with_key a k body now ≡ reply_with_key b k body now
  keyed-same k revision flag =
      ap (λ (r : ℕ). response_of r k (after_body k (flag_at a.flags k) (context_of body) now)) revision
      ∙ ap (λ (f : Option Flag). response_of b.revision k (after_body k (if is_key k then f else None) (context_of body) now)) flag

  pub decoded-same : (k : List ℕ) → a.revision ≡ b.revision → map.get a.flags k ≡ map.get b.flags k →
      reply_for_decoded_key a k body now ≡ reply_for_decoded_key b k body now
  decoded-same k revision flag =
      ap (λ (r : Response). if is_utf8 k then r else reply_for_invalid_utf8 a (utf8_lossy k) body now) (keyed-same k revision flag)
      ∙ ap (λ (r : ℕ). if is_utf8 k then reply_with_key b k body now else response_of r (utf8_lossy k)
      (after_body (utf8_lossy k) None (context_of body) now)) revision

-- a target of one segment, in two sets that have the same flag there
pub posted-same : (a b : State) (segment : List ℕ) (if_none_match body : Option (List ℕ)) (now : ℕ) →
    a.revision ≡ b.revision → map.get a.flags (percent_decode segment) ≡ map.get b.flags (percent_decode segment)
    → reply_to_post a (single segment) if_none_match body now ≡ reply_to_post b (single segment) if_none_match body now
posted-same a b segment if_none_match None now revision flag = refl
posted-same a b segment if_none_match (Some body) now revision flag =
    ap (λ (r : Response). if nat_lt LONGEST_BODY (length body) then empty 413 else r)
    (decoded-same a b body now (percent_decode segment) revision flag)

-- by the segment and by the key
pub posted-key : (set : State) (segment : List ℕ) (if_none_match body : Option (List ℕ)) (now : ℕ) → is_utf8 (percent_decode segment) ≡ true
    → reply_to_post set (single segment) if_none_match body now ≡ reply_to_post set (key (percent_decode segment)) None body now
posted-key set segment if_none_match None now text = refl
posted-key set segment if_none_match (Some body) now text =
    ap (λ (t : Bool). if nat_lt LONGEST_BODY (length body) then empty 413 else
    (if t then reply_with_key set (percent_decode segment) body now else reply_for_invalid_utf8 set
    (utf8_lossy (percent_decode segment)) body now)) text

-- ---- without the revision

either : (c : Bool) (x x' y y' : Response) → without_revision x ≡ without_revision x' →
    without_revision y ≡ without_revision y' →
    without_revision (if c then x else y) ≡ without_revision (if c then x' else y')
either true x x' y y' p q = p
either false x x' y y' p q = q

response-any : (m n : ℕ) (k : List ℕ) (o : Result Data Failure) →
    without_revision (response_of m k o) ≡ without_revision (response_of n k o)
response-any m n k (Ok d) = refl
response-any m n k (Err f) = refl

tagged-any : (m n : ℕ) (if_none_match : Option (List ℕ)) (text : List ℕ) →
    without_revision (response_with_tag m if_none_match text) ≡ without_revision
    (response_with_tag n if_none_match text)
tagged-any m n if_none_match text = either (is_known (tag_of text) if_none_match) _ _ _ _ refl refl

module _ (a b : State) (same : a.flags ≡ b.flags) (now : ℕ) where
  keyed-any : (k body : List ℕ) → without_revision (reply_with_key a k body now) ≡ without_revision (reply_with_key b k body now)
  keyed-any k body =
      response-any a.revision b.revision k (after_body k (flag_at a.flags k) (context_of body) now)
      ∙ ap (λ (flags : Flags). without_revision (response_of b.revision k (after_body k (flag_at flags k) (context_of body) now))) same

  bulk-any : (if_none_match : Option (List ℕ)) (context : Result Data Failure) →
      without_revision (bulk_in a if_none_match context now) ≡ without_revision (bulk_in b if_none_match context now)
  bulk-any if_none_match (Err f) = refl
  bulk-any if_none_match (Ok context) =
      tagged-any a.revision b.revision if_none_match (compact_text (bulk_data a.flags context now))
      ∙ ap (λ (flags : Flags). without_revision
      (response_with_tag b.revision if_none_match (compact_text (bulk_data flags context now)))) same

  evaluated-any : (route : Route) (if_none_match : Option (List ℕ)) (body : List ℕ) →
      without_revision (reply_to_evaluation a route if_none_match body now) ≡ without_revision
      (reply_to_evaluation b route if_none_match body now)
  evaluated-any bulk if_none_match body = bulk-any if_none_match (context_of body)
  evaluated-any (single segment) if_none_match body =
      let k = percent_decode segment in
      either (is_utf8 k) _ _ _ _ (keyed-any k body)
      (response-any a.revision b.revision (utf8_lossy k) (after_body (utf8_lossy k) None (context_of body) now))
  evaluated-any (key k) if_none_match body = keyed-any k body

  posted-any : (route : Route) (if_none_match body : Option (List ℕ)) →
      without_revision (reply_to_post a route if_none_match body now) ≡ without_revision
      (reply_to_post b route if_none_match body now)
  posted-any route if_none_match None = refl
  posted-any route if_none_match (Some body) =
      either (nat_lt LONGEST_BODY (length body)) _ _ _ _ refl (evaluated-any route if_none_match body)

  pub routed-any : (route : Option Route) (method : List ℕ) (if_none_match body : Option (List ℕ)) →
      without_revision (reply_to_route a route method if_none_match body now) ≡ without_revision
      (reply_to_route b route method if_none_match body now)
  routed-any None method if_none_match body = refl
  routed-any (Some route) method if_none_match body =
      either (bytes_eq method (codes "POST")) _ _ _ _ (posted-any route if_none_match body) refl
