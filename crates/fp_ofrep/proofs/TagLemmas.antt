-- Tags that are kept: of which requests they are, and that no moment changes them.
use Rattle.std.proofs.Common.{◌≡◌, ◌≤◌, ◌<◌, ℕ, List, [], ◌∷◌, ◌++◌, set, length-append, Bool, true, false, subst, inl}
use Rattle.std.proofs.Common.{inr, refl, sym, ap, ◌∙◌, length, arith}
use Rattle.std.specs.Prelude.{Option, Some, Result, Ok, Err, bytes_eq, codes, if◌then◌else◌, unwrap_or}
use Rattle.std.specs.FinMap as map
use Rattle.std.proofs.lemmas.Bool.{le-ltb}
use Rattle.std.proofs.lemmas.List.{length-set}
use Rattle.std.proofs.lemmas.List.Elements.{All-cons, All-head, All-tail, All-push, All-set}
use Rattle.serde_json.specs.Data.{Data, Items, object, array, member, no_members}
use Rattle.serde_json.specs.Written.{compact_text}
use Rattle.fp_definition.specs.Outcome.{IsTimeless}
use Rattle.fp_definition.specs.Resolving.{data_of}
use Rattle.fp_edit.specs.Flags.{Flags, State}
use Rattle.fp_documents.specs.declared.flags.Flag.{Flag}
use Rattle.fp_ofrep.specs.Bulk.{bulk_data, bulk_in, bulk_reply, flag_items, with_flag_item}
use Rattle.fp_ofrep.specs.Context.{context_of}
use Rattle.fp_group_commit.specs.Tokens.{FrontState, front_set}
use Rattle.fp_ofrep.specs.Kept.{AreKept, AreTimeless, AsksForAll, HasTag, IsPutAt, IsTagOf}
use Rattle.fp_ofrep.specs.Numbers.{LONGEST_KEPT_BODY, MOST_KEPT_TAGS}
use Rattle.fp_ofrep.specs.declared.keeping.KeptTag.{KeptTag}
use Rattle.fp_ofrep.specs.Reply.{reply, reply_to_post, reply_to_route}
use Rattle.fp_ofrep.specs.Response.{empty, not_allowed, not_modified, success_response}
use Rattle.fp_ofrep.specs.Route.{Route, bulk}
use Rattle.fp_ofrep.specs.Single.{evaluation_of, value_or_failure}
use Rattle.fp_ofrep.specs.Tag.{is_known, tag_of}
use Rattle.fp_ofrep.specs.declared.failure.Failure.{Failure}

-- ---- moments

pub timeless_more : (e : List ℕ × Flag) (es : List (List ℕ × Flag)) → IsTimeless (data_of e.1.definition) →
    AreTimeless es → AreTimeless (e ∷ es)
timeless_more e es first rest = All-cons (λ (x : List ℕ × Flag). IsTimeless (data_of x.1.definition)) e es first rest

flag_items-timeless : (es : List (List ℕ × Flag)) → AreTimeless es → (context : Data) (now later : ℕ)
    → flag_items es context now ≡ flag_items es context later
flag_items-timeless [] h context now later = refl
flag_items-timeless (e ∷ es) h context now later =
    let d = data_of e.1.definition in
    let first : IsTimeless d = All-head (λ (x : List ℕ × Flag). IsTimeless (data_of x.1.definition)) e es h in
    let rest : AreTimeless es = All-tail (λ (x : List ℕ × Flag). IsTimeless (data_of x.1.definition)) e es h in
    ap (λ o. with_flag_item e.0 (value_or_failure e.0 d o) (flag_items es context now)) (first e.0 context now later)
    ∙ ap (λ items. with_flag_item e.0 (evaluation_of e.0 d context later) items) (flag_items-timeless es rest context now later)

bulk_data-timeless : (flags : Flags) → AreTimeless (map.entries flags) → (context : Data) (now later : ℕ)
    → bulk_data flags context now ≡ bulk_data flags context later
bulk_data-timeless flags h context now later =
    ap (λ (items : Items). object (member (codes "flags") (array items) no_members))
    (flag_items-timeless (map.entries flags) h context now later)

-- a tag at one moment is one at each
pub at_any_moment : (set : State) (body tag : List ℕ) → AreTimeless (map.entries set.flags) → ((now : ℕ) × HasTag set body tag now)
    → IsTagOf set body tag
at_any_moment set body tag h found later = let t = found.1 in record {
  context = t.context;
  asked = t.asked;
  tagged = t.tagged ∙ ap (λ d. tag_of (compact_text d)) (bulk_data-timeless set.flags h t.context found.0 later);
}

-- ---- one more

abbrev HasTagOf : FrontState → KeptTag → Type 0
HasTagOf front k = (now : ℕ) × HasTag (front_set front) k.body.items k.tag.items now

module _ (front : FrontState) (ks : List KeptTag) (k : KeptTag) (were : AreKept front true ks)
    (tag : HasTagOf front k) (short : length k.body.items ≤ LONGEST_KEPT_BODY) where
  its : IsTagOf (front_set front) k.body.items k.tag.items
  its = at_any_moment (front_set front) k.body.items k.tag.items (were.rules refl) tag

  behind : length ks < MOST_KEPT_TAGS → AreKept front true (ks ++ k ∷ [])
  behind few = record {
    rules = were.rules;
    tags = All-push (λ (x : KeptTag). IsTagOf (front_set front) x.body.items x.tag.items) ks k were.tags its;
    few = omega (arith, few, length-append ks (k ∷ []));
    short = All-push (λ (x : KeptTag). length x.body.items ≤ LONGEST_KEPT_BODY) ks k were.short short;
  }

  in_place : (place : ℕ) → AreKept front true (set ks place k)
  in_place place = record {
    rules = were.rules;
    tags = All-set (λ (x : KeptTag). IsTagOf (front_set front) x.body.items x.tag.items) ks place k its were.tags;
    few = rw (length-set ks place k) were.few;
    short = All-set (λ (x : KeptTag). length x.body.items ≤ LONGEST_KEPT_BODY) ks place k short were.short;
  }

-- what a tag was put among is kept as before
pub put_kept : (front : FrontState) (timeless : Bool) (ks after : List KeptTag) (k : KeptTag) (place : ℕ) →
    timeless ≡ true → AreKept front timeless ks
    → HasTagOf front k → length k.body.items ≤ LONGEST_KEPT_BODY → place < MOST_KEPT_TAGS →
    IsPutAt ks place k after → AreKept front timeless after
put_kept front false ks after k place h were tag short few put = absurd (cc)
put_kept front true ks after k place h were tag short few (inl p) =
    subst (AreKept front true) (sym p.1) (in_place front ks k were tag short place)
put_kept front true ks after k place h were tag short few (inr p) =
    subst (AreKept front true) (sym p.1) (behind front ks k were tag short (omega (arith, few, p.0)))

-- ---- what a reply tells of its tag

etag-either : (known : Bool) (revision : ℕ) (tag text : List ℕ)
    → (if known then not_modified revision tag else success_response revision (Some tag) text).etag ≡ Some tag
etag-either true revision tag text = refl
etag-either false revision tag text = refl

told_in : (set : State) (if_none_match : Option (List ℕ)) (asked : Result Data Failure) (body tag : List ℕ) (now : ℕ)
    → context_of body ≡ asked → (bulk_in set if_none_match asked now).etag ≡ Some tag → HasTag set body tag now
told_in set if_none_match (Err f) body tag now is h = absurd (cc)
told_in set if_none_match (Ok context) body tag now is h =
    let text = compact_text (bulk_data set.flags context now) in record {
      context = context;
      asked = is;
      tagged = ap (λ o. unwrap_or o []) (sym h ∙ etag-either (is_known (tag_of text) if_none_match) set.revision (tag_of text) text);
    }

pub tag_told : (set : State) (if_none_match : Option (List ℕ)) (body tag : List ℕ) (now : ℕ)
    → (bulk_reply set if_none_match body now).etag ≡ Some tag → HasTag set body tag now
tag_told set if_none_match body tag now h = told_in set if_none_match (context_of body) body tag now refl h

-- ---- who asks for all flags

pub asked_for_all : (method target : List ℕ) (came : Option (List ℕ)) (body : List ℕ) → AsksForAll method target came body
    → (set : State) (if_none_match : Option (List ℕ)) (now : ℕ)
    → reply set method target if_none_match came now ≡ bulk_reply set if_none_match body now
asked_for_all method target came body h set if_none_match now =
    ap (λ (r : Option Route). reply_to_route set r method if_none_match came now) h.all
    ∙ ap (λ (m : List ℕ). if bytes_eq m (codes "POST") then reply_to_post set bulk if_none_match came now else not_allowed) h.posted
    ∙ ap (λ (b : Option (List ℕ)). reply_to_post set bulk if_none_match b now) h.whole
    ∙ ap (λ (long : Bool). if long then empty 413 else bulk_reply set if_none_match body now)
    (le-ltb 65536 (length body) (omega (arith, h.short)))
