-- Flags, member by member, and the order of their keys.
use Rattle.std.proofs.Common.{◌≡◌, ℕ, List, [], ◌∷◌, ◌++◌, map, Ok, Err, Result, Less, refl, sym, ap, ◌∙◌, append_assoc, rules}
use Rattle.std.specs.List.{AllByRecursion}
use Rattle.std.specs.List.Sorted.{IsStrictlySortedBy}
use Rattle.std.specs.Map.{keys_of}
use Rattle.std.proofs.lemmas.List.{map-append}
use Rattle.serde_json.specs.Data.{Data, Members, no_members, member}
use Rattle.fp_definition.specs.Key.{key_bytes, flag_cmp, is_key}
use Rattle.fp_definition.specs.declared.key.FlagKey.{FlagKey}
use Rattle.fp_imports.specs.Document.{Flag, Refusal, bad_key, flag_unless, flag_of_data, flag_expansion, flag_of}
use Rattle.fp_imports.specs.Document.{flags_of, before, and_others}
use Rattle.fp_imports.proofs.Walks.{names}
use Rattle.std.specs.Prelude.{Some, None, Option, Bool, true, false, if◌then◌else◌}
use Rattle.fp_base.specs.Bytes.{bytes_cmp}
use Rattle.fp_base.specs.Sorted.{IsBelow, IsSorted}
use Rattle.fp_definition.specs.Valid.{Fault, first_fault}
use Rattle.fp_imports.specs.References.{Broken}

abbrev pub Flags : Type 0
Flags = Result (List Flag) Refusal

-- the flags of what is left of the members, behind those already found
abbrev pub after_flags : List Flag → Flags → Flags
after_flags fs (Ok gs) = Ok (fs ++ gs)
after_flags fs (Err e) = Err e

pub after_flags-one : (fs : List Flag) (f : Flag) (r : Flags) → after_flags (fs ++ f ∷ []) r ≡ after_flags fs (before f r)
after_flags-one fs f (Ok gs) = ap Ok (append_assoc fs (f ∷ []) gs)
after_flags-one fs f (Err e) = refl

-- a flag before the others
pub flags-ok : (evaluators : Members) (k : List ℕ) (d : Data) (ms : Members) (f : Flag) →
    flag_of evaluators k d ≡ Ok f → flags_of evaluators (member k d ms) ≡ before f (flags_of evaluators ms)
flags-ok evaluators k d ms f h = ap (λ r. and_others r (flags_of evaluators ms)) h

-- ---- their keys

pub keys-one : (fs : List (FlagKey × List ℕ)) (f : FlagKey × List ℕ) →
    map key_bytes (keys_of (fs ++ f ∷ [])) ≡ map key_bytes (keys_of fs) ++ key_bytes f.0 ∷ []
keys-one fs f = ap (map key_bytes) (map-append (λ (e : FlagKey × List ℕ). e.0) fs (f ∷ [])) ∙ map-append key_bytes (keys_of fs) (f.0 ∷ [])

abbrev key_or : List ℕ → Result Flag Refusal → List ℕ
key_or k (Ok f) = f.0
key_or k (Err e) = k

key_or-unless : (o : Option Fault) (k : List ℕ) (d : Data) → key_or k (flag_unless o k d) ≡ k
key_or-unless None k d = refl
key_or-unless (Some f) k d = refl

key_or-defined : (k : List ℕ) (r : Result Data Broken) → key_or k (flag_of_data k r) ≡ k
key_or-defined k (Ok d) = key_or-unless (first_fault d) k d
key_or-defined k (Err e) = refl

key_or-if : (b : Bool) (k : List ℕ) (r : Result Flag Refusal) → key_or k r ≡ k → key_or k (if b then r else Err (bad_key k)) ≡ k
key_or-if true k r h = h
key_or-if false k r h = refl

-- a flag has the name that it was looked for by
pub flag-named : (evaluators : Members) (k : List ℕ) (d : Data) (f : Flag) → flag_of evaluators k d ≡ Ok f → f.0 ≡ k
flag-named evaluators k d f h =
    sym (ap (key_or k) h) ∙ key_or-if (is_key k) k (flag_of_data k (flag_expansion evaluators d))
    (key_or-defined k (flag_expansion evaluators d))

below_all : (k : FlagKey) (name : List ℕ) (ks : List FlagKey) (ms : Members) → key_bytes k ≡ name →
    map key_bytes ks ≡ names ms → IsBelow name ms → AllByRecursion (λ l. flag_cmp k l ≡ Less) ks
below_all k name [] ms first same h = tt
below_all k name (l ∷ ks) no_members first same h = absurd (search rules)
below_all k name (l ∷ ks) (member n d ms) first same h =
    let second : key_bytes l ≡ n = cc in
    let others : map key_bytes ks ≡ names ms = cc in
    (ap (λ x. bytes_cmp x (key_bytes l)) first ∙ ap (bytes_cmp name) second ∙ h.0, below_all k name ks ms first others h.1)

-- keys that are the names of members in order ascend
pub ascending_keys : (ks : List FlagKey) (ms : Members) → map key_bytes ks ≡ names ms → IsSorted ms → IsStrictlySortedBy flag_cmp ks
unfolding IsStrictlySortedBy
ascending_keys [] ms same h = tt
ascending_keys (k ∷ ks) no_members same h = absurd (search rules)
ascending_keys (k ∷ ks) (member n d ms) same h =
    let first : key_bytes k ≡ n = cc in
    let others : map key_bytes ks ≡ names ms = cc in
    (below_all k n ks ms first others h.0, ascending_keys ks ms others h.1)
