-- Runs over what is asked: joined, cut off, and where no reply tells of wanting memory.
use Rattle.std.proofs.Common.{◌≡◌, ◌≤◌, ℕ, suc, ◌+◌, List, [], ◌∷◌, ◌++◌, map, Option, Some, None, IsSomeAnd, Err, Bool}
use Rattle.std.proofs.Common.{true, ◌&&◌, refl, sym, ap, subst, ◌∙◌, append_assoc, append-nil, ◌<◌, get_or, length}
use Rattle.std.proofs.Common.{take, arith}
use Rattle.std.proofs.lemmas.List.{map-append, take_all, take_more}
use Rattle.std.proofs.lemmas.List.Folds.{list_all-append}
use Rattle.std.proofs.Math.Bool.{and-true}
use Rattle.std.specs.List.{list_all}
use Rattle.std.specs.Io.KnownBytes.{Appends}
use Rattle.fp_definition.specs.Faults.{tells}
use Rattle.fp_definition.specs.Valid as flag
use Rattle.fp_edit.specs.Flags.{State}
use Rattle.fp_edit.specs.Line as line
use Rattle.fp_edit.specs.Spelled.{Tells, TellsInSet}
use Rattle.fp_edit.specs.declared.line.PartFault.{PartFault}
use Rattle.fp_edit.specs.declared.line.PartFault.TheVariants as part
use Rattle.fp_edit.specs.declared.line.LineFault.{LineFault}
use Rattle.fp_edit.specs.declared.line.LineFault.TheVariants.{TooLong, NotJson, NotObject, BadMember, BadOp, BadKey}
use Rattle.fp_edit.specs.declared.line.LineFault.TheVariants.{BadIf, BadFlag, BadSet, InSet, Memory}
use Rattle.fp_session.specs.Asks.{Ask}
use Rattle.fp_session.specs.Reply.{Reply, no_edit, is_told, texts_of, reply_text, told_if, reply_of_code, fault_of}
use Rattle.fp_session.specs.Reply.{fault_in, bad_flag_or_memory, bad_flag_in_or_memory}
use Rattle.fp_session.specs.Progress.{IsToldUpTo}
use Rattle.fp_session.specs.declared.fault.ApplyFault.{ApplyFault}
use Rattle.fp_session.specs.declared.replies.Telling.{Telling}
use Rattle.fp_session.specs.declared.reply.Reply as code
use Rattle.fp_session.specs.declared.reply.Reply.TheVariants.{NoEdit}
use Rattle.fp_session.specs.Run.{verdict, after, replies_to, script, show_line, Answers, IsRun, IsRunWritten}
use Rattle.fp_session.specs.Run.{IsAfterPrefix, IsTold, IsToldBy, most_open}

-- one run after another
pub run-append : (s t u : State) (xs ys : List Ask) (rs qs : List Reply) → IsRun s xs rs t → IsRun t ys qs u →
    IsRun s (xs ++ ys) (rs ++ qs) u
run-append s t u [] ys rs qs h k = grind arith
run-append s t u (x ∷ xs) ys [] qs h k = absurd h
run-append s t u (x ∷ xs) ys (r ∷ rs) qs h k = (h.0, h.1, run-append h.0 t u xs ys rs qs h.2 k)

pub run-single : (s t : State) (x : Ask) (r : Reply) → Answers s x r t → IsRun s (x ∷ []) (r ∷ []) t
run-single s t x r h = (t, h, refl)

-- without a reply nothing was asked
pub run-none : (s t : State) (xs : List Ask) → IsRun s xs [] t → xs ≡ []
run-none s t [] h = refl
run-none s t (x ∷ xs) h = absurd h

pub texts_of-append : (rs qs : List Reply) → texts_of (rs ++ qs) ≡ texts_of rs ++ texts_of qs
texts_of-append [] qs = refl
texts_of-append (r ∷ rs) qs = ap (λ t. (reply_text r ++ 10 ∷ []) ++ t) (texts_of-append rs qs) ∙
    sym (append_assoc (reply_text r ++ 10 ∷ []) (texts_of rs) (texts_of qs))

-- ---- some first of what is asked

pub prefix-start : (s : State) (xs : List Ask) → IsAfterPrefix s xs s
prefix-start s xs = record { done = []; later = xs; replies = []; split = refl; run = refl }

pub prefix-whole : (s t : State) (xs : List Ask) (rs : List Reply) → IsRun s xs rs t → IsAfterPrefix s xs t
prefix-whole s t xs rs run = record { done = xs; later = []; replies = rs; split = sym (append-nil xs); run = run }

pub prefix-more : (s u : State) (xs ys : List Ask) → IsAfterPrefix s xs u → IsAfterPrefix s (xs ++ ys) u
prefix-more s u xs ys p = record {
  done = p.done;
  later = p.later ++ ys;
  replies = p.replies;
  split = ap (λ (l : List Ask). l ++ ys) p.split ∙ append_assoc p.done p.later ys;
  run = p.run;
}

pub prefix-behind : (s t u : State) (xs ys : List Ask) (rs : List Reply) → IsRun s xs rs t → IsAfterPrefix t ys u →
    IsAfterPrefix s (xs ++ ys) u
prefix-behind s t u xs ys rs run p = record {
  done = xs ++ p.done;
  later = p.later;
  replies = rs ++ p.replies;
  split = ap (λ (l : List Ask). xs ++ l) p.split ∙ sym (append_assoc xs p.done p.later);
  run = run-append s t u xs p.done rs p.replies run p.run;
}

-- ---- what was told

pub run-lengths : (s t : State) (xs : List Ask) (rs : List Reply) → IsRun s xs rs t → length xs ≡ length rs
run-lengths s t [] rs h = grind arith
run-lengths s t (x ∷ xs) [] h = absurd h
run-lengths s t (x ∷ xs) (r ∷ rs) h = ap suc (run-lengths h.0 t xs rs h.2)

-- where more may be open
pub open-more : (fault : ApplyFault) (n most more : ℕ) → most ≤ more → n ≤ most_open fault most → n ≤ most_open fault more
open-more fault n most more le few = grind arith

pub told-more : (s taken u : State) (xs ys : List Ask) (most more : ℕ) (fault : ApplyFault) (text : List ℕ) →
    most ≤ more → IsTold s xs most fault text taken u → IsTold s (xs ++ ys) more fault text taken u
told-more s taken u xs ys most more fault text le t = record {
  done = t.done;
  batch = t.batch;
  later = t.later ++ ys;
  kept = t.kept;
  replies = t.replies;
  waiting = t.waiting;
  split = ap (λ (l : List Ask). l ++ ys) t.split ∙ append_assoc t.done (t.batch ++ t.later) ys ∙
      ap (λ (l : List Ask). t.done ++ l) (append_assoc t.batch t.later ys);
  run = t.run;
  on = t.on;
  few = open-more fault (length t.batch) most more le t.few;
  holds = t.holds;
  written = t.written;
}

pub told_by-more : (s taken u : State) (xs ys : List Ask) (most : ℕ) (fault : ApplyFault) (old new : Option (List ℕ))
    → IsToldBy s xs most fault old new taken u → IsToldBy s (xs ++ ys) most fault old new taken u
told_by-more s taken u xs ys most fault old new t = (t.0, t.1, told-more s taken u xs ys most most fault t.0 (omega arith) t.2)

-- ---- what is no edit
pub no_edit-answers : (s : State) (x : Ask) (e : LineFault) → Tells e (λ f. x ≡ Err f) → Answers s x (reply_of_code (NoEdit e)) s
no_edit-answers s x e fault = by_fault e fault
  where
    stands : (f : line.Fault) → x ≡ Err f → verdict s x ≡ (no_edit f, s)
    stands f h = ap (verdict s) h

    of_flag : (o : Option flag.Fault) → IsSomeAnd o (λ f. x ≡ Err (line.bad_flag f)) → Answers s x (bad_flag_or_memory o) s
    of_flag None h = absurd h
    of_flag (Some f) h = stands (line.bad_flag f) h

    of_flag_in : (at : ℕ) (o : Option flag.Fault) → IsSomeAnd o (λ f. x ≡ Err (line.in_set at (line.bad_flag f))) →
        Answers s x (bad_flag_in_or_memory at o) s
    of_flag_in at None h = absurd h
    of_flag_in at (Some f) h = stands (line.in_set at (line.bad_flag f)) h

    by_part : (at : ℕ) (e : PartFault) → TellsInSet at e (λ f. x ≡ Err f) → Answers s x (fault_in at e) s
    by_part at part.NotObject h = stands (line.in_set at line.not_object) h
    by_part at part.BadMember h = stands (line.in_set at line.bad_member) h
    by_part at part.BadOp h = stands (line.in_set at line.bad_op) h
    by_part at part.BadKey h = stands (line.in_set at line.bad_key) h
    by_part at part.BadIf h = stands (line.in_set at line.bad_if) h
    by_part at (part.BadFlag f) h = of_flag_in at (tells f) h
    by_part at part.Memory h = absurd h

    by_fault : (e : LineFault) → Tells e (λ f. x ≡ Err f) → Answers s x (fault_of e) s
    by_fault TooLong h = stands line.too_long h
    by_fault NotJson h = stands line.not_json h
    by_fault NotObject h = stands line.not_object h
    by_fault BadMember h = stands line.bad_member h
    by_fault BadOp h = stands line.bad_op h
    by_fault BadKey h = stands line.bad_key h
    by_fault BadIf h = stands line.bad_if h
    by_fault (BadFlag f) h = of_flag (tells f) h
    by_fault BadSet h = stands line.bad_set h
    by_fault (InSet at e) h = by_part at e h
    by_fault Memory h = refl

-- ---- where no reply tells of wanting memory

told-verdict : (s t : State) (x : Ask) (r : Reply) → is_told r ≡ true → Answers s x r t → verdict s x ≡ (r, t)
told-verdict s t x r told answers = grind arith

-- each reply is the verdict
pub run-told : (s t : State) (xs : List Ask) (rs : List Reply) → IsRun s xs rs t → list_all is_told rs ≡ true →
    (rs ≡ replies_to s xs) × (t ≡ after s xs)
run-told s t [] rs h e = grind arith
run-told s t (x ∷ xs) [] h e = absurd h
run-told s t (x ∷ xs) (r ∷ rs) h e = let rest = run-told h.0 t xs rs h.2 in let is = told-verdict s h.0 x r in grind (arith, rest, is, h.1)

pub written-flags : (start : State) (xs : List Ask) (told : Bool) (old new : Option (List ℕ)) (now : State) →
    IsRunWritten start xs told old new now → told ≡ true → now ≡ after start xs
written-flags start xs told old new now r all = (run-told start now xs r.replies r.run (sym r.told_is ∙ all)).1

pub written-script : (start : State) (xs : List Ask) (told : Bool) (old new : Option (List ℕ)) (now : State) →
    IsRunWritten start xs told old new now → told ≡ true → Appends old new (script start xs)
written-script start xs told old new now r all =
    let is = run-told start now xs r.replies r.run (sym r.told_is ∙ all) in
    let said : texts_of r.replies ++ show_line now ≡ script start xs = ap (λ rs. texts_of rs ++ show_line now) is.0 ∙
    ap (λ t. texts_of (replies_to start xs) ++ show_line t) is.1 in
    subst (Appends old new) said r.written

-- where what waited is kept, each reply is told as it is
pub told_if-kept : (rs : List Reply) → map (told_if true) rs ≡ rs
told_if-kept [] = refl
told_if-kept (r ∷ rs) = ap (λ (l : List Reply). r ∷ l) (told_if-kept rs)

-- one more of those that wait is told
pub told_up_to-more : (is_kept : Bool) (waiting : List code.Reply) (t u : Telling) (n : ℕ) (reply : code.Reply)
    (told : Reply) → n < length waiting → reply ≡ get_or waiting n reply →
    told ≡ told_if is_kept (reply_of_code reply)
    → u.text.items ≡ t.text.items ++ texts_of (told ∷ []) → u.is_told ≡ (t.is_told && is_told told) →
    IsToldUpTo is_kept waiting t n → IsToldUpTo is_kept waiting u (n + 1)
told_up_to-more is_kept waiting t u n reply told lt here is texts tells h =
    let first = λ (xs : List code.Reply). map (told_if is_kept) (map reply_of_code xs) in
    let taken : take (n + 1) waiting ≡ take n waiting ++ reply ∷ [] = take_more waiting n reply lt ∙
    ap (λ (x : code.Reply). take n waiting ++ x ∷ []) (sym here) in
    let all_of : first (take (n + 1) waiting) ≡ first (take n waiting) ++ told ∷ [] =
    ap first taken ∙ ap (λ (l : List Reply). map (told_if is_kept) l)
    (map-append reply_of_code (take n waiting) (reply ∷ [])) ∙
    map-append (told_if is_kept) (map reply_of_code (take n waiting)) (reply_of_code reply ∷ [])
    ∙ ap (λ (x : Reply). first (take n waiting) ++ x ∷ []) (sym is) in
    record {
      texts = texts ∙ ap (λ (l : List ℕ). l ++ texts_of (told ∷ [])) h.texts ∙
          sym (texts_of-append (first (take n waiting)) (told ∷ [])) ∙ ap texts_of (sym all_of);
      tells = tells ∙ ap (λ b. b && is_told told) h.tells ∙ sym (one_more (first (take n waiting))) ∙
          ap (λ (l : List Reply). list_all is_told l) (sym all_of);
    }
  where
    one_more : (rs : List Reply) → list_all is_told (rs ++ told ∷ []) ≡ list_all is_told rs && is_told told
    one_more rs = list_all-append is_told rs (told ∷ []) ∙ ap (λ b. list_all is_told rs && b) (and-true (is_told told))

-- all of them are
pub told_up_to-all : (is_kept : Bool) (waiting : List code.Reply) (t : Telling) → IsToldUpTo is_kept waiting t (length waiting)
    → (t.text.items ≡ texts_of (map (told_if is_kept) (map reply_of_code waiting))) ×
    (t.is_told ≡ list_all is_told (map (told_if is_kept) (map reply_of_code waiting)))
told_up_to-all is_kept waiting t h =
    let all : take (length waiting) waiting ≡ waiting = take_all (length waiting) waiting (omega arith) in (
      h.texts ∙ ap (λ (l : List code.Reply). texts_of (map (told_if is_kept) (map reply_of_code l))) all,
      h.tells ∙
          ap (λ (l : List code.Reply). list_all is_told (map (told_if is_kept) (map reply_of_code l))) all,
    )
