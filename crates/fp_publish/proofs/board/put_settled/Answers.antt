use Rattle.std.proofs.Common.{rules, Result, Ok, Err, ◌≡◌, ◌++◌, List, drop, fold, sym, ap, ◌∙◌}
use Rattle.std.specs.Result.{OnOk}
use Rattle.fp_edit.specs.Edits.{Change}
use Rattle.fp_edit.specs.Flags.{State}
use Rattle.fp_edit.specs.Following.{changes_of}
use Rattle.fp_edit.specs.Log.{after_all}
use Rattle.fp_edit.proofs.Followed.{after-append}
use Rattle.fp_group_commit.specs.Tokens.{FrontState, Identity}
use Rattle.fp_desk.specs.Desk.{settled_front}
use Rattle.fp_publish.specs.Rule.{page_after, page_at}
use Rattle.fp_publish.specs.declared.page.Page.{Page}
use Rattle.fp_publish.proofs.board.put_settled.Goals as goal

ok_more : {T E : Type 0} (r : Result T E) {P Q : Type 0} → (P → Q) → OnOk r P → OnOk r Q
ok_more (Ok x) more p = more p
ok_more (Err e) more p = p

pub returns-then-is_just_before-clause-appended : goal.returns-then-is_just_before-clause-appended
returns-then-is_just_before-clause-appended c =
    let v = c.args.writer.now.desk.shown.value in let next = c.args.next.now in let desk = c.args.desk.now in
    let last = changes_of c.last_batch-last.result.now in
    let front : c.of-told.result ≡ settled_front desk = search rules in
    let whole : fold page_after v (drop c.args.writer.now.behind c.args.writer.now.log.items) ≡ page_at next =
    c.requires.leads c.if-leads-2.true in
    let edits : desk.settled ≡ next.edits ++ last = search rules in
    let set : after_all (page_at next).set last ≡ after_all desk.store.start desk.settled =
    sym (after-append next.store.start next.edits last) ∙
    ap (λ (i : Identity). after_all i.start (next.edits ++ last)) c.requires.store ∙
    ap (λ (l : List Change). after_all desk.store.start l) (sym edits) in
    ok_more c.put_batch.result (λ appended. appended v
    ∙ ap (λ (p : Page). record { set = after_all p.set last; front = c.of-told.result }) whole
    ∙ ap (λ (t : State). record { set = t; front = c.of-told.result }) set
    ∙ ap (λ (f : FrontState). record { set = after_all desk.store.start desk.settled; front = f }) front) c.put_batch.ensures.appended
