use Rattle.std.proofs.Common.{length, get_or, drop, take, subst, sym, ap, ◌≡◌, ◌∷◌, ◌++◌, ◌∙◌, ◌-◌}
use Rattle.std.proofs.Common.{◌<◌, arith, append_assoc, []}
use Rattle.json.specs.Print.{escape}
use Rattle.fp_canonical.proofs.Cuts.{cut_behind}
use Rattle.fp_canonical.proofs.Exact.{front_string, same_quoted, some_is}
use Rattle.fp_canonical.proofs.cursor.Cursor.string.Goals as goal

pub range_from-self-inside-requires : goal.range_from-self-inside-requires
range_from-self-inside-requires c h =
    let bytes = c.as_bytes-bytes.result.now in
    let end = c.unescaped_len-end.result in
    let within : end < length bytes = omega (arith, c.if-end-bytes.true) in
    let ascii : get_or bytes end 0 < 128 = omega (arith, c.if-bytes-end-eq34.true) in
    cut_behind bytes c.self.inside.rest.now end c.as_bytes-bytes.ensures.value c.as_bytes-bytes.ensures.utf8 within ascii

pub returns-then-bytes-end-eq34-clause-taken : goal.returns-then-bytes-end-eq34-clause-taken
returns-then-bytes-end-eq34-clause-taken c = λ s left is.
    let text = c.self.inside.rest.now in
    let end = c.unescaped_len-end.result in
    let same : c.as_bytes-bytes.result.now ≡ text = c.as_bytes-bytes.ensures.value in
    let opened : text ≡ escape s ++ 34 ∷ left =
    c.self.view_is ∙ ap (drop 1) (sym (c.take.ensures.taken c.if-not-take.false) ∙ is) ∙ append_assoc (escape s) (34 ∷ []) left in
    let within : end < length text = omega (arith, c.if-end-bytes.true, ap length same) in
    let quote : get_or text end 0 ≡ 34 = ap (λ r. get_or r end 0) (sym same) ∙ omega (arith, c.if-bytes-end-eq34.true) in
    let both = front_string text end s left within quote
    (subst (λ r. escape (take end r) ≡ take end r) same c.unescaped_len-end.ensures.written) opened in
    let all : end - 0 ≡ end = omega arith in
    (c.range.ensures.value ∙ ap (λ n. take n text) all ∙ both.0, c.range_from-self-inside.ensures.value ∙ both.1)

pub returns-clause-taken : goal.returns-clause-taken
returns-clause-taken c = λ s left is.
    let opened = sym (c.take.ensures.taken c.if-not-take.false) ∙ is in
    let old = ap (drop 1) opened ∙ append_assoc (escape s) (34 ∷ []) left in
    some_is c.escaped.result _ _ (c.escaped.ensures.taken s left old) c.escaped.ensures.spelled
    (λ t h. same_quoted t.now s c.escaped.new.self left (sym h ∙ opened))
