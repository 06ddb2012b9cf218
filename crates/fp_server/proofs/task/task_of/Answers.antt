use Rattle.std.proofs.Common.{rules, ◌≡◌, ◌<◌, ◌≤◌, length, ap, subst, ◌∷◌, [], ◌∙◌, arith}
use Rattle.std.specs.Prelude.{map, string_bytes, codes}
use Rattle.std.specs.Net.Grammar.{IsSocketV4Text}
use Rattle.fp_server.proofs.Asked.{spelled, misspelled, are_two, are_five, two_ask_not, five_ask_not, others_ask_not}
use Rattle.fp_server.proofs.task.task_of.Goals as goal
use Rattle.fp_server.proofs.task.task_of.Goals.{in_default-via-then-words-lt2, in_default-via-in-len2+else-eq}
use Rattle.fp_server.proofs.task.task_of.Goals.{in_default-via-else-words-lt2+else-words-lt3+then-words-lt5}
use Rattle.fp_server.proofs.task.task_of.Goals.{in_default-via-in-len5+else-eq-2}
use Rattle.fp_server.proofs.task.task_of.Goals.{in_default-via-else-words-lt2+else-words-lt3+else-words-lt5+else-words-lt6}

-- src/task.rt:35:30
pub returns-in_err-ok-in-len2 : goal.returns-in_err-ok-in-len2
returns-in_err-ok-in-len2 c =
    let words = are_two c.args.words.now c.word-item.result c.address-item.result c.in-len2.len_at_least
    c.in-len2.len_below c.word-item.is c.address-item.is in
    rw (c.from_residual.ensures) (two_ask_not string_bytes _ _ _ words
    (λ _. misspelled IsSocketV4Text _ _ _ _ c.as_str-in-len2.ensures.value c.parse.ensures.value
    c.ok.ensures.value (c.in_err-ok-in-len2.was)))

-- src/task.rt:28:24
pub returns-in_err-ok-in-len5 : goal.returns-in_err-ok-in-len5
returns-in_err-ok-in-len5 c =
    let words = are_five c.args.words.now c.word-item-then-words-lt6.result c.path-item.result c.ofrep-item.result
    c.edit-item.result c.stream-item.result c.in-len5.len_at_least c.in-len5.len_below
    c.word-item-then-words-lt6.is c.path-item.is c.ofrep-item.is c.edit-item.is c.stream-item.is in
    rw (c.from_residual-in_err-ok-in-len5.ensures)
    (five_ask_not string_bytes _ _ _ _ _ _ words
    (λ _ a ofrep edit stream. misspelled IsSocketV4Text _ _ _ _ c.as_str-in-len5.ensures.value
    c.parse-in-len5.ensures.value c.ok-in-len5.ensures.value (c.in_err-ok-in-len5.was) a.ofrep ofrep))

-- src/task.rt:29:24
pub returns-in_err-ok-in-len5-2 : goal.returns-in_err-ok-in-len5-2
returns-in_err-ok-in-len5-2 c =
    let words = are_five c.args.words.now c.word-item-then-words-lt6.result c.path-item.result c.ofrep-item.result
    c.edit-item.result c.stream-item.result c.in-len5.len_at_least c.in-len5.len_below
    c.word-item-then-words-lt6.is c.path-item.is c.ofrep-item.is c.edit-item.is c.stream-item.is in
    rw (c.from_residual-in_err-ok-in-len5-2.ensures)
    (five_ask_not string_bytes _ _ _ _ _ _ words
    (λ _ a ofrep edit stream. misspelled IsSocketV4Text _ _ _ _ c.as_str-in-len5-2.ensures.value
    c.parse-in-len5-2.ensures.value c.ok-in-len5-2.ensures.value (c.in_err-ok-in-len5-2.was) a.edit edit))

-- src/task.rt:30:24
pub returns-in_err-ok-in-len5-3 : goal.returns-in_err-ok-in-len5-3
returns-in_err-ok-in-len5-3 c =
    let words = are_five c.args.words.now c.word-item-then-words-lt6.result c.path-item.result c.ofrep-item.result
    c.edit-item.result c.stream-item.result c.in-len5.len_at_least c.in-len5.len_below
    c.word-item-then-words-lt6.is c.path-item.is c.ofrep-item.is c.edit-item.is c.stream-item.is in
    rw (c.from_residual-in_err-ok-in-len5-3.ensures)
    (five_ask_not string_bytes _ _ _ _ _ _ words
    (λ _ a ofrep edit stream. misspelled IsSocketV4Text _ _ _ _ c.as_str-in-len5-3.ensures.value
    c.parse-in-len5-3.ensures.value c.ok-in-len5-3.ensures.value (c.in_err-ok-in-len5-3.was) a.stream stream))

-- src/task.rt:20:1
pub returns-in_ok-ok-in-len2 : goal.returns-in_ok-ok-in-len2
returns-in_ok-ok-in-len2 c =
    let words = are_two c.args.words.now c.word-item.result c.address-item.result c.in-len2.len_at_least
    c.in-len2.len_below c.word-item.is c.address-item.is in
    let word : string_bytes c.word-item.result ≡ codes "watch" = search rules in
    record {
      text = string_bytes c.address-item.result;
      words_are = ap (map string_bytes) words ∙
          ap (λ w. w ∷ string_bytes c.address-item.result ∷ []) word;
      address_is =
          subst (λ t. IsSocketV4Text t c.in_ok-ok-in-len2.field-0) c.as_str-in-len2.ensures.value
          (spelled IsSocketV4Text _ _ _ _ c.parse.ensures.value c.ok.ensures.value (c.in_ok-ok-in-len2.was));
    }

-- src/task.rt:20:1
pub returns-in_ok-ok-in-len5-3 : goal.returns-in_ok-ok-in-len5-3
returns-in_ok-ok-in-len5-3 c =
    let words = are_five c.args.words.now c.word-item-then-words-lt6.result c.path-item.result c.ofrep-item.result
    c.edit-item.result c.stream-item.result c.in-len5.len_at_least c.in-len5.len_below
    c.word-item-then-words-lt6.is c.path-item.is c.ofrep-item.is c.edit-item.is c.stream-item.is in
    let word : string_bytes c.word-item-then-words-lt6.result ≡ codes "serve" = search rules in
    let path : c.as_str-in-len5-4.result.now ≡ string_bytes c.path-item.result = search rules in
    record {
      ofrep = c.as_str-in-len5.result.now;
      edit = c.as_str-in-len5-2.result.now;
      stream = c.as_str-in-len5-3.result.now;
      words_are = cc (
        ap (map string_bytes) words,
        word,
        path,
        c.as_str-in-len5.ensures.value,
        c.as_str-in-len5-2.ensures.value,
        c.as_str-in-len5-3.ensures.value,
      );
      ofrep_is = spelled IsSocketV4Text _ _ _ _ c.parse-in-len5.ensures.value c.ok-in-len5.ensures.value (c.in_ok-ok-in-len5.was);
      edit_is = spelled IsSocketV4Text _ _ _ _ c.parse-in-len5-2.ensures.value c.ok-in-len5-2.ensures.value (c.in_ok-ok-in-len5-2.was);
      stream_is = spelled IsSocketV4Text _ _ _ _ c.parse-in-len5-3.ensures.value c.ok-in-len5-3.ensures.value (c.in_ok-ok-in-len5-3.was);
    }

-- src/task.rt:35:30
pub returns-in_default : goal.returns-in_default
returns-in_default c = let others = others_ask_not string_bytes c.args.words.now in elim c.in_default.branch [
  | in_default-via-then-words-lt2 w ↦ (let short : length c.args.words.now < 2 = search rules in
      others (λ is. omega (arith, short, is)) (λ is. omega (arith, short, is)))
  | in_default-via-in-len2+else-eq w ↦ (
      let words = are_two c.args.words.now w.word-item.result w.address-item.result w.in-len2.len_at_least
      w.in-len2.len_below w.word-item.is w.address-item.is in
      let never : (string_bytes w.word-item.result ≡ codes "watch") → ⊥ = search rules in
      two_ask_not string_bytes _ _ _ words (λ is. absurd (never is)))
  | in_default-via-else-words-lt2+else-words-lt3+then-words-lt5 w ↦
      (let long : 3 ≤ length c.args.words.now = search rules in
      let short : length c.args.words.now < 5 = search rules in
      others (λ is. omega (arith, long, is)) (λ is. omega (arith, short, is)))
  | in_default-via-in-len5+else-eq-2 w ↦ (
      let words = are_five c.args.words.now w.word-item-then-words-lt6.result w.path-item.result w.ofrep-item.result
      w.edit-item.result w.stream-item.result w.in-len5.len_at_least w.in-len5.len_below
      w.word-item-then-words-lt6.is w.path-item.is w.ofrep-item.is w.edit-item.is w.stream-item.is in
      let never : (string_bytes w.word-item-then-words-lt6.result ≡ codes "serve") → ⊥ = search rules in
      five_ask_not string_bytes _ _ _ _ _ _ words (λ is. absurd (never is)))
  | in_default-via-else-words-lt2+else-words-lt3+else-words-lt5+else-words-lt6 w ↦
      (let long : 6 ≤ length c.args.words.now = search rules in
      others (λ is. omega (arith, long, is)) (λ is. omega (arith, long, is)))
]
