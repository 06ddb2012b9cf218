-- What the program's words are, told by their number and by each of them.
use Rattle.std.proofs.Common.{◌≡◌, ℕ, ◌<◌, ◌≤◌, length, List, [], ◌∷◌, Option, Some, None, Result, Ok, Err, get_or, map}
use Rattle.std.proofs.Common.{codes, sym, ap, subst, ◌∙◌, arith}
use Rattle.std.proofs.lemmas.List.{drop_all, length-map}
use Rattle.std.specs.Net.Grammar.{IsSocketV4Text, Parses}
use Rattle.std.specs.declared.net.socket_addr.SocketAddrV4.{SocketAddrV4}
use Rattle.std.specs.Result.{result_ok}
use Rattle.fp_server.specs.Tasks.{AsksFor}
use Rattle.fp_server.specs.declared.services.Addresses.{Addresses}
use Rattle.fp_server.specs.declared.task.Task.{Task}
use Rattle.fp_server.specs.declared.task.Task.TheVariants.{Serve, Watch}
use Rattle.fp_base.proofs.Turns.{drop-here}

pub are_two : {A : Type 0} (ws : List A) (a b : A) → 2 ≤ length ws → length ws < 3 → a ≡ get_or ws 0 a → b ≡ get_or ws 1 b → ws ≡ a ∷ b ∷ []
are_two ws a b long short is_a is_b =
    drop-here ws 0 a (omega (arith, long)) is_a
    ∙ ap (λ ws. a ∷ ws) (drop-here ws 1 b (omega (arith, long)) is_b
    ∙ ap (λ ws. b ∷ ws) (drop_all 2 ws (omega (arith, short))))

pub are_five : {A : Type 0} (ws : List A) (a b c d e : A) → 5 ≤ length ws → length ws < 6 → a ≡ get_or ws 0 a →
    b ≡ get_or ws 1 b → c ≡ get_or ws 2 c → d ≡ get_or ws 3 d → e ≡ get_or ws 4 e
    → ws ≡ a ∷ b ∷ c ∷ d ∷ e ∷ []
are_five ws a b c d e long short is_a is_b is_c is_d is_e =
    drop-here ws 0 a (omega (arith, long)) is_a
    ∙ ap (λ ws. a ∷ ws) (drop-here ws 1 b (omega (arith, long)) is_b
    ∙ ap (λ ws. b ∷ ws) (drop-here ws 2 c (omega (arith, long)) is_c
    ∙ ap (λ ws. c ∷ ws) (drop-here ws 3 d (omega (arith, long)) is_d
    ∙ ap (λ ws. d ∷ ws) (drop-here ws 4 e (omega (arith, long)) is_e
    ∙ ap (λ ws. e ∷ ws) (drop_all 5 ws (omega (arith, short)))))))

-- what was read off a text is what the text spells
pub spelled : {A E : Type 0} (Spells : List ℕ → A → Type 0) (text : List ℕ) (a : A) (r : Result A E) (o : Option A) →
    Parses Spells text r → o ≡ result_ok r → o ≡ Some a → Spells text a
spelled Spells text a (Ok b) o spells is some = (let same : b ≡ a = cc (is, some) in subst (λ a. Spells text a) same spells)
spelled Spells text a (Err e) o spells is some = absurd cc

-- a text off which nothing was read spells nothing
pub misspelled : {A E : Type 0} (Spells : List ℕ → A → Type 0) (bytes text : List ℕ) (r : Result A E) (o : Option A)
    → text ≡ bytes → Parses Spells text r → o ≡ result_ok r → o ≡ None → (a : A) → ¬ Spells bytes a
misspelled Spells bytes text (Ok b) o same spells is none = absurd cc
misspelled Spells bytes text (Err e) o same spells is none = λ a spelled. spells a (subst (λ t. Spells t a) (sym same) spelled)

-- ---- words that ask for nothing
module _ {A : Type 0} (bytes : A → List ℕ) (words : List A) where
  pub two_ask_not : (word text : A) → words ≡ word ∷ text ∷ [] →
      (bytes word ≡ codes "watch" → (a : SocketAddrV4) → ¬ IsSocketV4Text (bytes text) a) → (t : Task) →
      ¬ AsksFor (map bytes words) t
  two_ask_not word text are never (Serve path addresses) asks = absurd (cc (ap (map bytes) are, asks.words_are))
  two_ask_not word text are never (Watch address) asks =
      let same : asks.text ≡ bytes text = cc (ap (map bytes) are, asks.words_are) in
      never (cc (ap (map bytes) are, asks.words_are)) address (subst (λ t. IsSocketV4Text t address) same asks.address_is)

  pub five_ask_not : (word path ofrep edit stream : A) → words ≡ word ∷ path ∷ ofrep ∷ edit ∷ stream ∷ []
      → (bytes word ≡ codes "serve" → (a : Addresses) → IsSocketV4Text (bytes ofrep) a.ofrep →
      IsSocketV4Text (bytes edit) a.edit → IsSocketV4Text (bytes stream) a.stream → ⊥) → (t : Task) →
      ¬ AsksFor (map bytes words) t
  five_ask_not word path ofrep edit stream are never (Serve place a) asks =
      let first : asks.ofrep ≡ bytes ofrep = cc (ap (map bytes) are, asks.words_are) in
      let second : asks.edit ≡ bytes edit = cc (ap (map bytes) are, asks.words_are) in
      let third : asks.stream ≡ bytes stream = cc (ap (map bytes) are, asks.words_are) in
      never (cc (ap (map bytes) are, asks.words_are)) a (subst (λ t. IsSocketV4Text t a.ofrep) first asks.ofrep_is)
      (subst (λ t. IsSocketV4Text t a.edit) second asks.edit_is)
      (subst (λ t. IsSocketV4Text t a.stream) third asks.stream_is)
  five_ask_not word path ofrep edit stream are never (Watch address) asks = absurd (cc (ap (map bytes) are, asks.words_are))

  pub others_ask_not : (length words ≡ 2 → ⊥) → (length words ≡ 5 → ⊥) → (t : Task) → ¬ AsksFor (map bytes words) t
  others_ask_not no_two no_five (Serve path addresses) asks = no_five (sym (length-map words bytes) ∙ ap length asks.words_are)
  others_ask_not no_two no_five (Watch address) asks = no_two (sym (length-map words bytes) ∙ ap length asks.words_are)
