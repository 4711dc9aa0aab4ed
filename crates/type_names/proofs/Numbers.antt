-- Words that spell numbers.
use Rattle.std.proofs.Common.{◌≡◌, ◌∙◌, ◌<◌, ◌≤◌, ◌^◌, ◌≢◌, ℕ, Bool, true, false, List, Option, Some, None, Result, Ok, Err}
use Rattle.std.proofs.Common.{ap, arith, cond, eqb, get_or, refl, subst, sym}
use Rattle.std.specs.Prelude.{IfNone, IfSome, drop}
use Rattle.std.specs.Fmt.{decimal}
use Rattle.std.specs.Result.{result_ok}
use Rattle.std.specs.Str.{IsUtf8, bytes_eq}
use Rattle.std.specs.Str.Parse.{IsNumeral, ParsesUnsigned, digits_value, without_leading_plus}
use Rattle.std.proofs.lemmas.Bool.{ne_eqb}
use Rattle.std.proofs.lemmas.Fmt.{IsAscii-decimal, decimal_is_IsNumeral}
use Rattle.std.proofs.lemmas.Slice.Eq.{bytes_eq-Decides}
use Rattle.std.proofs.lemmas.Str.{IsUtf8-from_ascii}
use Rattle.script_text.specs.Reading.{large, number_of}
use Rattle.script_text.proofs.Parts.Numbers.{first_is_digit, number_of_is, number_of_some}

-- the digits of a number have no plus before them
no_plus : (n : ℕ) → n < 2 ^ 64 → without_leading_plus (decimal n) ≡ decimal n
no_plus n small =
    let first = first_is_digit (decimal n) n small refl in
    let none : eqb (get_or (decimal n) 0 0) 43 ≡ false = ne_eqb _ _ (let low = first.0 in λ e. omega (arith, low, e)) in
    ap (λ (b : Bool). drop (cond b 1 0) (decimal n)) none

digits_of : (word : List ℕ) (n : ℕ) → n < 2 ^ 64 → word ≡ decimal n → without_leading_plus word ≡ decimal n
digits_of word n small e = ap without_leading_plus e ∙ no_plus n small

-- what a parse reads of a word
pub read_value : {E : Type 0} (word text : List ℕ) (r : Result ℕ E) (o : Option ℕ) → text ≡ word → o ≡ result_ok r
    → ParsesUnsigned 64 10 text r → IfSome o (λ value. (n : ℕ) → n < 2 ^ 64 → word ≡ decimal n → value ≡ n)
read_value word text (Ok v) None same is p = tt
read_value word text (Ok v) (Some w) same is p = λ n small e.
    let value : w ≡ v = cc in
    value ∙ p.1 ∙ ap (digits_value 10) (digits_of text n small (same ∙ e)) ∙ (decimal_is_IsNumeral n small).1
read_value word text (Err e) None same is p = tt
read_value word text (Err e) (Some w) same is p = absurd cc

pub read_none : {E : Type 0} (word text : List ℕ) (r : Result ℕ E) (o : Option ℕ) → text ≡ word → o ≡ result_ok r
    → ParsesUnsigned 64 10 text r → IfNone o ((n : ℕ) → n < 2 ^ 64 → word ≡ decimal n → ⊥)
read_none word text (Ok v) None same is p = absurd cc
read_none word text (Ok v) (Some w) same is p = tt
read_none word text (Err e) None same is p = λ n small e.
    let digits = sym (digits_of text n small (same ∙ e)) in
    let numeral = decimal_is_IsNumeral n small in
    p (
      subst (IsNumeral 10) digits numeral.0,
      subst (λ (ds : List ℕ). digits_value 10 ds < 2 ^ 64) digits (rw numeral.1 small),
    )
read_none word text (Err e) (Some w) same is p = tt

-- a word that isn't text spells no number
pub no_text : (word : List ℕ) → (IsUtf8 word → ⊥) → (n : ℕ) → n < 2 ^ 64 → word ≡ decimal n → ⊥
no_text word other n small e = other (subst IsUtf8 (sym e) (IsUtf8-from_ascii (decimal n) (IsAscii-decimal n small)))

-- a word is a number if it is the spelling of what is read of it
pub spelled : (word : List ℕ) (value : ℕ) → value < 2 ^ 64 → bytes_eq word (decimal value) ≡ true → Some value ≡ number_of large word
spelled word value small same =
    sym (number_of_some large word value small ((bytes_eq-Decides word (decimal value)).0 same) (omega (arith, small)))

never : (word : List ℕ) → ((n : ℕ) → n < 2 ^ 64 → word ≡ decimal n → ⊥) → None ≡ number_of large word
never word none = go (number_of large word) refl
  where
    go : (o : Option ℕ) → number_of large word ≡ o → None ≡ o
    go None e = refl
    go (Some n) e =
        let is = number_of_is large word n e in
        let small = is.1 in
        absurd (none n (omega (arith, small)) is.0)

pub unspelled : (word : List ℕ) (value : ℕ) → ((n : ℕ) → n < 2 ^ 64 → word ≡ decimal n → value ≡ n)
    → bytes_eq word (decimal value) ≡ false → None ≡ number_of large word
unspelled word value read other = never word (λ n small e.
    let same : word ≡ decimal value = e ∙ ap decimal (sym (read n small e)) in
    let yes = (bytes_eq-Decides word (decimal value)).1 same in
    cc)

pub no_number : (word : List ℕ) (o : Option ℕ) → o ≡ None → IfNone o ((n : ℕ) → n < 2 ^ 64 → word ≡ decimal n → ⊥)
    → None ≡ number_of large word
no_number word None e none = never word none
no_number word (Some n) e none = absurd cc
