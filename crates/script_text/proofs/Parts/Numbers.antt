-- Numbers and their words.
use Rattle.std.proofs.Common.{◌≡◌, ◌+◌, ◌-◌, ◌*◌, ◌^◌, ◌<◌, ◌≤◌, ◌∷◌, ◌∙◌}
use Rattle.std.proofs.Common.{ℕ, zero, suc, Bool, true, false, cond, eqb, List, [], length, get_or}
use Rattle.std.proofs.Common.{drop, Option, Some, None, refl, sym, ap, arith}
use Rattle.std.specs.Prelude.{◌&&◌, nat_le, IfSome, IfNone}
use Rattle.std.proofs.lemmas.Bool.{eqb-true, le-leb, leb-true}
use Rattle.std.proofs.lemmas.Bool.Decides.{Decides-eqb}
use Rattle.std.specs.Fmt.{decimal}
use Rattle.std.specs.Str.{bytes_eq}
use Rattle.std.specs.Str.Parse.{AllDigits, digits_value, digits_value_after}
use Rattle.std.proofs.lemmas.Fmt.{decimal_is_IsNumeral, decimal_digit, first_decimal, decimal_nonempty, decimal-digits_value}
use Rattle.std.proofs.lemmas.Str.{digit_value_digit}
use Rattle.std.specs.Char.{digit_value}
use Rattle.std.proofs.Math.Seq.{drop-cons}
use Rattle.std.proofs.lemmas.List.{drop_all}
use Rattle.std.proofs.lemmas.Str.Parse.{digit_at, IsNumeralModel, numerals_by_value, tells_digits}
use Rattle.std.proofs.lemmas.Slice.Eq.{bytes_eq-Decides}
use Rattle.script_text.specs.Reading.{number_of, small, number_behind}

pub no_empty : (word : List ℕ) (n : ℕ) → n < 2 ^ 64 → length word ≡ 0 → word ≡ decimal n → ⊥
no_empty word n small none e = let some : 0 < length (decimal n) = decimal_nonempty n small in omega (arith, ap length e)

pub first_is_digit : (word : List ℕ) (n : ℕ) → n < 2 ^ 64 → word ≡ decimal n → (48 ≤ get_or word 0 0) × (get_or word 0 0 ≤ 57)
first_is_digit word n small e =
    let numeral = (decimal_is_IsNumeral n small).0 in
    let at = digit_at (decimal n) 0 numeral.1 numeral.0 in
    rw e (omega arith, omega arith)

pub no_leading_zero : (word : List ℕ) (n : ℕ) → n < 2 ^ 64 → word ≡ decimal n → get_or word 0 0 ≡ 48 → length word ≤ 1
no_leading_zero word zero small e first = omega (arith, ap length (e ∙ decimal_digit 0 (omega arith)))
no_leading_zero word (suc n) small e first =
    let large : 48 < get_or (decimal (suc n)) 0 0 = first_decimal (suc n) (omega arith) small in
    let same : get_or word 0 0 ≡ get_or (decimal (suc n)) 0 0 = ap (λ (x : List ℕ). get_or x 0 0) e in
    absurd (omega arith)

own : IsNumeralModel (AllDigits 10) (digits_value 10)
own = numerals_by_value (AllDigits 10) tells_digits

-- one more digit of a word
pub after_more : (n : ℕ) (word : List ℕ) (at : ℕ) → at < length word
    → digits_value_after 10 n (drop at word) ≡ digits_value_after 10 (n * 10 + digit_value (get_or word at 0)) (drop (at + 1) word)
after_more n word at lt = let next : at + 1 ≡ suc at = omega arith in rw (next, drop-cons word at 0) refl

pub digit_is : (b : ℕ) → 48 ≤ b → b ≤ 57 → digit_value b ≡ b - 48
digit_is b low high = let e : digit_value b + 48 ≡ b = digit_value_digit b (omega arith, omega arith) in omega arith

-- more digits make no number smaller
pub after_at_least : (n : ℕ) (ds : List ℕ) → n ≤ digits_value_after 10 n ds
after_at_least n [] = omega arith
after_at_least n (c ∷ ds) =
    let rest : n * 10 + digit_value c ≤ digits_value_after 10 (n * 10 + digit_value c) ds = after_at_least (n * 10 + digit_value c) ds in
    omega arith

pub value_of_decimal : (word : List ℕ) (n : ℕ) → n < 2 ^ 64 → word ≡ decimal n → digits_value 10 word ≡ n
value_of_decimal word n small e = rw e (decimal_is_IsNumeral n small).1

pub digit_of_decimal : (word : List ℕ) (n at : ℕ) → n < 2 ^ 64 → word ≡ decimal n → at < length word
    → (48 ≤ get_or word at 0) × (get_or word at 0 ≤ 57)
digit_of_decimal word n at small e lt =
    let is = digit_at word at (rw e (decimal_is_IsNumeral n small).0.1) lt in
    (omega arith, omega arith)

-- no digit is left
pub all_read : (n : ℕ) (word : List ℕ) (at : ℕ) → at ≤ length word → length word ≤ at
    → digits_value_after 10 n (drop at word) ≡ digits_value 10 word → n ≡ digits_value 10 word
all_read n word at within past e = rw (drop_all at word past) at e

pub none_left : (word : List ℕ) (at : ℕ) → length word ≤ at → AllDigits 10 (drop at word)
none_left word at past = rw (drop_all at word past) tt

-- a word of digits with no zero in front is the spelling of its value
pub spells : (word : List ℕ) (value : ℕ) → AllDigits 10 word → digits_value 10 word ≡ value → value < 2 ^ 64 → 0 < length word
    → (get_or word 0 0 ≡ 48 → length word ≡ 1) → word ≡ decimal value
spells word value digits is small some lone = sym (decimal-digits_value own word digits some lone (rw is small)) ∙ ap decimal is

-- number_of, by the spelling of numbers
pub number_of_some : (limit : ℕ) (word : List ℕ) (n : ℕ) → n < 2 ^ 64 → word ≡ decimal n → n ≤ limit → number_of limit word ≡ Some n
unfolding number_of
number_of_some limit word n small e le =
    let value : digits_value 10 (decimal n) ≡ n = (decimal_is_IsNumeral n small).1 in
    let same : bytes_eq (decimal n) (decimal n) ≡ true = (bytes_eq-Decides (decimal n) (decimal n)).1 refl in
    let fits : nat_le n limit ≡ true = le-leb n limit le in
    rw (e, value, same, fits) refl

and_true : (b d : Bool) → (b && d) ≡ true → (b ≡ true) × (d ≡ true)
and_true true d e = (refl, e)
and_true false d e = absurd cc

number_is : (b c : Bool) (v n : ℕ) → cond (b && c) (Some v) None ≡ Some n → (b ≡ true) × (c ≡ true) × (v ≡ n)
number_is true true v n e = (refl, refl, cc)
number_is true false v n e = absurd cc
number_is false c v n e = absurd cc

pub number_of_is : (limit : ℕ) (word : List ℕ) (n : ℕ) → number_of limit word ≡ Some n → (word ≡ decimal n) × (n ≤ limit)
unfolding number_of
number_of_is limit word n e =
    let parts =
    number_is (bytes_eq word (decimal (digits_value 10 word))) (nat_le (digits_value 10 word) limit) (digits_value 10 word) n e in (
      (bytes_eq-Decides word (decimal (digits_value 10 word))).0 parts.0 ∙ ap decimal parts.2,
      rw (← parts.2) (leb-true (digits_value 10 word) limit parts.1),
    )

none_by : (o : Option ℕ) → ((n : ℕ) → o ≡ Some n → ⊥) → o ≡ None
none_by None never = refl
none_by (Some n) never = absurd (never n refl)

-- what is a number if and only if a word spells one
pub number_of_exact : (limit : ℕ) (word : List ℕ) (r : Option ℕ) → limit < 2 ^ 64 → IfSome r (λ n. (word ≡ decimal n) × (n ≤ limit))
    → IfNone r ((n : ℕ) → n ≤ limit → word ≡ decimal n → ⊥) → r ≡ number_of limit word
number_of_exact limit word (Some n) small some none = sym (number_of_some limit word n (omega (arith, some.1)) some.0 some.1)
number_of_exact limit word None small some none =
    sym (none_by (number_of limit word) (λ n e. let is = number_of_is limit word n e in none n is.1 is.0))

pub number_of_fits : (limit : ℕ) (word : List ℕ) (r : Option ℕ)
    → IfSome r (λ n. (word ≡ decimal n) × (n ≤ limit)) → IfSome r (λ n. n ≤ limit)
number_of_fits limit word (Some n) some = some.1
number_of_fits limit word None some = tt

-- a digit is a number's word
pub digit_read : (b : ℕ) → 48 ≤ b → b ≤ 57 → Some (b - 48) ≡ number_of small (b ∷ [])
digit_read b low high =
    let back : 48 + (b - 48) ≡ b = omega arith in
    let word : b ∷ [] ≡ decimal (b - 48) = rw (decimal_digit (b - 48) (omega arith), back) refl in
    sym (number_of_some small (b ∷ []) (b - 48) (omega arith) word (omega arith))

-- a number after a letter
lettered : (b letter : ℕ) (digits rest : List ℕ) → b ≡ letter → digits ≡ rest → b ∷ digits ≡ letter ∷ rest
lettered b letter digits rest e f = cc

behind_by : (t : Bool) (b letter n : ℕ) (digits : List ℕ) → eqb b letter ≡ t → cond t (number_of small digits) None ≡ Some n
    → (b ∷ digits ≡ letter ∷ decimal n) × (n ≤ small)
behind_by true b letter n digits is e =
    let read = number_of_is small digits n e in
    (lettered b letter digits (decimal n) (eqb-true b letter is) read.0, read.1)
behind_by false b letter n digits is e = absurd cc

pub behind_is : (letter : ℕ) (word : List ℕ) (n : ℕ) → number_behind letter word ≡ Some n → (word ≡ letter ∷ decimal n) × (n ≤ small)
unfolding number_behind
behind_is letter [] n e = absurd cc
behind_is letter (b ∷ digits) n e = behind_by (eqb b letter) b letter n digits refl e

pub behind_again : (letter n : ℕ) → n ≤ small → number_behind letter (letter ∷ decimal n) ≡ Some n
unfolding number_behind
behind_again letter n fits =
    let same : eqb letter letter ≡ true = (Decides-eqb letter letter).1 refl in
    rw (same, number_of_some small (decimal n) n (omega (arith, fits)) refl fits) refl
