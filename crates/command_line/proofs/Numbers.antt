-- What the getters of numbers read.
use Rattle.std.proofs.Common.{◌≡◌, ◌∷◌, [], ℕ, Option, None, Some, Bool, true, false, refl, ap}
use Rattle.std.proofs.lemmas.Bool.{ltb-true, lt-ltb}
use Rattle.std.specs.Char.{digit_value}
use Rattle.std.specs.List.{list_all}
use Rattle.std.specs.Prelude.{◌&&◌, ◌<◌, ◌^◌, Result, Ok, Err, nat_lt, option_and_then}
use Rattle.std.specs.Str.Parse.{AllDigits, IsNumeral, ParsesUnsigned, digits_value, without_leading_plus}
use Rattle.clap.proofs.WalkLemmas.{both}
use Rattle.clap.specs.ValueTests.{is_numeral}
use Rattle.clap.specs.Words.{ReadsOne, Text}
use Rattle.command_line.specs.Asked.{number_of}

are_digits : (ds : Text) → AllDigits 10 ds → list_all (λ d. nat_lt (digit_value d) 10) ds ≡ true
are_digits [] h = refl
are_digits (d ∷ ds) h = rw (lt-ltb (digit_value d) 10 h.0) (are_digits ds h.1)

all_digits : (ds : Text) → list_all (λ d. nat_lt (digit_value d) 10) ds ≡ true → AllDigits 10 ds
all_digits [] e = tt
all_digits (d ∷ ds) e =
    let parts = both _ _ e in
    (ltb-true _ _ parts.0, all_digits ds parts.1)

-- a text that is no number, or is too large
no_number : (bits : ℕ) (t : Text)
    → ¬ (IsNumeral 10 (without_leading_plus t) × (digits_value 10 (without_leading_plus t) < 2 ^ bits)) → None ≡ number_of bits t
no_number bits t refuted = go (is_numeral (without_leading_plus t) && nat_lt (digits_value 10 (without_leading_plus t)) (2 ^ bits)) refl
  where
    go : (b : Bool) → is_numeral (without_leading_plus t) && nat_lt (digits_value 10 (without_leading_plus t)) (2 ^ bits) ≡ b
        → None ≡ number_of bits t
    go true e =
        let parts = both _ _ e in
        let digits = both _ _ parts.0 in
        absurd (refuted ((ltb-true _ _ digits.0, all_digits _ digits.1), ltb-true _ _ parts.1))
    go false e = rw e refl

number_read : (E : Type 0) (bits : ℕ) (t : Text) (v : ℕ) → ParsesUnsigned {E = E} bits 10 t (Ok v) → Some v ≡ number_of bits t
number_read E bits t v p = rw (lt-ltb _ _ p.0.0.0, are_digits _ p.0.0.1, lt-ltb _ _ p.0.1) (ap Some p.1)

-- a getter answers the number that the text of an option spells, where there is one
pub reads_number : {E : Type 0} (bits : ℕ) (G : Text → Result ℕ E → Type 0)
    → ((t : Text) (r : Result ℕ E) → G t r → ParsesUnsigned bits 10 t r)
    → (o : Option Text) (r : Option ℕ) → (o ≡ None → r ≡ None) → ((t : Text) → o ≡ Some t → ReadsOne G t r)
    → r ≡ option_and_then (number_of bits) o
reads_number {E} bits G parses None r none value = none refl
reads_number {E} bits G parses (Some t) r none value = go r (value t refl)
  where
    go : (r : Option ℕ) → ReadsOne G t r → r ≡ number_of bits t
    go (Some v) read = number_read E bits t v (parses t (Ok v) read)
    go None read = no_number bits t (parses t (Err read.0) read.1)
