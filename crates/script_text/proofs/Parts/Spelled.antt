-- The words of a line: no space or line feed is in them, and they are short.
use Rattle.std.proofs.Common.{◌≡◌, ◌^◌, ◌<◌, ◌≤◌, ◌∷◌, ◌∙◌}
use Rattle.std.proofs.Common.{ℕ, Bool, true, false, eqb, List, [], length, refl, ap, arith}
use Rattle.std.specs.Prelude.{◌&&◌, nat_lt, nat_le}
use Rattle.std.specs.List.{All}
use Rattle.std.specs.Fmt.{decimal}
use Rattle.std.specs.Str.Parse.{AllDigits}
use Rattle.std.proofs.lemmas.Bool.{ltb-true, leb-true, ne_eqb}
use Rattle.std.proofs.lemmas.Fmt.{decimal_is_IsNumeral, length-decimal-le}
use Rattle.std.proofs.lemmas.List.Elements.{All-nil, All-cons, All-head, All-tail, All-append, All-weaker}
use Rattle.std.proofs.lemmas.List.Splits.{slice_split_at, slice_split_none}
use Rattle.std.proofs.lemmas.Str.Parse.{digit_from_value}
use Rattle.script_text.specs.Reading.{small, large}
use Rattle.script_text.specs.Spelling.{spaced}
use Rattle.script_text.specs.Lines.{words_of}

-- a word has no space and no line feed, and at most 21 bytes
pub record IsWord (w : List ℕ) : Type 0 where
  pub clear : All (λ b. 32 < b) w
  pub short : length w ≤ 21

abbrev pub AreWords : List (List ℕ) → Type 0
AreWords ws = All IsWord ws

abbrev pub is_clear : List ℕ → Bool
is_clear [] = true
is_clear (b ∷ w) = nat_lt 32 b && is_clear w

pub both_true : (b d : Bool) → (b && d) ≡ true → (b ≡ true) × (d ≡ true)
both_true true d e = (refl, e)
both_true false d e = absurd cc

clear_by : (w : List ℕ) → is_clear w ≡ true → All (λ b. 32 < b) w
clear_by [] e = All-nil (λ b. 32 < b)
clear_by (b ∷ w) e =
    let parts = both_true (nat_lt 32 b) (is_clear w) e in
    All-cons (λ b. 32 < b) b w (ltb-true 32 b parts.0) (clear_by w parts.1)

-- a verb
pub literal : (w : List ℕ) → is_clear w ≡ true → nat_le (length w) 21 ≡ true → IsWord w
literal w clear short = record { clear = clear_by w clear; short = leb-true (length w) 21 short }

digits_clear : (w : List ℕ) → AllDigits 10 w → All (λ b. 32 < b) w
digits_clear [] digits = All-nil (λ b. 32 < b)
digits_clear (b ∷ w) digits = let range = digit_from_value b digits.0 in All-cons (λ b. 32 < b) b w (omega arith) (digits_clear w digits.1)

decimal_clear : (n : ℕ) → n < 2 ^ 64 → All (λ b. 32 < b) (decimal n)
decimal_clear n fits = digits_clear (decimal n) (decimal_is_IsNumeral n fits).0.1

pub number_short : (n : ℕ) → n ≤ large → length (decimal n) ≤ 20
number_short n fits = length-decimal-le 20 n (omega arith) (omega arith) (omega arith)

pub number_word : (n : ℕ) → n ≤ large → IsWord (decimal n)
number_word n fits = record { clear = decimal_clear n (omega arith); short = omega (arith, number_short n fits) }

pub small_word : (n : ℕ) → n ≤ small → IsWord (decimal n)
small_word n fits = number_word n (omega arith)

-- a letter and a number
pub lettered : (letter n : ℕ) → 32 < letter → n ≤ large → IsWord (letter ∷ decimal n)
lettered letter n above fits =
    let short : length (decimal n) ≤ 20 = number_short n fits in
    record { clear = All-cons (λ b. 32 < b) letter (decimal n) above (decimal_clear n (omega arith)); short = omega arith }

pub word1 : (a : List ℕ) → IsWord a → AreWords (a ∷ [])
word1 a p = All-cons IsWord a [] p (All-nil IsWord)

pub word2 : (a b : List ℕ) → IsWord a → IsWord b → AreWords (a ∷ b ∷ [])
word2 a b p q = All-cons IsWord a (b ∷ []) p (word1 b q)

pub word3 : (a b c : List ℕ) → IsWord a → IsWord b → IsWord c → AreWords (a ∷ b ∷ c ∷ [])
word3 a b c p q r = All-cons IsWord a (b ∷ c ∷ []) p (word2 b c q r)

pub word4 : (a b c d : List ℕ) → IsWord a → IsWord b → IsWord c → IsWord d → AreWords (a ∷ b ∷ c ∷ d ∷ [])
word4 a b c d p q r s = All-cons IsWord a (b ∷ c ∷ d ∷ []) p (word3 b c d q r s)

no_byte : (n c : ℕ) (w : List ℕ) → c ≤ n → All (λ b. n < b) w → All (λ b. eqb b c ≡ false) w
no_byte n c w le above = All-weaker (λ b. n < b) (λ b. eqb b c ≡ false) (λ b more. ne_eqb b c (λ e. absurd (omega arith))) w above

-- words parted by spaces are found again
pub words_again : (w : List ℕ) (ws : List (List ℕ)) → AreWords (w ∷ ws) → words_of (spaced (w ∷ ws)) ≡ w ∷ ws
words_again w [] words = slice_split_none (λ b. eqb b 32) w (no_byte 32 32 w (omega arith) (All-head IsWord w [] words).clear)
words_again w (x ∷ ws) words =
    slice_split_at (λ b. eqb b 32) w 32 (spaced (x ∷ ws)) (no_byte 32 32 w (omega arith) (All-head IsWord w (x ∷ ws) words).clear) refl
    ∙ ap (λ (vs : List (List ℕ)). w ∷ vs) (words_again x ws (All-tail IsWord w (x ∷ ws) words))

above_space : (w : List ℕ) → All (λ b. 32 < b) w → All (λ b. 31 < b) w
above_space w above = All-weaker (λ b. 32 < b) (λ b. 31 < b) (λ b more. omega arith) w above

line_above : (w : List ℕ) (ws : List (List ℕ)) → AreWords (w ∷ ws) → All (λ b. 31 < b) (spaced (w ∷ ws))
line_above w [] words = above_space w (All-head IsWord w [] words).clear
line_above w (x ∷ ws) words =
    All-append (λ b. 31 < b) w (32 ∷ spaced (x ∷ ws)) (above_space w (All-head IsWord w (x ∷ ws) words).clear)
    (All-cons (λ b. 31 < b) 32 (spaced (x ∷ ws)) (omega arith) (line_above x ws (All-tail IsWord w (x ∷ ws) words)))

-- no line feed is among the words of a line
pub no_feed : (w : List ℕ) (ws : List (List ℕ)) → AreWords (w ∷ ws) → All (λ b. eqb b 10 ≡ false) (spaced (w ∷ ws))
no_feed w ws words = no_byte 31 10 (spaced (w ∷ ws)) (omega arith) (line_above w ws words)
