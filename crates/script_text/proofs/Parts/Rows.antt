-- The words of what a grammar has: no space and no line feed is in them, none is an equals sign, and they are short.
use Rattle.std.proofs.Common.{◌≡◌, ◌≤◌, ◌+◌, ◌∷◌}
use Rattle.std.proofs.Common.{ℕ, zero, suc, Bool, true, false, not, List, [], length, refl, arith}
use Rattle.std.specs.Prelude.{◌&&◌, nat_le, codes}
use Rattle.std.specs.Fmt.{decimal}
use Rattle.std.specs.Str.{bytes_eq}
use Rattle.std.proofs.lemmas.Bool.{leb-true}
use Rattle.std.proofs.lemmas.Fmt.{length-decimal-le}
use Rattle.std.proofs.lemmas.List.{length-append}
use Rattle.std.proofs.lemmas.List.Elements.{All-nil, All-cons}
use Rattle.heap_steps.specs.Forms.{Row}
use Rattle.heap_steps.specs.declared.form.Operand.{Operand}
use Rattle.heap_steps.specs.declared.form.Operand.TheVariants as operands
use Rattle.script_text.specs.Reading.{small}
use Rattle.script_text.specs.Fits.{OperandFits, OperandsFit}
use Rattle.script_text.specs.Spelling.{operand_word, operand_words, spaced}
use Rattle.script_text.proofs.Parts.Spelled.{both_true, IsWord, AreWords, is_clear}
use Rattle.script_text.proofs.Parts.Spelled.{literal, lettered, number_word, number_short, small_word}

-- at most so many bytes are in the word of an operand, and in those of operands with the spaces before them
abbrev pub most_bytes : Operand → ℕ
most_bytes operands.Small = 10
most_bytes operands.Byte = 3
most_bytes operands.Large = 20
most_bytes _ = 11

abbrev pub room : List Operand → ℕ
room [] = 0
room (k ∷ ks) = suc (most_bytes k + room ks)

-- a verb whose line is a good one: with a record's count, actor and reply it has at most 120 bytes
abbrev pub is_good : Row → Bool
is_good r = is_clear r.word && (not (bytes_eq r.word (codes "=")) && (nat_le (length r.word + room r.operands) 49
    && (nat_le (length r.operands) 4 && nat_le (length r.word) 21)))

pub record IsGood (r : Row) : Type 0 where
  pub word : IsWord r.word
  pub plain : bytes_eq r.word (codes "=") ≡ false
  pub short : length r.word + room r.operands ≤ 49
  pub few : length r.operands ≤ 4

not_true : (b : Bool) → not b ≡ true → b ≡ false
not_true true e = absurd cc
not_true false e = refl

pub good_is : (r : Row) → is_good r ≡ true → IsGood r
good_is r e =
    let first = both_true _ _ e in
    let second = both_true _ _ first.1 in
    let third = both_true _ _ second.1 in
    let fourth = both_true _ _ third.1 in
    record {
      word = literal r.word first.0 fourth.1;
      plain = not_true _ second.0;
      short = leb-true _ 49 third.0;
      few = leb-true _ 4 fourth.0;
    }

-- an operand's word
pub operand_is_word : (k : Operand) (n : ℕ) → OperandFits k n → IsWord (operand_word k n)
operand_is_word operands.Register n fits = lettered 114 n (omega arith) (omega (arith, fits))
operand_is_word operands.Global n fits = lettered 103 n (omega arith) (omega (arith, fits))
operand_is_word operands.Value zero fits = literal (codes "nil") refl refl
operand_is_word operands.Value (suc n) fits = lettered 114 n (omega arith) (omega (arith, fits))
operand_is_word operands.Small n fits = small_word n fits
operand_is_word operands.Byte n fits = small_word n (omega (arith, fits))
operand_is_word operands.Large n fits = number_word n fits

pub small_long : (n : ℕ) → n ≤ small → length (decimal n) ≤ 10
small_long n fits = length-decimal-le 10 n (omega arith) (omega (arith, fits)) (omega (arith, fits))

operand_long : (k : Operand) (n : ℕ) → OperandFits k n → length (operand_word k n) ≤ most_bytes k
operand_long operands.Value zero fits = omega arith
operand_long operands.Value (suc n) fits = let ten = small_long n fits in omega arith
operand_long operands.Small n fits = small_long n fits
operand_long operands.Byte n fits = length-decimal-le 3 n (omega arith) (omega (arith, fits)) (omega (arith, fits))
operand_long operands.Large n fits = number_short n fits
operand_long _ n fits = let ten = small_long n fits in omega arith

-- the words of operands
pub operands_are_words : (ks : List Operand) (ns : List ℕ) → OperandsFit ks ns → AreWords (operand_words ks ns)
operands_are_words [] [] fits = All-nil IsWord
operands_are_words (k ∷ ks) (n ∷ ns) fits =
    All-cons IsWord (operand_word k n) (operand_words ks ns) (operand_is_word k n fits.0) (operands_are_words ks ns fits.1)
operands_are_words _ _ fits = absurd fits

spaced_next : (w x : List ℕ) (ws : List (List ℕ)) → length (spaced (w ∷ x ∷ ws)) ≡ length w + 1 + length (spaced (x ∷ ws))
spaced_next w x ws = omega (arith, length-append w (32 ∷ spaced (x ∷ ws)))

pub operands_long : (w : List ℕ) (ks : List Operand) (ns : List ℕ) → OperandsFit ks ns
    → length (spaced (w ∷ operand_words ks ns)) ≤ length w + room ks
operands_long w [] [] fits = omega arith
operands_long w (k ∷ ks) (n ∷ ns) fits =
    let first = operand_long k n fits.0 in
    let rest = operands_long (operand_word k n) ks ns fits.1 in
    omega (arith, spaced_next w (operand_word k n) (operand_words ks ns))
operands_long w _ _ fits = absurd fits

pub operand_count : (ks : List Operand) (ns : List ℕ) → length (operand_words ks ns) ≤ length ks
operand_count (k ∷ ks) (n ∷ ns) = let rest = operand_count ks ns in omega arith
operand_count _ _ = omega arith
