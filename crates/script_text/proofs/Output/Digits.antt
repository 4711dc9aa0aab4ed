-- How many digits a number has, and where they are put.
use Rattle.std.proofs.Common.{◌≡◌, ◌+◌, ◌*◌, ◌/◌, ◌%◌, ◌^◌, ◌<◌, ◌≤◌, ◌∷◌, ◌++◌, ◌∙◌}
use Rattle.std.proofs.Common.{ℕ, zero, suc, List, [], length, take, drop, sym, ap, append_assoc, arith}
use Rattle.std.specs.Fmt.{decimal}
use Rattle.std.proofs.Math.Nat.{pow-succ'}
use Rattle.std.proofs.Math.Seq.{take-append_seam}
use Rattle.std.proofs.lemmas.Fmt.{decimal_step, decimal_nonempty, length-decimal-le}
use Rattle.std.proofs.lemmas.List.{length-append, length-take-le, take-append-drop}

ten_power : (k : ℕ) → 0 < 10 ^ k
ten_power zero = omega arith
ten_power (suc k) = let more : 0 < 10 ^ k = ten_power k in let e : 10 ^ suc k ≡ 10 * 10 ^ k = pow-succ' 10 k in omega arith

-- a number that is no less than a power of ten has more digits than its exponent
pub more_digits : (k n : ℕ) → 10 ^ k ≤ n → n < 2 ^ 64 → k < length (decimal n)
more_digits zero n le small = decimal_nonempty n small
more_digits (suc k) n le small =
    let power : 10 ^ suc k ≡ 10 * 10 ^ k = pow-succ' 10 k in
    let some : 0 < 10 ^ k = ten_power k in
    let many : 10 ≤ n = omega arith in
    let rest : k < length (decimal (n / 10)) = more_digits k (n / 10) (omega arith) (omega arith) in
    let all : length (decimal n) ≡ length (decimal (n / 10)) + 1 =
    ap length (decimal_step n many small) ∙ length-append (decimal (n / 10)) ((48 + n % 10) ∷ []) in
    omega arith

-- between two powers of ten
pub digits_are : (k n : ℕ) → 10 ^ k ≤ n → n < 10 ^ (k + 1) → n < 2 ^ 64 → k + 1 ≡ length (decimal n)
digits_are k n low high small =
    let some : k < length (decimal n) = more_digits k n low small in
    let most : length (decimal n) ≤ k + 1 = length-decimal-le (k + 1) n (omega arith) high small in
    omega arith

-- what is written after the first bytes, and nothing before them
pub put_behind : (old new text : List ℕ) (at start end : ℕ) → at ≤ length old → start + length text ≡ end → end ≡ at + length text
    → drop start new ≡ text ++ drop end old → take start new ≡ take start old → take end new ≡ take at old ++ text
put_behind old new text at start end within ends same written before =
    let here : start ≡ at = omega arith in
    let long : length (take at old ++ text) ≡ end =
    length-append (take at old) text ∙ (let first = length-take-le at old within in omega arith) in
    let whole : new ≡ (take at old ++ text) ++ drop end old =
    sym (take-append-drop start new) ∙ ap (λ (t : List ℕ). t ++ drop start new) before ∙ ap (λ (t : List ℕ). take start old ++ t) written
    ∙ ap (λ (k : ℕ). take k old ++ (text ++ drop end old)) here ∙ sym (append_assoc (take at old) text (drop end old)) in
    ap (λ (t : List ℕ). take end t) whole ∙ ap (λ (k : ℕ). take k ((take at old ++ text) ++ drop end old)) (sym long)
    ∙ take-append_seam (take at old ++ text) (drop end old)
