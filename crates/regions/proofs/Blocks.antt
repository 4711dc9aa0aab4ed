-- Which numbers are in the same block of a power of two: those that differ in no bit above a block's.
use Rattle.std.proofs.Common.{◌≡◌, ◌≢◌, ◌+◌, ◌*◌, ◌/◌, ◌^◌, ◌<◌, ◌≤◌, ◌∙◌, ℕ, sym, ap, subst, arith}
use Rattle.std.proofs.Math.Nat.{div-eq_of_lt, lt-div-mul-add}
use Rattle.std.proofs.lemmas.Nat.{xor_shr}
use lib.Bits.{bit_xor, xor_assoc, xor_self, xor_zero_r, xor_zero_l}

same_from_xor : (a b : ℕ) → bit_xor a b ≡ 0 → a ≡ b
same_from_xor a b e =
    sym (xor_zero_r a) ∙ ap (λ (x : ℕ). bit_xor a x) (sym (xor_self b)) ∙ sym (xor_assoc a b b) ∙ ap (λ (x : ℕ). bit_xor x b) e
    ∙ xor_zero_l b

pub same_block : (a b size k : ℕ) → size ≡ 2 ^ k → bit_xor a b < size → a / size ≡ b / size
same_block a b size k e less =
    same_from_xor (a / size) (b / size)
    (ap (λ (n : ℕ). bit_xor (a / n) (b / n)) e ∙ sym (xor_shr a b k) ∙ ap (λ (n : ℕ). bit_xor a b / n) (sym e) ∙ div-eq_of_lt less)

-- a number in the first block is smaller than a block
first_is_small : (n size : ℕ) → 0 < size → n / size ≡ 0 → n < size
first_is_small n size some e =
    let below : n < 0 * size + size = subst (λ (m : ℕ). n < m * size + size) e (lt-div-mul-add {a = n} {b = size} some) in
    omega (arith, below)

pub other_block : (a b size k : ℕ) → size ≡ 2 ^ k → 0 < size → size ≤ bit_xor a b → a / size ≢ b / size
other_block a b size k e some more same =
    let zero : bit_xor a b / size ≡ 0 =
    ap (λ (n : ℕ). bit_xor a b / n) e ∙ xor_shr a b k ∙ ap (λ (n : ℕ). bit_xor (a / n) (b / n)) (sym e)
    ∙ ap (λ (x : ℕ). bit_xor x (b / size)) same ∙ xor_self (b / size) in
    let less = first_is_small (bit_xor a b) size some zero in
    omega (arith, less, more)
