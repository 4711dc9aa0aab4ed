-- The words of a region are a power of two, and whole cards.
use Rattle.std.proofs.Common.{◌≡◌, ℕ, zero, suc, ◌*◌, ◌/◌, ◌%◌, ◌^◌, ◌<◌, ◌≤◌, IsTrue, sym, ap, ◌∙◌, arith, inl, inr}
use Rattle.std.specs.Int.{is_power_of_two}
use Rattle.std.specs.Int.RustNames.{count_ones}
use Rattle.std.proofs.Math.Nat.{pow-succ', mul_assoc, mul-div_cancel}
use lib.Count.{ones_step}
use Rattle.std.proofs.lemmas.Nat.{zero_from_ones, pow_pos}
use Rattle.std.proofs.lemmas.Bool.{eqb-true, cases_lt}

-- one bit is set: the number is a power of two
one_bit : (r n : ℕ) → count_ones n ≡ 1 → 2 ^ r ≤ n → n < 2 * 2 ^ r → n ≡ 2 ^ r
one_bit zero n e l h = omega arith
one_bit (suc r) n e l h =
    let p : 2 ^ suc r ≡ 2 * 2 ^ r = pow-succ' 2 r in
    let step = ones_step n in
    elim (cases_lt (n % 2) 1) [
      | inl b ↦ (let half = one_bit r (n / 2) (omega arith) (omega arith) (omega arith) in omega arith)
      | inr b ↦ (let none = zero_from_ones (n / 2) (omega arith) in
          let some : 2 ^ r ≤ n / 2 = omega arith in
          let positive = pow_pos r in
          absurd (omega arith))
    ]

pub power_is : (n r : ℕ) → IsTrue (is_power_of_two n) → 2 ^ r ≤ n → n < 2 * 2 ^ r → n ≡ 2 ^ r
power_is n r p l h = one_bit r n (eqb-true _ _ p) l h

-- regions of whole cards are a whole number of cards
pub whole_starts : (r w card : ℕ) → 0 < card → w ≡ w / card * card → r * w / card * card ≡ r * w
whole_starts r w card some e =
    let all : r * w ≡ r * (w / card) * card = ap (λ (n : ℕ). r * n) e ∙ sym (mul_assoc r (w / card) card) in
    rw all (ap (λ (n : ℕ). n * card) (mul-div_cancel (r * (w / card)) some))

-- a lower power has a lower exponent
pub short_power : (r n : ℕ) → 2 ^ r < 2 ^ n → r < n
short_power r zero h = absurd (let p = pow_pos r in omega arith)
short_power zero (suc n) h = omega arith
short_power (suc r) (suc n) h =
    let a : 2 ^ suc r ≡ 2 * 2 ^ r = pow-succ' 2 r in
    let b : 2 ^ suc n ≡ 2 * 2 ^ n = pow-succ' 2 n in
    let i = short_power r n (omega arith) in
    omega arith
