-- Numbers in columns.
use Rattle.std.proofs.Common.{◌≡◌, ◌-◌, ◌+◌, ◌/◌, ◌==◌, ◌<◌, ◌≤◌, ℕ, zero, suc, [], ◌++◌, ap, arith}
use Rattle.heap_view.specs.Census.{padding, space_if}

pad_step : (k m n : ℕ) → k ≡ suc m → padding k n ≡ space_if (n / 10 == 0) ++ padding m (n / 10)
unfolding padding
pad_step k m n e = ap (λ (j : ℕ). padding j n) e

-- one place more
pub pad_more : (end place n : ℕ) → place < end → padding (end - place) n ≡ space_if (n / 10 == 0) ++ padding (end - (place + 1)) (n / 10)
pad_more end place n less = pad_step (end - place) (end - (place + 1)) n (omega (arith, less))

-- and after the last one
pub pad_over : (end place n : ℕ) → end ≤ place → padding (end - place) n ≡ []
unfolding padding
pad_over end place n past = ap (λ (j : ℕ). padding j n) (let none : end - place ≡ zero = omega (arith, past) in none)
