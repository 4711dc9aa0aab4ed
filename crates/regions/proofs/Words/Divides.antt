-- Division by a variable, and cards within regions.
use Rattle.regions.proofs.Common.{◌≡◌, ℕ, zero, suc, ◌+◌, ◌-◌, ◌*◌, ◌/◌, ◌%◌, ◌<◌, ◌≤◌, ⊎_elim, refl, sym, ap, ◌∙◌, arith, cases_lt}
use Rattle.regions.proofs.Common.{div-mul-add, mul-le}

-- k * n ≤ a < k * n + n says that a / n is k
pub div_is : (a n k : ℕ) → k * n ≤ a → a < k * n + n → a / n ≡ k
div_is a n k low high =
    let e : k * n + (a - k * n) ≡ a = omega arith in
    ap (λ (x : ℕ). x / n) (sym e) ∙ div-mul-add k n (a - k * n) (omega arith)

pub div_low : (a n k : ℕ) → 0 < n → a / n ≡ k → k * n ≤ a
div_low a n k z e = let f : a / n * n + a % n ≡ a = omega arith in rw (← e) (omega arith)

pub div_high : (a n k : ℕ) → 0 < n → a / n ≡ k → a < k * n + n
div_high a n k z e = let f : a / n * n + a % n ≡ a = omega arith in rw (← e) (omega arith)

-- a card has words where a region has
pub card_has_words : (len size q : ℕ) → 0 < size → size ≡ q * len → 0 < len
card_has_words zero size q l e = absurd (omega arith)
card_has_words (suc len) size q l e = omega arith

-- a card lies in one region
pub card_region : (w len size q card : ℕ) → 0 < size → size ≡ q * len → w / len ≡ card → w / size ≡ card * len / size
card_region w len size q card l e d =
    let z = card_has_words len size q l e in
    let low = div_low w len card z d in
    let high = div_high w len card z d in
    let k : ℕ = card * len / size in
    let below = div_low (card * len) size k l refl in
    let above = div_high (card * len) size k l refl in
    let m : ℕ = k * q + q in
    let whole : m * len ≡ k * size + size = rw e (omega arith) in
    let less : card < m =
    ⊎_elim (λ b. b) (λ b. absurd (let p = mul-le m len card len b (omega arith) in omega (arith, p, whole, above))) (cases_lt card m) in
    let p = mul-le (suc card) len m len less (omega arith) in
    div_is w size k (omega arith) (omega (arith, p, whole))

-- the words of a card are words of the regions
pub card_within : (card len size q n : ℕ) → size ≡ q * len → card < n * q → card * len + len ≤ n * size
card_within card len size q n e h =
    let p = mul-le (suc card) len (n * q) len h (omega arith) in
    let whole : n * q * len ≡ n * size = rw e (omega arith) in
    omega (arith, p, whole)
