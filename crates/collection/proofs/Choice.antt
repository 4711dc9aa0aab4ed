-- A pause that frees no region took what is more than half live.
use Rattle.std.proofs.Common.{◌≡◌, ◌+◌, ◌*◌, ◌/◌, ◌<◌, ◌≤◌, ◌∷◌, ℕ, suc, zero, List, [], length, get_or, All, inl, inr, refl, ap, arith}
use Rattle.std.proofs.Math.Nat.{suc-mul, lt_of_mul-lt-mul_right}
use Rattle.std.proofs.lemmas.Bool.{cases_lt}
use Rattle.std.proofs.lemmas.Nat.{mul-le}
use Rattle.std.proofs.lemmas.List.Elements.{All-head, All-tail}
use Rattle.std.proofs.lemmas.List.Sums.{sum_by-cons, sum_by-le}
use Rattle.region_choice.specs.declared.LiveRow.{LiveRow}
use Rattle.region_choice.specs.Choice.{live_sum}
use Rattle.region_choice.proofs.Greedy.{le_from_order}
use Rattle.collection.specs.Space.{FreesNone}

-- rows of more than half a region each
half_each : (words : ℕ) (xs : List LiveRow) → All (λ row. words < 2 * row.live_bound) xs → length xs * words ≤ 2 * live_sum xs
half_each words [] h = omega arith
half_each words (x ∷ xs) h =
    let a = All-head (λ (row : LiveRow). words < 2 * row.live_bound) x xs h in
    let b = half_each words xs (All-tail (λ (row : LiveRow). words < 2 * row.live_bound) x xs h) in
    omega (arith, sum_by-cons (λ (row : LiveRow). row.live_bound) x xs, suc-mul (length xs) words, a, b)

-- half of two regions or more is a region
half_free : (words frees : ℕ) → 2 ≤ frees → words ≤ frees * words / 2
half_free words (suc (suc n)) h = let e = suc-mul (suc n) words in let f = suc-mul n words in omega (arith, e, f)
half_free words _ h = absurd (omega arith)

-- where so many rows have more than half of their words, and none more than r, that is more than half too
above_half : (words k sum r : ℕ) → k * words < 2 * sum → sum ≤ k * r → words < 2 * r
above_half words k sum r h s =
    let e : 2 * (k * r) ≡ 2 * r * k = omega arith in
    let f : k * words ≡ words * k = omega arith in
    lt_of_mul-lt-mul_right k (omega (arith, h, s, e, f))

module _ (words frees taken copied : ℕ) (chosen rest : List LiveRow) (n : FreesNone words frees chosen rest taken copied) where
  -- each of the others is no less live than any chosen one
  low : (i : ℕ) (d : LiveRow) → i < length rest → All (λ (row : LiveRow). row.live_bound ≤ (get_or rest i d).live_bound) chosen
  low i d l j e m = le_from_order _ _ _ (n.first j e m i d l)

  more : 2 ≤ length chosen → length chosen * words < 2 * live_sum chosen
  more two =
      let g = n.gain in
      let f = n.full (omega arith) in
      let m = mul-le (length chosen) words taken words g (omega arith) in
      let w = n.within in
      omega (arith, f, m, w)

  -- the others are more than half live, each
  others_more : 2 ≤ length chosen → All (λ (row : LiveRow). words < 2 * row.live_bound) rest
  others_more two i d l =
      let s = sum_by-le (λ (row : LiveRow). row.live_bound) (get_or rest i d).live_bound chosen (low i d l) in
      above_half words (length chosen) (live_sum chosen) (get_or rest i d).live_bound (more two) s

others_none : (words frees taken copied : ℕ) (rest : List LiveRow) → FreesNone words frees [] rest taken copied → length rest ≡ 0
others_none words frees taken copied [] n = refl
others_none words frees taken copied (r ∷ rs) n =
    let a = n.next 0 r (omega arith) in
    let b = n.below 0 r (omega arith) in
    let h = half_free words frees n.some in
    absurd (omega (arith, a, b, h))

others_one : (words frees taken copied : ℕ) (c : LiveRow) (rest : List LiveRow) → FreesNone words frees (c ∷ []) rest taken copied
    → All (λ (row : LiveRow). words < 2 * row.live_bound) rest
others_one words frees taken copied c rest n i d l =
    let a = n.next i d l in
    let b = low words frees taken copied (c ∷ []) rest n i d l 0 c (omega arith) in
    let h = half_free words frees n.some in
    omega (arith, a, b, h)

-- something was copied where one is taken
some_copied : (words frees taken copied : ℕ) (c : LiveRow) (cs rest : List LiveRow) → FreesNone words frees (c ∷ cs) rest taken copied
    → 0 < live_sum (c ∷ cs)
some_copied words frees taken copied c cs rest n = elim (cases_lt 0 copied) [
  | inl p ↦ (let w = n.within in omega (arith, p, w))
  | inr z ↦ (let e = n.none (omega arith) in let g = n.gain in absurd (omega (arith, e, g)))
]

pub choice : (words frees taken copied full : ℕ) (chosen rest : List LiveRow) → FreesNone words frees chosen rest taken copied
    → 2 ≤ length chosen + length rest + full
    → (length chosen + length rest + full) * words < 2 * (live_sum chosen + live_sum rest + full * words)
choice words frees taken copied full [] [] n two =
    let p = n.positive in
    let m = mul-le 2 words full words (omega arith) (omega arith) in
    omega (arith, p, m)
choice words frees taken copied full [] (r ∷ rs) n two = absurd (let e = others_none words frees taken copied (r ∷ rs) n in omega arith)
choice words frees taken copied (suc full) (c ∷ []) [] n two =
    let p = some_copied words frees taken copied c [] [] n in
    let e = suc-mul full words in
    omega (arith, p, e)
choice words frees taken copied zero (c ∷ []) [] n two = absurd (omega arith)
choice words frees taken copied full (c ∷ []) (r ∷ rs) n two =
    let o = others_one words frees taken copied c (r ∷ rs) n in
    let h = half_each words rs (All-tail (λ (row : LiveRow). words < 2 * row.live_bound) r rs o) in
    let a = n.next 0 r (omega arith) in
    let f = half_free words frees n.some in
    let s = sum_by-cons (λ (row : LiveRow). row.live_bound) r rs in
    pair words c.live_bound r.live_bound (length rs) (live_sum rs) full (live_sum (r ∷ rs)) (omega (arith, a, f)) h s
  where
    pair : (words c r k sum full all : ℕ) → words < c + r → k * words ≤ 2 * sum → all ≡ r + sum
        → (1 + suc k + full) * words < 2 * (0 + c + all + full * words)
    pair words c r k sum full all a h s = omega (arith, a, h, s)
choice words frees taken copied full (c ∷ b ∷ cs) rest n two =
    let h = half_each words rest (others_more words frees taken copied (c ∷ b ∷ cs) rest n (omega arith)) in
    let m = more words frees taken copied (c ∷ b ∷ cs) rest n (omega arith) in
    sum words (length (c ∷ b ∷ cs)) (length rest) full (live_sum (c ∷ b ∷ cs)) (live_sum rest) m h
  where
    sum : (words k l full a b : ℕ) → k * words < 2 * a → l * words ≤ 2 * b → (k + l + full) * words < 2 * (a + b + full * words)
    sum words k l full a b m h = omega (arith, m, h)

-- and so what is there after it is: the destinations in place of what was chosen
pub choice_after : (words frees taken copied full : ℕ) (chosen rest : List LiveRow) → FreesNone words frees chosen rest taken copied
    → (length chosen ≡ 1 → live_sum chosen < words) → 2 ≤ taken + length rest + full
    → (taken + length rest + full) * words < 2 * (live_sum chosen + live_sum rest + full * words)
choice_after words frees taken copied full [] rest n single two =
    let e = others_none words frees taken copied rest n in
    let z = n.none (let w = n.within in omega (arith, w)) in
    let h = choice words frees taken copied full [] rest n (omega (arith, e, z, two)) in
    let same : taken + length rest + full ≡ 0 + length rest + full = omega (arith, z) in
    let i = ap (λ (m : ℕ). m * words) same in
    omega (arith, h, i)
choice_after words frees taken copied full (c ∷ []) rest n single two = elim (cases_lt 1 taken) [
  | inl more ↦
      (let f = n.full (omega (arith, more)) in
      let s = single refl in
      let w = n.within in
      let m = mul-le 2 words taken words (omega (arith, more)) (omega arith) in
      absurd (omega (arith, f, s, w, m)))
  | inr few ↦
      (let g = n.gain in
      let one : taken ≡ 1 = omega (arith, few, g) in
      let h = choice words frees taken copied full (c ∷ []) rest n (omega (arith, one, two)) in
      let i = ap (λ (m : ℕ). (m + length rest + full) * words) one in
      omega (arith, h, i))
]
choice_after words frees taken copied full (c ∷ b ∷ cs) rest n single two =
    let h = half_each words rest (others_more words frees taken copied (c ∷ b ∷ cs) rest n (omega arith)) in
    let g = n.gain in
    let f = n.full (omega (arith, g)) in
    let w = n.within in
    sum words taken (length rest) full (live_sum (c ∷ b ∷ cs)) (live_sum rest) (omega (arith, f, w)) h
  where
    sum : (words k l full a b : ℕ) → k * words < 2 * a → l * words ≤ 2 * b → (k + l + full) * words < 2 * (a + b + full * words)
    sum words k l full a b m h = omega (arith, m, h)
