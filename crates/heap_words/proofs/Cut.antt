-- Words that are given up from an end on.
use Rattle.std.proofs.Common.{◌≡◌, ◌-◌, ◌≤◌, ◌∷◌, ◌++◌, ℕ, zero, suc, List, [], length, min, take, refl, ap, arith, replicate}
use Rattle.std.proofs.lemmas.List.{length-append, length-take, length-replicate}
use Rattle.heap_words.specs.Memory.{cut_at, memory}

zeros_cut : (end n : ℕ) → replicate {A = ℕ} n 0 ≡ take end (replicate n 0) ++ replicate (n - end) 0
zeros_cut zero n =
    let all : n - zero ≡ n = omega arith in
    rw all refl
zeros_cut (suc end) zero =
    let none : zero - suc end ≡ 0 = omega arith in
    rw none refl
zeros_cut (suc end) (suc n) =
    let less : suc n - suc end ≡ n - end = omega arith in
    rw less (ap (λ (l : List ℕ). 0 ∷ l) (zeros_cut end n))

all_cut : (end n : ℕ) (words : List ℕ) → length words ≤ n
    → take end words ++ replicate (n - length (take end words)) 0
    ≡ take end (words ++ replicate (n - length words) 0) ++ replicate (n - end) 0
all_cut zero n words h =
    let all : n - zero ≡ n = omega arith in
    rw all refl
all_cut (suc end) n [] h =
    let all : n - zero ≡ n = omega arith in
    rw all (zeros_cut (suc end) n)
all_cut (suc end) zero (w ∷ words) h = absurd (omega arith)
all_cut (suc end) (suc n) (w ∷ words) h =
    let cut : suc n - suc (length (take end words)) ≡ n - length (take end words) = omega arith in
    let left : suc n - suc (length words) ≡ n - length words = omega arith in
    let less : suc n - suc end ≡ n - end = omega arith in
    rw (cut, left, less) (ap (λ (l : List ℕ). w ∷ l) (all_cut end n words (omega arith)))

-- so many words of which these are written, as some of them are given up
pub memory_cut : (end n : ℕ) (words : List ℕ) → length words ≤ n → memory (take end words) n ≡ cut_at (memory words n) end
memory_cut end n words h =
    let whole : length (words ++ replicate {A = ℕ} (n - length words) 0) ≡ n =
    omega (arith, length-append words (replicate {A = ℕ} (n - length words) 0), length-replicate {A = ℕ} (n - length words) 0) in
    let all = all_cut end n words h in
    let written = length-take end words in
    rw (whole, written) (ap (λ (l : List ℕ). record { all = l; written = min end (length words) }) (rw written at all))
