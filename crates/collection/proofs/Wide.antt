-- Objects that have runs of regions have more than half of their words.
use Rattle.std.proofs.Common.{◌≡◌, ◌+◌, ◌*◌, ◌/◌, ◌<◌, ◌≤◌, ◌⊎◌, ◌∙◌, ℕ, suc, zero, inl, inr, refl, ap, arith}
use Rattle.std.proofs.lemmas.Nat.{mul-le}
use Rattle.std.proofs.Math.Nat.{suc-mul}
use Rattle.heap_model.specs.Heap.{Stored}
use Rattle.regions.specs.Tiles.{Object, tile_size}
use Rattle.regions.specs.Table.{Table, Region, Free, Ordinary, First, Rest, kind_of, nth_region}
use Rattle.regions.specs.Shaped.{IsShaped}
use Rattle.regions.specs.declared.row.Kind.{Kind}
use Rattle.regions.specs.declared.row.Kind.TheVariants as kinds
use Rattle.regions.proofs.LongRuns.Blocks.{kind_is}
use Rattle.regions.proofs.Tiles.ShapedMade.{first_object}
use Rattle.mark_bitmap.proofs.Ranges.{div_is}
use Rattle.step_core.specs.Stands.{AreWide}
use Rattle.step_core.specs.Measures.{sum_below}
use Rattle.collection.specs.Space.{run_one}

-- the words of the object that has a run of regions, at its first region
abbrev pub first_words : Region → ℕ
first_words (First s) = tile_size (Object s)
first_words _ = 0

one_at_most : (k : Kind) → run_one k ≤ 1
one_at_most kinds.Free = omega arith
one_at_most _ = omega arith

-- so many more numbers add at most one each
pub few_more : (f : ℕ → ℕ) → ((k : ℕ) → f k ≤ 1) → (m n : ℕ) → sum_below f (n + m) ≤ sum_below f n + m
few_more f one zero n = let e : n + 0 ≡ n = omega arith in let a = ap (sum_below f) e in omega (arith, a)
few_more f one (suc m) n =
    let e : n + suc m ≡ suc (n + m) = omega arith in
    let a = ap (sum_below f) e in
    let b = few_more f one m n in
    let d = one (n + m) in
    omega (arith, a, b, d)

no_less : (f : ℕ → ℕ) (m n : ℕ) → sum_below f n ≤ sum_below f (n + m)
no_less f zero n = let e : n + 0 ≡ n = omega arith in let a = ap (sum_below f) e in omega (arith, a)
no_less f (suc m) n =
    let e : n + suc m ≡ suc (n + m) = omega arith in
    let a = ap (sum_below f) e in
    let b = no_less f m n in
    omega (arith, a, b)

-- a first region and some later ones, of all of which the object has more than half
run_ends : (words size later before runs firsts all : ℕ) → 0 < later → later * words < size
    → (before ≡ 0) ⊎ (before * words < 2 * firsts) → runs ≤ before + suc later → firsts + size ≤ all → runs * words < 2 * all
run_ends words size later before runs firsts all some reaches c few more =
    let a = suc-mul later words in
    let b = mul-le 1 words later words some (omega arith) in
    let d = mul-le runs words (before + suc later) words few (omega arith) in
    let e : (before + suc later) * words ≡ before * words + suc later * words = omega arith in
    let f : before * words ≤ 2 * firsts = elim c [
      | inl none ↦ (let z = ap (λ (m : ℕ). m * words) none in omega (arith, z))
      | inr less ↦ omega (arith, less)
    ] in
    omega (arith, a, b, d, e, f, reaches, more)

module _ (t : Table) (shape : IsShaped t) (wide : AreWide t) where
  abbrev words : ℕ
  words = t.words_per_region

  abbrev runs : ℕ → ℕ
  runs n = sum_below (λ k. run_one (kind_of t k)) n

  abbrev firsts : ℕ → ℕ
  firsts n = sum_below (λ k. first_words (nth_region t k)) n

  abbrev IsWideBelow : ℕ → Type 0
  IsWideBelow n = (runs n ≡ 0) ⊎ (runs n * words < 2 * firsts n)

  over : (k : ℕ) (s : Stored) → nth_region t k ≡ First s → words < 2 * tile_size (Object s)
  over k s e =
      let z = shape.positive in
      let row : k * words / words ≡ k = div_is (k * words) words k (omega arith) (omega (arith, z)) in
      wide (k * words) s (first_object t k s z e) (ap (kind_of t) row ∙ kind_is t k (First s) e)

  other : (n : ℕ) → run_one (kind_of t n) ≡ 0 → IsWideBelow n → IsWideBelow (suc n)
  other n e (inl none) = inl (omega (arith, e, none))
  other n e (inr half) =
      let same : runs (suc n) ≡ runs n = omega (arith, e) in
      let a = ap (λ (m : ℕ). m * words) same in
      inr (omega (arith, half, a))

  begins : (n : ℕ) (s : Stored) → nth_region t n ≡ First s → IsWideBelow n → IsWideBelow (suc n)
  begins n s e c =
      let a = over n s e in
      let b = ap run_one (kind_is t n (First s) e) in
      let d = ap first_words e in
      let same : runs (suc n) ≡ suc (runs n) = omega (arith, b) in
      let f = ap (λ (m : ℕ). m * words) same in
      let g = suc-mul (runs n) words in
      inr (elim c [
        | inl none ↦ (let z = ap (λ (m : ℕ). m * words) none in omega (arith, a, d, f, g, z))
        | inr half ↦ omega (arith, a, d, f, g, half)
      ])

  pub wide_below : (b n : ℕ) → n ≤ b → IsWideBelow n
  wide_below b zero h = inl refl
  wide_below zero (suc n) h = absurd (omega (arith, h))
  wide_below (suc b) (suc n) h = go (λ m le. wide_below b m le) (nth_region t n) refl
    where
      go : ((m : ℕ) → m ≤ b → IsWideBelow m) → (r : Region) → nth_region t n ≡ r → IsWideBelow (suc n)
      go before Free e = other n (ap run_one (kind_is t n Free e)) (before n (omega (arith, h)))
      go before (Ordinary ts) e = other n (ap run_one (kind_is t n (Ordinary ts) e)) (before n (omega (arith, h)))
      go before (First s) e = begins n s e (before n (omega (arith, h)))
      go before (Rest m) e =
          let w = shape.later n m e in
          let number = w.number in
          let some = w.behind in
          let below : w.first ≤ b = omega (arith, h, number, some) in
          let end : suc n ≡ w.first + suc w.later = omega (arith, number) in
          let up : w.first + suc w.later ≡ suc w.first + w.later = omega arith in
          let few = few_more (λ k. run_one (kind_of t k)) (λ k. one_at_most (kind_of t k)) (suc w.later) w.first in
          let more = no_less (λ k. first_words (nth_region t k)) w.later (suc w.first) in
          let p = ap runs end in
          let q = ap firsts (end ∙ up) in
          let d = ap first_words w.begins in
          inr (run_ends words (tile_size (Object w.object)) w.later (runs w.first) (runs (suc n)) (firsts w.first) (firsts (suc n))
          some w.reaches (before w.first below) (omega (arith, few, p)) (omega (arith, more, q, d)))
