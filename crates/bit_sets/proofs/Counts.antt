-- How many numbers pass a test, and how many a set has, word by word.
use Rattle.std.proofs.Common.{◌≡◌, ◌+◌, ◌-◌, ◌*◌, ◌/◌, ◌%◌, ◌^◌, ◌<◌, ◌≤◌, ◌∙◌, ◌∷◌, ℕ, zero, suc, Bool, true, false, List, []}
use Rattle.std.proofs.Common.{length, cond, eqb, bit_and, count_by, count_ones, slice_index, inl, inr, refl, sym, ap, ap₂, arith, ◌&&◌}
use Rattle.std.proofs.lemmas.Bool.{cases_lt, eq-eqb, ne_eqb}
use Rattle.std.proofs.lemmas.List.Sums.{sum_by-cons}
use Rattle.std.proofs.lemmas.Nat.{and_le_r, ones_le_self}
use Rattle.std.proofs.lemmas.Nat.Bits.{bit_at_lowest, bit_at-lt, bit_at-suc}
use Rattle.std.specs.Int.{bit_at, div_ceil}
use Rattle.std.specs.List.{range_with_len}
use Rattle.bit_sets.specs.Bits.{is_between, has}
use Rattle.bit_sets.specs.BitWords.{bit_of, flags_of}
use Rattle.bit_sets.specs.Bounded.{AreWithin}
use Rattle.bit_sets.proofs.BitWords.{and-false, has-flags_of, div_ceil_reaches}
use Rattle.bit_sets.proofs.BitRanges.{IsMask, bit_before, between_yes, between_no_below, between_no_above, value_of}
use Rattle.bit_sets.proofs.BitFilters.{and_word}
use Rattle.bit_sets.proofs.BitUnions.{and_swap}
use lib.Count.{ones_step}

abbrev one_if : (ℕ → Bool) → ℕ → ℕ
one_if p a = cond (p a) 1 0

-- as many of n numbers pass one test as of n others pass another, if each passes where its partner does
pub count_same : (p q : ℕ → Bool) (a b n : ℕ) → ((i : ℕ) → i < n → p (a + i) ≡ q (b + i))
    → count_by p (range_with_len a n) ≡ count_by q (range_with_len b n)
count_same p q a b zero same = refl
count_same p q a b (suc n) same =
    let here : p a ≡ q b = ap p (let e : a ≡ a + 0 = omega arith in e) ∙ same 0 (omega arith)
    ∙ ap q (let e : b + 0 ≡ b = omega arith in e) in
    let rest = count_same p q (a + 1) (b + 1) n (λ i l.
    ap p (let e : a + 1 + i ≡ a + (i + 1) = omega arith in e) ∙ same (i + 1) (omega arith)
    ∙ ap q (let e : b + (i + 1) ≡ b + 1 + i = omega arith in e)) in
    omega (
      arith,
      sum_by-cons (one_if p) a (range_with_len (a + 1) n),
      sum_by-cons (one_if q) b (range_with_len (b + 1) n),
      ap {B = ℕ} (λ x. cond x 1 0) here,
      rest,
    )

-- those of n numbers, and of k more
pub count_split : (p : ℕ → Bool) (a n k m b : ℕ) → m ≡ n + k → b ≡ a + n
    → count_by p (range_with_len a m) ≡ count_by p (range_with_len a n) + count_by p (range_with_len b k)
count_split p a zero k m b e f =
    let count : m ≡ k = omega arith in
    let start : a ≡ b = omega arith in
    omega (arith, ap₂ (λ (x y : ℕ). count_by p (range_with_len x y)) start count)
count_split p a (suc n) k zero b e f = absurd (omega arith)
count_split p a (suc n) k (suc m) b e f = omega (
  arith,
  sum_by-cons (one_if p) a (range_with_len (a + 1) m),
  sum_by-cons (one_if p) a (range_with_len (a + 1) n),
  count_split p (a + 1) n k m b (omega arith) (omega arith),
)

pub count_none : (p : ℕ → Bool) (a n : ℕ) → ((i : ℕ) → i < n → p (a + i) ≡ false) → count_by p (range_with_len a n) ≡ 0
count_none p a zero none = refl
count_none p a (suc n) none =
    let here : p a ≡ false = ap p (let e : a ≡ a + 0 = omega arith in e) ∙ none 0 (omega arith) in
    let rest = count_none p (a + 1) n (λ i l. ap p (let e : a + 1 + i ≡ a + (i + 1) = omega arith in e) ∙ none (i + 1) (omega arith)) in
    omega (arith, sum_by-cons (one_if p) a (range_with_len (a + 1) n), ap {B = ℕ} (λ x. cond x 1 0) here, rest)

pub count_most : (p : ℕ → Bool) (a n : ℕ) → count_by p (range_with_len a n) ≤ n
count_most p a zero = omega arith
count_most p a (suc n) =
    let here : one_if p a ≤ 1 = elim (p a) as (λ b. cond b 1 0 ≤ 1) [ true ↦ omega arith | false ↦ omega arith ] in
    omega (arith, sum_by-cons (one_if p) a (range_with_len (a + 1) n), count_most p (a + 1) n, here)

-- of numbers up to one above which none passes, as many pass as up to there
pub count_past : (p : ℕ → Bool) (n m : ℕ) → n ≤ m → ((a : ℕ) → n ≤ a → p a ≡ false)
    → count_by p (range_with_len 0 m) ≡ count_by p (range_with_len 0 n)
count_past p n m le none =
    omega (arith, count_split p 0 n (m - n) m n (omega arith) (omega arith), count_none p n (m - n) (λ i l. none (n + i) (omega arith)))

-- ---- one word
bit_value : (x : ℕ) → x < 2 → cond (eqb x 1) 1 0 ≡ x
bit_value x small = elim (cases_lt x 1) [
  | inl l ↦ omega (arith, ap {B = ℕ} (λ b. cond b 1 0) (ne_eqb x 1 (omega arith)))
  | inr l ↦ omega (arith, ap {B = ℕ} (λ b. cond b 1 0) (eq-eqb x 1 (omega arith)))
]

-- the ones of a word of k bits
pub count_word : (k m : ℕ) → m < 2 ^ k → count_ones m ≡ count_by (λ j. eqb (bit_at m j) 1) (range_with_len 0 k)
count_word zero m small = omega (arith, ones_le_self m)
count_word (suc k) m small =
    let half = count_word k (m / 2) (omega (arith, small)) in
    let rest = count_same (λ j. eqb (bit_at m j) 1) (λ j. eqb (bit_at (m / 2) j) 1) 1 0 k (λ i l.
    ap (λ x. eqb x 1) (ap (bit_at m) (let e : 1 + i ≡ suc i = omega arith in e) ∙ bit_at-suc m i
    ∙ ap (bit_at (m / 2)) (let e : i ≡ 0 + i = omega arith in e))) in
    omega (
      arith,
      ones_step m,
      half,
      rest,
      sum_by-cons (one_if (λ j. eqb (bit_at m j) 1)) 0 (range_with_len 1 k),
      bit_value (bit_at m 0) (bit_at-lt m 0),
      bit_at_lowest m,
    )

-- ---- the numbers of a range, word by word
abbrev pub in_range : List ℕ → ℕ → ℕ → ℕ → Bool
in_range ws from to a = is_between from to a && bit_of ws a

-- no number outside the range passes
out_below : (ws : List ℕ) (from to a : ℕ) → a < from → in_range ws from to a ≡ false
out_below ws from to a h = ap (λ (b : Bool). b && bit_of ws a) (between_no_below from to a h)

out_above : (ws : List ℕ) (from to a : ℕ) → to ≤ a → in_range ws from to a ≡ false
out_above ws from to a h = ap (λ (b : Bool). b && bit_of ws a) (between_no_above from to a h)

-- none below the first word
pub counted_none : (ws : List ℕ) (from to : ℕ) → 0 ≡ count_by (in_range ws from to) (range_with_len 0 (64 * (from / 64)))
counted_none ws from to =
    sym (count_none (in_range ws from to) 0 (64 * (from / 64)) (λ i l. out_below ws from to (0 + i) (omega arith)))

-- a word more
pub counted_more : (ws : List ℕ) (from to i w mask count : ℕ) → w ≡ slice_index ws i → IsMask i from to mask → mask < 2 ^ 64
    → count ≡ count_by (in_range ws from to) (range_with_len 0 (64 * i))
    → count + count_ones (bit_and w mask) ≡ count_by (in_range ws from to) (range_with_len 0 (64 * (i + 1)))
counted_more ws from to i w mask count read is fits before =
    let m : ℕ = bit_and w mask in
    let group = count_same (in_range ws from to) (λ j. eqb (bit_at m j) 1) (64 * i) 0 64 (λ j l.
    let at : 64 * i + j ≡ 64 * i + (0 + j) = omega arith in
    let own : bit_of ws (64 * i + j) ≡ eqb (bit_at w (0 + j)) 1 = sym (bit_before ws i w (64 * i + j) read (omega arith))
    ∙ ap (λ (k : ℕ). eqb (bit_at w k) 1) (let e : (64 * i + j) % 64 ≡ 0 + j = omega arith in e) in
    ap₂ (λ (x y : Bool). x && y) (ap (is_between from to) at ∙ sym (value_of (is_between from to (64 * i + (0 + j))) (bit_at mask (0 + j))
    (is (0 + j) (omega arith)))) own ∙ and_swap (eqb (bit_at mask (0 + j)) 1) (eqb (bit_at w (0 + j)) 1) ∙ sym (and_word w mask (0 + j))) in
    let split = count_split (in_range ws from to) 0 (64 * i) 64 (64 * (i + 1)) (64 * i) (omega arith) (omega arith) in
    omega (arith, before, split, group, count_word 64 m (omega (arith, and_le_r w mask, fits)))

-- at most as many as there are numbers below the end
pub counted_few : (ws : List ℕ) (from to n : ℕ) → count_by (in_range ws from to) (range_with_len 0 n) ≤ to
counted_few ws from to n = elim (cases_lt n to) [
  | inl l ↦ omega (arith, count_most (in_range ws from to) 0 n)
  | inr l ↦ omega (
    arith,
    count_past (in_range ws from to) to n l (λ a h. out_above ws from to a h),
    count_most (in_range ws from to) 0 to,
  )
]

-- where each word of the range is counted
pub counted_all : (ws : List ℕ) (from to i end count : ℕ) → end ≡ div_ceil to 64 → end ≤ i
    → count ≡ count_by (in_range ws from to) (range_with_len 0 (64 * i))
    → count ≡ count_by (in_range ws from to) (range_with_len 0 to)
counted_all ws from to i end count e h before =
    before ∙ count_past (in_range ws from to) to (64 * i) (omega (arith, div_ceil_reaches to)) (λ a h. out_above ws from to a h)

-- ---- the flags of a set
-- by the words
pub flags_counted : (ws : List ℕ) (n from to : ℕ) → to ≤ n → count_by (in_range ws from to) (range_with_len 0 to)
    ≡ count_by (λ a. is_between from to a && has (flags_of ws n) a) (range_with_len 0 to)
flags_counted ws n from to short = count_same (in_range ws from to) (λ a. is_between from to a && has (flags_of ws n) a) 0 0 to
    (λ i l. ap (λ (b : Bool). is_between from to (0 + i) && b) (sym (has-flags_of ws n (0 + i) (omega arith))))

-- of all numbers
pub count_flags : (flags : List Bool) → count_by (λ is_in. is_in) flags ≡ count_by (has flags) (range_with_len 0 (length flags))
count_flags [] = refl
count_flags (b ∷ flags) = omega (
  arith,
  sum_by-cons (λ (x : Bool). cond x 1 0) b flags,
  sum_by-cons (one_if (has (b ∷ flags))) 0 (range_with_len 1 (length flags)),
  count_flags flags,
  count_same (has flags) (has (b ∷ flags)) 0 1 (length flags)
      (λ i l. ap (λ (k : ℕ). has flags k) (let e : 0 + i ≡ i = omega arith in e)
      ∙ ap (λ (k : ℕ). has (b ∷ flags) k) (let e : suc i ≡ 1 + i = omega arith in e)),
)

-- of those between bounds, beyond which there are none
pub count_within : (flags : List Bool) (low high : ℕ) → AreWithin flags low high
    → count_by (λ a. is_between low high a && has flags a) (range_with_len 0 high) ≡ count_by (λ is_in. is_in) flags
count_within flags low high w =
    count_same (λ a. is_between low high a && has flags a) (has flags) 0 0 high (λ i l. inside (0 + i) (has flags (0 + i)) refl)
    ∙ sym (count_past (has flags) high (length flags) w.inside (λ a h. past a h (has flags a) refl)) ∙ sym (count_flags flags)
  where
    inside : (a : ℕ) (b : Bool) → has flags a ≡ b → (is_between low high a && has flags a) ≡ has flags a
    inside a true e =
        let m = w.each a e in
        ap (λ (x : Bool). x && has flags a) (between_yes low high a m.0 m.1)
    inside a false e = ap (λ (x : Bool). is_between low high a && x) e ∙ and-false (is_between low high a) ∙ sym e

    past : (a : ℕ) → high ≤ a → (b : Bool) → has flags a ≡ b → has flags a ≡ false
    past a h true e = absurd (let m = w.each a e in omega (arith, m.1))
    past a h false e = e
