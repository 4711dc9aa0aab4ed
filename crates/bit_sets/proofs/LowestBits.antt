-- The lowest number of a set, word by word.
use Rattle.std.proofs.Common.{◌≡◌, ◌+◌, ◌-◌, ◌*◌, ◌/◌, ◌%◌, ◌^◌, ◌<◌, ◌≤◌, ◌⊎◌, ◌∙◌, ℕ, Bool, true, false, List, length, slice_index, eqb}
use Rattle.std.proofs.Common.{min, bit_and, w64, not, inl, inr, refl, sym, ap, subst, ⊎_elim, arith}
use Rattle.std.specs.Prelude.{◌&&◌, Option, Some, None, MatchOption, IfSome}
use Rattle.std.specs.Int.{bit_at, trailing_zeros}
use Rattle.std.proofs.lemmas.Bool.{cases_lt, eqb-true, eqb-false, ne_eqb}
use Rattle.std.proofs.lemmas.Nat.{and_le_r}
use Rattle.std.proofs.lemmas.Nat.Bits.{bit_at-zero, bit_at-lt, bit_at_and, bit_at_not, bit_at-trailing_zeros}
use Rattle.bit_sets.specs.Bits.{has, has_alone, HasNone, HasNoneBelow, IsLowest}
use Rattle.bit_sets.specs.BitWords.{bit_of, flags_of}
use Rattle.bit_sets.proofs.BitWords.{high_mask, bit_at-high_part, bit_at-high_part_below, part_fits}
use Rattle.bit_sets.proofs.BitWords.{has-flags_of, length-flags_of, has_past}

-- m has the numbers of word i from `from` on, the word's first `low` ones lying below that
pub record IsWord (has : ℕ → Bool) (from i m : ℕ) : Type 0 where
  pub low : ℕ
  pub start : low ≡ from - 64 * i
  pub near : low < 64
  pub fits : m < 2 ^ 64
  pub same : (a : ℕ) → from ≤ a → a / 64 ≡ i → has a ≡ eqb (bit_at m (a % 64)) 1
  pub below : (j : ℕ) → j < low → bit_at m j ≡ 0

module _ (has : ℕ → Bool) (from i m : ℕ) (w : IsWord has from i m) where
  none_with : HasNoneBelow has from (64 * i) → (t : ℕ) → t ≤ 64 → ((j : ℕ) → j < t → bit_at m j ≡ 0) → HasNoneBelow has from (64 * i + t)
  none_with before t short none a h k =
      let early : a < 64 * i → has a ≡ false = λ b. before a h b in
      let here : 64 * i ≤ a → has a ≡ false = λ b. w.same a h (omega arith) ∙ ap (λ x. eqb x 1) (none (a % 64) (omega arith)) in
      ⊎_elim early here (cases_lt a (64 * i))

  pub none_in_word : HasNoneBelow has from (64 * i) → m ≡ 0 → HasNoneBelow has from (64 * (i + 1))
  none_in_word before none a h k = none_with before 64 (omega arith) (λ j b. ap (λ v. bit_at v j) none ∙ bit_at-zero j) a h (omega arith)

  none_before : HasNoneBelow has from (64 * i) → 0 < m → HasNoneBelow has from (64 * i + trailing_zeros w64 m)
  none_before before some =
      let lowest = bit_at-trailing_zeros w64 m some w.fits in
      none_with before (trailing_zeros w64 m) (omega (arith, lowest.0)) lowest.2

  from_le : 0 < m → from ≤ 64 * i + trailing_zeros w64 m
  from_le some =
      let lowest = bit_at-trailing_zeros w64 m some w.fits in
      let t : ℕ = trailing_zeros w64 m in
      let above : w.low ≤ t → from ≤ 64 * i + t = λ h. omega (arith, w.start) in
      let under : t < w.low → from ≤ 64 * i + t = λ h. absurd (omega (arith, lowest.1, w.below t h)) in
      ⊎_elim under above (cases_lt t w.low)

  has_lowest : 0 < m → has (64 * i + trailing_zeros w64 m) ≡ true
  has_lowest some =
      let lowest = bit_at-trailing_zeros w64 m some w.fits in
      let t : ℕ = trailing_zeros w64 m in
      let place : (64 * i + t) % 64 ≡ t = omega (arith, lowest.0) in
      w.same (64 * i + t) (from_le some) (omega (arith, lowest.0)) ∙ ap (λ j. eqb (bit_at m j) 1) place ∙ ap (λ b. eqb b 1) lowest.1

-- the set of the flags, where it is that of the bits below their count n
pub record Agree (is_in has : ℕ → Bool) (n : ℕ) : Type 0 where
  pub inside : (a : ℕ) → a < n → is_in a ≡ has a
  pub past : (a : ℕ) → n ≤ a → is_in a ≡ false

-- from `from` up to `to` it is looked through as far as the flags go
pub none_left : (is_in has : ℕ → Bool) (n from to upto : ℕ) → Agree is_in has n → HasNoneBelow has from upto
    → min to n ≤ upto → HasNoneBelow is_in from to
none_left is_in has n from to upto g none all a h k =
    ⊎_elim (λ b. g.inside a b ∙ none a h (omega arith)) (λ b. g.past a b) (cases_lt a n)

pub found_past : (is_in has : ℕ → Bool) (n from to i m : ℕ) → Agree is_in has n → IsWord has from i m → HasNoneBelow has from (64 * i)
    → 0 < m → min to n ≤ 64 * i + trailing_zeros w64 m → HasNoneBelow is_in from to
found_past is_in has n from to i m g w before some far = none_left is_in has n from to _ g (none_before has from i m w before some) far

pub found_inside : (is_in has : ℕ → Bool) (n from i m : ℕ) → Agree is_in has n → IsWord has from i m → HasNoneBelow has from (64 * i)
    → 0 < m → 64 * i + trailing_zeros w64 m < n → IsLowest is_in from (64 * i + trailing_zeros w64 m)
found_inside is_in has n from i m g w before some inside = record {
  at_least = from_le has from i m w some;
  is_in = g.inside _ inside ∙ has_lowest has from i m w some;
  lowest = λ a h k. g.inside a (omega arith) ∙ none_before has from i m w before some a h k;
}

-- what the lowest number of a word says of the set: where it is below the end, it is the set's lowest
pub lowest_found : (is_in has : ℕ → Bool) (n from to end i m : ℕ) (found : Option ℕ) → Agree is_in has n → IsWord has from i m
    → HasNoneBelow has from (64 * i) → 0 < m → min to n ≤ end → end ≤ n
    → MatchOption found (end ≤ 64 * i + trailing_zeros w64 m) (λ x. x ≡ 64 * i + trailing_zeros w64 m) → IfSome found (λ x. x < end)
    → MatchOption found (HasNoneBelow is_in from to) (IsLowest is_in from)
lowest_found is_in has n from to end i m None g w before some all inside past low =
    found_past is_in has n from to i m g w before some (omega (arith, past))
lowest_found is_in has n from to end i m (Some x) g w before some all inside e low =
    subst (λ (y : ℕ). IsLowest is_in from y) (sym e) (found_inside is_in has n from i m g w before some (omega (arith, e, low)))

pub some_below : (found : Option ℕ) (a b : ℕ) → IfSome found (λ x. x < a) → a ≤ b → IfSome found (λ x. x < b)
some_below None a b low le = tt
some_below (Some x) a b low le = omega (arith, low)

-- none below the length is none at all
pub none_at_all : (flags : List Bool) (from n : ℕ) (found : Option ℕ) → n ≡ length flags
    → MatchOption found (HasNoneBelow (has flags) from n) (IsLowest (has flags) from)
    → MatchOption found (HasNone (has flags) from) (IsLowest (has flags) from)
none_at_all flags from n None e none = λ a h. ⊎_elim (λ b. none a h (omega arith)) (λ b. has_past flags a (omega arith)) (cases_lt a n)
none_at_all flags from n (Some found) e lowest = lowest

-- ---- one set of bits
pub bits_word : (ws : List ℕ) (from i low w : ℕ) → w ≡ slice_index ws i → low ≡ from - 64 * i → low < 64
    → IsWord (bit_of ws) from i (bit_and w (high_mask low))
bits_word ws from i low w word start near = record {
  low = low;
  start = start;
  near = near;
  fits = part_fits w low;
  same = λ a h e.
      ap (λ q. eqb (bit_at (slice_index ws q) (a % 64)) 1) e ∙ ap (λ v. eqb (bit_at v (a % 64)) 1) (sym word)
      ∙ ap (λ b. eqb b 1) (sym (bit_at-high_part w low (a % 64) (omega arith) (omega arith)));
  below = λ j h. bit_at-high_part_below w low j h near;
}

-- a whole word above the first one
pub later_word : (ws : List ℕ) (from i w : ℕ) → from ≤ 64 * i → w ≡ slice_index ws i → w < 2 ^ 64 → IsWord (bit_of ws) from i w
later_word ws from i w above read fits = record {
  low = 0;
  start = omega arith;
  near = omega arith;
  fits = fits;
  same = λ a h e. ap (λ q. eqb (bit_at (slice_index ws q) (a % 64)) 1) e ∙ ap (λ v. eqb (bit_at v (a % 64)) 1) (sym read);
  below = λ j h. absurd (omega arith);
}

pub bits_agree : (flags : List Bool) (ws : List ℕ) (n : ℕ) → flags_of ws n ≡ flags → Agree (has flags) (bit_of ws) n
bits_agree flags ws n view = record {
  inside = λ a h. ap (λ v. has v a) (sym view) ∙ has-flags_of ws n a h;
  past = λ a h. has_past flags a (omega (arith, length-flags_of ws n, ap length view));
}

-- words that are 0 are passed
pub none_passed : (is_in : ℕ → Bool) (ws : List ℕ) (from i n : ℕ) → ((a : ℕ) → bit_of ws a ≡ false → is_in a ≡ false)
    → ((g : ℕ) → i ≤ g → g < n → slice_index ws g ≡ 0) → HasNoneBelow is_in from (64 * i) → HasNoneBelow is_in from (64 * n)
none_passed is_in ws from i n unset zeros before a h k = ⊎_elim (λ b. before a h b)
    (λ b. unset a (ap (λ (w : ℕ). eqb (bit_at w (a % 64)) 1) (zeros (a / 64) (omega arith) (omega arith))
    ∙ ap (λ (v : ℕ). eqb v 1) (bit_at-zero (a % 64))))
    (cases_lt a (64 * i))

-- ---- the difference of two sets of bits
abbrev pub only : List ℕ → List ℕ → ℕ → Bool
only ws vs a = bit_of ws a && not (bit_of vs a)

pub only_none : (ws vs : List ℕ) (a : ℕ) → bit_of ws a ≡ false → only ws vs a ≡ false
only_none ws vs a e = ap (λ (b : Bool). b && not (bit_of vs a)) e

abbrev pub left_of : ℕ → ℕ → ℕ
left_of w v = bit_and w (2 ^ 64 - 1 - v)

abbrev pub left_part : ℕ → ℕ → ℕ → ℕ
left_part w v low = bit_and (left_of w v) (high_mask low)

pub one_or_zero : (x : ℕ) → x < 2 → (x ≡ 0) ⊎ (x ≡ 1)
one_or_zero x h = elim (eqb x 0) as (λ b. eqb x 0 ≡ b → (x ≡ 0) ⊎ (x ≡ 1))
    [ true ↦ λ e. inl (eqb-true x 0 e) | false ↦ λ e. inr (let ne : x ≡ 0 → ⊥ = eqb-false x 0 e in omega arith) ] refl

and_not_bits : (x y z : ℕ) → x < 2 → y < 2 → z ≡ min x (1 - y) → eqb z 1 ≡ (eqb x 1 && not (eqb y 1))
and_not_bits x y z h k e =
    let no_x : x ≡ 0 → eqb z 1 ≡ (eqb x 1 && not (eqb y 1)) = λ p. rw (ap (λ v. eqb v 1) p) (ne_eqb z 1 (omega arith)) in
    let one_y : x ≡ 1 → y ≡ 1 → eqb z 1 ≡ (eqb x 1 && not (eqb y 1)) = λ p q. rw (p, q) (ne_eqb z 1 (omega arith)) in
    let no_y : x ≡ 1 → y ≡ 0 → eqb z 1 ≡ (eqb x 1 && not (eqb y 1)) = λ p q. rw (p, q, ap (λ v. eqb v 1) e) (rw (p, q) refl) in
    ⊎_elim no_x (λ p. ⊎_elim (λ q. no_y p q) (λ q. one_y p q) (one_or_zero y k)) (one_or_zero x h)

-- a bit of a word that has what two words make of it
only_bit : (ws vs : List ℕ) (i w v z a : ℕ) → w ≡ slice_index ws i → v ≡ slice_index vs i → a / 64 ≡ i
    → bit_at z (a % 64) ≡ min (bit_at w (a % 64)) (1 - bit_at v (a % 64)) → only ws vs a ≡ eqb (bit_at z (a % 64)) 1
only_bit ws vs i w v z a read other e part =
    let j : ℕ = a % 64 in
    let ws_bit : bit_of ws a ≡ eqb (bit_at w j) 1 =
    ap (λ k. eqb (bit_at (slice_index ws k) j) 1) e ∙ ap (λ x. eqb (bit_at x j) 1) (sym read) in
    let vs_bit : bit_of vs a ≡ eqb (bit_at v j) 1 =
    ap (λ k. eqb (bit_at (slice_index vs k) j) 1) e ∙ ap (λ x. eqb (bit_at x j) 1) (sym other) in
    rw (ws_bit, vs_bit) (sym (and_not_bits (bit_at w j) (bit_at v j) (bit_at z j) (bit_at-lt w j) (bit_at-lt v j) part))

pub left_word : (ws vs : List ℕ) (from i low w v : ℕ) → w ≡ slice_index ws i → v ≡ slice_index vs i → v < 2 ^ 64
    → low ≡ from - 64 * i → low < 64 → IsWord (only ws vs) from i (left_part w v low)
left_word ws vs from i low w v word other_word v_fits start near = record {
  low = low;
  start = start;
  near = near;
  fits = part_fits (bit_and w (2 ^ 64 - 1 - v)) low;
  same = λ a h e. only_bit ws vs i w v (left_part w v low) a word other_word e
      (bit_at-high_part (bit_and w (2 ^ 64 - 1 - v)) low (a % 64) (omega arith) (omega arith) ∙ bit_at_and w (2 ^ 64 - 1 - v) (a % 64)
      ∙ ap (λ x. min (bit_at w (a % 64)) x) (bit_at_not w64 v (a % 64) v_fits (omega arith)));
  below = λ j h. bit_at-high_part_below (bit_and w (2 ^ 64 - 1 - v)) low j h near;
}

pub only_agree : (flags others : List Bool) (ws vs : List ℕ) (n k : ℕ) → flags_of ws n ≡ flags → flags_of vs k ≡ others → k ≡ n
    → Agree (has_alone flags others) (only ws vs) n
only_agree flags others ws vs n k view other e =
    let m = bits_agree flags ws n view in
    let o = bits_agree others vs k other in
    record {
      inside = λ a h. rw (m.inside a h, o.inside a (omega arith)) refl;
      past = λ a h. rw (m.past a h) refl;
    }

pub same_len : (flags others : List Bool) (ws vs : List ℕ) (n k : ℕ) → flags_of ws n ≡ flags
    → flags_of vs k ≡ others → length others ≡ length flags → k ≡ n
same_len flags others ws vs n k view other e = omega (arith, length-flags_of ws n, length-flags_of vs k, ap length view, ap length other)

-- ---- one word, which is all of a group
-- nothing is between a number and itself
pub none_yet : (has : ℕ → Bool) (from : ℕ) → HasNoneBelow has from from
none_yet has from a h k = absurd (omega arith)

pub group_word : (ws : List ℕ) (i w : ℕ) → w ≡ slice_index ws i → w < 2 ^ 64 → IsWord (bit_of ws) (64 * i) i w
group_word ws i w read fits = later_word ws (64 * i) i w (omega arith) read fits

pub group_left : (ws vs : List ℕ) (i w v : ℕ) → w ≡ slice_index ws i → v ≡ slice_index vs i → v < 2 ^ 64
    → bit_and w (2 ^ 64 - 1 - v) < 2 ^ 64 → IsWord (only ws vs) (64 * i) i (bit_and w (2 ^ 64 - 1 - v))
group_left ws vs i w v read other fits less = record {
  low = 0;
  start = omega arith;
  near = omega arith;
  fits = less;
  same = λ a h e. only_bit ws vs i w v (bit_and w (2 ^ 64 - 1 - v)) a read other e
      (bit_at_and w (2 ^ 64 - 1 - v) (a % 64) ∙ ap (λ x. min (bit_at w (a % 64)) x) (bit_at_not w64 v (a % 64) fits (omega arith)));
  below = λ j h. absurd (omega arith);
}

-- what the lowest number of a group's word says of the set
pub group_found : (is_in has : ℕ → Bool) (n i m : ℕ) (found : Option ℕ) → Agree is_in has n → IsWord has (64 * i) i m
    → MatchOption found ((m ≡ 0) ⊎ ((0 < m) × (n ≤ 64 * i + trailing_zeros w64 m))) (λ x. (0 < m) × (x ≡ 64 * i + trailing_zeros w64 m))
    → IfSome found (λ x. x < n) → MatchOption found (HasNoneBelow is_in (64 * i) (64 * i + 64)) (IsLowest is_in (64 * i))
group_found is_in has n i m None g w (inl none) low =
    none_left is_in has n (64 * i) (64 * i + 64) (64 * (i + 1)) g
    (none_in_word has (64 * i) i m w (none_yet has (64 * i)) none) (omega arith)
group_found is_in has n i m None g w (inr past) low =
    found_past is_in has n (64 * i) (64 * i + 64) i m g w (none_yet has (64 * i)) past.0 (omega (arith, past.1))
group_found is_in has n i m (Some x) g w is low = subst (λ (y : ℕ). IsLowest is_in (64 * i) y) (sym is.1)
    (found_inside is_in has n (64 * i) i m g w (none_yet has (64 * i)) is.0 (omega (arith, is.1, low)))

-- where the group has one of the set, the word isn't 0, and its lowest bit is of the set
pub record IsFirst (is_in : ℕ → Bool) (n i m : ℕ) : Type 0 where
  pub near : trailing_zeros w64 m < 64
  pub inside : 64 * i + trailing_zeros w64 m < n
  pub lowest : IsLowest is_in (64 * i) (64 * i + trailing_zeros w64 m)

pub first_of_group : (flags : List Bool) (ws : List ℕ) (n i m : ℕ) → flags_of ws n ≡ flags → m ≡ slice_index ws i → m < 2 ^ 64
    → (HasNoneBelow (has flags) (64 * i) (64 * i + 64) → ⊥) → IsFirst (has flags) n i m
first_of_group flags ws n i m view read fits some =
    let g = bits_agree flags ws n view in
    let w = group_word ws i m read fits in
    let yet = none_yet (bit_of ws) (64 * i) in
    let one : 0 < m = ⊎_elim (λ (h : 0 < m). h)
    (λ (h : m ≤ 0). absurd (some (none_left (has flags) (bit_of ws) n (64 * i) (64 * i + 64) (64 * (i + 1)) g
    (none_in_word (bit_of ws) (64 * i) i m w yet (omega arith)) (omega arith))))
    (cases_lt 0 m) in
    let inside : 64 * i + trailing_zeros w64 m < n = ⊎_elim (λ (h : 64 * i + trailing_zeros w64 m < n). h)
    (λ (h : n ≤ 64 * i + trailing_zeros w64 m). absurd (some (found_past (has flags) (bit_of ws) n (64 * i) (64 * i + 64) i m g w yet one
    (omega arith))))
    (cases_lt (64 * i + trailing_zeros w64 m) n) in
    let lowest = bit_at-trailing_zeros w64 m one fits in
    record {
      near = lowest.0;
      inside = inside;
      lowest = found_inside (has flags) (bit_of ws) n (64 * i) i m g w yet one inside;
    }

-- the lowest number of a group that is in the one set and not in the other
pub alone_found : (flags others : List Bool) (ws vs : List ℕ) (n k i w v : ℕ) (found : Option ℕ) → flags_of ws n ≡ flags
    → flags_of vs k ≡ others → length others ≡ length flags → w ≡ slice_index ws i → v ≡ slice_index vs i → w < 2 ^ 64 → v < 2 ^ 64
    → MatchOption found ((left_of w v ≡ 0) ⊎ ((0 < left_of w v) × (n ≤ 64 * i + trailing_zeros w64 (left_of w v))))
    (λ x. (0 < left_of w v) × (x ≡ 64 * i + trailing_zeros w64 (left_of w v)))
    → IfSome found (λ x. x < n)
    → MatchOption found (HasNoneBelow (has_alone flags others) (64 * i) (64 * i + 64)) (IsLowest (has_alone flags others) (64 * i))
alone_found flags others ws vs n k i w v found view other even read other_read fits other_fits is low =
    let less = and_le_r w (2 ^ 64 - 1 - v) in
    group_found (has_alone flags others) (only ws vs) n i (left_of w v) found
    (only_agree flags others ws vs n k view other (same_len flags others ws vs n k view other even))
    (group_left ws vs i w v read other_read other_fits (omega (arith, less))) is low

-- where a number is in the set, its word isn't 0
pub some_there : (flags : List Bool) (ws : List ℕ) (n a : ℕ) → flags_of ws n ≡ flags → a < length flags → has flags a ≡ true
    → 0 < slice_index ws (a / 64)
some_there flags ws n a view h e =
    ⊎_elim (λ (b : 0 < slice_index ws (a / 64)). b)
    (λ (b : slice_index ws (a / 64) ≤ 0).
    let same = ap (λ (l : List Bool). has l a) (sym view) ∙ has-flags_of ws n a (omega (arith, h, length-flags_of ws n, ap length view)) in
    let nothing : slice_index ws (a / 64) ≡ 0 = omega arith in
    let none : bit_of ws a ≡ false =
    ap (λ (w : ℕ). eqb (bit_at w (a % 64)) 1) nothing ∙ ap (λ (v : ℕ). eqb v 1) (bit_at-zero (a % 64)) in
    absurd cc)
    (cases_lt 0 (slice_index ws (a / 64)))
