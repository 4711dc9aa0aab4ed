-- What the bits of the words say of the set.
use Rattle.std.proofs.Common.{◌≡◌, ◌≢◌, ◌⊎◌, ◌-◌, ◌*◌, ◌/◌, ◌%◌, ◌^◌, ◌<◌, ◌≤◌, ◌∙◌, min, ℕ, Bool, true, false, List, length, get_or}
use Rattle.std.proofs.Common.{slice_index, set, replicate, eqb, bit_or, bit_and, w64, lit<, refl, sym, ap, subst, arith, get_or-set_other}
use Rattle.std.proofs.Common.{get_or-set_same, length-set, ⊎_elim, ◌&&◌}
use Rattle.std.proofs.lemmas.Bool.{cases_lt, cases_eq}
use Rattle.std.specs.Int.{bit_at, div_ceil}
use Rattle.std.proofs.lemmas.Nat.{and_le_r, mod_below}
use Rattle.std.proofs.lemmas.Nat.Bits.{bit_at_set_same, bit_at_set_other, bit_at_clear_same, bit_at_clear_other, bit_at-zero, shr_and_one}
use Rattle.std.proofs.lemmas.Nat.Bits.{bit_at-lt, bit_at_and, ones_shl, ones_shr, bit_at_mask_inside, bit_at_mask_below, bit_at_ones}
use Rattle.std.proofs.lemmas.Nat.Bits.{bit_at_ones_above}
use Rattle.std.proofs.lemmas.List.FromFn.{fill_by_all, length-map-range_with_len, get_or-map-range_with_len}
use Rattle.std.proofs.lemmas.List.{get_or-replicate, length-replicate, get_or_past}
use Rattle.bit_sets.specs.Bits.{has}
use Rattle.bit_sets.specs.BitWords.{bit_of, flags_of}

pub length-flags_of : (ws : List ℕ) (n : ℕ) → length (flags_of ws n) ≡ n
unfolding flags_of
length-flags_of ws n = length-map-range_with_len (bit_of ws) 0 n

pub has-flags_of : (ws : List ℕ) (n a : ℕ) → a < n → has (flags_of ws n) a ≡ bit_of ws a
unfolding flags_of
has-flags_of ws n a h = get_or-map-range_with_len (bit_of ws) 0 n a a false h (omega arith)

-- the flags are those that agree with the bits
pub flags_of_is : (ws : List ℕ) (n : ℕ) (flags : List Bool) → length flags ≡ n
    → ((a : ℕ) → a < n → has flags a ≡ bit_of ws a) → flags_of ws n ≡ flags
unfolding flags_of
flags_of_is ws n flags len each = sym (fill_by_all (bit_of ws) flags n false len each)

pub and-false : (b : Bool) → (b && false) ≡ false
and-false true = refl
and-false false = refl

pub all_zeros : (k i : ℕ) → slice_index (replicate k 0) i ≡ 0
all_zeros k i =
    let inside : i < k → slice_index (replicate k 0) i ≡ 0 = λ h. get_or-replicate k i 0 0 h in
    let past : k ≤ i → slice_index (replicate k 0) i ≡ 0 =
    λ h. get_or_past (replicate k 0) i 0 (omega (arith, length-replicate {A = ℕ} k 0)) in
    ⊎_elim inside past (cases_lt i k)

pub flags_of_zeros : (ws : List ℕ) (n k : ℕ) → ws ≡ replicate k 0 → flags_of ws n ≡ replicate n false
flags_of_zeros ws n k e =
    flags_of_is ws n (replicate n false) (length-replicate n false)
    (λ a h. get_or-replicate n a false false h ∙ sym (rw (e, all_zeros, bit_at-zero) refl))

pub bit_of-set_here : (ws : List ℕ) (i v b : ℕ) → i < length ws → b / 64 ≡ i → bit_of (set ws i v) b ≡ eqb (bit_at v (b % 64)) 1
bit_of-set_here ws i v b h e = rw (e, get_or-set_same) refl

pub bit_of-set_there : (ws : List ℕ) (i v b : ℕ) → b / 64 ≢ i → bit_of (set ws i v) b ≡ bit_of ws b
bit_of-set_there ws i v b ne = rw get_or-set_other refl

-- the word with the bit of a set
abbrev pub with_bit : ℕ → ℕ → ℕ
with_bit w a = bit_or w (1 * 2 ^ (a % 64) % 2 ^ 64)

bit_of-with_bit : (ws : List ℕ) (w a b : ℕ) → a / 64 < length ws → w ≡ get_or ws (a / 64) 0 → a ≢ b
    → bit_of (set ws (a / 64) (with_bit w a)) b ≡ bit_of ws b
bit_of-with_bit ws w a b h e ne =
    ⊎_elim
    (λ same.
    let other : b % 64 ≢ a % 64 = λ q. ne (omega arith) in
    bit_of-set_here ws (a / 64) (with_bit w a) b h same
    ∙ ap (λ x. eqb x 1) (bit_at_set_other w64 w (a % 64) (omega arith) (b % 64) other)
    ∙ rw (e, same) refl)
    (λ differs. bit_of-set_there ws (a / 64) (with_bit w a) b differs)
    (cases_eq (b / 64) (a / 64))

pub flags_of-set : (ws : List ℕ) (n w a : ℕ) → a < n → a / 64 < length ws → w ≡ get_or ws (a / 64) 0
    → flags_of (set ws (a / 64) (with_bit w a)) n ≡ set (flags_of ws n) a true
flags_of-set ws n w a h inside e =
    let long : a < length (flags_of ws n) = omega (arith, length-flags_of ws n) in
    flags_of_is (set ws (a / 64) (with_bit w a)) n (set (flags_of ws n) a true) (length-set (flags_of ws n) a true ∙ length-flags_of ws n)
    (λ b below. ⊎_elim
    (λ same. subst (λ x. has (set (flags_of ws n) a true) x ≡ bit_of (set ws (a / 64) (with_bit w a)) x) same
    (get_or-set_same (flags_of ws n) a true false long
    ∙ sym (bit_of-set_here ws (a / 64) (with_bit w a) a inside refl ∙ ap (λ x. eqb x 1) (bit_at_set_same w64 w (a % 64) (omega arith)))))
    (λ differs. get_or-set_other (flags_of ws n) a b true false (λ q. differs (sym q)) ∙ has-flags_of ws n b below
    ∙ sym (bit_of-with_bit ws w a b inside e differs)) (cases_eq a b))

-- the word without the bit of a number
abbrev pub without_bit : ℕ → ℕ → ℕ
without_bit w a = bit_and w (2 ^ 64 - 1 - 1 * 2 ^ (a % 64) % 2 ^ 64)

bit_of-without_bit : (ws : List ℕ) (w a b : ℕ) → a / 64 < length ws → w ≡ get_or ws (a / 64) 0 → a ≢ b
    → bit_of (set ws (a / 64) (without_bit w a)) b ≡ bit_of ws b
bit_of-without_bit ws w a b h e ne =
    ⊎_elim
    (λ same.
    let other : b % 64 ≢ a % 64 = λ q. ne (omega arith) in
    bit_of-set_here ws (a / 64) (without_bit w a) b h same
    ∙ ap (λ x. eqb x 1) (bit_at_clear_other w64 w (a % 64) (omega arith) (b % 64) (omega arith) other)
    ∙ rw (e, same) refl)
    (λ differs. bit_of-set_there ws (a / 64) (without_bit w a) b differs)
    (cases_eq (b / 64) (a / 64))

pub flags_of-remove : (ws : List ℕ) (n w a : ℕ) → a < n → a / 64 < length ws → w ≡ get_or ws (a / 64) 0
    → flags_of (set ws (a / 64) (without_bit w a)) n ≡ set (flags_of ws n) a false
flags_of-remove ws n w a h inside e =
    let long : a < length (flags_of ws n) = omega (arith, length-flags_of ws n) in
    flags_of_is (set ws (a / 64) (without_bit w a)) n (set (flags_of ws n) a false)
    (length-set (flags_of ws n) a false ∙ length-flags_of ws n) (λ b below. ⊎_elim
    (λ same. subst (λ x. has (set (flags_of ws n) a false) x ≡ bit_of (set ws (a / 64) (without_bit w a)) x) same
    (get_or-set_same (flags_of ws n) a false false long
    ∙ sym (bit_of-set_here ws (a / 64) (without_bit w a) a inside refl
    ∙ ap (λ x. eqb x 1) (bit_at_clear_same w64 w (a % 64) (omega arith)))))
    (λ differs. get_or-set_other (flags_of ws n) a b false false (λ q. differs (sym q)) ∙ has-flags_of ws n b below
    ∙ sym (bit_of-without_bit ws w a b inside e differs)) (cases_eq a b))

-- what a number's word says of its bit
pub bit_read : (ws : List ℕ) (w a : ℕ) → w ≡ get_or ws (a / 64) 0 → eqb (bit_and (w / 2 ^ (a % 64)) 1) 1 ≡ bit_of ws a
bit_read ws w a e = rw (shr_and_one, e) refl

pub len_is : (flags : List Bool) (ws : List ℕ) (n : ℕ) → flags_of ws n ≡ flags → n ≡ length flags
len_is flags ws n view = sym (length-flags_of ws n) ∙ ap length view

pub number_inside : (flags : List Bool) (ws : List ℕ) (n a : ℕ) → flags_of ws n ≡ flags → a < length flags → a < n
number_inside flags ws n a view h = omega (arith, len_is flags ws n view)

-- the word of a number is there, where the words are enough
pub word_inside : (flags : List Bool) (ws : List ℕ) (n a : ℕ) → flags_of ws n ≡ flags → n ≤ 64 * length ws → a < length flags
    → a / 64 < length ws
word_inside flags ws n a view enough h = omega (arith, number_inside flags ws n a view h)

pub group_inside : (flags : List Bool) (ws : List ℕ) (n i : ℕ) → flags_of ws n ≡ flags → n ≤ 64 * length ws → 64 * i < length flags
    → i < length ws
group_inside flags ws n i view enough h = omega (arith, len_is flags ws n view)

pub min_one : (x y : ℕ) → y ≡ 1 → x < 2 → min x y ≡ x
min_one x y e h = omega arith

pub min_zero : (x y : ℕ) → y ≡ 0 → min x y ≡ 0
min_zero x y e = omega arith

min_of_zero : (x y : ℕ) → x ≡ 0 → min x y ≡ 0
min_of_zero x y e = omega arith

-- what is above the low bits of a word
abbrev pub high_mask : ℕ → ℕ
high_mask low = (2 ^ 64 - 1) * 2 ^ low % 2 ^ 64

pub bit_at-high_mask : (low j : ℕ) → low ≤ j → j < 64 → bit_at (high_mask low) j ≡ 1
bit_at-high_mask low j h k = ap (λ m. bit_at m j) (ones_shl 64 low (omega arith)) ∙ bit_at_mask_inside low 64 j h k

pub bit_at-high_mask_below : (low j : ℕ) → j < low → low < 64 → bit_at (high_mask low) j ≡ 0
bit_at-high_mask_below low j h k = ap (λ m. bit_at m j) (ones_shl 64 low (omega arith)) ∙ bit_at_mask_below low 64 j h

pub bit_at-high_part : (w low j : ℕ) → low ≤ j → j < 64 → bit_at (bit_and w (high_mask low)) j ≡ bit_at w j
bit_at-high_part w low j h k =
    bit_at_and w (high_mask low) j ∙ min_one (bit_at w j) (bit_at (high_mask low) j) (bit_at-high_mask low j h k) (bit_at-lt w j)

pub bit_at-high_part_below : (w low j : ℕ) → j < low → low < 64 → bit_at (bit_and w (high_mask low)) j ≡ 0
bit_at-high_part_below w low j h k =
    bit_at_and w (high_mask low) j ∙ min_zero (bit_at w j) (bit_at (high_mask low) j) (bit_at-high_mask_below low j h k)

-- the bits below high
abbrev pub low_mask : ℕ → ℕ
low_mask high = (2 ^ 64 - 1) / 2 ^ (64 - high)

low_mask_is : (high : ℕ) → high ≤ 64 → low_mask high ≡ 2 ^ high - 1
low_mask_is high h =
    let e : 64 - (64 - high) ≡ high = omega arith in
    ones_shr 64 (64 - high) (omega arith) ∙ ap (λ k. 2 ^ k - 1) e

-- the bits of a word from low up to high
abbrev pub middle_mask : ℕ → ℕ → ℕ
middle_mask low high = bit_and (high_mask low) (low_mask high)

pub bit_at-middle_mask : (low high j : ℕ) → low ≤ j → j < high → high ≤ 64 → bit_at (middle_mask low high) j ≡ 1
bit_at-middle_mask low high j h k l =
    let one : bit_at (low_mask high) j ≡ 1 = ap (λ m. bit_at m j) (low_mask_is high l) ∙ bit_at_ones high j k in
    bit_at_and (high_mask low) (low_mask high) j
    ∙ min_one (bit_at (high_mask low) j) (bit_at (low_mask high) j) one (bit_at-lt (high_mask low) j)
    ∙ bit_at-high_mask low j h (omega arith)

pub bit_at-middle_mask_outside : (low high j : ℕ) → (j < low) ⊎ (high ≤ j) → low < 64 → high ≤ 64 → bit_at (middle_mask low high) j ≡ 0
bit_at-middle_mask_outside low high j h k l =
    let below : j < low → bit_at (middle_mask low high) j ≡ 0 =
    λ b. bit_at_and (high_mask low) (low_mask high) j
    ∙ min_of_zero (bit_at (high_mask low) j) (bit_at (low_mask high) j) (bit_at-high_mask_below low j b k) in
    let above : high ≤ j → bit_at (middle_mask low high) j ≡ 0 = λ b. bit_at_and (high_mask low) (low_mask high) j
    ∙ min_zero (bit_at (high_mask low) j) (bit_at (low_mask high) j)
    (ap (λ m. bit_at m j) (low_mask_is high l) ∙ bit_at_ones_above high j b) in
    ⊎_elim below above h

pub has_past : (flags : List Bool) (a : ℕ) → length flags ≤ a → has flags a ≡ false
has_past flags a h = get_or_past flags a false h

pub has_none : (n a : ℕ) → has (replicate n false) a ≡ false
has_none n a =
    ⊎_elim (λ h. get_or-replicate n a false false h)
    (λ h. has_past (replicate n false) a (omega (arith, length-replicate {A = Bool} n false))) (cases_lt a n)

pub div_ceil_reaches : (n : ℕ) → n ≤ 64 * div_ceil n 64
div_ceil_reaches n = omega arith

pub part_fits : (w low : ℕ) → bit_and w (high_mask low) < 2 ^ 64
part_fits w low =
    let mask : high_mask low < 2 ^ 64 = mod_below ((2 ^ 64 - 1) * 2 ^ low) (2 ^ 64) (lit< tt) in
    omega (arith, and_le_r w (high_mask low), mask)
