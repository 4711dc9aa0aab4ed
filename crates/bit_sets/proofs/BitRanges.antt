-- A range of numbers that is put into a set, or taken out of it, word by word.
use Rattle.std.proofs.Common.{◌≡◌, ◌≢◌, ◌+◌, ◌-◌, ◌*◌, ◌/◌, ◌%◌, ◌^◌, ◌<◌, ◌≤◌, ◌∙◌, min, max, ℕ, Bool, true, false, List, length, set, eqb}
use Rattle.std.proofs.Common.{bit_or, bit_and, w64, leb, slice_index, inl, inr, refl, sym, ap, arith, ⊎_elim}
use Rattle.std.proofs.lemmas.Bool.{cases_lt, cases_eq, lt-ltb, le-ltb, lt-leb, le-leb}
use Rattle.std.specs.Prelude.{if◌then◌else◌, ◌&&◌}
use Rattle.std.specs.Int.{bit_at, div_ceil}
use Rattle.std.proofs.lemmas.Nat.Bits.{bit_at-lt, bit_at_and, bit_at_or, bit_at_not}
use Rattle.bit_sets.specs.Bits.{is_between, has}
use Rattle.bit_sets.specs.BitWords.{bit_of, flags_of}
use Rattle.bit_sets.proofs.BitWords.{and-false, middle_mask, bit_at-middle_mask, bit_at-middle_mask_outside, bit_of-set_here}
use Rattle.bit_sets.proofs.BitWords.{bit_of-set_there, length-flags_of, has-flags_of, has_past, div_ceil_reaches}

pub between_yes : (from to a : ℕ) → from ≤ a → a < to → is_between from to a ≡ true
between_yes from to a h k = rw (le-leb from a h, lt-ltb a to k) refl

pub between_no_below : (from to a : ℕ) → a < from → is_between from to a ≡ false
between_no_below from to a h = rw (lt-leb from a h) refl

pub between_no_above : (from to a : ℕ) → to ≤ a → is_between from to a ≡ false
between_no_above from to a h = ap (λ b. leb from a && b) (le-ltb a to h) ∙ and-false (leb from a)

pub between_same : (from to upto a : ℕ) → (a < to → a < upto) → (a < upto → a < to) → is_between from to a ≡ is_between from upto a
between_same from to upto a h k =
    let yes : a < to → is_between from to a ≡ is_between from upto a =
    λ b. ap (λ v. leb from a && v) (lt-ltb a to b ∙ sym (lt-ltb a upto (h b))) in
    let no : to ≤ a → is_between from to a ≡ is_between from upto a = λ b.
    let far : upto ≤ a = ⊎_elim (λ w. absurd (omega (arith, k w))) (λ w. w) (cases_lt a upto) in
    ap (λ v. leb from a && v) (le-ltb a to b ∙ sym (le-ltb a upto far)) in
    ⊎_elim yes no (cases_lt a to)

-- ---- the mask of a range in one word
abbrev pub IsMask : ℕ → ℕ → ℕ → ℕ → Type 0
IsMask index from to mask = (j : ℕ) → j < 64 → bit_at mask j ≡ (if is_between from to (64 * index + j) then 1 else 0)

pub mask_is : (index from to low high : ℕ) → from < 64 * index + 64 → 64 * index < to → low ≡ from - 64 * index
    → high ≡ min (to - 64 * index) 64 → IsMask index from to (middle_mask low high)
mask_is index from to low high starts ends at top j h =
    let inside : low ≤ j → j < high → bit_at (middle_mask low high) j ≡ (if is_between from to (64 * index + j) then 1 else 0) = λ l k.
    bit_at-middle_mask low high j l k (omega arith)
    ∙ sym (ap (λ (b : Bool). if b then 1 else 0) (between_yes from to (64 * index + j) (omega arith) (omega arith))) in
    let below : j < low → bit_at (middle_mask low high) j ≡ (if is_between from to (64 * index + j) then 1 else 0) = λ l.
    bit_at-middle_mask_outside low high j (inl l) (omega arith) (omega arith)
    ∙ sym (ap (λ (b : Bool). if b then 1 else 0) (between_no_below from to (64 * index + j) (omega arith))) in
    let above : high ≤ j → bit_at (middle_mask low high) j ≡ (if is_between from to (64 * index + j) then 1 else 0) = λ l.
    bit_at-middle_mask_outside low high j (inr l) (omega arith) (omega arith)
    ∙ sym (ap (λ (b : Bool). if b then 1 else 0) (between_no_above from to (64 * index + j) (omega arith))) in
    ⊎_elim below (λ l. ⊎_elim (λ k. inside l k) above (cases_lt j high)) (cases_lt j low)

-- the bits of a word whose numbers in the range have a value, the others being those of the word before
abbrev pub IsPut : Bool → ℕ → ℕ → ℕ → ℕ → ℕ → Type 0
IsPut value index from to before after =
    (j : ℕ) → j < 64 → eqb (bit_at after j) 1 ≡ (if is_between from to (64 * index + j) then value else eqb (bit_at before j) 1)

or_bit : (b : Bool) (x y z : ℕ) → z ≡ max x y → y ≡ (if b then 1 else 0) → x < 2 → eqb z 1 ≡ (if b then true else eqb x 1)
or_bit true x y z e f h = ap (λ n. eqb n 1) (let one : z ≡ 1 = omega (arith, e, f) in one)
or_bit false x y z e f h = ap (λ n. eqb n 1) (let same : z ≡ x = omega (arith, e, f) in same)

and_bit : (b : Bool) (x y z : ℕ) → z ≡ min x (1 - y) → y ≡ (if b then 1 else 0) → x < 2 → eqb z 1 ≡ (if b then false else eqb x 1)
and_bit true x y z e f h = ap (λ n. eqb n 1) (let none : z ≡ 0 = omega (arith, e, f) in none)
and_bit false x y z e f h = ap (λ n. eqb n 1) (let same : z ≡ x = omega (arith, e, f) in same)

put_by_or : (index from to w mask : ℕ) → IsMask index from to mask → IsPut true index from to w (bit_or w mask)
put_by_or index from to w mask is j h = or_bit (is_between from to (64 * index + j)) (bit_at w j) (bit_at mask j) (bit_at (bit_or w mask) j)
    (bit_at_or w mask j) (is j h) (bit_at-lt w j)

put_by_and : (index from to w mask : ℕ) → mask < 2 ^ 64 → IsMask index from to mask
    → IsPut false index from to w (bit_and w (2 ^ 64 - 1 - mask))
put_by_and index from to w mask fits is j h =
    and_bit (is_between from to (64 * index + j)) (bit_at w j) (bit_at mask j) (bit_at (bit_and w (2 ^ 64 - 1 - mask)) j)
    (bit_at_and w (2 ^ 64 - 1 - mask) j ∙ ap (λ n. min (bit_at w j) n) (bit_at_not w64 mask j fits h)) (is j h) (bit_at-lt w j)

pub put_by : (value : Bool) (index from to w mask : ℕ) → mask < 2 ^ 64 → IsMask index from to mask
    → IsPut value index from to w (if value then bit_or w mask else bit_and w (2 ^ 64 - 1 - mask))
put_by true index from to w mask fits is = put_by_or index from to w mask is
put_by false index from to w mask fits is = put_by_and index from to w mask fits is

-- ---- the words so far: each bit is what f makes of its number, in the range or not
abbrev pub IsDoneUpTo : (Bool → ℕ → Bool) → List ℕ → ℕ → ℕ → Type 0
IsDoneUpTo f ws from upto = (a : ℕ) → bit_of ws a ≡ f (is_between from upto a) a

pub done_none : (f : Bool → ℕ → Bool) (ws : List ℕ) (from upto : ℕ) → upto ≤ from → ((a : ℕ) → bit_of ws a ≡ f false a)
    → IsDoneUpTo f ws from upto
done_none f ws from upto h was a =
    let no : is_between from upto a ≡ false =
    ⊎_elim (λ b. between_no_below from upto a b) (λ b. between_no_above from upto a (omega arith)) (cases_lt a from) in
    was a ∙ sym (ap (λ (b : Bool). f b a) no)

-- one word more
pub done_more : (f : Bool → ℕ → Bool) (ws : List ℕ) (from to i after : ℕ) → i < length ws
    → ((a : ℕ) → a / 64 ≡ i → bit_of ws a ≡ f false a → eqb (bit_at after (a % 64)) 1 ≡ f (is_between from to a) a)
    → IsDoneUpTo f ws from (min to (64 * i)) → IsDoneUpTo f (set ws i after) from (min to (64 * (i + 1)))
done_more f ws from to i after inside step done a =
    let elsewhere : a / 64 ≢ i → bit_of (set ws i after) a ≡ f (is_between from (min to (64 * (i + 1))) a) a = λ ne.
    bit_of-set_there ws i after a ne ∙ done a
    ∙ ap (λ (b : Bool). f b a) (between_same from (min to (64 * i)) (min to (64 * (i + 1))) a (λ b. omega arith)
    (λ b. ⊎_elim (λ c. omega arith) (λ c. absurd (ne (omega arith))) (cases_lt a (64 * i)))) in
    let here : a / 64 ≡ i → bit_of (set ws i after) a ≡ f (is_between from (min to (64 * (i + 1))) a) a = λ e.
    bit_of-set_here ws i after a inside e
    ∙ step a e (done a ∙ ap (λ (b : Bool). f b a) (between_no_above from (min to (64 * i)) a (omega arith)))
    ∙ ap (λ (b : Bool). f b a) (between_same from to (min to (64 * (i + 1))) a (λ b. omega arith) (λ b. omega arith)) in
    ⊎_elim here elsewhere (cases_eq (a / 64) i)

-- where each word of the range is done
pub done_all : (f : Bool → ℕ → Bool) (ws : List ℕ) (from to i end : ℕ) → end ≡ div_ceil to 64 → end ≤ i
    → IsDoneUpTo f ws from (min to (64 * i)) → (a : ℕ) → bit_of ws a ≡ f (is_between from to a) a
done_all f ws from to i end e h done a = done a
    ∙ ap (λ (b : Bool). f b a) (between_same from (min to (64 * i)) to a (λ b. omega arith) (λ b. omega (arith, div_ceil_reaches to)))

-- a word's bit before, by the words so far
pub bit_before : (ws : List ℕ) (i before a : ℕ) → before ≡ slice_index ws i → a / 64 ≡ i → eqb (bit_at before (a % 64)) 1 ≡ bit_of ws a
bit_before ws i before a read e = ap (λ (x : ℕ). eqb (bit_at x (a % 64)) 1) read
    ∙ sym (ap (λ (k : ℕ). eqb (bit_at (slice_index ws k) (a % 64)) 1) e)

abbrev pub put_in : Bool → List ℕ → Bool → ℕ → Bool
put_in value initial inside a = if inside then value else bit_of initial a

pub put_more : (value : Bool) (initial ws : List ℕ) (from to i before after : ℕ) → before ≡ slice_index ws i → i < length ws
    → IsPut value i from to before after → IsDoneUpTo (put_in value initial) ws from (min to (64 * i))
    → IsDoneUpTo (put_in value initial) (set ws i after) from (min to (64 * (i + 1)))
put_more value initial ws from to i before after read inside put done =
    done_more (put_in value initial) ws from to i after inside (λ a e was.
    let place : 64 * i + a % 64 ≡ a = omega arith in
    put (a % 64) (omega arith)
    ∙ ap (λ (k : ℕ). if is_between from to k then value else eqb (bit_at before (a % 64)) 1) place
    ∙ ap (λ (b : Bool). if is_between from to a then value else b) (bit_before ws i before a read e ∙ was)) done

-- the flags of what is put, by its bits
pub flags_put : (value : Bool) (flags : List Bool) (initial ws : List ℕ) (n from to : ℕ) → flags_of initial n ≡ flags → to ≤ n
    → ((a : ℕ) → bit_of ws a ≡ (if is_between from to a then value else bit_of initial a))
    → (a : ℕ) → has (flags_of ws n) a ≡ (if is_between from to a then value else has flags a)
flags_put value flags initial ws n from to view short done a =
    let inside : a < n → has (flags_of ws n) a ≡ (if is_between from to a then value else has flags a) = λ l.
    has-flags_of ws n a l ∙ done a
    ∙ ap (λ (m : Bool). if is_between from to a then value else m) (sym (has-flags_of initial n a l) ∙ ap (λ v. has v a) view) in
    let past : n ≤ a → has (flags_of ws n) a ≡ (if is_between from to a then value else has flags a) = λ l.
    has_past (flags_of ws n) a (omega (arith, length-flags_of ws n))
    ∙ sym (ap (λ (b : Bool). if b then value else has flags a) (between_no_above from to a (omega arith))
    ∙ has_past flags a (omega (arith, length-flags_of initial n, ap length view))) in
    ⊎_elim inside past (cases_lt a n)

-- ---- a range in three parts, the middle of whole words
-- the word whose bits all have a value
abbrev pub IsWhole : Bool → ℕ → Type 0
IsWhole value word = (j : ℕ) → j < 64 → bit_at word j ≡ (if value then 1 else 0)

pub value_of : (value : Bool) (n : ℕ) → n ≡ (if value then 1 else 0) → eqb n 1 ≡ value
value_of true n e = ap (λ k. eqb k 1) e
value_of false n e = ap (λ k. eqb k 1) e

module _ (value : Bool) (flags : List Bool) (initial ws : List ℕ) (n first past word : ℕ) (view : flags_of initial n ≡ flags)
    (short : 64 * past ≤ n) (whole : IsWhole value word)
    (filled : (i : ℕ) → slice_index ws i ≡ (if is_between first past i then word else slice_index initial i)) where
  within_groups : (a : ℕ) → is_between (64 * first) (64 * past) a ≡ is_between first past (a / 64)
  within_groups a =
      let below : a / 64 < first → is_between (64 * first) (64 * past) a ≡ is_between first past (a / 64) = λ h.
      between_no_below (64 * first) (64 * past) a (omega arith) ∙ sym (between_no_below first past (a / 64) h) in
      let above : past ≤ a / 64 → is_between (64 * first) (64 * past) a ≡ is_between first past (a / 64) = λ h.
      between_no_above (64 * first) (64 * past) a (omega arith) ∙ sym (between_no_above first past (a / 64) h) in
      let inside : first ≤ a / 64 → a / 64 < past → is_between (64 * first) (64 * past) a ≡ is_between first past (a / 64) = λ h k.
      between_yes (64 * first) (64 * past) a (omega arith) (omega arith) ∙ sym (between_yes first past (a / 64) h k) in
      ⊎_elim below (λ h. ⊎_elim (λ k. inside h k) above (cases_lt (a / 64) past)) (cases_lt (a / 64) first)

  bit_filled : (a : ℕ) (b : Bool) → is_between first past (a / 64) ≡ b → bit_of ws a ≡ (if b then value else bit_of initial a)
  bit_filled a true e = ap (λ w. eqb (bit_at w (a % 64)) 1)
      (filled (a / 64) ∙ ap (λ (b : Bool). if b then word else slice_index initial (a / 64)) e)
      ∙ value_of value _ (whole (a % 64) (omega arith))
  bit_filled a false e =
      ap (λ w. eqb (bit_at w (a % 64)) 1) (filled (a / 64) ∙ ap (λ (b : Bool). if b then word else slice_index initial (a / 64)) e)

  pub groups_put : (a : ℕ) → has (flags_of ws n) a ≡ (if is_between (64 * first) (64 * past) a then value else has flags a)
  groups_put a =
      let inside : a < n → has (flags_of ws n) a ≡ (if is_between (64 * first) (64 * past) a then value else has flags a) = λ l.
      has-flags_of ws n a l ∙ bit_filled a (is_between first past (a / 64)) refl
      ∙ ap (λ (b : Bool). if b then value else bit_of initial a) (sym (within_groups a))
      ∙ ap (λ (m : Bool). if is_between (64 * first) (64 * past) a then value else m)
      (sym (has-flags_of initial n a l) ∙ ap (λ v. has v a) view) in
      let outside : n ≤ a → has (flags_of ws n) a ≡ (if is_between (64 * first) (64 * past) a then value else has flags a) = λ l.
      has_past (flags_of ws n) a (omega (arith, length-flags_of ws n))
      ∙ sym (ap (λ (b : Bool). if b then value else has flags a) (between_no_above (64 * first) (64 * past) a (omega arith))
      ∙ has_past flags a (omega (arith, length-flags_of initial n, ap length view))) in
      ⊎_elim inside outside (cases_lt a n)

-- the parts one after the other are the range
pub three_parts : (value : Bool) (before first second after : List Bool) (from low high to : ℕ) → from ≤ low → low ≤ high → high ≤ to
    → ((a : ℕ) → has first a ≡ (if is_between from low a then value else has before a))
    → ((a : ℕ) → has second a ≡ (if is_between low high a then value else has first a))
    → ((a : ℕ) → has after a ≡ (if is_between high to a then value else has second a)) → (a : ℕ)
    → has after a ≡ (if is_between from to a then value else has before a)
three_parts value before first second after from low high to h k l e f g a =
    let pick : (from to : ℕ) (x : Bool) → Bool = λ from to x. if is_between from to a then value else x in
    let yes : (from to : ℕ) (x : Bool) → from ≤ a → a < to → pick from to x ≡ value =
    λ from to x p q. ap (λ (b : Bool). if b then value else x) (between_yes from to a p q) in
    let below : (from to : ℕ) (x : Bool) → a < from → pick from to x ≡ x =
    λ from to x p. ap (λ (b : Bool). if b then value else x) (between_no_below from to a p) in
    let above : (from to : ℕ) (x : Bool) → to ≤ a → pick from to x ≡ x =
    λ from to x p. ap (λ (b : Bool). if b then value else x) (between_no_above from to a p) in
    elim (cases_lt a from) [
      | inl p ↦
          g a ∙ below high to _ (omega arith) ∙ f a ∙ below low high _ (omega arith) ∙ e a ∙ below from low _ p ∙ sym (below from to _ p)
      | inr p ↦ elim (cases_lt a low) [
        | inl q ↦
            g a ∙ below high to _ (omega arith) ∙ f a ∙ below low high _ q ∙ e a ∙ yes from low _ p q ∙ sym (yes from to _ p (omega arith))
        | inr q ↦ elim (cases_lt a high) [
          | inl r ↦ g a ∙ below high to _ r ∙ f a ∙ yes low high _ q r ∙ sym (yes from to _ p (omega arith))
          | inr r ↦ elim (cases_lt a to) [
            | inl s ↦ g a ∙ yes high to _ r s ∙ sym (yes from to _ p s)
            | inr s ↦ g a ∙ above high to _ s ∙ f a ∙ above low high _ r ∙ e a ∙ above from low _ q ∙ sym (above from to _ s)
          ]
        ]
      ]
    ]
