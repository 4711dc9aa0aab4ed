-- The numbers of a group that pass a filter, by one word of each.
use Rattle.std.proofs.Common.{◌≡◌, ◌≢◌, ◌⊎◌, ◌+◌, ◌*◌, ◌/◌, ◌%◌, ◌<◌, ◌≤◌, ◌∙◌, min, max, ℕ, Bool, true, false, List, length, set, eqb}
use Rattle.std.proofs.Common.{bit_or, bit_and, slice_index, inl, inr, refl, sym, ap, ap₂, arith, ⊎_elim, ◌&&◌, ◌||◌}
use Rattle.std.proofs.lemmas.Bool.{cases_lt, cases_eq}
use Rattle.std.specs.Int.{bit_at}
use Rattle.std.proofs.lemmas.Nat.Bits.{bit_at-lt, bit_at_and, bit_at_or}
use Rattle.bit_sets.specs.Bits.{is_between, is_passing, has}
use Rattle.bit_sets.specs.BitWords.{flags_of}
use Rattle.bit_sets.proofs.BitWords.{bit_of-set_here, bit_of-set_there, length-flags_of, has-flags_of, has_past}
use Rattle.bit_sets.proofs.BitRanges.{between_yes, between_no_below, between_no_above}
use Rattle.bit_sets.proofs.LowestBits.{one_or_zero}

pub or_none : (b : Bool) → b ≡ (b || false)
or_none true = refl
or_none false = refl

and_bit : (x y z : ℕ) → z ≡ min x y → x < 2 → y < 2 → eqb z 1 ≡ (eqb x 1 && eqb y 1)
and_bit x y z e h k = elim (one_or_zero x h) [
  | inl none ↦
      let same : z ≡ 0 = omega (arith, e) in
      ap (λ (v : ℕ). eqb v 1) same ∙ sym (ap (λ (v : ℕ). eqb v 1 && eqb y 1) none)
  | inr one ↦
      let same : z ≡ y = omega (arith, e) in
      ap (λ (v : ℕ). eqb v 1) same ∙ sym (ap (λ (v : ℕ). eqb v 1 && eqb y 1) one)
]

or_bit : (x y z : ℕ) → z ≡ max x y → x < 2 → y < 2 → eqb z 1 ≡ (eqb x 1 || eqb y 1)
or_bit x y z e h k = elim (one_or_zero x h) [
  | inl none ↦
      let same : z ≡ y = omega (arith, e) in
      ap (λ (v : ℕ). eqb v 1) same ∙ sym (ap (λ (v : ℕ). eqb v 1 || eqb y 1) none)
  | inr one ↦
      let same : z ≡ 1 = omega (arith, e) in
      ap (λ (v : ℕ). eqb v 1) same ∙ sym (ap (λ (v : ℕ). eqb v 1 || eqb y 1) one)
]

pub and_word : (v w j : ℕ) → eqb (bit_at (bit_and v w) j) 1 ≡ (eqb (bit_at v j) 1 && eqb (bit_at w j) 1)
and_word v w j = and_bit (bit_at v j) (bit_at w j) (bit_at (bit_and v w) j) (bit_at_and v w j) (bit_at-lt v j) (bit_at-lt w j)

pub or_word : (v w j : ℕ) → eqb (bit_at (bit_or v w) j) 1 ≡ (eqb (bit_at v j) 1 || eqb (bit_at w j) 1)
or_word v w j = or_bit (bit_at v j) (bit_at w j) (bit_at (bit_or v w) j) (bit_at_or v w j) (bit_at-lt v j) (bit_at-lt w j)

-- the word after it: its own bits, and those that are in the three other words
abbrev pub word_after : ℕ → ℕ → ℕ → ℕ → ℕ
word_after own other first second = bit_or own (bit_and other (bit_and first second))

word_bit : (w o f s j : ℕ) → eqb (bit_at (word_after w o f s) j) 1
    ≡ (eqb (bit_at w j) 1 || (eqb (bit_at o j) 1 && (eqb (bit_at f j) 1 && eqb (bit_at s j) 1)))
word_bit w o f s j =
    or_word w (bit_and o (bit_and f s)) j
    ∙ ap (λ (b : Bool). eqb (bit_at w j) 1 || b)
    (and_word o (bit_and f s) j ∙ ap (λ (b : Bool). eqb (bit_at o j) 1 && b) (and_word f s j))

module _ (flags others filter : List Bool) (ws ms fs : List ℕ) (n m k g i j w o f s : ℕ) (view : flags_of ws n ≡ flags)
    (view' : flags_of ms m ≡ others) (view'' : flags_of fs k ≡ filter) (even : m ≡ n) (within : 64 * g + 64 ≤ n) (g_in : g < length ws)
    (first : 64 * i + 64 ≤ k) (second : 64 * j + 64 ≤ k) (w_is : w ≡ slice_index ws g) (o_is : o ≡ slice_index ms g)
    (f_is : f ≡ slice_index fs i) (s_is : s ≡ slice_index fs j) where
  abbrev new : List ℕ
  new = set ws g (word_after w o f s)

  -- what the filter's word says of a number
  row : (l v a : ℕ) → 64 * l + 64 ≤ k → v ≡ slice_index fs l → eqb (bit_at v (a % 64)) 1 ≡ has filter (64 * l + a % 64)
  row l v a h e =
      let at : (64 * l + a % 64) / 64 ≡ l = omega arith in
      let place : (64 * l + a % 64) % 64 ≡ a % 64 = omega arith in
      ap (λ (x : ℕ). eqb (bit_at x (a % 64)) 1) e
      ∙ sym (ap (λ (q : List Bool). has q (64 * l + a % 64)) (sym view'') ∙ has-flags_of fs k (64 * l + a % 64) (omega arith)
      ∙ ap₂ (λ (x y : ℕ). eqb (bit_at (slice_index fs x) y) 1) at place)

  own : (a : ℕ) → a / 64 ≡ g → eqb (bit_at w (a % 64)) 1 ≡ has flags a
  own a e = ap (λ (x : ℕ). eqb (bit_at x (a % 64)) 1) w_is ∙ ap (λ (x : ℕ). eqb (bit_at (slice_index ws x) (a % 64)) 1) (sym e)
      ∙ sym (has-flags_of ws n a (omega arith)) ∙ ap (λ (v : List Bool). has v a) view

  theirs : (a : ℕ) → a / 64 ≡ g → eqb (bit_at o (a % 64)) 1 ≡ has others a
  theirs a e = ap (λ (x : ℕ). eqb (bit_at x (a % 64)) 1) o_is ∙ ap (λ (x : ℕ). eqb (bit_at (slice_index ms x) (a % 64)) 1) (sym e)
      ∙ sym (has-flags_of ms m a (omega arith)) ∙ ap (λ (v : List Bool). has v a) view'

  here : (a : ℕ) → a / 64 ≡ g → has (flags_of new n) a
      ≡ (has flags a || (is_between (64 * g) (64 * g + 64) a && (has others a && is_passing filter i j a)))
  here a e =
      has-flags_of new n a (omega arith) ∙ bit_of-set_here ws g (word_after w o f s) a g_in e
      ∙ word_bit w o f s (a % 64)
      ∙ ap₂ (λ (x y : Bool). x || y) (own a e)
      (ap₂ (λ (x y : Bool). x && y) (theirs a e) (ap₂ (λ (x y : Bool). x && y) (row i f a first f_is) (row j s a second s_is)))
      ∙ ap (λ (b : Bool). has flags a || (b && (has others a && is_passing filter i j a)))
      (sym (between_yes (64 * g) (64 * g + 64) a (omega arith) (omega arith)))

  there : (a : ℕ) → a / 64 ≢ g → has (flags_of new n) a
      ≡ (has flags a || (is_between (64 * g) (64 * g + 64) a && (has others a && is_passing filter i j a)))
  there a ne =
      let out : is_between (64 * g) (64 * g + 64) a ≡ false =
      ⊎_elim (λ b. between_no_below (64 * g) (64 * g + 64) a b)
      (λ b. ⊎_elim (λ d. absurd (ne (omega arith))) (λ d. between_no_above (64 * g) (64 * g + 64) a d) (cases_lt a (64 * g + 64)))
      (cases_lt a (64 * g)) in
      same (cases_lt a n) ∙ or_none (has flags a)
      ∙ ap (λ (b : Bool). has flags a || (b && (has others a && is_passing filter i j a))) (sym out)
    where
      same : (a < n) ⊎ (n ≤ a) → has (flags_of new n) a ≡ has flags a
      same (inl h) = has-flags_of new n a h ∙ bit_of-set_there ws g (word_after w o f s) a ne ∙ sym (has-flags_of ws n a h)
          ∙ ap (λ (v : List Bool). has v a) view
      same (inr h) = has_past (flags_of new n) a (omega (arith, length-flags_of new n))
          ∙ sym (has_past flags a (omega (arith, length-flags_of ws n, ap length view)))

  pub passing_put : (a : ℕ) → has (flags_of new n) a
      ≡ (has flags a || (is_between (64 * g) (64 * g + 64) a && (has others a && is_passing filter i j a)))
  passing_put a = ⊎_elim (λ e. here a e) (λ ne. there a ne) (cases_eq (a / 64) g)
