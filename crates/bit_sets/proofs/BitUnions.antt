-- The members of a range of another set that come into a set, word by word.
use Rattle.std.proofs.Common.{◌≡◌, ◌+◌, ◌*◌, ◌%◌, ◌<◌, ◌≤◌, ◌∙◌, min, ℕ, Bool, true, false, List, length, set, eqb, bit_or, bit_and}
use Rattle.std.proofs.Common.{slice_index, inl, inr, refl, sym, subst, ap, ap₂, arith, ⊎_elim, ◌&&◌, ◌||◌}
use Rattle.std.proofs.lemmas.Bool.{cases_lt}
use Rattle.std.specs.Int.{bit_at}
use Rattle.std.specs.Int.Bits.{or_zero_r}
use Rattle.std.proofs.lemmas.List.{set-get_or}
use Rattle.bit_sets.specs.Bits.{is_between, has}
use Rattle.bit_sets.specs.BitWords.{bit_of, flags_of}
use Rattle.bit_sets.specs.Bounded.{AreWithin}
use Rattle.bit_sets.proofs.BitWords.{and-false, length-flags_of, has-flags_of, has_past}
use Rattle.bit_sets.proofs.BitRanges.{IsMask, IsDoneUpTo, done_more, bit_before, value_of, between_no_below, between_no_above}
use Rattle.bit_sets.proofs.BitFilters.{or_none, and_word, or_word}
use Rattle.bit_sets.proofs.Bounds.{AreWide, still}

pub and_swap : (a b : Bool) → (a && b) ≡ (b && a)
and_swap true true = refl
and_swap true false = refl
and_swap false true = refl
and_swap false false = refl

-- the bits of a word, and with them those of another word whose numbers are in a range
abbrev pub IsJoin : ℕ → ℕ → ℕ → ℕ → ℕ → ℕ → Type 0
IsJoin index from to before other after =
    (j : ℕ) → j < 64 → eqb (bit_at after j) 1 ≡ (eqb (bit_at before j) 1 || (is_between from to (64 * index + j) && eqb (bit_at other j) 1))

pub put_by_join : (index from to w other mask : ℕ) → IsMask index from to mask
    → IsJoin index from to w other (bit_or w (bit_and other mask))
put_by_join index from to w other mask is j h =
    or_word w (bit_and other mask) j
    ∙ ap (λ (b : Bool). eqb (bit_at w j) 1 || b) (and_word other mask j ∙ and_swap (eqb (bit_at other j) 1) (eqb (bit_at mask j) 1)
    ∙ ap (λ (b : Bool). b && eqb (bit_at other j) 1) (value_of (is_between from to (64 * index + j)) (bit_at mask j) (is j h)))

-- ---- the words so far
abbrev pub joined_in : List ℕ → List ℕ → Bool → ℕ → Bool
joined_in members initial inside a = bit_of initial a || (inside && bit_of members a)

pub joined_more : (members initial ws : List ℕ) (from to i before other after : ℕ) → before ≡ slice_index ws i
    → other ≡ slice_index members i → i < length ws → IsJoin i from to before other after
    → IsDoneUpTo (joined_in members initial) ws from (min to (64 * i))
    → IsDoneUpTo (joined_in members initial) (set ws i after) from (min to (64 * (i + 1)))
joined_more members initial ws from to i before other after read named inside join done =
    done_more (joined_in members initial) ws from to i after inside (λ a e was.
    let place : 64 * i + a % 64 ≡ a = omega arith in
    join (a % 64) (omega arith)
    ∙ ap (λ (k : ℕ). eqb (bit_at before (a % 64)) 1 || (is_between from to k && eqb (bit_at other (a % 64)) 1)) place
    ∙ ap₂ (λ (x y : Bool). x || (is_between from to a && y))
    (bit_before ws i before a read e ∙ was ∙ sym (or_none (bit_of initial a))) (bit_before members i other a named e)) done

-- where nothing of a word comes
pub joined_same : (members initial ws : List ℕ) (from to i before other mask : ℕ) → before ≡ slice_index ws i
    → other ≡ slice_index members i → i < length ws → IsMask i from to mask → bit_and other mask ≡ 0
    → IsDoneUpTo (joined_in members initial) ws from (min to (64 * i))
    → IsDoneUpTo (joined_in members initial) ws from (min to (64 * (i + 1)))
joined_same members initial ws from to i before other mask read named inside is none done =
    let same : set ws i (bit_or before (bit_and other mask)) ≡ ws =
    ap (λ (m : ℕ). set ws i (bit_or before m)) none ∙ ap (set ws i) (or_zero_r before ∙ read) ∙ set-get_or ws i 0 in
    subst (λ (l : List ℕ). IsDoneUpTo (joined_in members initial) l from (min to (64 * (i + 1)))) same
    (joined_more members initial ws from to i before other (bit_or before (bit_and other mask)) read named inside
    (put_by_join i from to before other mask is) done)

-- the flags of what came, by its bits
pub flags_joined : (flags others : List Bool) (members initial ws : List ℕ) (n m from to : ℕ) → flags_of initial n ≡ flags
    → flags_of members m ≡ others → m ≡ n → to ≤ n
    → ((a : ℕ) → bit_of ws a ≡ (bit_of initial a || (is_between from to a && bit_of members a)))
    → (a : ℕ) → has (flags_of ws n) a ≡ (has flags a || (is_between from to a && has others a))
flags_joined flags others members initial ws n m from to view other even short done a =
    let inside : a < n → has (flags_of ws n) a ≡ (has flags a || (is_between from to a && has others a)) = λ l.
    has-flags_of ws n a l ∙ done a
    ∙ ap₂ (λ (x y : Bool). x || (is_between from to a && y)) (sym (has-flags_of initial n a l) ∙ ap (λ (v : List Bool). has v a) view)
    (sym (has-flags_of members m a (omega arith)) ∙ ap (λ (v : List Bool). has v a) other) in
    let past : n ≤ a → has (flags_of ws n) a ≡ (has flags a || (is_between from to a && has others a)) = λ l.
    has_past (flags_of ws n) a (omega (arith, length-flags_of ws n))
    ∙ sym (ap₂ (λ (x b : Bool). x || (b && has others a)) (has_past flags a (omega (arith, length-flags_of initial n, ap length view)))
    (between_no_above from to a (omega arith))) in
    ⊎_elim inside past (cases_lt a n)

-- ---- with bounds of the members

-- where the range has none, none comes
pub joined_nothing : (member : ℕ → Bool) (old : Bool) (from to a : ℕ) → ((k : ℕ) → from ≤ k → k < to → member k ≡ false)
    → old ≡ (old || (is_between from to a && member a))
joined_nothing member old from to a none = or_none old ∙ sym (elim (cases_lt a from) [
  | inl b ↦ ap (λ (x : Bool). old || (x && member a)) (between_no_below from to a b)
  | inr b ↦ elim (cases_lt a to) [
    | inl d ↦ ap (λ (x : Bool). old || (is_between from to a && x)) (none a b d)
        ∙ ap (λ (x : Bool). old || x) (and-false (is_between from to a))
    | inr d ↦ ap (λ (x : Bool). old || (x && member a)) (between_no_above from to a d)
  ]
])

pub within_joined : (flags new : List Bool) (member : ℕ → Bool) (low high low' high' from to : ℕ) → to ≤ length flags
    → length new ≡ length flags → ((a : ℕ) → has new a ≡ (has flags a || (is_between from to a && member a))) → AreWithin flags low high
    → AreWide low high from to low' high' → AreWithin new low' high'
within_joined flags new member low high low' high' from to inside len put w x = record {
  inside = omega (arith, len, x.no_more, w.inside);
  each = λ a h.
      let other : is_between from to a ≡ false → (low' ≤ a) × (a < high') = λ e.
      still flags low high from to low' high' a w x
      (or_none (has flags a) ∙ sym (put a ∙ ap (λ (b : Bool). has flags a || (b && member a)) e) ∙ h) in
      elim (cases_lt a from) [
        | inl b ↦ other (between_no_below from to a b)
        | inr b ↦ elim (cases_lt a to) [
          | inl d ↦ (let m = x.more (omega arith) in (omega (arith, m.0), omega (arith, m.1)))
          | inr d ↦ other (between_no_above from to a d)
        ]
      ];
}
