-- Sets of numbers with bounds of their members.
use Rattle.std.proofs.Common.{◌≡◌, ◌+◌, ◌<◌, ◌≤◌, ◌⊎◌, ◌∙◌, ℕ, max, Bool, true, false, List, length, length-set, set, replicate}
use Rattle.std.proofs.Common.{get_or-set_other, inl, inr, refl, sym, ap, arith, if◌then◌else◌, ext_get_or}
use Rattle.std.proofs.lemmas.List.{length-replicate, get_or-replicate}
use Rattle.std.proofs.lemmas.Bool.{cases_lt, cases_eq}
use Rattle.bit_sets.specs.Bits.{has, is_between}
use Rattle.bit_sets.specs.Bounded.{AreWithin}
use Rattle.bit_sets.proofs.BitRanges.{between_yes, between_no_below, between_no_above}

-- what widened bounds tell
pub record AreWide (low high from to low' high' : ℕ) : Type 0 where
  pub more : from < to → (low' ≤ from) × (to ≤ high')
  pub old : low < high → (low' ≤ low) × (high ≤ high')
  pub no_more : high' ≤ max high to

pub still : (flags : List Bool) (low high from to low' high' a : ℕ) → AreWithin flags low high → AreWide low high from to low' high'
    → has flags a ≡ true → (low' ≤ a) × (a < high')
still flags low high from to low' high' a w x h =
    let e = w.each a h in
    let o = x.old (omega (arith, e.0, e.1)) in
    (omega (arith, o.0, e.0), omega (arith, o.1, e.1))

pub within_set : (flags : List Bool) (low high low' high' number : ℕ) → number < length flags → AreWithin flags low high
    → AreWide low high number (number + 1) low' high' → AreWithin (set flags number true) low' high'
within_set flags low high low' high' number inside w x = record {
  inside = omega (arith, length-set flags number true, x.no_more, w.inside);
  each = λ a h. elim (cases_eq a number) [
    | inl e ↦ (let m = x.more (omega arith) in (omega (arith, m.0), omega (arith, m.1)))
    | inr e ↦ still flags low high number (number + 1) low' high' a w x (sym (get_or-set_other flags number a true false e) ∙ h)
  ];
}

pub within_range : (flags new : List Bool) (low high low' high' from to : ℕ) → to ≤ length flags → length new ≡ length flags
    → ((a : ℕ) → has new a ≡ (if is_between from to a then true else has flags a)) → AreWithin flags low high
    → AreWide low high from to low' high' → AreWithin new low' high'
within_range flags new low high low' high' from to inside len put w x = record {
  inside = omega (arith, len, x.no_more, w.inside);
  each = λ a h.
      let other : is_between from to a ≡ false → (low' ≤ a) × (a < high') = λ e.
      still flags low high from to low' high' a w x (sym (put a ∙ ap (λ (b : Bool). if b then true else has flags a) e) ∙ h) in
      elim (cases_lt a from) [
        | inl b ↦ other (between_no_below from to a b)
        | inr b ↦ elim (cases_lt a to) [
          | inl d ↦ (let m = x.more (omega arith) in (omega (arith, m.0), omega (arith, m.1)))
          | inr d ↦ other (between_no_above from to a d)
        ]
      ];
}

-- no member is in a range that is outside the bounds
pub nothing_cleared : (flags : List Bool) (low high from to a : ℕ) → AreWithin flags low high → (high ≤ from) ⊎ (to ≤ low)
    → has flags a ≡ (if is_between from to a then false else has flags a)
nothing_cleared flags low high from to a w out = elim (cases_lt a from) [
  | inl b ↦ sym (ap (λ (x : Bool). if x then false else has flags a) (between_no_below from to a b))
  | inr b ↦ elim (cases_lt a to) [
    | inl d ↦ is_none (has flags a) refl (λ e. let m = w.each a e in
        elim out [ inl o ↦ absurd (omega (arith, o, b, m.1)) | inr o ↦ absurd (omega (arith, o, d, m.0)) ])
        ∙ sym (ap (λ (x : Bool). if x then false else has flags a) (between_yes from to a b d))
    | inr d ↦ sym (ap (λ (x : Bool). if x then false else has flags a) (between_no_above from to a d))
  ]
]
  where
    is_none : (x : Bool) → has flags a ≡ x → (has flags a ≡ true → ⊥) → has flags a ≡ false
    is_none true e f = absurd (f e)
    is_none false e f = e

pub none_left : (flags new : List Bool) (low high : ℕ) → AreWithin flags low high → length new ≡ length flags
    → ((a : ℕ) → has new a ≡ (if is_between low high a then false else has flags a)) → new ≡ replicate (length flags) false
none_left flags new low high w len put =
    ext_get_or false new (replicate (length flags) false) (len ∙ sym (length-replicate {A = Bool} (length flags) false))
    (λ a h. none a ∙ sym (get_or-replicate (length flags) a false false (omega (arith, len, h))))
  where
    outside : (a : ℕ) → ((low ≤ a) × (a < high) → ⊥) → (b : Bool) → has flags a ≡ b → has flags a ≡ false
    outside a f true e = absurd (f (w.each a e))
    outside a f false e = e

    none : (a : ℕ) → has new a ≡ false
    none a = elim (cases_lt a low) [
      | inl b ↦ put a ∙ ap (λ (x : Bool). if x then false else has flags a) (between_no_below low high a b)
          ∙ outside a (λ p. omega (arith, p.0)) (has flags a) refl
      | inr b ↦ elim (cases_lt a high) [
        | inl d ↦ put a ∙ ap (λ (x : Bool). if x then false else has flags a) (between_yes low high a b d)
        | inr d ↦ put a ∙ ap (λ (x : Bool). if x then false else has flags a) (between_no_above low high a d)
            ∙ outside a (λ p. omega (arith, p.1)) (has flags a) refl
      ]
    ]
