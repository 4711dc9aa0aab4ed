-- What flags say once those of the free regions' cards below a card are cleared.
use Rattle.std.proofs.Common.{◌≡◌, ◌≢◌, ◌∙◌, ◌<◌, ◌≤◌, ◌+◌, ◌*◌, ◌/◌, ◌%◌, ℕ, Bool, List, false, if◌then◌else◌, inl, inr, sym, ap, arith}
use Rattle.std.proofs.lemmas.Bool.{cases_lt}
use Rattle.std.proofs.lemmas.Nat.{mul-le}
use Rattle.std.proofs.Math.Nat.{div-mul-le_self}
use Rattle.bit_sets.specs.Bits.{is_between}
use Rattle.bit_sets.proofs.BitRanges.{between_yes, between_no_below, between_no_above}
use Rattle.regions.specs.Table.{Table, kind_of}
use Rattle.regions.specs.declared.row.Kind.TheVariants as kinds
use Rattle.mark_bitmap.proofs.Ranges.{div_is}
use Rattle.evacuation.specs.Space.{flag}

pub record AreCleared (t : Table) (first flags : List Bool) (w n : ℕ) : Type 0 where
  pub in_use : (k : ℕ) → kind_of t (k / w) ≢ kinds.Free → flag flags k ≡ flag first k
  pub free : (k : ℕ) → k < n → kind_of t (k / w) ≡ kinds.Free → flag flags k ≡ false
  pub above : (k : ℕ) → n ≤ k → flag flags k ≡ flag first k

-- the end of a card's region: above the card, and within all cards
pub region_end : (card w count : ℕ) → 0 < w → card < count * w → (card < (card / w + 1) * w) × ((card / w + 1) * w ≤ count * w)
region_end card w count z inside =
    let low = div-mul-le_self card w in
    let f : card / w * w + card % w ≡ card = omega arith in (
      omega arith,
      elim (cases_lt (card / w) count) [
        | inl h ↦ mul-le (card / w + 1) w count w (omega arith) (omega arith)
        | inr h ↦ absurd (let m = mul-le count w (card / w) w (omega arith) (omega arith) in omega (arith, m, low, inside))
      ],
    )

-- the card is the lowest from n on whose flag is set, and its region ends at `end`
module _ (t : Table) (first flags flags' : List Bool) (w n card end : ℕ) (done : AreCleared t first flags w n) (from : n ≤ card)
    (none : (k : ℕ) → n ≤ k → k < card → flag flags k ≡ false) (above : card < end) (whole : end ≡ (card / w + 1) * w) where
  below : (k : ℕ) → k < card → kind_of t (k / w) ≡ kinds.Free → flag flags k ≡ false
  below k lt free = elim (cases_lt k n) [ inl h ↦ done.free k h free | inr h ↦ none k h lt ]

  own : (k : ℕ) → card ≤ k → k < end → k / w ≡ card / w
  own k low high = div_is k w (card / w) (let m = div-mul-le_self card w in omega (arith, m, low)) (omega (arith, high, whole))

  pub cleared : kind_of t (card / w) ≡ kinds.Free
      → ((k : ℕ) → flag flags' k ≡ (if is_between card end k then false else flag flags k)) → AreCleared t first flags' w end
  cleared is put = record {
    in_use = λ k h. elim (cases_lt k card) [
      | inl lt ↦ under k lt ∙ done.in_use k h
      | inr le ↦ elim (cases_lt k end) [
        | inl lt ↦ absurd (h (ap (kind_of t) (own k le lt) ∙ is))
        | inr past ↦ over k past ∙ done.in_use k h
      ]
    ];
    free = λ k h f. elim (cases_lt k card) [
      | inl lt ↦ under k lt ∙ below k lt f
      | inr le ↦ put k ∙ ap (λ (b : Bool). if b then false else flag flags k) (between_yes card end k le h)
    ];
    above = λ k h. over k h ∙ done.above k (omega (arith, h, from, above));
  }
    where
      under : (k : ℕ) → k < card → flag flags' k ≡ flag flags k
      under k h = put k ∙ ap (λ (b : Bool). if b then false else flag flags k) (between_no_below card end k h)

      over : (k : ℕ) → end ≤ k → flag flags' k ≡ flag flags k
      over k h = put k ∙ ap (λ (b : Bool). if b then false else flag flags k) (between_no_above card end k h)

  pub left : kind_of t (card / w) ≢ kinds.Free → flags' ≡ flags → AreCleared t first flags' w end
  left is same = record {
    in_use = λ k h. ap (λ (f : List Bool). flag f k) same ∙ done.in_use k h;
    free = λ k h f. elim (cases_lt k card) [
      | inl lt ↦ ap (λ (l : List Bool). flag l k) same ∙ below k lt f
      | inr le ↦ absurd (is (ap (kind_of t) (sym (own k le h)) ∙ f))
    ];
    above = λ k h. ap (λ (f : List Bool). flag f k) same ∙ done.above k (omega (arith, h, from, above));
  }
