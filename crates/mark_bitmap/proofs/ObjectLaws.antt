-- What keeps marks at objects, and tops at mark start in their regions.
use Rattle.regions.proofs.Common.{length-map-range_with_len, get_or-map-range_with_len, get_or-set_other, get_or-replicate, get_or-set_same}
use Rattle.regions.proofs.Common.{length-replicate, get_or_past, length-set, cases_Bool, free_table, replicate, and_parts, object_at, false}
use Rattle.regions.proofs.Common.{cases_lt, cases_eq, ltb-true, used_of, length, get_or, ⊎_elim, lt-ltb, mul-le, Stored, top_of, arith, ◌≡◌}
use Rattle.regions.proofs.Common.{Table, Bool, true, List, Some, Free, ◌≢◌, ◌*◌, ◌<◌, ◌≤◌, ◌∙◌, inl, inr, suc, set, ltb, sym, not, ap, ℕ}
use Rattle.mark_bitmap.specs.Marks.{is_marked, is_only}
use Rattle.mark_bitmap.specs.Tops.{bottoms, is_in_region, is_below}
use Rattle.mark_bitmap.specs.Kept.{MarksObjects}
use Rattle.mark_bitmap.proofs.Ranges.{below_in, lies_below, below_set_in, below_set_other, not_below_bottom}

pub none_marked : (n a : ℕ) → is_marked (replicate n false) a ≡ false
none_marked n a =
    ⊎_elim (λ b. get_or-replicate n a false false b)
    (λ b. get_or_past (replicate n false) a false (omega (arith, length-replicate {A = Bool} n false)))
    (cases_lt a n)

-- what is marked in a set, and not in another, is one of its addresses
pub only_within : (marks other : List Bool) (a : ℕ) → is_only marks other a ≡ true → a < length marks
only_within marks other a is = elim (cases_lt a (length marks)) [
  | inl inside ↦ inside
  | inr past ↦ absurd (let none = get_or_past marks a false past in
      let marked = (and_parts (is_marked marks a) (not (is_marked other a)) is).0 in
      cc)
]

pub new_objects : (count words : ℕ) → MarksObjects (free_table count words) (bottoms count words) (replicate (count * words) false)
unfolding free_table
new_objects count words =
    let regions : length (replicate count Free) ≡ count = length-replicate count Free in
    let at : (k : ℕ) → k < count → get_or (bottoms count words) k 0 ≡ k * words =
    λ k h. get_or-map-range_with_len (λ n. n * words) 0 count k k 0 h (omega arith) in
    let unmarked : (a : ℕ) → is_marked (replicate (count * words) false) a ≡ false = none_marked (count * words) in
    record {
      each_region = length-map-range_with_len (λ n. n * words) 0 count ∙ sym regions;
      each_word = length-replicate (count * words) false ∙ ap (λ (n : ℕ). n * words) (sym regions);
      bottom = λ k h. omega (arith, at k (omega (arith, h, regions)));
      top = λ k h. omega (arith, at k (omega (arith, h, regions)));
      object = λ a h. absurd (let e = unmarked a in cc);
      below = λ a h. absurd (let e = unmarked a in cc);
    }

pub set_objects : (t : Table) (tops : List ℕ) (marks : List Bool) (a : ℕ) (s : Stored)
    → MarksObjects t tops marks → object_at t a ≡ Some s → is_below t.words_per_region tops a ≡ true
    → MarksObjects t tops (set marks a true)
set_objects t tops marks a s m o h = record {
  each_region = m.each_region;
  each_word = length-set marks a true ∙ m.each_word;
  bottom = m.bottom;
  top = m.top;
  object = λ b k. elim (cases_eq b a) [
    | inl e ↦ (s, ap (object_at t) e ∙ o)
    | inr e ↦ m.object b (sym (get_or-set_other marks a b true false e) ∙ k)
  ];
  below = λ b k. elim (cases_eq b a) [
    | inl e ↦ ap (is_below t.words_per_region tops) e ∙ h
    | inr e ↦ m.below b (sym (get_or-set_other marks a b true false e) ∙ k)
  ];
}

-- a region's top at mark start changes: it lies in its region, and no mark of the region is at or above it
pub top_objects : (t : Table) (tops : List ℕ) (marks : List Bool) (k top : ℕ)
    → 0 < t.words_per_region → MarksObjects t tops marks
    → k * t.words_per_region ≤ top → top ≤ top_of t k
    → ((a : ℕ) → k < length tops → is_in_region t.words_per_region k a ≡ true → is_marked marks a ≡ true → a < top)
    → MarksObjects t (set tops k top) marks
top_objects t tops marks k top z m low high above =
    let words : ℕ = t.words_per_region in
    let changed : (j : ℕ) → j < length t.regions → j ≡ k → get_or (set tops k top) j 0 ≡ top = λ j h e.
    ap (λ (n : ℕ). get_or (set tops k top) n 0) e ∙ get_or-set_same tops k top 0 (omega (arith, h, e, m.each_region)) in
    let stays : (j : ℕ) → j ≢ k → get_or (set tops k top) j 0 ≡ get_or tops j 0 = λ j e. get_or-set_other tops k j top 0 e in
    record {
      each_region = length-set tops k top ∙ m.each_region;
      each_word = m.each_word;
      bottom = λ j h. elim (cases_eq j k) [
        | inl e ↦ rw (changed j h e, e) low
        | inr e ↦ rw (stays j e) (m.bottom j h)
      ];
      top = λ j h. elim (cases_eq j k) [
        | inl e ↦ rw (changed j h e, e) high
        | inr e ↦ rw (stays j e) (m.top j h)
      ];
      object = m.object;
      below = λ a h. elim (cases_Bool (is_in_region words k a)) [
        | inl i ↦ elim (cases_lt k (length tops)) [
          | inl known ↦ below_set_in words tops k top a known i ∙ lt-ltb a top (above a known i h)
          | inr past ↦ absurd (let p = ltb-true a (get_or tops k 0) (sym (below_in words tops k a i) ∙ m.below a h) in
              omega (arith, p, get_or_past tops k 0 past))
        ]
        | inr o ↦ below_set_other words tops k top a z o ∙ m.below a h
      ];
    }

pub set_next_objects : (t : Table) (tops : List ℕ) (marks : List Bool) (k : ℕ)
    → 0 < t.words_per_region → MarksObjects t tops marks → k < length t.regions → MarksObjects t (set tops k (top_of t k)) marks
set_next_objects t tops marks k z m known =
    top_objects t tops marks k (top_of t k) z m (omega arith) (omega arith)
    (λ a _ i h. let p = ltb-true a (get_or tops k 0) (sym (below_in t.words_per_region tops k a i) ∙ m.below a h) in
    omega (arith, p, m.top k known))

pub reset_objects : (t : Table) (tops : List ℕ) (marks : List Bool) (k : ℕ)
    → 0 < t.words_per_region → MarksObjects t tops marks
    → ((a : ℕ) → is_in_region t.words_per_region k a ≡ true → is_marked marks a ≡ false)
    → MarksObjects t (set tops k (k * t.words_per_region)) marks
reset_objects t tops marks k z m none =
    top_objects t tops marks k (k * t.words_per_region) z m (omega arith) (omega arith) (λ a _ i h. absurd (let e = none a i in cc))

pub free_unmarked : (t : Table) (tops : List ℕ) (marks : List Bool) (k a : ℕ)
    → MarksObjects t tops marks → k < length t.regions → used_of t k ≡ 0
    → is_in_region t.words_per_region k a ≡ true → is_marked marks a ≡ false
free_unmarked t tops marks k a m known free i =
    elim (cases_Bool (is_marked marks a)) [
      | inl h ↦
          let bottom : get_or tops k 0 ≡ k * t.words_per_region = omega (arith, m.bottom k known, m.top k known) in
          let yes = sym (below_in t.words_per_region tops k a i) ∙ m.below a h in
          let no = ap (λ (n : ℕ). ltb a n) bottom ∙ not_below_bottom t.words_per_region k a i in
          absurd (cc)
      | inr h ↦ h
    ]

pub within : (t : Table) (tops : List ℕ) (marks : List Bool) (a : ℕ)
    → 0 < t.words_per_region → MarksObjects t tops marks → is_below t.words_per_region tops a ≡ true → a < length marks
within t tops marks a z m h =
    let words : ℕ = t.words_per_region in
    let b = lies_below words tops a z h in
    let known : suc b.region ≤ length t.regions = omega (arith, b.known, m.each_region) in
    let whole : suc b.region * words ≤ length t.regions * words =
    mul-le (suc b.region) words (length t.regions) words known (omega arith) in
    omega (arith, whole, b.less, m.each_word)
