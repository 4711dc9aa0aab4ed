-- The words of marked and of kept objects.
use Rattle.regions.proofs.Common.{◌≡◌, ◌+◌, ◌-◌, ◌*◌, ◌/◌, ◌%◌, ◌<◌, ◌≤◌, ◌∙◌, inl, inr, ℕ, zero, suc, Bool, true, false, List, None}
use Rattle.regions.proofs.Common.{length, get_or, refl, sym, ap, arith, if◌then◌else◌, cases_lt, cases_Bool, le-leb, lt-ltb, le-ltb}
use Rattle.regions.proofs.Common.{and_parts, ltb-true, leb-true, get_or_past, total_size, Table, Region, Free, Ordinary, First, Rest}
use Rattle.regions.proofs.Common.{region_tile, region_at, nth_region, region_kind, kind_of, region_used, used_of, top_of, tile_in}
use Rattle.regions.proofs.Common.{tile_object, object_at, stored_size, object_words, region_tiles, tiles_of, IsShaped}
use Rattle.regions.specs.declared.row.Kind.TheVariants as kinds
use Rattle.mark_bitmap.specs.Marks.{is_marked}
use Rattle.mark_bitmap.specs.Tops.{Tops, is_in_region}
use Rattle.mark_bitmap.specs.Kept.{MarksObjects, kept_in}
use Rattle.mark_bitmap.specs.Live.{marked_words, live_bound_of}
use Rattle.mark_bitmap.proofs.Ranges.{div_is, below_in}
use Rattle.mark_bitmap.proofs.Spans.{spans, option_cases}
use Rattle.regions.proofs.LongRuns.Blocks.{top_near}

pub in_region : (words k a : ℕ) → k * words ≤ a → a < k * words + words → is_in_region words k a ≡ true
in_region words k a low high = rw (le-leb (k * words) a low, lt-ltb a (k * words + words) high) refl

pub region_low : (words k a : ℕ) → is_in_region words k a ≡ true → k * words ≤ a
region_low words k a h = leb-true (k * words) a (and_parts _ _ h).0

pub region_high : (words k a : ℕ) → is_in_region words k a ≡ true → a < k * words + words
region_high words k a h = ltb-true a (k * words + words) (and_parts _ _ h).1

-- a marked address has words
pub marked_positive : (t : Table) (tops : List ℕ) (marks : List Bool) (a : ℕ) → MarksObjects t tops marks
    → is_marked marks a ≡ true → 2 ≤ object_words t a
unfolding object_words
marked_positive t tops marks a m h = let o = m.object a h in omega (arith, ap stored_size o.1)

pub none_words : (t : Table) (marks : List Bool) (n a : ℕ)
    → ((x : ℕ) → a ≤ x → x < a + n → is_marked marks x ≡ false) → marked_words t marks a n ≡ 0
none_words t marks zero a none = refl
none_words t marks (suc n) a none =
    let here : (if is_marked marks a then object_words t a else 0) ≡ 0 =
    ap (λ b. if b then object_words t a else 0) (none a (omega arith) (omega arith)) in
    omega (arith, here, none_words t marks n (suc a) (λ x l h. none x (omega (arith, l)) (omega (arith, h))))

pub words_none : (t : Table) (tops : List ℕ) (marks : List Bool) (n a x : ℕ) → MarksObjects t tops marks → marked_words t marks a n ≡ 0
    → a ≤ x → x < a + n → is_marked marks x ≡ false
words_none t tops marks zero a x m e low high = absurd (omega (arith, low, high))
words_none t tops marks (suc n) a x m e low high =
    elim (cases_lt a x) [
      | inl after ↦ words_none t tops marks n (suc a) x m (omega (arith, e)) (omega (arith, after)) (omega (arith, high))
      | inr before ↦
          let same : x ≡ a = omega (arith, low, before) in
          ap (is_marked marks) same ∙ elim (cases_Bool (is_marked marks a)) [
            | inl marked ↦
                absurd (omega (arith, e, ap (λ b. if b then object_words t a else 0) marked, marked_positive t tops marks a m marked))
            | inr unmarked ↦ unmarked
          ]
    ]

pub same_words : (t t' : Table) (marks marks' : List Bool) (n a : ℕ)
    → ((x : ℕ) → a ≤ x → x < a + n → is_marked marks' x ≡ is_marked marks x)
    → ((x : ℕ) → a ≤ x → x < a + n → object_words t' x ≡ object_words t x) → marked_words t' marks' a n ≡ marked_words t marks a n
same_words t t' marks marks' zero a marked words = refl
same_words t t' marks marks' (suc n) a marked words =
    let here : (if is_marked marks' a then object_words t' a else 0) ≡ (if is_marked marks a then object_words t a else 0) =
    rw (marked a (omega arith) (omega arith), words a (omega arith) (omega arith)) refl in
    omega (
      arith,
      here,
      same_words t t' marks marks' n (suc a) (λ x l h. marked x (omega (arith, l)) (omega (arith, h)))
          (λ x l h. words x (omega (arith, l)) (omega (arith, h))),
    )

-- what is handed out of a region fits into it
pub used_le : (t : Table) (k : ℕ) → IsShaped t → used_of t k ≤ t.words_per_region
unfolding used_of kind_of tiles_of
used_le t k shape = go (nth_region t k) refl
  where
    go : (r : Region) → nth_region t k ≡ r → region_used t.words_per_region (nth_region t k) ≤ t.words_per_region
    go Free e = rw e (omega arith)
    go (Ordinary ts) e = omega (
      arith,
      ap (region_used t.words_per_region) e,
      ap (λ (r : Region). total_size (region_tiles r)) e,
      (shape.fitting k).fits (ap region_kind e),
    )
    go (First s) e = rw e (omega arith)
    go (Rest n) e = let l = shape.later k n e in rw e (omega (arith, l.words))

-- a top at mark start lies in its region
pub tops_le : (t : Table) (tops : List ℕ) (marks : List Bool) (k : ℕ) → IsShaped t → MarksObjects t tops marks
    → get_or tops k 0 ≤ k * t.words_per_region + t.words_per_region
tops_le t tops marks k shape m = elim (cases_lt k (length t.regions)) [
  | inl known ↦ omega (arith, m.top k known, used_le t k shape)
  | inr past ↦ omega (arith, get_or_past tops k 0 (omega (arith, past, m.each_region)))
]

same_region_words : (t t' : Table) (k a : ℕ) → t'.words_per_region ≡ t.words_per_region → nth_region t' k ≡ nth_region t k
    → k * t.words_per_region ≤ a → a < k * t.words_per_region + t.words_per_region → object_words t' a ≡ object_words t a
unfolding object_words object_at tile_in region_at nth_region
same_region_words t t' k a size same low high =
    let row : a / t.words_per_region ≡ k = div_is a t.words_per_region k low high in
    ap (λ (n : ℕ). stored_size (tile_object (region_tile (get_or t'.regions (a / n) Free) (a % n)))) size
    ∙ ap (λ (n : ℕ). stored_size (tile_object (region_tile (get_or t'.regions n Free) (a % t.words_per_region)))) row
    ∙ ap (λ (r : Region). stored_size (tile_object (region_tile r (a % t.words_per_region)))) same
    ∙ ap (λ (n : ℕ). stored_size (tile_object (region_tile (get_or t.regions n Free) (a % t.words_per_region)))) (sym row)

-- a region's live bound is told by its tiles, its marks and its top at mark start
pub same_bound : (t t' : Table) (tops tops' : List ℕ) (marks marks' : List Bool) (k : ℕ) → IsShaped t
    → t'.words_per_region ≡ t.words_per_region → nth_region t' k ≡ nth_region t k
    → get_or tops' k 0 ≡ get_or tops k 0 → ((a : ℕ) → is_in_region t.words_per_region k a ≡ true → is_marked marks' a ≡ is_marked marks a)
    → MarksObjects t tops marks → live_bound_of t' tops' marks' k ≡ live_bound_of t tops marks k
unfolding live_bound_of
same_bound t t' tops tops' marks marks' k shape size same top each m =
    let words : ℕ = t.words_per_region in
    let n : ℕ = get_or tops k 0 - k * words in
    let le = tops_le t tops marks k shape m in
    let at : get_or tops' k 0 - k * t'.words_per_region ≡ n = rw (top, size) refl in
    let bottom : k * t'.words_per_region ≡ k * words = ap (λ (w : ℕ). k * w) size in
    let inside : (x : ℕ) → x < k * words + n → x < k * words + words = λ x h. omega (arith, h, le) in
    let below : marked_words t' marks' (k * t'.words_per_region) (get_or tops' k 0 - k * t'.words_per_region)
    ≡ marked_words t marks (k * words) n =
    ap (λ (b : ℕ). marked_words t' marks' b (get_or tops' k 0 - k * t'.words_per_region)) bottom
    ∙ ap (marked_words t' marks' (k * words)) at
    ∙ same_words t t' marks marks' n (k * words) (λ x l h. each x (in_region words k x l (inside x h)))
    (λ x l h. same_region_words t t' k x size same l (inside x h)) in
    omega (arith, below, top_near t t' k size same, top)

-- a live bound of zero says that the top at mark start is the top, and that nothing below it is marked
pub record IsDead (t : Table) (tops : List ℕ) (marks : List Bool) (k : ℕ) : Type 0 where
  pub top : get_or tops k 0 ≡ top_of t k
  pub none : (a : ℕ) → k * t.words_per_region ≤ a → a < get_or tops k 0 → is_marked marks a ≡ false

pub dead_of_zero : (t : Table) (tops : List ℕ) (marks : List Bool) (k : ℕ) → MarksObjects t tops marks → k < length t.regions
    → live_bound_of t tops marks k ≡ 0 → IsDead t tops marks k
unfolding live_bound_of
dead_of_zero t tops marks k m known e = record {
  top = omega (arith, m.top k known, e);
  none = λ a low high. words_none t tops marks (get_or tops k 0 - k * t.words_per_region) (k * t.words_per_region) a m
      (omega (arith, e)) low (omega (arith, low, high));
}

-- and nothing of the region is kept then
pub dead_kept : (t : Table) (tops : Tops) (previous : List Bool) (k a : ℕ) → IsShaped t
    → kind_of t k ≡ kinds.Ordinary → IsDead t tops.previous previous k
    → is_in_region t.words_per_region k a ≡ true → kept_in t tops previous a ≡ None
dead_kept t tops previous k a shape ordinary d inside =
    let words : ℕ = t.words_per_region in
    let top : ℕ = get_or tops.previous k 0 in
    let low = region_low words k a inside in
    let high = region_high words k a inside in
    let below = below_in words tops.previous k a inside in
    elim (cases_lt a top) [
      | inl under ↦ rw (below ∙ lt-ltb a top under, d.none a low under) refl
      | inr above ↦
          let nothing : object_at t a ≡ None = elim (option_cases (object_at t a)) [
            | inl none ↦ none
            | inr some ↦ absurd (omega (arith, (spans t k shape ordinary).ends a some.0 low high some.1, above, d.top))
          ] in
          rw (below ∙ le-ltb a top above) nothing
    ]
