-- A compaction of a region of words: what it takes lowers the highest ordinary region, and where it takes nothing none is above a free
-- one.
use Rattle.std.proofs.Common.{◌≡◌, ◌≢◌, ◌+◌, ◌-◌, ◌*◌, ◌<◌, ◌≤◌, ◌⊎◌, ◌∷◌, ◌++◌, ◌∙◌, ℕ, suc, zero, Bool, true, false, List, [], Option}
use Rattle.std.proofs.Common.{Some, None, length, get_or, All, sum_by, cond, inl, inr, refl, sym, ap, subst, arith, if◌then◌else◌}
use Rattle.std.proofs.Common.{count_by, ◌==◌, ◌||◌}
use Rattle.std.proofs.lemmas.Bool.{cases_eq, cases_lt, cases_Bool, eq-eqb, eqb-true}
use Rattle.std.proofs.lemmas.Nat.{mul-le}
use Rattle.std.proofs.lemmas.List.Sums.{sum_by-cons}
use Rattle.std.proofs.lemmas.List.Folds.{Any-from_list_any}
use Rattle.heap_model.specs.Heap.{Stored}
use Rattle.regions.specs.Table.{Table, is_free, kind_of, free_count, object_at, top_of}
use Rattle.regions.specs.Shaped.{IsShaped}
use Rattle.regions.specs.declared.row.Kind.{Kind}
use Rattle.regions.specs.declared.row.Kind.TheVariants as kinds
use Rattle.mark_bitmap.specs.Live.{live_bound_of, kept_words}
use Rattle.mark_bitmap.specs.Kept.{kept_in}
use Rattle.mark_bitmap.specs.Marks.{is_marked}
use Rattle.mark_bitmap.specs.Tops.{Tops, below_previous}
use Rattle.mark_bitmap.proofs.Spans.{spans, chosen_words, IsChoice, chosen_le}
use Rattle.region_choice.specs.declared.LiveRow.{LiveRow}
use Rattle.region_choice.specs.Choice.{copy_limit}
use Rattle.evacuation.specs.Evacuates.{RegionsAfter, is_chosen}
use Rattle.step_core.specs.Stands.{CoreState, IsCore}
use Rattle.step_core.specs.Measures.{sum_below}
use Rattle.step_core.specs.Pause.{AreHighest, GoesDown, HasMoved, IsRowOf, free_below}
use Rattle.step_core.specs.declared.candidates.Choice.TheVariants as choices
use Rattle.step_core.proofs.Pauses.Highest.{below_free, fewer_free, free_found}
use Rattle.step_core.proofs.Pauses.Rows.{All_one}
use Rattle.collection.specs.Space.{IsExact, LieBelowFree, ordinary_end, ordinary_end_of, is_ordinary}
use Rattle.collection.proofs.Counts.{free_one, free_sum}
use Rattle.collection.proofs.Exact.{ordinary_known}
use Rattle.collection.proofs.Sums.{sum_same, sum_plus, chosen_sum, if_true, if_false}

-- ---- the highest ordinary region
ordinary_is : (o : Kind) → is_ordinary o ≡ true → o ≡ kinds.Ordinary
ordinary_is kinds.Ordinary e = refl
ordinary_is _ e = absurd cc

is_ordinary_of : (o : Kind) → o ≡ kinds.Ordinary → is_ordinary o ≡ true
is_ordinary_of o e = ap is_ordinary e

if_number : (b : Bool) (m n : ℕ) → b ≡ true → (if b then m else n) ≡ m
if_number true m n e = refl
if_number false m n e = absurd cc

else_number : (b : Bool) (m n : ℕ) → b ≡ false → (if b then m else n) ≡ n
else_number true m n e = absurd cc
else_number false m n e = refl

-- it is below the end, and no ordinary region is at the end or above it
pub end_above : (t : Table) (n k : ℕ) → k < n → kind_of t k ≡ kinds.Ordinary → k < ordinary_end_of t n
end_above t zero k lt o = absurd (omega (arith, lt))
end_above t (suc n) k lt o = elim (cases_Bool (is_ordinary (kind_of t n))) [
  | inl here ↦ (let e = if_number (is_ordinary (kind_of t n)) (suc n) (ordinary_end_of t n) here in omega (arith, e, lt))
  | inr other ↦ (let e = else_number (is_ordinary (kind_of t n)) (suc n) (ordinary_end_of t n) other in
      elim (cases_eq k n) [
        | inl same ↦ absurd (let here = is_ordinary_of (kind_of t n) (ap (kind_of t) (sym same) ∙ o) in cc)
        | inr apart ↦ (let less = end_above t n k (omega (arith, lt, apart)) o in omega (arith, e, less))
      ])
]

pub end_at : (t : Table) (n m : ℕ) → ordinary_end_of t n ≡ m + 1 → kind_of t m ≡ kinds.Ordinary
end_at t zero m e = absurd (omega (arith, e))
end_at t (suc n) m e = elim (cases_Bool (is_ordinary (kind_of t n))) [
  | inl here ↦ (let f = if_number (is_ordinary (kind_of t n)) (suc n) (ordinary_end_of t n) here in
      let same : n ≡ m = omega (arith, e, f) in
      ap (kind_of t) (sym same) ∙ ordinary_is (kind_of t n) here)
  | inr other ↦ (let f = else_number (is_ordinary (kind_of t n)) (suc n) (ordinary_end_of t n) other in end_at t n m (sym f ∙ e))
]

pub end_most : (t : Table) (n h : ℕ) → ((k : ℕ) → h ≤ k → k < n → kind_of t k ≢ kinds.Ordinary) → ordinary_end_of t n ≤ h
end_most t zero h none = omega arith
end_most t (suc n) h none = elim (cases_Bool (is_ordinary (kind_of t n))) [
  | inl here ↦ (let f = if_number (is_ordinary (kind_of t n)) (suc n) (ordinary_end_of t n) here in
      elim (cases_lt n h) [
        | inl less ↦ omega (arith, f, less)
        | inr ge ↦ absurd (none n ge (omega arith) (ordinary_is (kind_of t n) here))
      ])
  | inr other ↦ (let f = else_number (is_ordinary (kind_of t n)) (suc n) (ordinary_end_of t n) other in
      let le = end_most t n h (λ k low lt. none k low (omega (arith, lt))) in
      omega (arith, f, le))
]

pub end_within : (t : Table) → ordinary_end t ≤ length t.regions
end_within t = end_most t (length t.regions) (length t.regions) (λ k low lt. absurd (omega (arith, low, lt)))

-- ---- no more live words than a region has
kept_chosen : (t : Table) (tops : Tops) (previous : List Bool) (n a : ℕ)
    → kept_words t tops previous a n ≡ chosen_words (kept_in t tops previous) a n
kept_chosen t tops previous zero a = refl
kept_chosen t tops previous (suc n) a = omega (arith, kept_chosen t tops previous n (suc a))

pub exact_few : (c : CoreState) (k : ℕ) → IsShaped c.table → IsExact c → k < length c.table.regions → kind_of c.table k ≡ kinds.Ordinary
    → live_bound_of c.table c.marker.tams.previous c.marker.bitmaps.previous k ≤ c.table.words_per_region
exact_few c k shape exact known o =
    let p = spans c.table k shape o in
    let choice : IsChoice c.table k (top_of c.table k) (kept_in c.table c.marker.tams c.marker.bitmaps.previous) = record {
      object = λ x s e. stored x s e;
      ends = λ x s l h e. p.ends x s l h (stored x s e);
    } in
    let most = chosen_le c.table k (top_of c.table k) (kept_in c.table c.marker.tams c.marker.bitmaps.previous) p choice
    (k * c.table.words_per_region) c.table.words_per_region (omega arith) (omega arith) in
    let same = kept_chosen c.table c.marker.tams c.marker.bitmaps.previous c.table.words_per_region (k * c.table.words_per_region) in
    let le = exact.exact k known o in
    omega (arith, most, same, le, p.top_le)
  where
    some_of : (below marked : Bool) (o : Option Stored) (s : Stored)
        → (if below then (if marked then o else None) else o) ≡ Some s → o ≡ Some s
    some_of true true o s e = e
    some_of true false o s e = absurd cc
    some_of false marked o s e = e

    stored : (x : ℕ) (s : Stored) → kept_in c.table c.marker.tams c.marker.bitmaps.previous x ≡ Some s → object_at c.table x ≡ Some s
    stored x s e = some_of (below_previous c.table c.marker.tams x) (is_marked c.marker.bitmaps.previous x) (object_at c.table x) s e

-- ---- what was free and is taken
abbrev taken_by : Kind → Kind → ℕ
taken_by kinds.Free kinds.Ordinary = 1
taken_by _ _ = 0

-- two numbers that count in a sum
sum_one : (f : ℕ → ℕ) (n i : ℕ) → i < n → f i ≤ sum_below f n
sum_one f zero i lt = absurd (omega (arith, lt))
sum_one f (suc n) i lt = elim (cases_eq i n) [
  | inl same ↦ (let e = ap f same in omega (arith, e))
  | inr apart ↦ (let le = sum_one f n i (omega (arith, lt, apart)) in omega (arith, le))
]

sum_two : (f : ℕ → ℕ) (n i j : ℕ) → i < j → j < n → f i + f j ≤ sum_below f n
sum_two f zero i j less lt = absurd (omega (arith, lt))
sum_two f (suc n) i j less lt = elim (cases_eq j n) [
  | inl same ↦ (let e = ap f same in let le = sum_one f n i (omega (arith, less, same)) in omega (arith, e, le))
  | inr apart ↦ (let le = sum_two f n i j less (omega (arith, lt, apart)) in omega (arith, le))
]

ones : (rows : List LiveRow) → sum_by (λ (row : LiveRow). 1) rows ≡ length rows
ones [] = refl
ones (r ∷ rs) = let a = sum_by-cons (λ (row : LiveRow). 1) r rs in let b = ones rs in omega (arith, a, b)

module _ (budget n w : ℕ) (c c' : CoreState) (core : IsCore c) (shape : IsShaped c.table)
    (p : HasMoved choices.Highest budget n w c c') where
  abbrev t : Table
  t = c.table

  abbrev t' : Table
  t' = c'.table

  abbrev rows : List LiveRow
  rows = p.evacuates.chosen

  ready_same : p.ready.table ≡ t
  ready_same = ap (λ (k : CoreState). k.table) p.is_ready.same

  regions : RegionsAfter rows t t'
  regions = subst (λ (u : Table). RegionsAfter rows u t') ready_same p.evacuates.evacuated.regions

  out_same : (k : ℕ) → is_chosen rows k ≡ false → kind_of t' k ≡ kinds.Ordinary → kind_of t k ≢ kinds.Free → kind_of t k ≡ kinds.Ordinary
  out_same k out o used = sym (regions.kinds_same k out used) ∙ o

  -- a region that is ordinary afterwards wasn't chosen
  not_chosen : (k : ℕ) → kind_of t' k ≡ kinds.Ordinary → is_chosen rows k ≡ false
  not_chosen k o = elim (cases_Bool (is_chosen rows k)) [
    | inl i ↦ absurd (let f : kinds.Free ≡ kinds.Ordinary = sym (regions.chosen k i) ∙ o in cc)
    | inr out ↦ out
  ]

  -- what is free afterwards was free, or was chosen
  was_free : (k : ℕ) → kind_of t' k ≡ kinds.Free → is_chosen rows k ≡ false → kind_of t k ≡ kinds.Free
  was_free k f out = elim (cases_free (kind_of t k)) [
    | inl free ↦ free
    | inr used ↦ absurd (used (sym (regions.kinds_same k out used) ∙ f))
  ]
    where
      cases_free : (o : Kind) → (o ≡ kinds.Free) ⊎ (o ≢ kinds.Free)
      cases_free kinds.Free = inl refl
      cases_free _ = inr (λ e. cc)

  kind_cases : (o : Kind) → (o ≡ kinds.Free) ⊎ (o ≢ kinds.Free)
  kind_cases kinds.Free = inl refl
  kind_cases _ = inr (λ e. cc)

  -- ---- how many were taken
  known : All (λ (row : LiveRow). row.region < length t.regions) rows
  known i d lt = (p.evacuates.choice.highest.are_rows.each i d lt).known

  one_each : (k : ℕ) → (b : Bool) → is_chosen rows k ≡ b → (o : Kind) → kind_of t k ≡ o
      → free_one (kind_of t' k) + taken_by (kind_of t k) (kind_of t' k) ≡ free_one (kind_of t k) + (if is_chosen rows k then 1 else 0)
  one_each k true e o is =
      let ordinary = chosen_is k e in
      let free = regions.chosen k e in
      let a = ap free_one free in
      let b = ap free_one ordinary in
      let d = ap (λ (x : Kind). taken_by x (kind_of t' k)) ordinary in
      let f = if_true (is_chosen rows k) 1 e in
      omega (arith, a, b, d, f)
    where
      chosen_is : (k : ℕ) → is_chosen rows k ≡ true → kind_of t k ≡ kinds.Ordinary
      chosen_is k e =
          let (i, x, lt, is, q) = Any-from_list_any (λ (row : LiveRow). row.region == k) rows e in
          let row : IsRowOf t c.marker.tams.previous c.marker.bitmaps.previous x =
          subst (IsRowOf t c.marker.tams.previous c.marker.bitmaps.previous) is (p.evacuates.choice.highest.are_rows.each i x lt) in
          ap (kind_of t) (sym (eqb-true x.region k q)) ∙ row.ordinary
  one_each k false e kinds.Free is = elim (regions.was_free k is) [
    | inl f ↦
        (let a = ap free_one f in
        let b = ap free_one is in
        let d = ap (λ (x : Kind). taken_by (kind_of t k) x) f in
        let g = ap (λ (x : Kind). taken_by x kinds.Free) is in
        let h = if_false (is_chosen rows k) 1 e in
        omega (arith, a, b, d, g, h))
    | inr o ↦
        (let a = ap free_one o in
        let b = ap free_one is in
        let d = ap (λ (x : Kind). taken_by (kind_of t k) x) o in
        let g = ap (λ (x : Kind). taken_by x kinds.Ordinary) is in
        let h = if_false (is_chosen rows k) 1 e in
        omega (arith, a, b, d, g, h))
  ]
  one_each k false e kinds.Ordinary is =
      let s = regions.kinds_same k e (λ f. let g : kinds.Ordinary ≡ kinds.Free = sym is ∙ f in absurd {A = ⊥} cc) in
      let a = ap free_one s in
      let b = ap free_one is in
      let d = ap (λ (x : Kind). taken_by x (kind_of t' k)) is in
      let h = if_false (is_chosen rows k) 1 e in
      omega (arith, a, b, d, h)
  one_each k false e kinds.First is =
      let s = regions.kinds_same k e (λ f. let g : kinds.First ≡ kinds.Free = sym is ∙ f in absurd {A = ⊥} cc) in
      let a = ap free_one s in
      let b = ap free_one is in
      let d = ap (λ (x : Kind). taken_by x (kind_of t' k)) is in
      let h = if_false (is_chosen rows k) 1 e in
      omega (arith, a, b, d, h)
  one_each k false e kinds.Rest is =
      let s = regions.kinds_same k e (λ f. let g : kinds.Rest ≡ kinds.Free = sym is ∙ f in absurd {A = ⊥} cc) in
      let a = ap free_one s in
      let b = ap free_one is in
      let d = ap (λ (x : Kind). taken_by x (kind_of t' k)) is in
      let h = if_false (is_chosen rows k) 1 e in
      omega (arith, a, b, d, h)

  taken_sum : p.evacuates.evacuated.spares.taken ≡ sum_below (λ k. taken_by (kind_of t k) (kind_of t' k)) (length t.regions)
  taken_sum =
      let a = sum_same (λ k. free_one (kind_of t' k) + taken_by (kind_of t k) (kind_of t' k))
      (λ k. free_one (kind_of t k) + (if is_chosen rows k then 1 else 0)) (length t.regions)
      (λ k lt. one_each k (is_chosen rows k) refl (kind_of t k) refl) in
      let b = sum_plus (λ k. free_one (kind_of t' k)) (λ k. taken_by (kind_of t k) (kind_of t' k)) (length t.regions) in
      let d = sum_plus (λ k. free_one (kind_of t k)) (λ k. if is_chosen rows k then 1 else 0) (length t.regions) in
      let e = chosen_sum (λ k. 1) rows (length t.regions) known p.evacuates.choice.highest.are_rows.once in
      let f = ones rows in
      let g = free_sum t in
      let h = free_sum t' in
      let i = ap (sum_below (λ k. free_one (kind_of t' k))) regions.count in
      let j = p.evacuates.evacuated.spares.count in
      let l = ap free_count ready_same in
      omega (arith, a, b, d, e, f, g, h, i, j, l)

  -- two regions aren't taken where a region of words is copied at most
  module _ (few : budget ≤ t.words_per_region) where
    one_taken : p.evacuates.evacuated.spares.taken ≤ 1
    one_taken = elim (cases_lt 1 p.evacuates.evacuated.spares.taken) [
      | inl two ↦
          (let a = p.evacuates.evacuated.spares.full (omega (arith, two)) in
          let b = ap (λ (u : Table). p.evacuates.evacuated.spares.taken * u.words_per_region) ready_same in
          let d = mul-le 2 t.words_per_region p.evacuates.evacuated.spares.taken t.words_per_region (omega (arith, two)) (omega arith) in
          let e = p.evacuates.within in
          absurd (omega (arith, a, b, d, e, few)))
      | inr one ↦ omega (arith, one)
    ]

    only_one : (i j : ℕ) → i < j → kind_of t i ≡ kinds.Free → kind_of t' i ≡ kinds.Ordinary → kind_of t j ≡ kinds.Free
        → kind_of t' j ≡ kinds.Ordinary → ⊥
    only_one i j less fi oi fj oj =
        let lt = ordinary_known t' j oj in
        let count = regions.count in
        let both = sum_two (λ k. taken_by (kind_of t k) (kind_of t' k)) (length t.regions) i j less (omega (arith, lt, count)) in
        let a = ap (λ (x : Kind). taken_by x (kind_of t' i)) fi in
        let b = ap (λ (x : Kind). taken_by kinds.Free x) oi in
        let d = ap (λ (x : Kind). taken_by x (kind_of t' j)) fj in
        let e = ap (λ (x : Kind). taken_by kinds.Free x) oj in
        let one = one_taken in
        let sum = taken_sum in
        omega (arith, both, a, b, d, e, one, sum)

    -- no ordinary region is as high as the highest was
    pub lowered : 0 < n → ordinary_end t' < ordinary_end t
    lowered some =
        let row = get_or rows 0 no_row in
        let many : 0 < length rows = (let e = p.evacuates.regions in omega (arith, e, some)) in
        let first = p.evacuates.choice.highest.are_rows.each 0 no_row many in
        let above = end_above t (length t.regions) row.region first.known first.ordinary in
        let o : ℕ = ordinary_end t - 1 in
        let last : ordinary_end t ≡ o + 1 = omega (arith, above) in
        let ordinary = end_at t (length t.regions) o last in
        let chosen : is_chosen rows o ≡ true = elim (cases_lt row.region o) [
          | inl less ↦ p.evacuates.choice.highest.none_left_out 0 no_row many o less ordinary
          | inr ge ↦ first_chosen rows no_row o many (omega (arith, ge, above, last))
        ] in
        let (i, x, lt, is, q) = Any-from_list_any (λ (r : LiveRow). r.region == o) rows chosen in
        let below = p.evacuates.choice.down.below i x lt in
        let here : x.region ≡ o = eqb-true x.region o q in
        let at : free_below t (get_or rows i x).region ≡ free_below t o = ap (free_below t) (ap (λ (r : LiveRow). r.region) is ∙ here) in
        let (f, low, free) = free_found t o (omega (arith, below, at, many)) in
        let most = end_most t' (length t'.regions) o (λ k high within ordinary'. under o last chosen f low free k high ordinary') in
        omega (arith, most, last)
      where
        no_row : LiveRow
        no_row = record { region = 0; live_bound = 0 }

        first_chosen : (rs : List LiveRow) (d : LiveRow) (k : ℕ) → 0 < length rs → (get_or rs 0 d).region ≡ k → is_chosen rs k ≡ true
        first_chosen [] d k lt e = absurd (omega (arith, lt))
        first_chosen (r ∷ rs) d k lt e = ap (λ (b : Bool). b || is_chosen rs k) (eq-eqb r.region k e)

        under : (o : ℕ) → ordinary_end t ≡ o + 1 → is_chosen rows o ≡ true → (f : ℕ) → f < o → kind_of t f ≡ kinds.Free
            → (k : ℕ) → o ≤ k → kind_of t' k ≡ kinds.Ordinary → ⊥
        under o last chosen f low free k high ordinary' = elim (cases_eq k o) [
          | inl same ↦ (let g : kinds.Free ≡ kinds.Ordinary = sym (regions.chosen o chosen) ∙ sym (ap (kind_of t') same) ∙ ordinary' in cc)
          | inr apart ↦ (elim (kind_cases (kind_of t k)) [
            | inl was ↦ (elim (regions.was_free f free) [
              | inl still ↦ (let less = regions.lowest f k free still was ordinary' in omega (arith, less, low, high))
              | inr taken ↦ only_one f k (omega (arith, low, high)) free taken was ordinary'
            ])
            | inr used ↦
                (let o' = out_same k (not_chosen k ordinary') ordinary' used in
                let less = end_above t (length t.regions) k (ordinary_known t k o') o' in
                omega (arith, less, last, high, apart))
          ])
        ]

  -- none goes down where none is above a free one
  pub none_down : LieBelowFree t → 0 < n → ⊥
  none_down low some =
      let no_row : LiveRow = record { region = 0; live_bound = 0 } in
      let many : 0 < length rows = (let e = p.evacuates.regions in omega (arith, e, some)) in
      let row : LiveRow = get_or rows 0 no_row in
      let first = p.evacuates.choice.highest.are_rows.each 0 no_row many in
      let below = p.evacuates.choice.down.below 0 no_row many in
      let (f, less, free) = free_found t row.region (omega (arith, below, many)) in
      low f row.region less free first.ordinary

  empty : (rs : List LiveRow) → length rs ≡ 0 → rs ≡ []
  empty [] e = refl
  empty (r ∷ rs) e = absurd (omega (arith, e))

  no_rows : n ≡ 0 → rows ≡ []
  no_rows none = empty rows (let e = p.evacuates.regions in omega (arith, e, none))

  -- where none was taken and nothing copied each region is what it was
  pub kinds_stay : n ≡ 0 → w ≡ 0 → (k : ℕ) → kind_of t' k ≡ kind_of t k
  kinds_stay none nothing k = elim (kind_cases (kind_of t k)) [
    | inl free ↦ elim (regions.was_free k free) [
      | inl still ↦ still ∙ sym free
      | inr taken ↦ absurd (
          let known = ordinary_known t' k taken in
          let count = regions.count in
          let one = sum_one (λ j. taken_by (kind_of t j) (kind_of t' j)) (length t.regions) k (omega (arith, known, count)) in
          let a = ap (λ (x : Kind). taken_by x (kind_of t' k)) free in
          let b = ap (λ (x : Kind). taken_by kinds.Free x) taken in
          let sum = taken_sum in
          let z = p.evacuates.evacuated.spares.none nothing in
          omega (arith, one, a, b, sum, z))
    ]
    | inr used ↦ regions.kinds_same k (ap (λ (rs : List LiveRow). is_chosen rs k) (no_rows none)) used
  ]

  -- where nothing was taken no ordinary region is above a free one
  pub nothing_above : n ≡ 0 → IsExact c → 2 ≤ free_count t → t.words_per_region ≤ budget → LieBelowFree t'
  nothing_above none exact two enough j k less free' ordinary' = elim (kind_cases (kind_of t k)) [
    | inl was ↦ (let low = regions.lowest j k free free' was ordinary' in omega (arith, low, less))
    | inr used ↦ still k less (out_same k (not_chosen k ordinary') ordinary' used)
  ]
    where
      free : kind_of t j ≡ kinds.Free
      free = was_free j free' (ap (λ (rs : List LiveRow). is_chosen rs j) (no_rows none))

      at_most_one : (i : ℕ) (row : LiveRow) → count_by (λ (r : LiveRow). r.region == i) (row ∷ []) ≤ 1
      at_most_one i row = elim (cases_Bool (row.region == i)) [
        | inl here ↦ (let a = sum_by-cons (λ (r : LiveRow). cond (r.region == i) 1 0) row [] in
            let b = ap {B = ℕ} (λ (x : Bool). cond x 1 0) here in omega (arith, a, b))
        | inr other ↦ (let a = sum_by-cons (λ (r : LiveRow). cond (r.region == i) 1 0) row [] in
            let b = ap {B = ℕ} (λ (x : Bool). cond x 1 0) other in omega (arith, a, b))
      ]

      still : (k : ℕ) → j < k → kind_of t k ≡ kinds.Ordinary → ⊥
      still k less ordinary =
          let above = end_above t (length t.regions) k (ordinary_known t k ordinary) ordinary in
          let o : ℕ = ordinary_end t - 1 in
          let last : ordinary_end t ≡ o + 1 = omega (arith, above) in
          let top = end_at t (length t.regions) o last in
          let low : j < o = omega (arith, less, above, last) in
          let row : LiveRow = record { region = o; live_bound = live_bound_of t c.marker.tams.previous c.marker.bitmaps.previous o } in
          let few = exact_few c o shape exact (ordinary_known t o top) top in
          let one = sum_by-cons (λ (r : LiveRow). r.live_bound) row [] in
          let some : 1 ≤ free_below t o = (let a = below_free t (j + 1) j refl (omega (arith, ordinary_known t o top, low)) free in
          let b = fewer_free t.regions (j + 1) o (omega (arith, low)) in omega (arith, a, b)) in
          let half = mul-le 2 t.words_per_region (free_count t) t.words_per_region two (omega arith) in
          subst (λ (rs : List LiveRow). AreHighest t c.marker.tams.previous c.marker.bitmaps.previous (rs ++ row ∷ [])
          → GoesDown t (copy_limit t.words_per_region budget (count_by is_free t.regions)) (rs ++ row ∷ []) → ⊥) (no_rows none)
          (p.evacuates.choice.next exact.idle row)
          (record {
            are_rows = record {
              each = All_one (IsRowOf t c.marker.tams.previous c.marker.bitmaps.previous) row
                  (record { known = ordinary_known t o top; ordinary = top; bound = refl });
              once = λ i. at_most_one i row;
            };
            none_left_out = All_one (λ r. (i : ℕ) → r.region < i → kind_of t i ≡ kinds.Ordinary → is_chosen (row ∷ []) i ≡ true) row
                (λ i high is. absurd (let l = end_above t (length t.regions) i (ordinary_known t i is) is in omega (arith, l, last, high)));
          })
          (record {
            within = omega (arith, one, few, enough, half);
            below = All_one (λ r. 2 * length (row ∷ []) ≤ free_below t r.region + 1) row (omega (arith, some));
          })
