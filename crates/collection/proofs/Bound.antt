-- A pause that frees no region, over a core whose live words are kept.
use Rattle.std.proofs.Common.{◌≡◌, ◌+◌, ◌*◌, ◌/◌, ◌<◌, ◌≤◌, ◌∷◌, ◌∙◌, ℕ, suc, zero, Bool, true, false, List, [], length, take, drop, All}
use Rattle.std.proofs.Common.{sum_by, inl, inr, refl, sym, ap, subst, arith, if◌then◌else◌}
use Rattle.std.proofs.lemmas.Bool.{cases_lt}
use Rattle.std.proofs.lemmas.List.Elements.{All-head, All-tail, All-drop}
use Rattle.std.proofs.lemmas.List.{length-drop}
use Rattle.std.proofs.lemmas.List.Sums.{sum_by-cons, sum_by-take-drop}
use Rattle.regions.specs.Table.{Table, kind_of, free_count}
use Rattle.regions.specs.declared.row.Kind.{Kind}
use Rattle.regions.specs.declared.row.Kind.TheVariants as kinds
use Rattle.mark_bitmap.specs.Live.{live_bound_of}
use Rattle.region_choice.specs.declared.LiveRow.{LiveRow}
use Rattle.region_choice.specs.Choice.{copy_limit, live_sum}
use Rattle.evacuation.specs.Evacuates.{is_chosen}
use Rattle.evacuation.proofs.WholePause.Asked.{found, get_is}
use Rattle.step_core.specs.Stands.{CoreState}
use Rattle.step_core.specs.Measures.{sum_below}
use Rattle.step_core.specs.Pause.{HasPaused}
use Rattle.collection.specs.Space.{FreesNone, ordinary_one, ordinary_count, kept_by_kind, kept_sum, IsExact}
use Rattle.collection.proofs.Sums.{sum_same, sum_le, sum_plus, sum_times, chosen_sum, CountsOnce, if_true, if_false}
use Rattle.collection.proofs.Choice.{choice_after}

ones : (rows : List LiveRow) → sum_by (λ (row : LiveRow). 1) rows ≡ length rows
ones [] = refl
ones (r ∷ rs) = let a = sum_by-cons (λ (row : LiveRow). 1) r rs in let b = ones rs in omega (arith, a, b)

same_sum : (f g : LiveRow → ℕ) (rows : List LiveRow) → All (λ row. f row ≡ g row) rows → sum_by f rows ≡ sum_by g rows
same_sum f g [] h = refl
same_sum f g (r ∷ rs) h =
    let a = sum_by-cons f r rs in
    let b = sum_by-cons g r rs in
    let c = All-head (λ (row : LiveRow). f row ≡ g row) r rs h in
    let d = same_sum f g rs (All-tail (λ (row : LiveRow). f row ≡ g row) r rs h) in
    omega (arith, a, b, c, d)

if_else : (b : Bool) (m : ℕ) → b ≡ false → (if b then 0 else m) ≡ m
if_else true m e = absurd cc
if_else false m e = refl

if_zero : (b : Bool) (m : ℕ) → b ≡ true → (if b then 0 else m) ≡ 0
if_zero true m e = refl
if_zero false m e = absurd cc

limit_is : (words budget frees : ℕ) → frees * words / 2 ≤ budget → copy_limit words budget frees ≡ frees * words / 2
limit_is words budget frees h = omega (arith, h)

module _ (budget n w : ℕ) (c c' : CoreState) (p : HasPaused budget n w c c') (exact : IsExact c) where
  abbrev t : Table
  t = c.table

  abbrev words : ℕ
  words = t.words_per_region

  abbrev tops : List ℕ
  tops = c.marker.tams.previous

  abbrev marks : List Bool
  marks = c.marker.bitmaps.previous

  abbrev rows : List LiveRow
  rows = p.evacuates.choice.rows

  abbrev chosen : List LiveRow
  chosen = p.evacuates.chosen

  abbrev rest : List LiveRow
  rest = drop (length chosen) rows

  row_known : All (λ (row : LiveRow). row.region < length t.regions) rows
  row_known i d l = (p.evacuates.choice.candidates.each i d l).below

  once : CountsOnce rows
  once = p.evacuates.choice.candidates.are_rows.once

  ordinary_row : (k : ℕ) → is_chosen rows k ≡ true → kind_of t k ≡ kinds.Ordinary
  ordinary_row k e =
      let (i, row, at, same) = found rows k e in
      let (lt, is) = get_is rows i row at in
      let r = p.evacuates.choice.candidates.are_rows.each i row lt in
      subst (λ (j : ℕ). kind_of t j ≡ kinds.Ordinary) (ap (λ (x : LiveRow). x.region) is ∙ same) r.ordinary

  -- the regions that no pause takes are full
  full_row : (k : ℕ) → k < length t.regions → is_chosen rows k ≡ false → kind_of t k ≡ kinds.Ordinary → words ≤ live_bound_of t tops marks k
  full_row k lt e o = elim (cases_lt (live_bound_of t tops marks k) words) [
    | inl less ↦ (let r = exact.idle in
        let q = p.evacuates.choice.candidates.all k lt (record { ordinary = o; frees = less; all_new = λ i. absurd cc }) in
        absurd cc)
    | inr le ↦ le
  ]

  abbrev full : ℕ
  full = sum_below (λ k. if is_chosen rows k then 0 else ordinary_one (kind_of t k)) (length t.regions)

  one_each : (k : ℕ) (b : Bool) → is_chosen rows k ≡ b
      → ordinary_one (kind_of t k) ≡ (if is_chosen rows k then 1 else 0) + (if is_chosen rows k then 0 else ordinary_one (kind_of t k))
  one_each k true e =
      let a = ap ordinary_one (ordinary_row k e) in
      let b = if_true (is_chosen rows k) 1 e in
      let d = if_zero (is_chosen rows k) (ordinary_one (kind_of t k)) e in
      omega (arith, a, b, d)
  one_each k false e =
      let b = if_false (is_chosen rows k) 1 e in
      let d = if_else (is_chosen rows k) (ordinary_one (kind_of t k)) e in
      omega (arith, b, d)

  pub counted : ordinary_count t ≡ length rows + full
  counted =
      let a = sum_same (λ k. ordinary_one (kind_of t k))
      (λ k. (if is_chosen rows k then 1 else 0) + (if is_chosen rows k then 0 else ordinary_one (kind_of t k)))
      (length t.regions) (λ k h. one_each k (is_chosen rows k) refl) in
      let b = sum_plus (λ k. if is_chosen rows k then 1 else 0)
      (λ k. if is_chosen rows k then 0 else ordinary_one (kind_of t k)) (length t.regions) in
      let d = chosen_sum (λ k. 1) rows (length t.regions) row_known once in
      let e = ones rows in
      omega (arith, a, b, d, e)

  kind_each : (k : ℕ) → k < length t.regions → is_chosen rows k ≡ false → (o : Kind) → kind_of t k ≡ o
      → ordinary_one o * words ≤ kept_by_kind o c k
  kind_each k lt e kinds.Ordinary q =
      let a = full_row k lt e q in let b = exact.exact k lt q in omega (arith, a, b)
  kind_each k lt e _ q = omega arith

  live_each : (k : ℕ) → k < length t.regions → (b : Bool) → is_chosen rows k ≡ b
      → (if is_chosen rows k then live_bound_of t tops marks k else 0)
      + (if is_chosen rows k then 0 else ordinary_one (kind_of t k)) * words ≤ kept_by_kind (kind_of t k) c k
  live_each k lt true e =
      let o = ordinary_row k e in
      let a = exact.exact k lt o in
      let b = if_true (is_chosen rows k) (live_bound_of t tops marks k) e in
      let d = if_zero (is_chosen rows k) (ordinary_one (kind_of t k)) e in
      let f = ap (λ (m : ℕ). m * words) d in
      let g = ap (λ (m : Kind). kept_by_kind m c k) o in
      omega (arith, a, b, f, g)
  live_each k lt false e =
      let a = kind_each k lt e (kind_of t k) refl in
      let b = if_false (is_chosen rows k) (live_bound_of t tops marks k) e in
      let d = if_else (is_chosen rows k) (ordinary_one (kind_of t k)) e in
      let f = ap (λ (m : ℕ). m * words) d in
      omega (arith, a, b, f)

  pub kept_most : live_sum rows + full * words ≤ kept_sum c
  kept_most =
      let a = sum_le (λ k. (if is_chosen rows k then live_bound_of t tops marks k else 0)
      + (if is_chosen rows k then 0 else ordinary_one (kind_of t k)) * words) (λ k. kept_by_kind (kind_of t k) c k)
      (length t.regions) (λ k h. live_each k h (is_chosen rows k) refl) in
      let b = sum_plus (λ k. if is_chosen rows k then live_bound_of t tops marks k else 0)
      (λ k. (if is_chosen rows k then 0 else ordinary_one (kind_of t k)) * words) (length t.regions) in
      let d = chosen_sum (live_bound_of t tops marks) rows (length t.regions) row_known once in
      let e = sum_times (λ k. if is_chosen rows k then 0 else ordinary_one (kind_of t k)) words (length t.regions) in
      let f = same_sum (λ (row : LiveRow). live_bound_of t tops marks row.region) (λ (row : LiveRow). row.live_bound) rows
      (λ i x l. sym (p.evacuates.choice.candidates.are_rows.each i x l).bound) in
      omega (arith, a, b, d, e, f)

  module _ (positive : 0 < words) (some : 2 ≤ free_count t) (none : free_count c'.table ≤ free_count t)
      (enough : free_count t * words / 2 ≤ budget) where
    below_rows : All (λ (row : LiveRow). row.live_bound < words) rows
    below_rows i d l =
        let a = (p.evacuates.choice.candidates.each i d l).candidate.frees in
        let b = (p.evacuates.choice.candidates.are_rows.each i d l).bound in
        omega (arith, a, b)

    ready_same : p.ready.table ≡ t
    ready_same = ap (λ (k : CoreState). k.table) p.is_ready.same

    pub none_freed : FreesNone words (free_count t) chosen rest p.evacuates.evacuated.spares.taken w
    none_freed = record {
      positive = positive;
      some = some;
      below = All-drop (λ (row : LiveRow). row.live_bound < words) (length chosen) rows below_rows;
      first = p.evacuates.choice.first;
      next = λ i d l. (let a = p.evacuates.choice.next i d l in
          let b = limit_is words budget (free_count t) enough in
          omega (arith, a, b));
      within = p.evacuates.evacuated.within;
      none = p.evacuates.evacuated.spares.none;
      full = λ two. (let a = p.evacuates.evacuated.spares.full two in
          let b = ap (λ (u : Table). p.evacuates.evacuated.spares.taken * u.words_per_region) ready_same in
          omega (arith, a, b));
      gain = (let a = p.evacuates.evacuated.spares.count in let b = ap free_count ready_same in omega (arith, a, b, none));
    }

    chosen_few : length chosen + length rest ≡ length rows
    chosen_few =
        let a = ap (λ (xs : List LiveRow). length xs) p.evacuates.choice.front in
        let b = length-drop (length chosen) rows in
        let d = taken_few (length chosen) rows (sym a) in
        omega (arith, b, d)
      where
        taken_few : (m : ℕ) (xs : List LiveRow) → length (take m xs) ≡ m → m ≤ length xs
        taken_few zero xs e = omega arith
        taken_few (suc m) [] e = absurd (omega (arith, e))
        taken_few (suc m) (x ∷ xs) e = let a = taken_few m xs (omega (arith, e)) in omega (arith, a)

    -- so many regions are ordinary after it
    pub half_kept : (after : ℕ) → after + length chosen ≡ ordinary_count t + p.evacuates.evacuated.spares.taken
        → (length chosen ≡ 1 → live_sum chosen < words) → 2 ≤ after → after * words < 2 * kept_sum c
    half_kept after same single two =
        let a = counted in
        let b = kept_most in
        let d = chosen_few in
        let e = sum_by-take-drop (λ (row : LiveRow). row.live_bound) rows (length chosen) in
        let f = ap live_sum p.evacuates.choice.front in
        let h : after ≡ p.evacuates.evacuated.spares.taken + length rest + full = omega (arith, a, d, same) in
        let g = choice_after words (free_count t) p.evacuates.evacuated.spares.taken w full chosen rest none_freed single
        (omega (arith, two, h)) in
        let i = ap (λ (m : ℕ). m * words) h in
        omega (arith, b, e, f, g, i)
