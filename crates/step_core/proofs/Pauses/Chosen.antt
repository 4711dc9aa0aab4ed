-- What is known of the chosen regions.
use Rattle.std.proofs.Common.{◌≡◌, ◌*◌, ◌+◌, ◌<◌, ◌≤◌, ◌∷◌, ◌++◌, ◌∙◌, ℕ, zero, suc, Bool, true, false, cond, eqb, List, [], Some, length}
use Rattle.std.proofs.Common.{get_or, set, take, refl, sym, ap, subst, arith, inl, inr, get_or-set_same, get_or-set_other}
use Rattle.std.proofs.Common.{length-set, All}
use Rattle.std.proofs.Common.{count_by, ◌==◌, ◌||◌, if◌then◌else◌, slice_get, slice_index}
use Rattle.std.proofs.lemmas.Bool.{cases_eq, eq-eqb, eqb-true, ne_eqb}
use Rattle.std.proofs.lemmas.List.{get_or_append_left, length-append}
use Rattle.std.proofs.lemmas.List.Elements.{All-take}
use Rattle.std.proofs.lemmas.List.Sums.{sum_by-cons, sum_by-append, sum_by-take-le}
use Rattle.std.proofs.lemmas.List.Sorted.{All-permutation, sum_by-IsPermutation}
use Rattle.std.proofs.lemmas.List.Folds.{Any-from_list_any}
use Rattle.regions.specs.Table.{Table, is_free, kind_of}
use Rattle.regions.specs.declared.row.Kind.TheVariants as kinds
use Rattle.mark_bitmap.specs.Tops.{Tops}
use Rattle.region_choice.specs.declared.LiveRow.{LiveRow}
use Rattle.region_choice.specs.Choice.{copy_limit, live_sum}
use Rattle.marker.specs.Live.{LiveCounts, with_none}
use Rattle.remembered_sets.specs.Sets.{Sets}
use Rattle.evacuation.specs.Evacuates.{is_chosen, AreDistinct}
use Rattle.evacuation.proofs.WholePause.ChosenReleased.{chosen_more}
use Rattle.step_core.specs.declared.candidates.Choice.{Choice}
use Rattle.step_core.specs.declared.candidates.Choice.TheVariants as choices
use Rattle.region_choice.specs.Ages.{Ages}
use Rattle.step_core.specs.Within.{AreWithin}
use Rattle.step_core.proofs.Pauses.Within.{within_all, within_sum}
use Rattle.step_core.specs.Pause.{IsRowOf, AreRowsOf, IsCandidateRow, IsChosen, IsCompacted, IsByAge, IsSetOf, AreForgotten}

-- the first of two lists
All_left : (P : LiveRow → Type 0) (xs ys : List LiveRow) → All P (xs ++ ys) → All P xs
All_left P xs ys a = λ k d lt. subst P (get_or_append_left xs ys d k lt) (a k d (omega (arith, lt, length-append xs ys)))

abbrev bit : ℕ → LiveRow → ℕ
bit k row = cond (eqb row.region k) 1 0

-- a row that is there counts
counted_at : (rows : List LiveRow) (j : ℕ) (x : LiveRow) (k : ℕ) → slice_get rows j ≡ Some x → x.region ≡ k
    → 1 ≤ count_by (λ row. row.region == k) rows
counted_at [] j x k e r = absurd (let f = e in cc)
counted_at (y ∷ rows) zero x k e r =
    let same : y ≡ x = cc in
    let here : eqb y.region k ≡ true = eq-eqb y.region k (ap (λ (z : LiveRow). z.region) same ∙ r) in
    omega (arith, sum_by-cons (bit k) y rows, ap {B = ℕ} (λ b. cond b 1 0) here)
counted_at (y ∷ rows) (suc j) x k e r = omega (arith, sum_by-cons (bit k) y rows, counted_at rows j x k e r)

abbrev CountsOnce : List LiveRow → Type 0
CountsOnce rows = (k : ℕ) → count_by (λ row. row.region == k) rows ≤ 1

fewer : (z : LiveRow) (rows : List LiveRow) → CountsOnce (z ∷ rows) → CountsOnce rows
fewer z rows once k = omega (arith, sum_by-cons (bit k) z rows, once k)

alone : (z : LiveRow) (rows : List LiveRow) (j : ℕ) (y : LiveRow) → CountsOnce (z ∷ rows)
    → slice_get rows j ≡ Some y → y.region ≡ z.region → ⊥
alone z rows j y once ey e =
    let here = sum_by-cons (bit z.region) z rows in
    let one = ap {B = ℕ} (λ b. cond b 1 0) (eq-eqb z.region z.region refl) in
    omega (arith, here, one, counted_at rows j y z.region ey e, once z.region)

distinct_at : (rows : List LiveRow) (i j : ℕ) (x y : LiveRow) → CountsOnce rows → slice_get rows i ≡ Some x
    → slice_get rows j ≡ Some y → x.region ≡ y.region → i ≡ j
distinct_at [] i j x y once ex ey e = absurd (let f = ex in cc)
distinct_at (z ∷ rows) zero zero x y once ex ey e = refl
distinct_at (z ∷ rows) zero (suc j) x y once ex ey e =
    let same : z ≡ x = cc in
    absurd (alone z rows j y once ey (sym e ∙ ap (λ (r : LiveRow). r.region) (sym same)))
distinct_at (z ∷ rows) (suc i) zero x y once ex ey e =
    let same : z ≡ y = cc in
    absurd (alone z rows i x once ex (e ∙ ap (λ (r : LiveRow). r.region) (sym same)))
distinct_at (z ∷ rows) (suc i) (suc j) x y once ex ey e = ap suc (distinct_at rows i j x y (fewer z rows once) ex ey e)

-- where each region counts once at most, rows are distinct
distinct_by : (rows : List LiveRow) → CountsOnce rows → AreDistinct rows
distinct_by rows once = λ i j x y ex ey e. distinct_at rows i j x y once ex ey e

-- Regions that may be evacuated together: ordinary ones, each once, with their live bounds, which are within the copy limit; and while
-- marking runs, all of each was made since it began
pub record MayMove (t : Table) (tams : Tops) (previous : List Bool) (running : Bool) (budget : ℕ) (chosen : List LiveRow) : Type 0 where
  pub rows : AreRowsOf t tams.previous previous chosen
  pub all_new : running ≡ true → All (λ row. slice_index tams.next row.region ≡ row.region * t.words_per_region) chosen
  pub within : live_sum chosen ≤ copy_limit t.words_per_region budget (count_by is_free t.regions)

module _ (t : Table) (tams : Tops) (previous : List Bool) (running : Bool) (budget : ℕ) (chosen : List LiveRow)
    (choice : IsChosen t tams previous running budget chosen) where
  -- what holds of all candidates' rows holds of the chosen ones
  of_chosen : (P : LiveRow → Type 0) → All P choice.rows → All P chosen
  of_chosen P a =
      All_left P chosen choice.best.part.rest (All-permutation P choice.rows (chosen ++ choice.best.part.rest) choice.best.part.whole a)

  best_rows : All (IsRowOf t tams.previous previous) chosen
  best_rows = of_chosen (IsRowOf t tams.previous previous) choice.candidates.are_rows.each

  best_candidates : All (IsCandidateRow t tams previous running (length t.regions)) chosen
  best_candidates = of_chosen (IsCandidateRow t tams previous running (length t.regions)) choice.candidates.each

  best_once : (k : ℕ) → count_by (λ row. row.region == k) chosen ≤ 1
  best_once k =
      let whole = sum_by-IsPermutation (bit k) choice.rows (chosen ++ choice.best.part.rest) choice.best.part.whole in
      let parts = sum_by-append (bit k) chosen choice.best.part.rest in
      omega (arith, whole, parts, choice.candidates.are_rows.once k)

  -- what a pause chooses may be moved
  pub best_moves : MayMove t tams previous running budget chosen
  best_moves = record {
    rows = record { each = best_rows; once = best_once };
    all_new = λ run i d lt. (best_candidates i d lt).candidate.all_new run;
    within = choice.best.within;
  }

-- and so may the highest regions
highest_moves : (t : Table) (tams : Tops) (previous : List Bool) (running : Bool) (budget : ℕ) (chosen : List LiveRow)
    → IsCompacted t tams previous running budget chosen → MayMove t tams previous running budget chosen
highest_moves t tams previous running budget chosen h = record {
  rows = h.highest.are_rows;
  all_new = λ run. subst (λ (rows : List LiveRow). All (λ row. slice_index tams.next row.region ≡ row.region * t.words_per_region) rows)
      (sym (h.waits run)) (λ i d lt. absurd (omega (arith, lt)));
  within = h.down.within;
}

-- so may a front of young regions, and what all have the front has
All_front : (P : LiveRow → Type 0) (n : ℕ) (rows chosen : List LiveRow) → chosen ≡ take n rows → All P rows → All P chosen
All_front P n rows chosen e a = subst (λ (xs : List LiveRow). All P xs) (sym e) (All-take P n rows a)

pub young_moves : (t : Table) (tams : Tops) (previous : List Bool) (running : Bool) (ages : Ages) (budget : ℕ) (chosen : List LiveRow)
    → IsByAge t tams previous running ages budget chosen → MayMove t tams previous running budget chosen
young_moves t tams previous running ages budget chosen h = record {
  rows = record {
    each = All_front (IsRowOf t tams.previous previous) (length chosen) h.rows chosen h.front h.candidates.are_rows.each;
    once = λ k.
        let same = ap (λ (xs : List LiveRow). count_by (λ row. row.region == k) xs) h.front in
        omega (arith, same, sum_by-take-le (bit k) h.rows (length chosen), h.candidates.are_rows.once k);
  };
  all_new = λ run. All_front (λ row. slice_index tams.next row.region ≡ row.region * t.words_per_region) (length chosen) h.rows chosen
      h.front (λ i d lt. (h.candidates.each i d lt).all_new run);
  within = h.within;
}

-- and so may those of regions that few cards lead into
within_moves : (t : Table) (tams : Tops) (previous : List Bool) (running : Bool) (s : Sets) (budget cards : ℕ) (rows chosen : List LiveRow)
    → MayMove t tams previous running budget rows → AreWithin s cards rows chosen → MayMove t tams previous running budget chosen
within_moves t tams previous running s budget cards rows chosen may w = record {
  rows = record {
    each = within_all s cards rows chosen w (IsRowOf t tams.previous previous) may.rows.each;
    once = λ k. omega (arith, within_sum s cards rows chosen w (bit k), may.rows.once k);
  };
  all_new = λ run. within_all s cards rows chosen w (λ row. slice_index tams.next row.region ≡ row.region * t.words_per_region)
      (may.all_new run);
  within = (let most = may.within in
      let less = within_sum s cards rows chosen w (λ (row : LiveRow). row.live_bound) in
      omega (arith, most, less));
}

-- so may what any of them chooses
pub set_moves : (which : Choice) (t : Table) (tams : Tops) (previous : List Bool) (running : Bool) (s : Sets) (ages : Ages) (budget : ℕ)
    (chosen : List LiveRow) → IsSetOf which t tams previous running s ages budget chosen → MayMove t tams previous running budget chosen
set_moves choices.Best t tams previous running s ages budget chosen h = best_moves t tams previous running budget chosen h
set_moves (choices.Within cards) t tams previous running s ages budget chosen h =
    within_moves t tams previous running s budget cards h.best chosen (best_moves t tams previous running budget h.best h.by_pause) h.within
set_moves choices.Highest t tams previous running s ages budget chosen h = highest_moves t tams previous running budget chosen h
set_moves (choices.Youngest cards) t tams previous running s ages budget chosen h =
    within_moves t tams previous running s budget cards h.front chosen (young_moves t tams previous running ages budget h.front h.by_age)
    h.within

module _ (t : Table) (tams : Tops) (previous : List Bool) (running : Bool) (budget : ℕ) (chosen : List LiveRow)
    (may : MayMove t tams previous running budget chosen) where
  pub chosen_rows : All (IsRowOf t tams.previous previous) chosen
  chosen_rows = may.rows.each

  pub chosen_distinct : AreDistinct chosen
  chosen_distinct = distinct_by chosen may.rows.once

  -- the copies have room, and are within the budget
  pub chosen_room : 2 * live_sum chosen ≤ count_by is_free t.regions * t.words_per_region
  chosen_room = let within = may.within in omega (arith, within)

  pub chosen_within : live_sum chosen ≤ budget
  chosen_within = let within = may.within in omega (arith, within)

  -- the row of a chosen region
  record ChosenRow (k : ℕ) : Type 0 where
    row : LiveRow
    region : row.region ≡ k
    is_row : IsRowOf t tams.previous previous row
    all_new : running ≡ true → slice_index tams.next row.region ≡ row.region * t.words_per_region

  chosen_row : (k : ℕ) → is_chosen chosen k ≡ true → ChosenRow k
  chosen_row k e =
      let (i, x, lt, is, p) = Any-from_list_any (λ (row : LiveRow). row.region == k) chosen e in
      record {
        row = x;
        region = eqb-true x.region k p;
        is_row = subst (IsRowOf t tams.previous previous) is (may.rows.each i x lt);
        all_new = λ run. subst (λ (r : LiveRow). slice_index tams.next r.region ≡ r.region * t.words_per_region) is
            (may.all_new run i x lt);
      }

  pub chosen_ordinary : (k : ℕ) → is_chosen chosen k ≡ true → kind_of t k ≡ kinds.Ordinary
  chosen_ordinary k e = let r = chosen_row k e in ap (kind_of t) (sym r.region) ∙ r.is_row.ordinary

  pub chosen_new : (k : ℕ) → running ≡ true → is_chosen chosen k ≡ true → slice_index tams.next k ≡ k * t.words_per_region
  chosen_new k run e =
      let r = chosen_row k e in
      ap (λ (j : ℕ). slice_index tams.next j) (sym r.region) ∙ r.all_new run ∙ ap (λ (j : ℕ). j * t.words_per_region) r.region

-- one region more is forgotten
more_cases : (xs ys : List LiveRow) (q j : ℕ) (was now old : List ℕ)
    → is_chosen ys j ≡ (is_chosen xs j || (q == j)) → now ≡ set was q 0 → q < length was
    → slice_index was j ≡ (if is_chosen xs j then 0 else slice_index old j)
    → slice_index now j ≡ (if is_chosen ys j then 0 else slice_index old j)
more_cases xs ys q j was now old more is known before = elim (cases_eq j q) [
  | inl same ↦
      let here : is_chosen ys j ≡ true = more ∙ ap (λ (b : Bool). is_chosen xs j || b) (eq-eqb q j (sym same)) ∙ or_true (is_chosen xs j) in
      ap (λ (l : List ℕ). slice_index l j) is ∙ ap (slice_index (set was q 0)) same ∙ get_or-set_same was q 0 0 known
      ∙ sym (ap (λ (b : Bool). if b then 0 else slice_index old j) here)
  | inr apart ↦
      let there : is_chosen ys j ≡ is_chosen xs j =
      more ∙ ap (λ (b : Bool). is_chosen xs j || b) (ne_eqb q j (λ e. apart (sym e))) ∙ or_false (is_chosen xs j) in
      ap (λ (l : List ℕ). slice_index l j) is ∙ get_or-set_other was q j 0 0 apart ∙ before
      ∙ sym (ap (λ (b : Bool). if b then 0 else slice_index old j) there)
]
  where
    or_true : (b : Bool) → (b || true) ≡ true
    or_true true = refl
    or_true false = refl

    or_false : (b : Bool) → (b || false) ≡ b
    or_false true = refl
    or_false false = refl

pub one_more_forgotten : (rows : List LiveRow) (n : ℕ) (row : LiveRow) (l0 l l' : LiveCounts) → n < length rows → get_or rows n row ≡ row
    → row.region < length l.previous → row.region < length l.next
    → l' ≡ with_none l row.region → AreForgotten (take n rows) l0 l → AreForgotten (take (n + 1) rows) l0 l'
one_more_forgotten rows n row l0 l l' inside is known known' e f =
    let more = λ (j : ℕ). chosen_more rows n row j inside is in
    record {
      previous = λ j. more_cases (take n rows) (take (n + 1) rows) row.region j l.previous l'.previous l0.previous (more j)
          (ap (λ (x : LiveCounts). x.previous) e) known (f.previous j);
      next = λ j. more_cases (take n rows) (take (n + 1) rows) row.region j l.next l'.next l0.next (more j)
          (ap (λ (x : LiveCounts). x.next) e) known' (f.next j);
      each_previous = ap (λ (x : LiveCounts). length x.previous) e ∙ length-set l.previous row.region 0 ∙ f.each_previous;
      each_next = ap (λ (x : LiveCounts). length x.next) e ∙ length-set l.next row.region 0 ∙ f.each_next;
    }
