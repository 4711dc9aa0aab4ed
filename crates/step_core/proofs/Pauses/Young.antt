-- The rows of young regions, region by region.
use Rattle.std.proofs.Common.{◌≡◌, ◌≢◌, ◌+◌, ◌<◌, ◌≤◌, ◌∷◌, ◌++◌, ◌∙◌, ℕ, Bool, true, List, [], length, take, sym, ap, subst, arith}
use Rattle.std.proofs.Common.{inl, inr, All, IsPermutation, IsSorted, count_by, ◌==◌, Some, slice_get}
use Rattle.std.proofs.lemmas.Bool.{cases_lt}
use Rattle.std.proofs.lemmas.List.{length-take}
use Rattle.std.proofs.lemmas.List.Elements.{All-nil, All-push, All-weaker}
use Rattle.std.proofs.lemmas.List.Sorted.{All-permutation, sum_by-IsPermutation, list_any-IsPermutation}
use Rattle.regions.specs.Table.{Table, is_free, kind_of}
use Rattle.mark_bitmap.specs.Tops.{Tops}
use Rattle.mark_bitmap.specs.Live.{live_bound_of}
use Rattle.region_choice.specs.declared.LiveRow.{LiveRow}
use Rattle.region_choice.specs.Ages.{Ages, age_cmp}
use Rattle.region_choice.specs.Choice.{copy_limit, live_sum}
use Rattle.evacuation.specs.Evacuates.{is_chosen}
use Rattle.step_core.specs.Pause.{AreRowsOf, AreYoung, IsRowOf, IsYoungCandidate, IsByAge}
use Rattle.step_core.proofs.Mutating.Small.{ordinary_known}
use Rattle.step_core.proofs.Pauses.Rows.{bit, has_last, has_left, once_more}

module _ (t : Table) (tams : Tops) (previous : List Bool) (running : Bool) (ages : Ages) where
  -- those of the first n regions
  pub record AreYoungBelow (n : ℕ) (rows : List LiveRow) : Type 0 where
    pub are_rows : AreRowsOf t tams.previous previous rows
    pub each : All (λ row. IsYoungCandidate t tams running ages row.region) rows
    pub below : All (λ row. row.region < n) rows
    pub all : (k : ℕ) → k < n → IsYoungCandidate t tams running ages k → is_chosen rows k ≡ true

  pub none_young : AreYoungBelow 0 []
  none_young = record {
    are_rows = record { each = All-nil (IsRowOf t tams.previous previous); once = λ k. omega arith };
    each = All-nil _;
    below = All-nil _;
    all = λ k lt y. absurd (omega (arith, lt));
  }

  further : (n : ℕ) (rows : List LiveRow) → All (λ row. row.region < n) rows → All (λ row. row.region < n + 1) rows
  further n rows a = All-weaker (λ row. row.region < n) (λ row. row.region < n + 1) (λ row lt. omega (arith, lt)) rows a

  -- a region that is no young candidate is passed
  pub young_passed : (n : ℕ) (rows : List LiveRow) → AreYoungBelow n rows → (IsYoungCandidate t tams running ages n → ⊥)
      → AreYoungBelow (n + 1) rows
  young_passed n rows y other = record {
    are_rows = y.are_rows;
    each = y.each;
    below = further n rows y.below;
    all = λ k lt is. elim (cases_lt k n) [
      | inl less ↦ y.all k less is
      | inr last ↦ absurd (let same : k ≡ n = omega arith in other (subst (λ (j : ℕ). IsYoungCandidate t tams running ages j) same is))
    ];
  }

  -- the row of a young candidate is written
  pub young_written : (n : ℕ) (rows : List LiveRow) (row : LiveRow) → AreYoungBelow n rows → row.region ≡ n
      → row.live_bound ≡ live_bound_of t tams.previous previous n → IsYoungCandidate t tams running ages n
      → AreYoungBelow (n + 1) (rows ++ row ∷ [])
  young_written n rows row y at bound is =
      let known = ordinary_known t n is.ordinary in
      let is_row : IsRowOf t tams.previous previous row = record {
        known = omega arith;
        ordinary = ap (kind_of t) at ∙ is.ordinary;
        bound = bound ∙ ap (live_bound_of t tams.previous previous) (sym at);
      } in
      record {
        are_rows = record {
          each = All-push (IsRowOf t tams.previous previous) rows row y.are_rows.each is_row;
          once = once_more rows row (All-weaker (λ r. r.region < n) (λ r. r.region ≢ row.region)
              (λ x lt e. omega (arith, e, lt, at)) rows y.below) y.are_rows.once;
        };
        each = All-push (λ r. IsYoungCandidate t tams running ages r.region) rows row y.each
            (subst (λ (j : ℕ). IsYoungCandidate t tams running ages j) (sym at) is);
        below = All-push (λ r. r.region < n + 1) rows row (further n rows y.below) (omega (arith, at));
        all = λ k lt young. elim (cases_lt k n) [
          | inl less ↦ has_left rows (row ∷ []) k (y.all k less young)
          | inr last ↦ has_last rows row k (omega arith)
        ];
      }

  -- all regions were passed
  pub young_ended : (rows : List LiveRow) → AreYoungBelow (length t.regions) rows → AreYoung t tams previous running ages rows
  young_ended rows y = record {
    are_rows = y.are_rows;
    each = y.each;
    all = λ k young. y.all k (ordinary_known t k young.ordinary) young;
  }

  -- the same rows in another order
  pub young_sorted : (xs ys : List LiveRow) → IsPermutation xs ys → AreYoung t tams previous running ages xs
      → AreYoung t tams previous running ages ys
  young_sorted xs ys same y = record {
    are_rows = record {
      each = All-permutation (IsRowOf t tams.previous previous) xs ys same y.are_rows.each;
      once = λ k. omega (arith, sum_by-IsPermutation (bit k) xs ys same, y.are_rows.once k);
    };
    each = All-permutation (λ row. IsYoungCandidate t tams running ages row.region) xs ys same y.each;
    all = λ k young. sym (list_any-IsPermutation (λ row. row.region == k) xs ys same) ∙ y.all k young;
  }

  -- a front of them is chosen, where the next one doesn't fit
  pub young_chosen : (budget n : ℕ) (rows : List LiveRow) (limit : ℕ)
      → limit ≡ copy_limit t.words_per_region budget (count_by is_free t.regions) → AreYoung t tams previous running ages rows
      → IsSorted (age_cmp ages) rows → n ≤ length rows → live_sum (take n rows) ≤ limit
      → ((row : LiveRow) → slice_get rows n ≡ Some row → limit < live_sum (take n rows) + row.live_bound)
      → IsByAge t tams previous running ages budget (take n rows)
  young_chosen budget n rows limit is young sorted count within next =
      let long : length (take n rows) ≡ n = (let len = length-take n rows in omega arith) in
      record {
        rows = rows;
        candidates = young;
        sorted = sorted;
        front = ap (λ (k : ℕ). take k rows) (sym long);
        within = omega (arith, within, is);
        next = λ row e. let fits = next row (ap (slice_get rows) (sym long) ∙ e) in omega (arith, fits, is);
      }
