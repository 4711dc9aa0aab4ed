-- The candidates of a pause, region by region.
use Rattle.std.proofs.Common.{◌≡◌, ◌≢◌, ◌+◌, ◌<◌, ◌≤◌, ◌∷◌, ◌++◌, ◌∙◌, ℕ, suc, Bool, true, false, cond, eqb, List, [], length, refl, sym}
use Rattle.std.proofs.Common.{ap, subst, arith, inl, inr, All, IsPermutation, count_by, ◌==◌, ◌||◌}
use Rattle.std.specs.List.{list_any}
use Rattle.std.proofs.lemmas.Bool.{cases_eq, cases_lt, eq-eqb, ne_eqb}
use Rattle.std.proofs.lemmas.List.Sums.{sum_by-cons, sum_by-append}
use Rattle.std.proofs.lemmas.List.Elements.{All-cons, All-nil, All-push, All-weaker}
use Rattle.std.proofs.lemmas.List.Folds.{list_any-append}
use Rattle.std.proofs.lemmas.List.Sorted.{All-permutation, sum_by-IsPermutation, list_any-IsPermutation}
use Rattle.regions.specs.Table.{Table, kind_of}
use Rattle.mark_bitmap.specs.Tops.{Tops}
use Rattle.mark_bitmap.specs.Live.{live_bound_of}
use Rattle.region_choice.specs.declared.LiveRow.{LiveRow}
use Rattle.evacuation.specs.Evacuates.{is_chosen}
use Rattle.step_core.specs.Pause.{IsRowOf}
use Rattle.step_core.specs.Pause.{IsCandidate, IsCandidateRow, AreCandidates}

abbrev pub bit : ℕ → LiveRow → ℕ
bit k row = cond (eqb row.region k) 1 0

pub All_one : (P : LiveRow → Type 0) (x : LiveRow) → P x → All P (x ∷ [])
All_one P x p = All-cons P x [] p (All-nil P)

-- no row is of a region that each row isn't of
none_of : (rows : List LiveRow) (n : ℕ) → All (λ row. row.region ≢ n) rows → count_by (λ row. row.region == n) rows ≡ 0
none_of [] n a = refl
none_of (x ∷ rows) n a =
    let other = ne_eqb x.region n (a 0 x (omega arith)) in
    let rest = none_of rows n (λ k d lt. a (suc k) d (omega (arith, lt))) in
    omega (arith, sum_by-cons (bit n) x rows, ap {B = ℕ} (λ b. cond b 1 0) other, rest)

-- a row more, of another region than theirs: no region has two of them still
pub once_more : (rows : List LiveRow) (row : LiveRow) → All (λ r. r.region ≢ row.region) rows
    → ((k : ℕ) → count_by (λ r. r.region == k) rows ≤ 1) → (k : ℕ) → count_by (λ r. r.region == k) (rows ++ row ∷ []) ≤ 1
once_more rows row others once k =
    let sum = sum_by-append (bit k) rows (row ∷ []) in
    let one = sum_by-cons (bit k) row [] in
    elim (cases_eq row.region k) [
      | inl q ↦
          let none : count_by (λ (r : LiveRow). r.region == k) rows ≡ 0 =
          subst (λ (j : ℕ). count_by (λ (r : LiveRow). r.region == j) rows ≡ 0) q (none_of rows row.region others) in
          omega (arith, sum, one, none, ap {B = ℕ} (λ b. cond b 1 0) (eq-eqb row.region k q))
      | inr ne ↦ omega (arith, sum, one, once k, ap {B = ℕ} (λ b. cond b 1 0) (ne_eqb row.region k ne))
    ]

-- it is chosen with them
pub has_left : (rows more : List LiveRow) (k : ℕ) → is_chosen rows k ≡ true → is_chosen (rows ++ more) k ≡ true
has_left rows more k e =
    list_any-append (λ (r : LiveRow). r.region == k) rows more ∙ ap (λ (b : Bool). b || list_any (λ (r : LiveRow). r.region == k) more) e

any_right : (a b : Bool) → b ≡ true → (a || b) ≡ true
any_right true b e = refl
any_right false b e = e

pub has_last : (rows : List LiveRow) (row : LiveRow) (k : ℕ) → row.region ≡ k → is_chosen (rows ++ row ∷ []) k ≡ true
has_last rows row k e =
    list_any-append (λ (r : LiveRow). r.region == k) rows (row ∷ [])
    ∙ any_right (list_any (λ (r : LiveRow). r.region == k) rows) (list_any (λ (r : LiveRow). r.region == k) (row ∷ []))
    (ap (λ (b : Bool). b || false) (eq-eqb row.region k e))

module _ (t : Table) (tams : Tops) (previous : List Bool) (running : Bool) where
  further : (n : ℕ) (row : LiveRow) → IsCandidateRow t tams previous running n row → IsCandidateRow t tams previous running (n + 1) row
  further n row c = record { candidate = c.candidate; below = (let lt = c.below in omega arith) }

  -- a region that is no candidate is passed
  pub row_passed : (n : ℕ) (rows : List LiveRow) → AreCandidates t tams previous running n rows
      → (IsCandidate t tams previous running n → ⊥) → AreCandidates t tams previous running (n + 1) rows
  row_passed n rows c other = record {
    are_rows = c.are_rows;
    each = All-weaker (IsCandidateRow t tams previous running n) (IsCandidateRow t tams previous running (n + 1)) (further n) rows c.each;
    all = λ k lt is. elim (cases_lt k n) [
      | inl less ↦ c.all k less is
      | inr last ↦ absurd (let same : k ≡ n = omega arith in other (subst (λ (j : ℕ). IsCandidate t tams previous running j) same is))
    ];
  }

  -- the row of a candidate is written
  pub row_written : (n : ℕ) (rows : List LiveRow) (row : LiveRow) → AreCandidates t tams previous running n rows → n < length t.regions
      → row.region ≡ n → row.live_bound ≡ live_bound_of t tams.previous previous n
      → IsCandidate t tams previous running n → AreCandidates t tams previous running (n + 1) (rows ++ row ∷ [])
  row_written n rows row c known at bound is =
      let is_row : IsRowOf t tams.previous previous row = record {
        known = omega arith;
        ordinary = ap (kind_of t) at ∙ is.ordinary;
        bound = bound ∙ ap (live_bound_of t tams.previous previous) (sym at);
      } in
      let is_here : IsCandidateRow t tams previous running (n + 1) row = record {
        candidate = subst (λ (j : ℕ). IsCandidate t tams previous running j) (sym at) is;
        below = omega arith;
      } in
      record {
        are_rows = record {
          each = All-push (IsRowOf t tams.previous previous) rows row c.are_rows.each is_row;
          once = once_more rows row (All-weaker (IsCandidateRow t tams previous running n) (λ r. r.region ≢ row.region)
              (λ x r e. (let lt = r.below in omega (arith, e, lt, at))) rows c.each) c.are_rows.once;
        };
        each = All-push (IsCandidateRow t tams previous running (n + 1)) rows row (All-weaker (IsCandidateRow t tams previous running n)
            (IsCandidateRow t tams previous running (n + 1)) (further n) rows c.each) is_here;
        all = λ k lt cand. elim (cases_lt k n) [
          | inl less ↦ has_left rows (row ∷ []) k (c.all k less cand)
          | inr last ↦ has_last rows row k (omega arith)
        ];
      }

-- the same rows in another order
pub candidates_sorted : (t : Table) (tams : Tops) (previous : List Bool) (running : Bool) (n : ℕ)
    (xs ys : List LiveRow) → IsPermutation xs ys → AreCandidates t tams previous running n xs → AreCandidates t tams previous running n ys
candidates_sorted t tams previous running n xs ys same c = record {
  are_rows = record {
    each = All-permutation (IsRowOf t tams.previous previous) xs ys same c.are_rows.each;
    once = λ k. omega (arith, sum_by-IsPermutation (bit k) xs ys same, c.are_rows.once k);
  };
  each = All-permutation (IsCandidateRow t tams previous running n) xs ys same c.each;
  all = λ k lt is. sym (list_any-IsPermutation (λ row. row.region == k) xs ys same) ∙ c.all k lt is;
}

pub length-push : (rows : List LiveRow) (row : LiveRow) → length (rows ++ row ∷ []) ≡ length rows + 1
length-push [] row = refl
length-push (x ∷ rows) row = omega (arith, length-push rows row)
