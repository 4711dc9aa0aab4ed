-- Candidates whose live bounds are within a limit, and the rows of the others, which the code doesn't write.
use Rattle.std.proofs.Common.{◌≡◌, ◌⊎◌, ◌+◌, ◌-◌, ◌*◌, ◌<◌, ◌≤◌, ◌∷◌, ◌++◌, ◌∙◌, ℕ, zero, suc, min, Bool, true, false, List, [], length}
use Rattle.std.proofs.Common.{get_or, take, drop, refl, sym, ap, subst, arith, inl, inr, is_lt, append_assoc, All, IsPermutation, IsSorted}
use Rattle.std.proofs.Common.{slice_index, count_by}
use Rattle.std.proofs.lemmas.Bool.{cases_eq, cases_lt}
use Rattle.std.proofs.lemmas.List.{length-append, length-take-le, take-append-le, drop-append-le}
use Rattle.std.proofs.lemmas.List.Elements.{All-append, All-push, All-take, All-weaker}
use Rattle.std.proofs.lemmas.List.Sorted.{All-permutation, IsPermutation-refl, IsPermutation-to_front}
use Rattle.std.proofs.lemmas.List.Sorted.{IsPermutation-append_left, IsPermutation-append_right}
use Rattle.regions.specs.Table.{Table, is_free, kind_of}
use Rattle.regions.specs.declared.row.Kind.{Kind}
use Rattle.regions.specs.declared.row.Kind.TheVariants as kinds
use Rattle.mark_bitmap.specs.Tops.{Tops}
use Rattle.mark_bitmap.specs.Live.{live_bound_of}
use Rattle.region_choice.specs.declared.LiveRow.{LiveRow}
use Rattle.region_choice.specs.Choice.{copy_limit, live_sum, row_cmp, ComeFirst, IsBestWithin}
use Rattle.region_choice.proofs.Greedy.{IsBestWithin-front}
use Rattle.region_choice.proofs.Parts.{higher_last}
use Rattle.step_core.specs.Pause.{IsCandidate, AreCandidates, AreCandidatesWithin, IsChosen}
use Rattle.step_core.proofs.Pauses.Rows.{row_passed, row_written, candidates_sorted}

-- ---- region by region
module _ (t : Table) (tams : Tops) (previous : List Bool) (running : Bool) (limit : ℕ) where
  pub within_none : AreCandidatesWithin t tams previous running limit 0 []
  within_none = record {
    others = [];
    all = record {
      are_rows = record { each = λ k d h. absurd (omega arith); once = λ k. omega arith };
      each = λ k d h. absurd (omega arith);
      all = λ k h c. absurd (omega arith);
    };
    within = λ k d h. absurd (omega arith);
    beyond = λ k d h. absurd (omega arith);
  }

  -- a region that is no candidate
  pub within_passed : (n : ℕ) (rows : List LiveRow) → AreCandidatesWithin t tams previous running limit n rows
      → (IsCandidate t tams previous running n → ⊥) → AreCandidatesWithin t tams previous running limit (n + 1) rows
  within_passed n rows w none = record {
    others = w.others;
    all = row_passed t tams previous running n (rows ++ w.others) w.all none;
    within = w.within;
    beyond = w.beyond;
  }

  -- a candidate beyond the limit
  pub within_beyond : (n : ℕ) (rows : List LiveRow) → AreCandidatesWithin t tams previous running limit n rows
      → n < length t.regions → IsCandidate t tams previous running n
      → limit < live_bound_of t tams.previous previous n → AreCandidatesWithin t tams previous running limit (n + 1) rows
  within_beyond n rows w known c high =
      let row : LiveRow = record { region = n; live_bound = live_bound_of t tams.previous previous n } in
      record {
        others = w.others ++ row ∷ [];
        all = subst (AreCandidates t tams previous running (n + 1)) (append_assoc rows w.others (row ∷ []))
            (row_written t tams previous running n (rows ++ w.others) row w.all known refl refl c);
        within = w.within;
        beyond = All-push (λ r. limit < r.live_bound) w.others row w.beyond high;
      }

  -- the row of a candidate within it
  pub within_written : (n : ℕ) (rows : List LiveRow) (row : LiveRow)
      → AreCandidatesWithin t tams previous running limit n rows → n < length t.regions → row.region ≡ n
      → row.live_bound ≡ live_bound_of t tams.previous previous n → row.live_bound ≤ limit → IsCandidate t tams previous running n
      → AreCandidatesWithin t tams previous running limit (n + 1) (rows ++ row ∷ [])
  within_written n rows row w known at bound low c =
      let last : IsPermutation (rows ++ (w.others ++ row ∷ [])) (rows ++ (row ∷ w.others)) =
      IsPermutation-append_right rows (w.others ++ row ∷ []) (row ∷ w.others) (IsPermutation-to_front w.others row) in
      let whole : IsPermutation ((rows ++ w.others) ++ row ∷ []) ((rows ++ row ∷ []) ++ w.others) =
      subst (λ (l : List LiveRow). IsPermutation l ((rows ++ row ∷ []) ++ w.others)) (sym (append_assoc rows w.others (row ∷ [])))
      (subst (λ (l : List LiveRow). IsPermutation (rows ++ (w.others ++ row ∷ [])) l) (sym (append_assoc rows (row ∷ []) w.others)) last) in
      record {
        others = w.others;
        all = candidates_sorted t tams previous running (n + 1) ((rows ++ w.others) ++ row ∷ []) ((rows ++ row ∷ []) ++ w.others) whole
            (row_written t tams previous running n (rows ++ w.others) row w.all known at bound c);
        within = All-push (λ r. r.live_bound ≤ limit) rows row w.within low;
        beyond = w.beyond;
      }

  -- whether a region is a candidate
  is_candidate : (k : ℕ) → IsCandidate t tams previous running k ⊎ (IsCandidate t tams previous running k → ⊥)
  is_candidate k = by_kind (kind_of t k) refl
    where
      new_or_not : (b : Bool) → running ≡ b → kind_of t k ≡ kinds.Ordinary → live_bound_of t tams.previous previous k < t.words_per_region
          → IsCandidate t tams previous running k ⊎ (IsCandidate t tams previous running k → ⊥)
      new_or_not false e o f = inl (record { ordinary = o; frees = f; all_new = λ run. absurd (let no : true ≡ false = sym run ∙ e in cc) })
      new_or_not true e o f = elim (cases_eq (slice_index tams.next k) (k * t.words_per_region)) [
        | inl same ↦ inl (record { ordinary = o; frees = f; all_new = λ run. same })
        | inr other ↦ inr (λ c. other (c.all_new e))
      ]

      by_kind : (kind : Kind) → kind_of t k ≡ kind → IsCandidate t tams previous running k ⊎ (IsCandidate t tams previous running k → ⊥)
      by_kind kinds.Free e = inr (λ c. let z : kinds.Free ≡ kinds.Ordinary = sym e ∙ c.ordinary in absurd (cc))
      by_kind kinds.Ordinary e = elim (cases_lt (live_bound_of t tams.previous previous k) t.words_per_region) [
        | inl less ↦ new_or_not running refl e less
        | inr full ↦ inr (λ c. let frees = c.frees in absurd (omega (arith, frees, full)))
      ]
      by_kind kinds.First e = inr (λ c. let z : kinds.First ≡ kinds.Ordinary = sym e ∙ c.ordinary in absurd (cc))
      by_kind kinds.Rest e = inr (λ c. let z : kinds.Rest ≡ kinds.Ordinary = sym e ∙ c.ordinary in absurd (cc))

  -- regions in which no candidate is within the limit
  pub within_gap : (n m end : ℕ) (rows : List LiveRow) → n + m ≡ end → end ≤ length t.regions
      → ((k : ℕ) → n ≤ k → k < end → IsCandidate t tams previous running k → limit < live_bound_of t tams.previous previous k)
      → AreCandidatesWithin t tams previous running limit n rows → AreCandidatesWithin t tams previous running limit end rows
  within_gap n zero end rows e l beyond w =
      let done : n ≡ end = omega arith in
      subst (λ (j : ℕ). AreCandidatesWithin t tams previous running limit j rows) done w
  within_gap n (suc m) end rows e l beyond w =
      within_gap (n + 1) m end rows (omega arith) l (λ k low high c. beyond k (omega arith) high c) (elim (is_candidate n) [
        | inl c ↦ within_beyond n rows w (omega arith) c (beyond n (omega arith) (omega arith) c)
        | inr none ↦ within_passed n rows w none
      ])

-- a candidate beyond what is the limit, and less than a region
pub beyond_limit : (t : Table) (tams : Tops) (previous : List Bool) (running : Bool) (limit words most k : ℕ) → most ≡ min limit (words - 1)
    → words ≡ t.words_per_region → (IsCandidate t tams previous running k → most < live_bound_of t tams.previous previous k)
    → IsCandidate t tams previous running k → limit < live_bound_of t tams.previous previous k
beyond_limit t tams previous running limit words most k e same beyond c =
    let more = beyond c in
    let frees = c.frees in
    omega arith

-- ---- the choice
-- the rows that were taken, and the others: no others are better, those without a row neither
module _ (t : Table) (tams : Tops) (previous : List Bool) (running : Bool) (budget n limit : ℕ) (xs ys : List LiveRow)
    (limit_is : limit ≡ copy_limit t.words_per_region budget (count_by is_free t.regions))
    (w : AreCandidatesWithin t tams previous running limit (length t.regions) xs) (same : IsPermutation xs ys) (le : n ≤ length ys)
    (sorted : IsSorted row_cmp (take n ys)) (first : ComeFirst (take n ys) (drop n ys))
    (next : All (λ row. limit < live_sum (take n ys) + row.live_bound) (drop n ys)) (fits : live_sum (take n ys) ≤ limit) where
  front : take n (ys ++ w.others) ≡ take n ys
  front = take-append-le n ys w.others le

  behind : drop n (ys ++ w.others) ≡ drop n ys ++ w.others
  behind = drop-append-le n ys w.others le

  all : AreCandidates t tams previous running (length t.regions) (ys ++ w.others)
  all = candidates_sorted t tams previous running (length t.regions) (xs ++ w.others) (ys ++ w.others)
      (IsPermutation-append_left w.others xs ys same) w.all

  low : All (λ row. row.live_bound ≤ limit) (take n ys)
  low = All-take (λ row. row.live_bound ≤ limit) n ys (All-permutation (λ row. row.live_bound ≤ limit) xs ys same w.within)

  -- one that has no row doesn't come before one that was taken
  others_behind : (row : LiveRow) → row.live_bound ≤ limit → All (λ other. is_lt (row_cmp other row) ≡ false) w.others
  others_behind row small = All-weaker (λ other. limit < other.live_bound) (λ other. is_lt (row_cmp other row) ≡ false)
      (λ other high. higher_last row other (omega (arith, small, high))) w.others w.beyond

  comes : ComeFirst (take n ys) (drop n (ys ++ w.others))
  comes = subst (λ (l : List LiveRow). ComeFirst (take n ys) l) (sym behind)
      (λ k d h. All-append (λ other. is_lt (row_cmp other (get_or (take n ys) k d)) ≡ false) (drop n ys) w.others (first k d h)
      (others_behind (get_or (take n ys) k d) (low k d h)))

  -- nor does it fit
  others_full : All (λ row. limit < live_sum (take n ys) + row.live_bound) w.others
  others_full = All-weaker (λ row. limit < row.live_bound) (λ row. limit < live_sum (take n ys) + row.live_bound)
      (λ row high. omega (arith, high)) w.others w.beyond

  full : All (λ row. limit < live_sum (take n ys) + row.live_bound) (drop n (ys ++ w.others))
  full = subst (λ (l : List LiveRow). All (λ row. limit < live_sum (take n ys) + row.live_bound) l) (sym behind)
      (All-append (λ row. limit < live_sum (take n ys) + row.live_bound) (drop n ys) w.others next others_full)

  small : All (λ row. row.live_bound < t.words_per_region) (ys ++ w.others)
  small k d h = (
      let r = all.are_rows.each k d h in
      let c = all.each k d h in
      let frees = c.candidate.frees in
      omega (arith, r.bound, frees))

  best : IsBestWithin t.words_per_region limit (ys ++ w.others) (take n (ys ++ w.others))
  best = IsBestWithin-front t.words_per_region limit (ys ++ w.others) (ys ++ w.others) n (IsPermutation-refl (ys ++ w.others))
      (subst (λ (l : List LiveRow). ComeFirst l (drop n (ys ++ w.others))) (sym front) comes) small
      (omega (arith, le, length-append ys w.others)) (subst (λ (l : List LiveRow). live_sum l ≤ limit) (sym front) fits)
      (subst (λ (l : List LiveRow). All (λ row. limit < live_sum l + row.live_bound) (drop n (ys ++ w.others))) (sym front) full)

  pub front_within : IsChosen t tams previous running budget (take n ys)
  front_within =
      let count : n ≡ length (take n ys) = sym (length-take-le n ys le) in
      record {
        rows = ys ++ w.others;
        candidates = all;
        front = sym front ∙ ap (λ (m : ℕ). take m (ys ++ w.others)) count;
        sorted = sorted;
        first = subst (λ (m : ℕ). ComeFirst (take n ys) (drop m (ys ++ w.others))) count comes;
        next = subst (λ (k : ℕ). All (λ row. k < live_sum (take n ys) + row.live_bound) (drop (length (take n ys)) (ys ++ w.others)))
            limit_is
            (subst (λ (m : ℕ). All (λ row. limit < live_sum (take n ys) + row.live_bound) (drop m (ys ++ w.others))) count full);
        best = subst (λ (k : ℕ). IsBestWithin t.words_per_region k (ys ++ w.others) (take n ys)) limit_is
            (subst (λ (l : List LiveRow). IsBestWithin t.words_per_region limit (ys ++ w.others) l) front best);
      }
