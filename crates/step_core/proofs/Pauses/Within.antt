-- Rows whose regions few cards may lead into: what is known of those that are taken, and how they are taken.
use Rattle.std.proofs.Common.{◌≡◌, ◌+◌, ◌<◌, ◌≤◌, ◌∷◌, ◌++◌, ◌∙◌, ℕ, Bool, true, not, cond, leb, List, [], length, take, drop}
use Rattle.std.proofs.Common.{◌-◌, append_assoc, get_or, All, IsPermutation, sum_by, filter, refl, sym, ap, subst, arith}
use Rattle.std.specs.List.{SwappedAt}
use Rattle.std.proofs.lemmas.Bool.{le-leb, lt-leb}
use Rattle.std.proofs.lemmas.List.{get_or-take, get_or-drop, get_or-append_right, length-take-le}
use Rattle.std.proofs.lemmas.List.{take-append-drop, take-append-le, take-take, take_all}
use Rattle.std.proofs.lemmas.List.Elements.{All-filter, All-take, filter-append, filter_more}
use Rattle.std.proofs.lemmas.List.Filters.{FiltersInPlace, FiltersInPlace-more_no, FiltersInPlace-more_swap, sum_by-filter_both}
use Rattle.std.proofs.lemmas.List.Sorted.{IsPermutation-refl, IsPermutation-trans}
use Rattle.std.proofs.lemmas.List.Sums.{sum_by-append, sum_by-cons, sum_by-take-le}
use Rattle.std.proofs.lemmas.Option.{get_or_from_slice_get, slice_get_within}
use Rattle.remembered_sets.specs.Sets.{Sets, cards_into}
use Rattle.region_choice.specs.declared.LiveRow.{LiveRow}
use Rattle.step_core.specs.Within.{AreWithin, cards_sum, with_few_cards}

module _ (s : Sets) (cards : ℕ) where
  abbrev has_few : LiveRow → Bool
  has_few row = leb (cards_into s row.region) cards

  abbrev cards_of : LiveRow → ℕ
  cards_of row = cards_into s row.region

  -- ---- what is taken of the rows
  module _ (rows taken : List LiveRow) (w : AreWithin s cards rows taken) where
    -- what holds of the rows holds of it
    pub within_all : (P : LiveRow → Type 0) → All P rows → All P taken
    within_all P a = subst (λ (xs : List LiveRow). All P xs) (sym w.front)
        (All-take P (length taken) (with_few_cards s cards rows) (All-filter has_few P rows a))

    -- and a sum over it is at most that over the rows
    pub within_sum : (f : LiveRow → ℕ) → sum_by f taken ≤ sum_by f rows
    within_sum f = omega (
      arith,
      ap (λ (xs : List LiveRow). sum_by f xs) w.front,
      sum_by-take-le f (with_few_cards s cards rows) (length taken),
      sum_by-filter_both has_few (λ row. not (has_few row)) (λ _. refl) f rows,
    )

  -- ---- the rows one by one: of the first i of the rows xs, those with few cards are the first k of ys, and so many cards are left
  pub record AreTaken (xs ys : List LiveRow) (k i left : ℕ) : Type 0 where
    pub same : IsPermutation xs ys
    pub kept : FiltersInPlace has_few xs ys k i
    pub left_is : left + cards_sum s (take k ys) ≡ cards

  pub none_taken : (xs : List LiveRow) → AreTaken xs xs 0 0 cards
  none_taken xs = record {
    same = IsPermutation-refl xs;
    kept = record { front = refl; rest = refl; behind = omega arith; within = omega arith; long = refl };
    left_is = omega arith;
  }

  module _ (xs ys : List LiveRow) (k i left : ℕ) (t : AreTaken xs ys k i left) (x : LiveRow) (lt : i < length ys)
      (is : x ≡ get_or ys i x) where
    -- the row was there at the start
    was_there : get_or xs i x ≡ x
    was_there =
        let here : i + 0 ≡ i = omega arith in
        sym (is ∙ ap (λ (j : ℕ). get_or ys j x) (sym here) ∙ sym (get_or-drop i ys 0 x)
        ∙ ap (λ (zs : List LiveRow). get_or zs 0 x) t.kept.rest ∙ get_or-drop i xs 0 x ∙ ap (λ (j : ℕ). get_or xs j x) here)

    -- and what holds of the first of them holds of it
    pub row_holds : (P : LiveRow → Type 0) (n : ℕ) → i < n → n ≤ length xs → All P (take n xs) → P x
    row_holds P n less inside a = subst P (get_or-take n xs i x less ∙ was_there)
        (a i x (omega (arith, less, inside, length-take-le n xs inside)))

    -- a row with more cards is passed over
    pub passed_over : cards < cards_into s x.region → AreTaken xs ys k (i + 1) left
    passed_over many = record {
      same = t.same;
      kept = FiltersInPlace-more_no t.kept lt (lt-leb (cards_into s x.region) cards many) is;
      left_is = t.left_is;
    }

    -- those with few of one row more
    one_more : cards_into s x.region ≤ cards → filter has_few (take (i + 1) xs) ≡ take k ys ++ x ∷ []
    one_more few =
        let inside : i < length xs = omega (arith, lt, t.kept.long) in
        let passes : has_few x ≡ true = le-leb (cards_into s x.region) cards few in
        filter_more has_few xs i x inside
        ∙ ap (λ (r : LiveRow). filter has_few (take i xs) ++ cond (has_few r) (r ∷ []) []) was_there
        ∙ ap (λ (b : Bool). filter has_few (take i xs) ++ cond b (x ∷ []) []) passes
        ∙ ap (λ (zs : List LiveRow). zs ++ x ∷ []) (sym t.kept.front)

    -- one that fits is taken
    pub one_taken : (zs : List LiveRow) (rest : ℕ) → cards_into s x.region ≤ cards → rest + cards_into s x.region ≡ left
        → IsPermutation ys zs → SwappedAt ys zs k i → AreTaken xs zs (k + 1) (i + 1) rest
    one_taken zs rest few less moved swapped =
        let kept = FiltersInPlace-more_swap t.kept lt (le-leb (cards_into s x.region) cards few) is swapped in
        let all = ap (λ (rows : List LiveRow). cards_sum s rows) (kept.front ∙ one_more few) in
        let parts = sum_by-append cards_of (take k ys) (x ∷ []) in
        let last = sum_by-cons cards_of x [] in
        record {
          same = IsPermutation-trans xs ys zs t.same moved;
          kept = kept;
          left_is = omega (arith, t.left_is, less, all, parts, last);
        }

  -- ---- where no more are taken
  -- a front of the rows with few cards, of which it has so many
  front_of : (xs zs : List LiveRow) (k : ℕ) (some : List LiveRow) → length zs ≡ k → filter has_few xs ≡ zs ++ some
      → zs ≡ take (length zs) (filter has_few xs)
  front_of xs zs k some len all =
      sym (ap (take (length zs)) all ∙ take-append-le (length zs) zs some (omega arith) ∙ take_all (length zs) zs (omega arith))

  -- the first n rows from i on
  split_at : (xs : List LiveRow) (i n : ℕ) → i ≤ n
      → filter has_few (take n xs) ≡ filter has_few (take i xs) ++ filter has_few (drop i (take n xs))
  split_at xs i n le =
      ap (filter has_few) (sym (take-append-drop i (take n xs)))
      ∙ filter-append has_few (take i (take n xs)) (drop i (take n xs))
      ∙ ap (λ (zs : List LiveRow). filter has_few zs ++ filter has_few (drop i (take n xs))) (take-take i n xs le)

  module _ (xs ys : List LiveRow) (n k i left : ℕ) (t : AreTaken xs ys k i left) where
    so_many : length (take k ys) ≡ k
    so_many = length-take-le k ys (omega (arith, t.kept.behind, t.kept.within, t.kept.long))

    -- all rows were looked at
    pub ended : i ≡ n → AreWithin s cards (take n xs) (take k ys)
    ended e =
        let all : filter has_few (take n xs) ≡ take k ys =
        ap (λ (m : ℕ). filter has_few (take m xs)) (sym e) ∙ sym t.kept.front in
        record {
          front = sym (ap (take (length (take k ys))) all ∙ take_all (length (take k ys)) (take k ys) (omega arith));
          within = omega (arith, t.left_is);
          next = λ row f. absurd (omega (
            arith,
            slice_get_within (filter has_few (take n xs)) (length (take k ys)) row f,
            ap (λ (zs : List LiveRow). length zs) all,
          ));
        }

    -- a row doesn't fit
    pub stopped : i < n → n ≤ length xs → (x : LiveRow) → x ≡ get_or ys i x → cards_into s x.region ≤ cards → left < cards_into s x.region
        → AreWithin s cards (take n xs) (take k ys)
    stopped less inside x is few many =
        let zs : List LiveRow = take k ys in
        let lt : i < length ys = omega (arith, t.kept.long) in
        let rest : List LiveRow = filter has_few (drop (i + 1) (take n xs)) in
        let all : filter has_few (take n xs) ≡ zs ++ x ∷ rest = split_at xs (i + 1) n (omega arith)
        ∙ ap (λ (us : List LiveRow). us ++ rest) (one_more xs ys k i left t x lt is few) ∙ append_assoc zs (x ∷ []) rest in
        record {
          front = front_of (take n xs) zs k (x ∷ rest) so_many all;
          within = omega (arith, t.left_is);
          next = λ row f.
              let none : length zs - length zs ≡ 0 = omega arith in
              let here : row ≡ x = sym (get_or_from_slice_get (filter has_few (take n xs)) (length zs) row x f)
              ∙ ap (λ (us : List LiveRow). get_or us (length zs) x) all
              ∙ get_or-append_right zs (x ∷ rest) (length zs) (length zs) x refl (omega arith)
              ∙ ap (λ (j : ℕ). get_or (x ∷ rest) j x) none in
              omega (arith, t.left_is, many, ap (λ (r : LiveRow). cards_into s r.region) here);
        }
