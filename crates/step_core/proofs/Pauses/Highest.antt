-- The highest ordinary regions, one by one.
use Rattle.std.proofs.Common.{◌≡◌, ◌+◌, ◌*◌, ◌<◌, ◌≤◌, ◌⊎◌, ◌∷◌, ◌++◌, ◌∙◌, ℕ, zero, suc, Bool, true, false, cond, eqb, List, [], length}
use Rattle.std.proofs.Common.{get_or, take, refl, sym, ap, subst, arith, inl, inr, All, count_by, ◌==◌, ◌||◌, ◌≢◌}
use Rattle.std.proofs.lemmas.Bool.{cases_eq, cases_lt, cases_Bool, eq-eqb, eqb-true}
use Rattle.std.proofs.lemmas.List.{take_all}
use Rattle.std.proofs.lemmas.List.Sums.{sum_by-cons, sum_by-append}
use Rattle.std.proofs.lemmas.List.Elements.{All-nil, All-push, All-weaker}
use Rattle.std.proofs.lemmas.List.Folds.{Any-from_list_any, list_any-append}
use Rattle.regions.specs.Table.{Region, Table, Free, is_free, kind_of, nth_region, region_kind}
use Rattle.regions.specs.declared.row.Kind.TheVariants as kinds
use Rattle.mark_bitmap.specs.Tops.{Tops}
use Rattle.mark_bitmap.specs.Live.{live_bound_of}
use Rattle.region_choice.specs.declared.LiveRow.{LiveRow}
use Rattle.region_choice.specs.Choice.{copy_limit, live_sum}
use Rattle.evacuation.specs.Evacuates.{is_chosen}
use Rattle.step_core.specs.Pause.{IsRowOf, AreHighest, GoesDown, IsCompacted, free_below}
use Rattle.step_core.proofs.Mutating.Small.{ordinary_known}
use Rattle.step_core.proofs.Pauses.Rows.{bit, has_last, has_left, length-push, once_more}

abbrev free_bit : Region → ℕ
free_bit r = cond (is_free r) 1 0

one_free : (xs : List Region) (n : ℕ) → n < length xs
    → count_by is_free (take (suc n) xs) ≡ count_by is_free (take n xs) + free_bit (get_or xs n Free)
one_free [] n lt = absurd (omega (arith, lt))
one_free (x ∷ xs) zero lt = omega (arith, sum_by-cons free_bit x [])
one_free (x ∷ xs) (suc n) lt = omega (
  arith,
  sum_by-cons free_bit x (take (suc n) xs),
  sum_by-cons free_bit x (take n xs),
  one_free xs n (omega (arith, lt)),
)

pub fewer_free : (xs : List Region) (k j : ℕ) → k ≤ j → count_by is_free (take k xs) ≤ count_by is_free (take j xs)
fewer_free xs zero j le = omega arith
fewer_free xs (suc k) zero le = absurd (omega (arith, le))
fewer_free [] (suc k) (suc j) le = omega arith
fewer_free (x ∷ xs) (suc k) (suc j) le = omega (
  arith,
  sum_by-cons free_bit x (take k xs),
  sum_by-cons free_bit x (take j xs),
  fewer_free xs k j (omega (arith, le)),
)

some_free : (xs : List Region) (k : ℕ) → 1 ≤ count_by is_free (take k xs) → (j : ℕ) × (j < k) × (is_free (get_or xs j Free) ≡ true)
    × (j < length xs)
some_free [] zero le = absurd (omega (arith, le))
some_free [] (suc k) le = absurd (omega (arith, le))
some_free (x ∷ xs) zero le = absurd (omega (arith, le))
some_free (x ∷ xs) (suc k) le = elim (cases_Bool (is_free x)) [
  | inl here ↦ (zero, omega arith, here, omega arith)
  | inr unset ↦
      (let one = sum_by-cons free_bit x (take k xs) in
      let none = ap {B = ℕ} (λ b. cond b 1 0) unset in
      let (j, less, free, known) = some_free xs k (omega (arith, le, one, none)) in
      (suc j, omega (arith, less), free, omega (arith, known)))
]

free_is : (r : Region) → region_kind r ≡ kinds.Free → free_bit r ≡ 1
free_is Free e = refl
free_is _ e = absurd (cc)

other_is : (r : Region) → region_kind r ≢ kinds.Free → free_bit r ≡ 0
other_is Free e = absurd (e refl)
other_is _ e = refl

-- a region further down, one fewer is free below, if the region is free
pub below_free : (t : Table) (n m : ℕ) → n ≡ m + 1 → n ≤ length t.regions → kind_of t m ≡ kinds.Free → free_below t n ≡ free_below t m + 1
unfolding kind_of nth_region
below_free t n m e within free =
    let next : n ≡ suc m = omega (arith, e) in
    ap (free_below t) next ∙ one_free t.regions m (omega (arith, e, within)) ∙ ap (λ (b : ℕ). free_below t m + b) (free_is _ free)

pub below_other : (t : Table) (n m : ℕ) → n ≡ m + 1 → n ≤ length t.regions → kind_of t m ≢ kinds.Free → free_below t n ≡ free_below t m
unfolding kind_of nth_region
below_other t n m e within other =
    let next : n ≡ suc m = omega (arith, e) in
    let same : free_below t n ≡ free_below t m + 0 =
    ap (free_below t) next ∙ one_free t.regions m (omega (arith, e, within)) ∙ ap (λ (b : ℕ). free_below t m + b) (other_is _ other) in
    omega (arith, same)

kind_is : (r : Region) → is_free r ≡ true → region_kind r ≡ kinds.Free
kind_is Free e = refl
kind_is _ e = absurd (cc)

-- where some are free below a region, one of them
pub free_found : (t : Table) (k : ℕ) → 1 ≤ free_below t k → (j : ℕ) × (j < k) × (kind_of t j ≡ kinds.Free)
unfolding kind_of nth_region
free_found t k some = let (j, less, free, known) = some_free t.regions k some in (j, less, kind_is _ free)

-- none is ordinary from a region down to one below
pub none_further : (t : Table) (n m from : ℕ) → n ≡ m + 1 → kind_of t m ≢ kinds.Ordinary
    → ((k : ℕ) → n ≤ k → k < from → kind_of t k ≢ kinds.Ordinary) → (k : ℕ) → m ≤ k → k < from → kind_of t k ≢ kinds.Ordinary
none_further t n m from e other none k low high = elim (cases_eq k m) [
  | inl same ↦ λ ordinary. other (subst (λ (j : ℕ). kind_of t j ≡ kinds.Ordinary) same ordinary)
  | inr apart ↦ none k (omega (arith, e, low, apart)) high
]

All_last : (P : LiveRow → Type 0) (xs : List LiveRow) (x : LiveRow) → All P (xs ++ x ∷ []) → P x
All_last P [] x a = a 0 x (omega arith)
All_last P (y ∷ xs) x a = All_last P xs x (λ k d lt. a (suc k) d (omega (arith, lt)))

counts_at : (rows : List LiveRow) (j : ℕ) (x : LiveRow) (k : ℕ) → j < length rows → get_or rows j x ≡ x → x.region ≡ k
    → 1 ≤ count_by (λ row. row.region == k) rows
counts_at [] j x k lt e r = absurd (omega (arith, lt))
counts_at (y ∷ rows) zero x k lt e r =
    let here : eqb y.region k ≡ true = eq-eqb y.region k (ap (λ (z : LiveRow). z.region) e ∙ r) in
    omega (arith, sum_by-cons (bit k) y rows, ap {B = ℕ} (λ b. cond b 1 0) here)
counts_at (y ∷ rows) (suc j) x k lt e r = omega (arith, sum_by-cons (bit k) y rows, counts_at rows j x k (omega (arith, lt)) e r)

-- a chosen region has a row
has_row : (rows : List LiveRow) (k : ℕ) → is_chosen rows k ≡ true → 1 ≤ count_by (λ row. row.region == k) rows
has_row rows k e =
    let (i, x, lt, is, p) = Any-from_list_any (λ (row : LiveRow). row.region == k) rows e in
    counts_at rows i x k lt is (eqb-true x.region k p)

either : (a b : Bool) → (a || b) ≡ true → (a ≡ true) ⊎ (b ≡ true)
either true b e = inl refl
either false b e = inr e

left_or : (b : Bool) → (b || false) ≡ true → b ≡ true
left_or true e = refl
left_or false e = e

-- of one row more
is_either : (rows : List LiveRow) (row : LiveRow) (k : ℕ) → is_chosen (rows ++ row ∷ []) k ≡ true
    → (is_chosen rows k ≡ true) ⊎ (row.region ≡ k)
is_either rows row k e =
    elim (either (is_chosen rows k) (eqb row.region k || false)
    (sym (list_any-append (λ (r : LiveRow). r.region == k) rows (row ∷ [])) ∙ e)) [
      | inl left ↦ inl left
      | inr last ↦ inr (eqb-true row.region k (left_or (eqb row.region k) last))
    ]

module _ (t : Table) (tops : List ℕ) (marks : List Bool) (limit : ℕ) where
  -- each ordinary region from a number on has a row, and all of them go down; below it so many are free
  pub record HasDescended (number free sum : ℕ) (rows : List LiveRow) : Type 0 where
    pub highest : AreHighest t tops marks rows
    pub down : GoesDown t limit rows
    pub from : All (λ row. number ≤ row.region) rows
    pub all : (k : ℕ) → number ≤ k → kind_of t k ≡ kinds.Ordinary → is_chosen rows k ≡ true
    pub free_is : free ≡ free_below t number
    pub sum_is : sum ≡ live_sum rows

  pub at_top : HasDescended (length t.regions) (count_by is_free t.regions) 0 []
  at_top = record {
    highest = record { are_rows = record { each = All-nil (IsRowOf t tops marks); once = λ k. omega arith }; none_left_out = All-nil _ };
    down = record { within = omega arith; below = All-nil _ };
    from = All-nil _;
    all = λ k past ordinary. absurd (let known = ordinary_known t k ordinary in omega arith);
    free_is = ap (count_by is_free) (sym (take_all (length t.regions) t.regions (omega arith)));
    sum_is = refl;
  }

  -- the next ordinary region down
  pub record IsNext (number free k : ℕ) : Type 0 where
    pub below : k < number
    pub ordinary : kind_of t k ≡ kinds.Ordinary
    pub free_is : free ≡ free_below t k
    pub highest : (j : ℕ) → k < j → j < number → kind_of t j ≢ kinds.Ordinary

  module _ (number free sum free' : ℕ) (rows : List LiveRow) (row : LiveRow) (h : HasDescended number free sum rows)
      (next : IsNext number free' row.region) (bound : row.live_bound ≡ live_bound_of t tops marks row.region) where
    is_row : IsRowOf t tops marks row
    is_row = record { known = ordinary_known t row.region next.ordinary; ordinary = next.ordinary; bound = bound }

    above : All (λ r. row.region < r.region) rows
    above = All-weaker (λ r. number ≤ r.region) (λ r. row.region < r.region) (λ r le. let lt = next.below in omega arith) rows h.from

    once : (k : ℕ) → count_by (λ r. r.region == k) (rows ++ row ∷ []) ≤ 1
    once = once_more rows row (All-weaker (λ r. row.region < r.region) (λ r. r.region ≢ row.region) (λ r lt e. omega (arith, lt, e)) rows
        above) h.highest.are_rows.once

    all_from : (k : ℕ) → row.region ≤ k → kind_of t k ≡ kinds.Ordinary → is_chosen (rows ++ row ∷ []) k ≡ true
    all_from k low ordinary = elim (cases_eq row.region k) [
      | inl same ↦ has_last rows row k same
      | inr apart ↦ (elim (cases_lt k number) [
        | inl between ↦ absurd (next.highest k (omega (arith, low, apart)) between ordinary)
        | inr past ↦ has_left rows (row ∷ []) k (h.all k (omega (arith, past)) ordinary)
      ])
    ]

    -- it has a row too
    pub one_further : 2 * length rows + 1 ≤ free' → sum + row.live_bound ≤ limit
        → HasDescended row.region free' (sum + row.live_bound) (rows ++ row ∷ [])
    one_further room within =
        let count = length-push rows row in
        let sums : live_sum (rows ++ row ∷ []) ≡ sum + row.live_bound = omega (
          arith,
          sum_by-append (λ (r : LiveRow). r.live_bound) rows (row ∷ []),
          sum_by-cons (λ (r : LiveRow). r.live_bound) row [],
          h.sum_is,
        ) in
        let fits : (r : LiveRow) → row.region ≤ r.region → 2 * length (rows ++ row ∷ []) ≤ free_below t r.region + 1 =
        λ r le. omega (arith, count, room, next.free_is, fewer_free t.regions row.region r.region le) in
        record {
          highest = record {
            are_rows = record { each = All-push (IsRowOf t tops marks) rows row h.highest.are_rows.each is_row; once = once };
            none_left_out = All-push
                (λ r. (k : ℕ) → r.region < k → kind_of t k ≡ kinds.Ordinary → is_chosen (rows ++ row ∷ []) k ≡ true) rows row
                (All-weaker (λ r. number ≤ r.region)
                (λ r. (k : ℕ) → r.region < k → kind_of t k ≡ kinds.Ordinary → is_chosen (rows ++ row ∷ []) k ≡ true)
                (λ r le k lt ordinary. has_left rows (row ∷ []) k (h.all k (omega (arith, le, lt)) ordinary)) rows h.from)
                (λ k lt ordinary. all_from k (omega (arith, lt)) ordinary);
          };
          down = record {
            within = omega (arith, sums, within);
            below = All-push (λ r. 2 * length (rows ++ row ∷ []) ≤ free_below t r.region + 1) rows row
                (All-weaker (λ r. row.region < r.region) (λ r. 2 * length (rows ++ row ∷ []) ≤ free_below t r.region + 1)
                (λ r lt. fits r (omega (arith, lt))) rows above) (fits row (omega arith));
          };
          from = All-push (λ r. row.region ≤ r.region) rows row
              (All-weaker (λ r. row.region < r.region) (λ r. row.region ≤ r.region) (λ r lt. omega (arith, lt)) rows above) (omega arith);
          all = all_from;
          free_is = next.free_is;
          sum_is = sym sums;
        }

  -- a row that would follow is one of a region below, and of the next ordinary one
  follows_below : (number free sum : ℕ) (rows : List LiveRow) (row : LiveRow) → HasDescended number free sum rows
      → AreHighest t tops marks (rows ++ row ∷ []) → row.region < number
  follows_below number free sum rows row h a = elim (cases_lt row.region number) [
    | inl lt ↦ lt
    | inr past ↦
        let ordinary = (All_last (IsRowOf t tops marks) rows row a.are_rows.each).ordinary in
        let one = has_row rows row.region (h.all row.region (omega (arith, past)) ordinary) in
        let here = ap {B = ℕ} (λ b. cond b 1 0) (eq-eqb row.region row.region refl) in
        absurd (omega (
          arith,
          one,
          here,
          a.are_rows.once row.region,
          sum_by-append (bit row.region) rows (row ∷ []),
          sum_by-cons (bit row.region) row [],
        ))
  ]

  follows_next : (number free sum : ℕ) (rows : List LiveRow) (row : LiveRow) → HasDescended number free sum rows
      → AreHighest t tops marks (rows ++ row ∷ []) → (k : ℕ) → row.region < k → k < number → kind_of t k ≢ kinds.Ordinary
  follows_next number free sum rows row h a k low high ordinary =
      let left = All_last (λ r. (j : ℕ) → r.region < j → kind_of t j ≡ kinds.Ordinary → is_chosen (rows ++ row ∷ []) j ≡ true) rows row
      a.none_left_out k low ordinary in
      elim (is_either rows row k left) [
        | inl chosen ↦
            let (i, x, lt, is, p) = Any-from_list_any (λ (r : LiveRow). r.region == k) rows chosen in
            let from : number ≤ x.region = subst (λ (r : LiveRow). number ≤ r.region) is (h.from i x lt) in
            omega (arith, from, high, eqb-true x.region k p)
        | inr same ↦ omega (arith, same, low)
      ]

-- what was chosen, where the next one doesn't go down, or none is left
pub stopped : (t : Table) (tams : Tops) (marks : List Bool) (budget number free sum free' : ℕ) (rows : List LiveRow) (k live : ℕ)
    → HasDescended t tams.previous marks (copy_limit t.words_per_region budget (count_by is_free t.regions)) number free sum rows
    → IsNext t tams.previous marks (copy_limit t.words_per_region budget (count_by is_free t.regions)) number free' k
    → live ≡ live_bound_of t tams.previous marks k
    → (free' < 2 * length rows + 1) ⊎ (copy_limit t.words_per_region budget (count_by is_free t.regions) < sum + live)
    → IsCompacted t tams marks false budget rows
stopped t tams marks budget number free sum free' rows k live h next bound full = record {
  highest = h.highest;
  down = h.down;
  waits = λ run. absurd (cc);
  next = λ idle row a d.
      let low = follows_below t tams.previous marks _ number free sum rows row h a in
      let is_row = All_last (IsRowOf t tams.previous marks) rows row a.are_rows.each in
      let same : row.region ≡ k =
      elim (cases_lt row.region k) [
        | inl less ↦ absurd (follows_next t tams.previous marks _ number free sum rows row h a k less next.below next.ordinary)
        | inr more ↦ (elim (cases_eq row.region k) [
          | inl same ↦ same
          | inr apart ↦ absurd (next.highest row.region (omega (arith, more, apart)) low is_row.ordinary)
        ])
      ] in
      let words : row.live_bound ≡ live =
      is_row.bound ∙ ap (live_bound_of t tams.previous marks) same ∙ sym bound in
      let room = All_last (λ r. 2 * length (rows ++ row ∷ []) ≤ free_below t r.region + 1) rows row d.below in
      let below : free_below t row.region ≡ free' = ap (free_below t) same ∙ sym next.free_is in
      let sums = d.within in
      elim full [
        | inl few ↦ omega (arith, few, room, below, length-push rows row)
        | inr many ↦ omega (
          arith,
          many,
          sums,
          words,
          h.sum_is,
          sum_by-append (λ (r : LiveRow). r.live_bound) rows (row ∷ []),
          sum_by-cons (λ (r : LiveRow). r.live_bound) row [],
        )
      ];
}

pub ended : (t : Table) (tams : Tops) (marks : List Bool) (budget number free sum : ℕ) (rows : List LiveRow)
    → HasDescended t tams.previous marks (copy_limit t.words_per_region budget (count_by is_free t.regions)) number free sum rows
    → ((k : ℕ) → k < number → kind_of t k ≢ kinds.Ordinary)
    → IsCompacted t tams marks false budget rows
ended t tams marks budget number free sum rows h none = record {
  highest = h.highest;
  down = h.down;
  waits = λ run. absurd (cc);
  next = λ idle row a d.
      let low = follows_below t tams.previous marks _ number free sum rows row h a in
      none row.region low (All_last (IsRowOf t tams.previous marks) rows row a.are_rows.each).ordinary;
}
