-- Rows lie one behind another, and what a store leaves of their bounds.
use Rattle.std.proofs.Common.{◌≡◌, ◌≢◌, ◌⊎◌, ◌+◌, ◌<◌, ◌≤◌, ◌∙◌, ℕ, zero, suc, List, Option, None, Some, length, get_or, set, replicate}
use Rattle.std.proofs.Common.{refl, sym, subst, arith, inl, inr, get_or-set_same, get_or-set_other, length-set, IsSome}
use Rattle.std.proofs.lemmas.Bool.{cases_lt, cases_eq}
use Rattle.std.proofs.lemmas.Grind.{get_or_default_zero}
use Rattle.std.proofs.lemmas.List.{get_or-replicate, length-replicate}
use Rattle.heap_model.specs.Graph.{RootCounts, root_places, register_place}
use Rattle.root_table.specs.Roots.{row_start, row_length, AreNil}
use Rattle.root_table.specs.Bounds.{AreBounded}

-- a row ends where the next one starts
pub row_end : (p : RootCounts) (row : ℕ) → row_start p row + row_length p row ≡ row_start p (suc row)
row_end p zero = omega arith
row_end p (suc m) = omega arith

-- a row ends before a later one starts
pub rows_apart : (p : RootCounts) (row other : ℕ) → row < other → row_start p row + row_length p row ≤ row_start p other
rows_apart p row zero less = absurd (omega (arith, less))
rows_apart p row (suc m) less = elim (cases_eq row m) [
  | inl e ↦ let at = row_end p row in subst (λ (k : ℕ). row_start p row + row_length p row ≤ row_start p (suc k)) e (omega (arith, at))
  | inr ne ↦
      let before : row < m = omega (arith, less, ne) in
      let first = rows_apart p row m before in
      let next = row_end p m in
      omega (arith, first, next)
]

-- the last row ends with the last place
pub all_rows : (p : RootCounts) → row_start p (suc p.mutators) ≡ root_places p
all_rows p = omega arith

pub row_within : (p : RootCounts) (row : ℕ) → row ≤ p.mutators → row_start p row + row_length p row ≤ root_places p
row_within p row known = let at = rows_apart p row (suc p.mutators) (omega arith) in let end = all_rows p in omega (arith, at, end)

-- a store into a row, whose bound is above its place
pub stored_bounded : (p : RootCounts) (words : List (Option ℕ)) (used used' : List ℕ) (row k : ℕ) (v : Option ℕ) → AreBounded p words used
    → row ≤ p.mutators → k < row_length p row
    → length used' ≡ length used → ((other : ℕ) → other ≢ row → get_or used' other 0 ≡ get_or used other 0)
    → get_or used row 0 ≤ get_or used' row 0 → k < get_or used' row 0 → get_or used' row 0 ≤ row_length p row
    → AreBounded p (set words (row_start p row + k) v) used'
stored_bounded p words used used' row k v b known inside len others more above most = record {
  places = length-set words (row_start p row + k) v ∙ b.places;
  rows = omega (arith, len, b.rows);
  within = λ other low. elim (cases_eq other row) [
    | inl e ↦ subst (λ (r : ℕ). get_or used' r 0 ≤ row_length p r) (sym e) most
    | inr ne ↦ let was = b.within other low in let same = others other ne in omega (arith, was, same)
  ];
  nil = λ other low place from to. elim (cases_eq other row) [
    | inl e ↦
        let from' : row_start p row + get_or used' row 0 ≤ place = subst (λ (r : ℕ). row_start p r + get_or used' r 0 ≤ place) e from in
        let to' : place < row_start p row + row_length p row = subst (λ (r : ℕ). place < row_start p r + row_length p r) e to in
        let apart : place ≢ row_start p row + k = λ q. absurd (omega (arith, from', above, q)) in
        get_or-set_other words (row_start p row + k) place v None apart ∙ b.nil row known place (omega (arith, from', more)) to'
    | inr ne ↦
        let same = others other ne in
        let apart : place ≢ row_start p row + k = λ q. absurd (elim (cases_lt other row) [
          | inl less ↦ let before = rows_apart p other row less in omega (arith, before, to, q)
          | inr not_less ↦ let less : row < other = omega (arith, not_less, ne) in let before = rows_apart p row other less in
              omega (arith, before, from, inside, q)
        ]) in
        get_or-set_other words (row_start p row + k) place v None apart ∙ b.nil other low place (omega (arith, from, same)) to
  ];
}

-- the same where the bound is raised to the place, or was above it
pub raised : (p : RootCounts) (words : List (Option ℕ)) (used : List ℕ) (row k : ℕ) (v : Option ℕ) → AreBounded p words used
    → row ≤ p.mutators
    → k < row_length p row
    → get_or used row 0 ≤ k → AreBounded p (set words (row_start p row + k) v) (set used row (k + 1))
raised p words used row k v b known inside below =
    let at : get_or (set used row (k + 1)) row 0 ≡ k + 1 = get_or-set_same used row (k + 1) 0 (omega (arith, known, b.rows)) in
    stored_bounded p words used (set used row (k + 1)) row k v b known inside (length-set used row (k + 1))
    (λ other ne. get_or-set_other used row other (k + 1) 0 ne)
    (omega (arith, at, below)) (omega (arith, at)) (omega (arith, at, inside))

pub kept : (p : RootCounts) (words : List (Option ℕ)) (used : List ℕ) (row k : ℕ) (v : Option ℕ) → AreBounded p words used
    → row ≤ p.mutators
    → k < row_length p row
    → k < get_or used row 0 → AreBounded p (set words (row_start p row + k) v) used
kept p words used row k v b known inside above =
    stored_bounded p words used used row k v b known inside refl (λ other ne. refl) (omega arith) above (b.within row known)

-- a place that isn't nil takes a value
pub updated : (p : RootCounts) (words : List (Option ℕ)) (used : List ℕ) (place a : ℕ) (v : Option ℕ) → AreBounded p words used
    → get_or words place None ≡ Some a → AreBounded p (set words place v) used
updated p words used place a v b named = record {
  places = length-set words place v ∙ b.places;
  rows = b.rows;
  within = b.within;
  nil = λ row low q from to.
      let was = b.nil row low q from to in
      let apart : q ≢ place = λ (e : q ≡ place). let again : get_or words q None ≡ Some a = rw e named in cc in
      get_or-set_other words place q v None apart ∙ was;
}

pub some_address : (v : Option ℕ) → IsSome v → (a : ℕ) × (v ≡ Some a)
some_address (Some a) some = (a, refl)
some_address None some = absurd (cc)

-- all roots are nil, and each bound 0
pub new_bounded : (p : RootCounts) (used : List ℕ) → p.mutators < length used → ((row : ℕ) → row ≤ p.mutators → get_or used row 0 ≡ 0)
    → AreBounded p (replicate {A = Option ℕ} (root_places p) None) used
new_bounded p used rows none = record {
  places = length-replicate {A = Option ℕ} (root_places p) None;
  rows = rows;
  within = λ row low. let at = none row low in omega (arith, at);
  nil = λ row low place from to. let end = row_within p row low in
      get_or-replicate {A = Option ℕ} (root_places p) place None None (omega (arith, to, end));
}

-- ---- the look for the next root
-- nothing is named from one place on up to a row's bound, and before the row: so nothing is before the next row
pub past_row : (p : RootCounts) (words : List (Option ℕ)) (used : List ℕ) (from row : ℕ) → AreBounded p words used → row ≤ p.mutators
    → AreNil words from (row_start p row)
    → ((place : ℕ) → from ≤ place → row_start p row ≤ place → place < row_start p row + get_or used row 0 → get_or words place None ≡ None)
    → AreNil words from (row_start p (suc row))
past_row p words used from row b known before inside place low high =
    let end = row_end p row in
    elim (cases_lt place (row_start p row)) [
      | inl less ↦ before place low less
      | inr more ↦ elim (cases_lt place (row_start p row + get_or used row 0)) [
        | inl within ↦ inside place low more within
        | inr past ↦ b.nil row known place past (omega (arith, high, end))
      ]
    ]

-- a bound that was read
pub bound_read : (used : List ℕ) (row x : ℕ) → row < length used → x ≡ get_or used row x → x ≡ get_or used row 0
bound_read used row x inside e = e ∙ get_or_default_zero used row x inside

-- a row's bound lies among the places
pub bound_within : (p : RootCounts) (words : List (Option ℕ)) (used : List ℕ) (row x : ℕ) → AreBounded p words used → row ≤ p.mutators
    → x ≡ get_or used row x → row_start p row + x ≤ length words
bound_within p words used row x b known e =
    let bound = bound_read used row x (omega (arith, known, b.rows)) e in
    let most = b.within row known in
    let end = row_within p row known in
    omega (arith, most, end, bound, b.places)

-- the same as `past_row`, as the code finds it
pub past_read : (p : RootCounts) (words : List (Option ℕ)) (used : List ℕ) (from row x from' : ℕ) → AreBounded p words used
    → row ≤ p.mutators
    → x ≡ get_or used row x → (from' ≤ from) ⊎ (from' ≤ row_start p row)
    → AreNil words from (row_start p row) → AreNil words from' (row_start p row + x) → AreNil words from (row_start p (row + 1))
past_read p words used from row x from' b known e which before here =
    let bound = bound_read used row x (omega (arith, known, b.rows)) e in
    subst (λ (k : ℕ). AreNil words from (row_start p k)) {x = suc row} {y = row + 1} (omega arith)
    (past_row p words used from row b known before
    (λ place low start high. here place (elim which [ inl l ↦ omega (arith, l, low) | inr l ↦ omega (arith, l, start) ])
    (omega (arith, high, bound))))

-- a row of which nothing is in use
pub past_unused : (p : RootCounts) (words : List (Option ℕ)) (used : List ℕ) (from row x : ℕ) → AreBounded p words used → row ≤ p.mutators
    → x ≡ get_or used row x → x ≡ 0 → AreNil words from (row_start p row) → AreNil words from (row_start p (row + 1))
past_unused p words used from row x b known e none before =
    past_read p words used from row x (row_start p row) b known e (inr (omega arith)) before
    (λ place low high. absurd (omega (arith, low, high, none)))

-- what the code stores: a place of a row, whose bound n was read
pub stored_in : (p : RootCounts) (words : List (Option ℕ)) (used : List ℕ) (row k place n : ℕ) (v : Option ℕ) → AreBounded p words used
    → row ≤ p.mutators → k < row_length p row
    → place ≡ row_start p row + k → n ≡ get_or used row n → n ≤ k → AreBounded p (set words place v) (set used row (k + 1))
stored_in p words used row k place n v b known inside at e below =
    let bound = bound_read used row n (omega (arith, known, b.rows)) e in
    subst (λ (q : ℕ). AreBounded p (set words q v) (set used row (k + 1))) (sym at)
    (raised p words used row k v b known inside (omega (arith, bound, below)))

pub kept_in : (p : RootCounts) (words : List (Option ℕ)) (used : List ℕ) (row k place n : ℕ) (v : Option ℕ) → AreBounded p words used
    → row ≤ p.mutators → k < row_length p row
    → place ≡ row_start p row + k → n ≡ get_or used row n → k < n → AreBounded p (set words place v) used
kept_in p words used row k place n v b known inside at e above =
    let bound = bound_read used row n (omega (arith, known, b.rows)) e in
    subst (λ (q : ℕ). AreBounded p (set words q v) used) (sym at) (kept p words used row k v b known inside (omega (arith, bound, above)))

-- the same of a mutator's register, whose row the code writes as m + 1
pub one_more : (m : ℕ) → suc m ≡ m + 1
one_more m = omega arith

pub register_stored : (p : RootCounts) (words : List (Option ℕ)) (used : List ℕ) (m k place n : ℕ) (v : Option ℕ) → AreBounded p words used
    → m < p.mutators → k < p.registers
    → place ≡ register_place p m k → n ≡ get_or used (m + 1) n → n ≤ k → AreBounded p (set words place v) (set used (m + 1) (k + 1))
register_stored p words used m k place n v b known inside at =
    subst (λ (row : ℕ). n ≡ get_or used row n → n ≤ k → AreBounded p (set words place v) (set used row (k + 1))) (one_more m)
    (λ e below. stored_in p words used (suc m) k place n v b (omega (arith, known)) inside (omega (arith, at)) e below)

pub register_kept : (p : RootCounts) (words : List (Option ℕ)) (used : List ℕ) (m k place n : ℕ) (v : Option ℕ) → AreBounded p words used
    → m < p.mutators → k < p.registers
    → place ≡ register_place p m k → n ≡ get_or used (m + 1) n → k < n → AreBounded p (set words place v) used
register_kept p words used m k place n v b known inside at =
    subst (λ (row : ℕ). n ≡ get_or used row n → k < n → AreBounded p (set words place v) used) (one_more m)
    (λ e above. kept_in p words used (suc m) k place n v b (omega (arith, known)) inside (omega (arith, at)) e above)

-- a register's place is among the places
pub register_within : (p : RootCounts) (m k : ℕ) → m < p.mutators → k < p.registers → register_place p m k < root_places p
register_within p m k known inside = let end = row_within p (suc m) (omega (arith, known)) in omega (arith, end, inside)
