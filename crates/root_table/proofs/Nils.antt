-- Places that become nil.
use Rattle.std.proofs.Common.{◌≡◌, ◌+◌, ◌-◌, ◌<◌, ◌≤◌, ◌∙◌, ℕ, zero, suc, List, Option, None, length, get_or, set, refl, sym, ap}
use Rattle.std.proofs.Common.{subst, arith, inl, inr, get_or-set_same, get_or-set_other, length-set}
use Rattle.std.proofs.lemmas.Bool.{cases_lt, cases_eq}
use Rattle.std.proofs.lemmas.List.{set-get_or, get_or_past}
use Rattle.heap_model.specs.Graph.{RootCounts, register_place, with_nils}
use Rattle.root_table.specs.Roots.{RootTable, row_start, row_length, AreNil}
use Rattle.root_table.specs.Bounds.{AreBounded}
use Rattle.root_table.proofs.Rows.{bound_read, one_more}

pub length-nils : (words : List (Option ℕ)) (first count : ℕ) → length (with_nils words first count) ≡ length words
length-nils words first zero = refl
length-nils words first (suc count) = length-set (with_nils words first count) (first + count) None ∙ length-nils words first count

-- the last of them is nil
last_nil : (words : List (Option ℕ)) (place : ℕ) → get_or (set words place None) place None ≡ None
last_nil words place = elim (cases_lt place (length words)) [
  | inl within ↦ get_or-set_same words place None None within
  | inr past ↦ get_or_past (set words place None) place None (let same = length-set words place None in omega (arith, past, same))
]

-- what was nil is nil
pub nils_stay : (words : List (Option ℕ)) (first count place : ℕ) → get_or words place None ≡ None
    → get_or (with_nils words first count) place None ≡ None
nils_stay words first zero place nil = nil
nils_stay words first (suc count) place nil = elim (cases_eq place (first + count)) [
  | inl e ↦ subst (λ (q : ℕ). get_or (set (with_nils words first count) (first + count) None) q None ≡ None) (sym e)
      (last_nil (with_nils words first count) (first + count))
  | inr ne ↦ get_or-set_other (with_nils words first count) (first + count) place None None ne ∙ nils_stay words first count place nil
]

-- each of them is nil
pub nils_inside : (words : List (Option ℕ)) (first count : ℕ) → AreNil (with_nils words first count) first (first + count)
nils_inside words first zero place low high = absurd (omega (arith, low, high))
nils_inside words first (suc count) place low high = elim (cases_eq place (first + count)) [
  | inl e ↦ subst (λ (q : ℕ). get_or (set (with_nils words first count) (first + count) None) q None ≡ None) (sym e)
      (last_nil (with_nils words first count) (first + count))
  | inr ne ↦ get_or-set_other (with_nils words first count) (first + count) place None None ne
      ∙ nils_inside words first count place low (omega (arith, high, ne))
]

-- places behind them that are nil may be counted among them
pub nils_more : (words : List (Option ℕ)) (first count more : ℕ) → AreNil words (first + count) (first + (count + more))
    → with_nils words first (count + more) ≡ with_nils words first count
nils_more words first count zero nil = ap (λ (n : ℕ). with_nils words first n) {x = count + zero} {y = count} (omega arith)
nils_more words first count (suc more) nil =
    let rest = nils_more words first count more (λ place low high. nil place low (omega (arith, high))) in
    let last : get_or (with_nils words first count) (first + (count + more)) None ≡ None =
    nils_stay words first count (first + (count + more)) (nil (first + (count + more)) (omega arith) (omega arith)) in
    ap (λ (n : ℕ). with_nils words first n) {x = count + suc more} {y = suc (count + more)} (omega arith)
    ∙ ap (λ (ws : List (Option ℕ)). set ws (first + (count + more)) None) rest
    ∙ ap (λ (v : Option ℕ). set (with_nils words first count) (first + (count + more)) v) (sym last)
    ∙ set-get_or (with_nils words first count) (first + (count + more)) None

-- ---- a frame that is left
-- the row's places from k up to its bound are nil, and k is its bound
pub left_bounded : (p : RootCounts) (words : List (Option ℕ)) (used : List ℕ) (row k : ℕ) → AreBounded p words used → row ≤ p.mutators
    → k < get_or used row 0
    → AreBounded p (with_nils words (row_start p row + k) (get_or used row 0 - k)) (set used row k)
left_bounded p words used row k b known less =
    let count : ℕ = get_or used row 0 - k in
    let first : ℕ = row_start p row + k in
    let most = b.within row known in
    let at : get_or (set used row k) row 0 ≡ k = get_or-set_same used row k 0 (omega (arith, known, b.rows)) in
    record {
      places = length-nils words first count ∙ b.places;
      rows = omega (arith, length-set used row k, b.rows);
      within = λ other low. elim (cases_eq other row) [
        | inl e ↦ subst (λ (r : ℕ). get_or (set used row k) r 0 ≤ row_length p r) (sym e) (omega (arith, at, less, most))
        | inr ne ↦ let same = get_or-set_other used row other k 0 ne in let was = b.within other low in omega (arith, same, was)
      ];
      nil = λ other low place from to. elim (cases_eq other row) [
        | inl e ↦
            let from' : row_start p row + get_or (set used row k) row 0 ≤ place =
            subst (λ (r : ℕ). row_start p r + get_or (set used row k) r 0 ≤ place) e from in
            let to' : place < row_start p row + row_length p row = subst (λ (r : ℕ). place < row_start p r + row_length p r) e to in
            elim (cases_lt place (row_start p row + get_or used row 0)) [
              | inl inside ↦ nils_inside words first count place (omega (arith, from', at)) (omega (arith, inside, less))
              | inr past ↦ nils_stay words first count place (b.nil row known place past to')
            ]
        | inr ne ↦
            let same = get_or-set_other used row other k 0 ne in
            nils_stay words first count place (b.nil other low place (omega (arith, from, same)) to)
      ];
    }

-- the whole rest of the row may be counted
pub left_rest : (p : RootCounts) (words : List (Option ℕ)) (used : List ℕ) (row k : ℕ) → AreBounded p words used → row ≤ p.mutators
    → k ≤ get_or used row 0
    → with_nils words (row_start p row + k) (row_length p row - k) ≡ with_nils words (row_start p row + k) (get_or used row 0 - k)
left_rest p words used row k b known less =
    let most = b.within row known in
    let more = nils_more words (row_start p row + k) (get_or used row 0 - k) (row_length p row - get_or used row 0)
    (λ place low high. b.nil row known place (omega (arith, low, less)) (omega (arith, high, less, most))) in
    ap (λ (n : ℕ). with_nils words (row_start p row + k)
    n) {x = row_length p row - k} {y = (get_or used row 0 - k) + (row_length p row - get_or used row 0)} (omega (arith, less, most))
    ∙ more

-- nothing is left to be done where the bound is no higher
pub left_none : (p : RootCounts) (words : List (Option ℕ)) (used : List ℕ) (row k : ℕ) → AreBounded p words used → row ≤ p.mutators
    → get_or used row 0 ≤ k → k ≤ row_length p row
    → with_nils words (row_start p row + k) (row_length p row - k) ≡ words
left_none p words used row k b known less most =
    ap (λ (n : ℕ). with_nils words (row_start p row + k) n) {x = row_length p row - k} {y = 0 + (row_length p row - k)} (omega arith)
    ∙ nils_more words (row_start p row + k) 0 (row_length p row - k)
    (λ place low high. b.nil row known place (omega (arith, low, less)) (omega (arith, high, most)))

-- the table in which a mutator's registers from k on are nil
abbrev pub left_from : RootTable → ℕ → ℕ → RootTable
left_from t m k = record { places = t.places; words = with_nils t.words (register_place t.places m k) (t.places.registers - k) }

-- ---- as the code does it: n is the bound that was read
pub left_in : (p : RootCounts) (words words' : List (Option ℕ)) (used : List ℕ) (m k n first : ℕ) → AreBounded p words used → m < p.mutators
    → k < n
    → first ≡ register_place p m k → words' ≡ with_nils words first (n - k) → n ≡ get_or used (m + 1) n
    → AreBounded p words' (set used (m + 1) k)
left_in p words words' used m k n first b known less at is =
    subst (λ (row : ℕ). n ≡ get_or used row n → AreBounded p words' (set used row k)) (one_more m) (λ e.
    let bound = bound_read used (suc m) n (omega (arith, known, b.rows)) e in
    let all : words' ≡ with_nils words (row_start p (suc m) + k) (get_or used (suc m) 0 - k) =
    is ∙ ap (λ (q : ℕ). with_nils words q (n - k)) {x = first} {y = row_start p (suc m) + k} (omega (arith, at))
    ∙ ap (λ (q : ℕ). with_nils words (row_start p (suc m) + k) (q - k)) bound in
    subst (λ (ws : List (Option ℕ)). AreBounded p ws (set used (suc m) k)) (sym all)
    (left_bounded p words used (suc m) k b (omega (arith, known)) (omega (arith, bound, less))))

abbrev pub with_words : RootTable → List (Option ℕ) → RootTable
with_words t ws = record { places = t.places; words = ws }

pub left_whole : (t : RootTable) (words' : List (Option ℕ)) (used : List ℕ) (m k n first : ℕ) → AreBounded t.places t.words used
    → m < t.places.mutators → k < n
    → first ≡ register_place t.places m k → words' ≡ with_nils t.words first (n - k) → n ≡ get_or used (m + 1) n
    → with_words t words' ≡ left_from t m k
left_whole t words' used m k n first b known less at is e0 =
    let e : n ≡ get_or used (suc m) n = subst (λ (row : ℕ). n ≡ get_or used row n) (sym (one_more m)) e0 in
    let bound = bound_read used (suc m) n (omega (arith, known, b.rows)) e in
    let rest = left_rest t.places t.words used (suc m) k b (omega (arith, known)) (omega (arith, bound, less)) in
    ap (with_words t)
    (is ∙ ap (λ (q : ℕ). with_nils t.words q (n - k)) {x = first} {y = row_start t.places (suc m) + k} (omega (arith, at))
    ∙ ap (λ (q : ℕ). with_nils t.words (row_start t.places (suc m) + k) (q - k)) bound
    ∙ sym rest ∙ ap (λ (q : ℕ). with_nils t.words q (t.places.registers - k)) {x = row_start t.places
    (suc m) + k} {y = register_place t.places m k} (omega arith))

pub left_nothing : (t : RootTable) (used : List ℕ) (m k n : ℕ) → AreBounded t.places t.words used → m < t.places.mutators
    → k < t.places.registers → n ≤ k → n ≡ get_or used (m + 1) n
    → t ≡ left_from t m k
left_nothing t used m k n b known inside less e0 =
    let e : n ≡ get_or used (suc m) n = subst (λ (row : ℕ). n ≡ get_or used row n) (sym (one_more m)) e0 in
    let bound = bound_read used (suc m) n (omega (arith, known, b.rows)) e in
    let none = left_none t.places t.words used (suc m) k b (omega (arith, known)) (omega (arith, bound, less)) (omega (arith, inside)) in
    ap (with_words t) (sym none ∙ ap (λ (q : ℕ). with_nils t.words q (t.places.registers - k)) {x = row_start t.places
    (suc m) + k} {y = register_place t.places m k} (omega arith))
