-- The search for a run of free regions.
use Rattle.regions.proofs.Common.{◌≡◌, ◌≢◌, ◌+◌, ◌-◌, ◌<◌, ◌≤◌, ◌∷◌, ◌∙◌, ℕ, zero, suc, Bool, true, false, Option, Some, None, List, []}
use Rattle.regions.proofs.Common.{length, drop, get_or, refl, sym, ap, subst, arith, cond, leb, add-zero, zero-add, le-leb, lt-leb}
use Rattle.regions.proofs.Common.{get_or-drop, drop-drop, length-drop, Table, is_free, front_count, behind_one, first_run, regions_of}
use Rattle.regions.proofs.Common.{free_row, kind_is_free, table_of, Row}
use Rattle.regions.proofs.Rows.Fronts.{front_le, run_passes}
use Rattle.regions.proofs.Tiles.Making.{free_by}
use Rattle.regions.proofs.LongRuns.RunRows.{FreeFront}

abbrev pub free : Row → Bool
free row = kind_is_free row.kind

abbrev pub shifted : ℕ → Option ℕ → Option ℕ
shifted n None = None
shifted n (Some k) = Some (n + k)

pub shifted-zero : (o : Option ℕ) → shifted 0 o ≡ o
shifted-zero None = refl
shifted-zero (Some k) = ap Some (zero-add k)

pub shifted-add : (a b c : ℕ) (o : Option ℕ) → c ≡ a + b → shifted a (shifted b o) ≡ shifted c o
shifted-add a b c None e = refl
shifted-add a b c (Some k) e = ap Some (omega arith)

shifted-suc : (n : ℕ) (o : Option ℕ) → behind_one (shifted n o) ≡ shifted (suc n) o
shifted-suc n None = refl
shifted-suc n (Some k) = ap Some (omega arith)

shifted-one : (o : Option ℕ) → behind_one o ≡ shifted 1 o
shifted-one None = refl
shifted-one (Some k) = ap Some (omega arith)

front_has : (m : ℕ) (rows : List Row) → FreeFront m rows → m ≤ front_count free rows
front_has zero rows h = omega arith
front_has (suc m) [] h = absurd h
front_has (suc m) (row ∷ rows) h = rw h.0 (let i = front_has m rows h.1 in omega arith)

front_stops : (m : ℕ) (rows : List Row) → FreeFront m rows → m < length rows
    → kind_is_free (get_or rows m free_row).kind ≡ false → front_count free rows ≡ m
front_stops zero [] h l f = absurd (omega arith)
front_stops zero (row ∷ rows) h l f = rw f refl
front_stops (suc m) [] h l f = absurd h
front_stops (suc m) (row ∷ rows) h l f = rw h.0 (ap suc (front_stops m rows h.1 (omega arith) f))

pub run_here : (m : ℕ) (rows : List Row) → 0 < m → FreeFront m rows → first_run free m rows ≡ Some 0
run_here zero rows z h = absurd (omega arith)
run_here (suc m) [] z h = absurd h
run_here (suc m) (row ∷ rows) z h = rw (le-leb (suc m) (front_count free (row ∷ rows)) (front_has (suc m) (row ∷ rows) h)) refl

pub run_past : (count m : ℕ) (rows : List Row) → FreeFront m rows → m < length rows → kind_is_free (get_or rows m free_row).kind ≡ false
    → m < count → first_run free count rows ≡ shifted (suc m) (first_run free count (drop (suc m) rows))
run_past count m [] h l f c = absurd (omega arith)
run_past count zero (row ∷ rows) h l f c =
    let none : leb count (front_count free (row ∷ rows)) ≡ false =
    rw (front_stops zero (row ∷ rows) h l f) (lt-leb count 0 (omega arith)) in
    rw none (shifted-one (first_run free count rows))
run_past count (suc m) (row ∷ rows) h l f c =
    let none : leb count (front_count free (row ∷ rows)) ≡ false =
    rw (front_stops (suc m) (row ∷ rows) h l f) (lt-leb count (suc m) (omega arith)) in
    rw (none, run_past count m rows h.1 (omega arith) f (omega arith)) (shifted-suc (suc m) _)

pub run_none : (count : ℕ) (rows : List Row) → length rows < count → first_run free count rows ≡ None
run_none count [] h = refl
run_none count (row ∷ rows) h =
    let none : leb count (front_count free (row ∷ rows)) ≡ false =
    lt-leb count (front_count free (row ∷ rows)) (let i = front_le free (row ∷ rows) in omega arith) in
    rw (none, run_none count rows (omega arith)) refl

pub front_more : (m : ℕ) (rows : List Row) → FreeFront m rows → m < length rows
    → kind_is_free (get_or rows m free_row).kind ≡ true → FreeFront (suc m) rows
front_more zero [] h l f = absurd (omega arith)
front_more zero (row ∷ rows) h l f = (f, tt)
front_more (suc m) [] h l f = absurd h
front_more (suc m) (row ∷ rows) h l f = (h.0, front_more m rows h.1 (omega arith) f)

has_front : (m : ℕ) (rows : List Row) → m ≤ front_count free rows → FreeFront m rows
has_front zero rows h = tt
has_front (suc m) [] h = absurd (omega arith)
has_front (suc m) (row ∷ rows) h = go (free row) refl h (λ l. has_front m rows l)
  where
    go : (b : Bool) → free row ≡ b → suc m ≤ cond b (suc (front_count free rows)) 0
        → (m ≤ front_count free rows → FreeFront m rows) → FreeFront (suc m) (row ∷ rows)
    go true e l i = (e, i (omega arith))
    go false e l i = absurd (omega arith)

pub run_found : (m k : ℕ) (rows : List Row) → first_run free m rows ≡ Some k → (k < length rows) × FreeFront m (drop k rows)
run_found m k rows h = let i = run_passes free m k rows h in (i.0, has_front m (drop k rows) i.1)

front-regions : (f : ℕ → ℕ) (size : ℕ) (rows : List Row) (ws : List ℕ)
    → front_count is_free (regions_of f size ws rows) ≡ front_count free rows
front-regions f size [] ws = refl
front-regions f size (row ∷ rows) ws = rw (free_by f ws row.used row.kind, front-regions f size rows (drop size ws)) refl

run-regions : (f : ℕ → ℕ) (size m : ℕ) (rows : List Row) (ws : List ℕ)
    → first_run is_free m (regions_of f size ws rows) ≡ first_run free m rows
run-regions f size m [] ws = refl
run-regions f size m (row ∷ rows) ws = rw (front-regions f size (row ∷ rows) ws, run-regions f size m rows (drop size ws)) refl

pub first_run-is : (size : ℕ) (words : List ℕ) (rows : List Row) (t : Table) (m : ℕ) → table_of size words rows ≡ t
    → first_run is_free m t.regions ≡ first_run free m rows
first_run-is size words rows t m e = rw (← e) (run-regions (λ a. _) size m rows words)

-- what the search knows
pub record IsScanned (rows : List Row) (count start i : ℕ) : Type 0 where
  pub start_le : start ≤ i
  pub short : i < start + count
  pub before : first_run free count rows ≡ shifted start (first_run free count (drop start rows))
  pub front : FreeFront (i - start) (drop start rows)

pub scan_init : (rows : List Row) (count : ℕ) → 0 < count → IsScanned rows count 0 0
scan_init rows count h = record {
  start_le = omega arith;
  short = omega arith;
  before = sym (shifted-zero (first_run free count rows));
  front = tt;
}

row_at : (rows : List Row) (start i : ℕ) → start ≤ i → get_or (drop start rows) (i - start) free_row ≡ get_or rows i free_row
row_at rows start i h =
    get_or-drop start rows (i - start) free_row ∙ ap (λ j. get_or rows j free_row) (let z : start + (i - start) ≡ i = omega arith in z)

scan_free : (rows : List Row) (count start i : ℕ) → IsScanned rows count start i → i < length rows
    → kind_is_free (get_or rows i free_row).kind ≡ true → FreeFront (suc (i - start)) (drop start rows)
scan_free rows count start i s h f =
    front_more (i - start) (drop start rows) s.front
    (omega (arith, length-drop start rows, s.start_le)) (rw (row_at rows start i s.start_le) f)

pub scan_hit : (rows : List Row) (count start i : ℕ) → 0 < count → IsScanned rows count start i → i < length rows
    → kind_is_free (get_or rows i free_row).kind ≡ true → i + 1 - start ≡ count → Some start ≡ first_run free count rows
scan_hit rows count start i z s h f e =
    let n : suc (i - start) ≡ count = omega (arith, s.start_le) in
    let front : FreeFront count (drop start rows) =
    subst (λ (m : ℕ). FreeFront m (drop start rows)) n (scan_free rows count start i s h f) in
    let here = run_here count (drop start rows) z front in
    sym (s.before ∙ ap (shifted start) here ∙ ap Some (add-zero start))

pub scan_on : (rows : List Row) (count start i : ℕ) → IsScanned rows count start i → i < length rows
    → kind_is_free (get_or rows i free_row).kind ≡ true → i + 1 - start ≢ count → IsScanned rows count start (i + 1)
scan_on rows count start i s h f e =
    let n : suc (i - start) ≡ i + 1 - start = omega (arith, s.start_le) in
    record {
      start_le = omega (arith, s.start_le);
      short = omega (arith, s.short, s.start_le);
      before = s.before;
      front = subst (λ (m : ℕ). FreeFront m (drop start rows)) n (scan_free rows count start i s h f);
    }

pub scan_past : (rows : List Row) (count start i : ℕ) → 0 < count → IsScanned rows count start i → i < length rows
    → kind_is_free (get_or rows i free_row).kind ≡ false → IsScanned rows count (i + 1) (i + 1)
scan_past rows count start i z s h f =
    let m : ℕ = i - start in
    let past = run_past count m (drop start rows) s.front (omega (arith, length-drop start rows, s.start_le))
    (rw (row_at rows start i s.start_le) f) (omega (arith, s.short, s.start_le)) in
    let at : start + suc m ≡ i + 1 = omega (arith, s.start_le) in
    let rest : drop (suc m) (drop start rows) ≡ drop (i + 1) rows = drop-drop (suc m) start rows ∙ ap (λ j. drop j rows) at in
    let none : i + 1 - (i + 1) ≡ 0 = omega arith in
    record {
      start_le = omega arith;
      short = omega arith;
      before = s.before ∙ ap (shifted start) (past ∙ ap (λ (rs : List Row). shifted (suc m) (first_run free count rs)) rest)
          ∙ shifted-add start (suc m) (i + 1) _ (sym at);
      front = subst (λ (j : ℕ). FreeFront j (drop (i + 1) rows)) (sym none) tt;
    }

pub scan_end : (rows : List Row) (count start i : ℕ) → IsScanned rows count start i → length rows ≤ i → None ≡ first_run free count rows
scan_end rows count start i s h =
    sym (s.before ∙ ap (shifted start) (run_none count (drop start rows) (omega (arith, length-drop start rows, s.short, s.start_le))))
