-- Where all regions from one on are free, the words from there on say nothing: they may change.
use Rattle.regions.proofs.Common.{◌≡◌, ◌+◌, ◌-◌, ◌*◌, ◌<◌, ◌≤◌, ◌∷◌, ◌∙◌, ℕ, zero, suc, true, List, [], length, take, drop, refl, sym, ap}
use Rattle.regions.proofs.Common.{arith, length-drop, drop-take, mul-le, Region, Table, EachForwardedIn, HasObject, sizes_in, regions_of}
use Rattle.regions.proofs.Common.{IsRow, left_by, AreRows, IsTable, kind_is_free, table_of, table_by, Row, Kind}
use Rattle.regions.specs.Rows.{AreFreeFrom}
use Rattle.regions.proofs.Rows.RowLemmas.{rest_is}
use Rattle.regions.proofs.Rows.RowWrites.{SameRow, same_row, same_rest}
use Rattle.regions.proofs.Words.Sizes.{EachForwardedIn-imp}
use Rattle.regions.proofs.Tiles.Kept.{IsKept, same_object}
use Rattle.regions.proofs.Tiles.Making.{targets_of}
use Rattle.regions.proofs.Tiles.Targets.{IsWrittenTable, written_table}
use Rattle.regions.specs.declared.row.Kind.TheVariants as kinds

free_not_rest : (kind : Kind) → kind_is_free kind ≡ true → kind ≡ kinds.Rest → ⊥
free_not_rest kinds.Free f e = cc
free_not_rest kinds.Ordinary f e = cc
free_not_rest kinds.First f e = cc
free_not_rest kinds.Rest f e = cc

free_same : (sizes : ℕ → ℕ) (size : ℕ) (ws ws' : List ℕ) (used : ℕ) (kind : Kind) → kind_is_free kind ≡ true
    → IsRow sizes size ws used kind → SameRow sizes size ws ws' used kind
free_same sizes size ws ws' used kinds.Free f r = record { region_is = refl; row_is = r; left_is = refl }
free_same sizes size ws ws' used kinds.Ordinary f r = absurd (cc)
free_same sizes size ws ws' used kinds.First f r = absurd (cc)
free_same sizes size ws ws' used kinds.Rest f r = absurd (cc)

-- the rows behind the first
behind_free : (row : Row) (rows : List Row) (m : ℕ) → AreFreeFrom (suc m) (row ∷ rows) → AreFreeFrom m rows
behind_free row rows m f k h = f (suc k) (omega arith)

-- an object that began before ends below the free rows
pub left_below : (sizes : ℕ → ℕ) (size : ℕ) (rows : List Row) (m left : ℕ) (ws : List ℕ) → AreRows sizes size left ws rows
    → AreFreeFrom m rows → left ≤ m * size
left_below sizes size [] m left ws r f = omega arith
left_below sizes size (row ∷ rows) m zero ws r f = omega arith
left_below sizes size (row ∷ rows) zero (suc left) ws r f =
    absurd (free_not_rest row.kind (f 0 (omega arith)) (rest_is _ _ _ _ r.0))
left_below sizes size (row ∷ rows) (suc m) (suc left) ws r f =
    let i = left_below sizes size rows m (suc left - size) (drop size ws) r.1 (behind_free row rows m f) in
    omega arith

pub record SameRows (sizes : ℕ → ℕ) (size left : ℕ) (ws ws' : List ℕ) (rows : List Row) : Type 0 where
  pub regions_are : regions_of sizes size ws' rows ≡ regions_of sizes size ws rows
  pub rows_are : AreRows sizes size left ws' rows

-- the words, seen from behind the first region
record IsBehind (size m : ℕ) (ws ws' : List ℕ) : Type 0 where
  pub length_is : length (drop size ws') ≡ length (drop size ws)
  pub room : m ≤ length (drop size ws)
  pub before : take m (drop size ws') ≡ take m (drop size ws)

behind : (size m n : ℕ) (ws ws' : List ℕ) → n ≡ size + m → length ws' ≡ length ws → n ≤ length ws → take n ws' ≡ take n ws
    → IsBehind size m ws ws'
behind size m n ws ws' e l f a =
    let front : take (size + m) ws' ≡ take (size + m) ws = rw e at a in
    record {
      length_is = simp length-drop (omega arith);
      room = simp length-drop (omega arith);
      before = sym (drop-take size m ws') ∙ ap (drop size) front ∙ drop-take size m ws;
    }

-- The words below the free rows stay: so do the regions
pub rows_cut : (sizes : ℕ → ℕ) (size : ℕ) (rows : List Row) (m n left : ℕ) (ws ws' : List ℕ) → n ≡ m * size → 0 < size → n ≤ length ws
    → AreRows sizes size left ws rows → AreFreeFrom m rows → length ws' ≡ length ws → take n ws' ≡ take n ws
    → SameRows sizes size left ws ws' rows
rows_cut sizes size [] m n left ws ws' e z h r f l a = record { regions_are = refl; rows_are = r }
rows_cut sizes size (row ∷ rows) zero n zero ws ws' e z h r f l a =
    let s = free_same sizes size ws ws' row.used row.kind (f 0 (omega arith)) r.0 in
    let t = rows_cut sizes size rows 0 0 (left_by size ws row.kind) (drop size ws) (drop size ws') (omega arith) z (omega arith) r.1
    (λ k b. f (suc k) (omega arith)) (simp length-drop (omega arith)) refl in
    record { regions_are = rw (s.region_is, t.regions_are) refl; rows_are = (s.row_is, rw s.left_is t.rows_are) }
rows_cut sizes size (row ∷ rows) zero n (suc left) ws ws' e z h r f l a =
    absurd (free_not_rest row.kind (f 0 (omega arith)) (rest_is _ _ _ _ r.0))
rows_cut sizes size (row ∷ rows) (suc m) n zero ws ws' e z h r f l a =
    let u = behind size (m * size) n ws ws' (omega arith) l h a in
    let b = left_below sizes size rows m (left_by size ws row.kind) (drop size ws) r.1 (behind_free row rows m f) in
    let s = same_row sizes size n ws ws' row.used row.kind a l h (omega arith) z (omega (arith, b)) r.0 in
    let t = rows_cut sizes size rows m (m * size) (left_by size ws row.kind) (drop size ws) (drop size ws') refl z u.room r.1
    (behind_free row rows m f) u.length_is u.before in
    record { regions_are = rw (s.region_is, t.regions_are) refl; rows_are = (s.row_is, rw s.left_is t.rows_are) }
rows_cut sizes size (row ∷ rows) (suc m) n (suc left) ws ws' e z h r f l a =
    let u = behind size (m * size) n ws ws' (omega arith) l h a in
    let s = same_rest sizes size (suc left) ws ws' row.used row.kind r.0 in
    let t = rows_cut sizes size rows m (m * size) (suc left - size) (drop size ws) (drop size ws') refl z u.room r.1
    (behind_free row rows m f) u.length_is u.before in
    record { regions_are = rw (s, t.regions_are) refl; rows_are = (r.0, t.rows_are) }

-- so the table does
pub table_cut : (size : ℕ) (words words' : List ℕ) (rows : List Row) (t : Table) (m : ℕ) → IsTable size words rows
    → table_of size words rows ≡ t → m ≤ length rows → AreFreeFrom m rows → length words' ≡ length words
    → take (m * size) words' ≡ take (m * size) words → IsWrittenTable size words' rows t
table_cut size words words' rows t m g e h f l a =
    let fits : m * size ≤ length words = omega (arith, g.covers, mul-le m size (length rows) size h (omega arith)) in
    let w = rows_cut (sizes_in words) size rows m (m * size) 0 words words' refl g.region_size.0 fits g.rows_right f l a in
    let whole : table_by (sizes_in words) size words' rows ≡ t =
    ap (λ (rs : List Region). record { words_per_region = size; regions = rs }) w.regions_are ∙ e in
    let kept : EachForwardedIn (IsKept t t) t.regions =
    EachForwardedIn-imp (HasObject t) (IsKept t t) t.regions (λ to o. same_object t t to o o.is) (targets_of size words rows t g e) in
    written_table size words words' rows rows t t g e l refl w.rows_are whole kept
