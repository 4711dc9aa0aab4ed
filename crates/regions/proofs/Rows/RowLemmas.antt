-- How the regions of a table change with its words.
-- the region at a number
use Rattle.regions.proofs.Common.{◌≡◌, ℕ, zero, suc, ◌+◌, ◌-◌, ◌*◌, ◌<◌, ◌≤◌, List, [], ◌∷◌, length, drop, get_or, refl, arith, drop-drop}
use Rattle.regions.proofs.Common.{Free, region_of, regions_of, IsRow, IsRestRow, left_by, AreRows, Row, Kind}
use Rattle.regions.specs.declared.row.Kind.TheVariants as kinds

pub regions-at : (sizes : ℕ → ℕ) (size : ℕ) (rows : List Row) (k n : ℕ) (ws : List ℕ) (d : Row) → n ≡ k * size → k < length rows
    → get_or (regions_of sizes size ws rows) k Free ≡ region_of sizes (drop n ws) (get_or rows k d)
regions-at sizes size [] k n ws d e h = absurd (omega arith)
regions-at sizes size (row ∷ rows) zero n ws d e h =
    let z : n ≡ 0 = omega arith in
    rw z refl
regions-at sizes size (row ∷ rows) (suc k) n ws d e h =
    let at : n ≡ size + k * size = omega arith in
    rw (at, ← drop-drop (k * size) size ws) (regions-at sizes size rows k (k * size) (drop size ws) d refl (omega arith))

pub regions-past : (sizes : ℕ → ℕ) (size : ℕ) (rows : List Row) (k : ℕ) (ws : List ℕ) → length rows ≤ k
    → get_or (regions_of sizes size ws rows) k Free ≡ Free
regions-past sizes size [] k ws h = refl
regions-past sizes size (row ∷ rows) zero ws h = absurd (omega arith)
regions-past sizes size (row ∷ rows) (suc k) ws h = regions-past sizes size rows k (drop size ws) (omega arith)

pub rest_is : (size left used : ℕ) (kind : Kind) → IsRestRow size left used kind → kind ≡ kinds.Rest
rest_is size left used kinds.Rest h = refl
rest_is size left used _ h = absurd h

-- a row that is no Rest begins its own tiles, and so do the rows behind it
pub record IsStart (sizes : ℕ → ℕ) (size : ℕ) (ws : List ℕ) (row : Row) (rows : List Row) : Type 0 where
  pub row_is : IsRow sizes size ws row.used row.kind
  pub rest_are : AreRows sizes size (left_by size ws row.kind) (drop size ws) rows

pub start_at : (sizes : ℕ → ℕ) (size : ℕ) (rows : List Row) (k n left : ℕ) (ws : List ℕ) (d : Row) → n ≡ k * size → k < length rows
    → AreRows sizes size left ws rows → ((get_or rows k d).kind ≡ kinds.Rest → ⊥)
    → IsStart sizes size (drop n ws) (get_or rows k d) (drop (suc k) rows) × (left ≤ n)
start_at sizes size [] k n left ws d e h r o = absurd (omega arith)
start_at sizes size (row ∷ rows) zero n zero ws d e h r o =
    let z : n ≡ 0 = omega arith in
    (rw z (record { row_is = r.0; rest_are = r.1 }), omega arith)
start_at sizes size (row ∷ rows) zero n (suc left) ws d e h r o = absurd (o (rest_is _ _ _ _ r.0))
start_at sizes size (row ∷ rows) (suc k) n zero ws d e h r o =
    let at : n ≡ size + k * size = omega arith in
    let i = start_at sizes size rows k (k * size) _ (drop size ws) d refl (omega arith) r.1 o in
    (rw (at, ← drop-drop (k * size) size ws) i.0, omega arith)
start_at sizes size (row ∷ rows) (suc k) n (suc left) ws d e h r o =
    let at : n ≡ size + k * size = omega arith in
    let i = start_at sizes size rows k (k * size) _ (drop size ws) d refl (omega arith) r.1 o in
    (rw (at, ← drop-drop (k * size) size ws) i.0, omega (arith, i.1))

-- a run ends within the table
pub left_le : (sizes : ℕ → ℕ) (size : ℕ) (rows : List Row) (left : ℕ) (ws : List ℕ)
    → AreRows sizes size left ws rows → left ≤ length rows * size
left_le sizes size (row ∷ rows) (suc left) ws r = let i = left_le sizes size rows (suc left - size) (drop size ws) r.1 in omega arith
left_le sizes size _ _ ws r = omega arith
