-- Each tile stands in the words that are written: what follows for its words, and that each change of the table keeps it.
use Rattle.regions.proofs.Common.{◌≡◌, ◌≢◌, ◌+◌, ◌-◌, ◌*◌, ◌/◌, ◌%◌, ◌<◌, ◌≤◌, ◌∷◌, ◌∙◌, ℕ, Some, None, List, get_or, refl, sym, ap, subst}
use Rattle.regions.proofs.Common.{arith, inl, inr, cases_lt, cases_eq, Stored, header_of, Tile, Object, Filler, Forwarded, tile_size}
use Rattle.regions.proofs.Common.{tile_at, Table, Region, First, region_kind, region_tile, nth_region, kind_of}
use Rattle.regions.proofs.Common.{tile_in, region_at, object_at, free_table, remainder, moved_to, HasObject, AreTilesWritten, IsTable}
use Rattle.regions.proofs.Common.{header_target, table_of, Row, IsShaped, tiles_of, IsSome, counts_of}
use Rattle.regions.specs.Rows.{IsBelow}
use Rattle.regions.specs.declared.row.Kind.TheVariants as kinds
use Rattle.regions.proofs.Tiles.Laws.{tile_of}
use Rattle.regions.proofs.Tiles.Placing.{Replaces, remainder_total, tile_at-end}
use Rattle.regions.proofs.Words.Places.{IsInObject}
use Rattle.regions.proofs.Words.ObjectWords.{header_in, object_there, is_counted}
use Rattle.regions.proofs.Tiles.Making.{targets_of}
use Rattle.regions.proofs.Tiles.ForwardedLaws.{target_is, moved_in}
use Rattle.regions.proofs.Tiles.ShapedMade.{shaped_of, first_object}
use Rattle.regions.proofs.LongRuns.RunLaws.{frees}
use Rattle.regions.proofs.Walks.WalkFrom.{tile_listed}
use Rattle.regions.proofs.Walks.WalkMade.{positive_at}

-- ---- the words of a tile
pub tile_within : (u t : Table) (n x : ℕ) (tile : Tile) → AreTilesWritten u n → u ≡ t → tile_in t x ≡ Some tile → x + tile_size tile ≤ n
tile_within u t n x tile w e h = w.each x tile (ap (λ (v : Table). tile_in v x) e ∙ h)

pub object_within : (u t : Table) (n x : ℕ) (s : Stored) → AreTilesWritten u n → u ≡ t → object_at t x ≡ Some s
    → x + tile_size (Object s) ≤ n
object_within u t n x s w e h = tile_within u t n x (Object s) w e (tile_of t x s h)

pub tile_positive : (t : Table) (x : ℕ) (tile : Tile) → IsShaped t → tile_in t x ≡ Some tile → 0 < tile_size tile
tile_positive t x tile shape h =
    let k : ℕ = x / t.words_per_region in
    let fitting = shape.fitting k in
    positive_at (x % t.words_per_region) (tiles_of t k) tile fitting.positive (tile_listed t x tile h).0

pub tile_starts : (size : ℕ) (words : List ℕ) (rows : List Row) (t : Table) (n x : ℕ) (tile : Tile) → IsTable size words rows
    → AreTilesWritten (table_of size words rows) n → table_of size words rows ≡ t → tile_in t x ≡ Some tile → x < n
tile_starts size words rows t n x tile g w e h =
    let all = tile_within (table_of size words rows) t n x tile w e h in
    let some = tile_positive t x tile (shaped_of size words rows t g e) h in
    omega arith

-- the object of a run
pub first_stands : (size : ℕ) (words : List ℕ) (rows : List Row) (t : Table) (n k : ℕ) → IsTable size words rows
    → AreTilesWritten (table_of size words rows) n → table_of size words rows ≡ t → kind_of t k ≡ kinds.First → k * size < n
unfolding kind_of
first_stands size words rows t n k g w e h = go (nth_region t k) refl h
  where
    size_is : size ≡ t.words_per_region
    size_is = ap (λ (u : Table). u.words_per_region) e

    go : (r : Region) → nth_region t k ≡ r → region_kind r ≡ kinds.First → k * size < n
    go (First s) f q =
        let object = first_object t k s (rw (← size_is) g.region_size.0) f in
        let all = object_within (table_of size words rows) t n (k * t.words_per_region) s w e object in
        rw size_is (omega arith)
    go _ f q = cc

-- a word of an object
pub word_within : (u t : Table) (n x place : ℕ) → AreTilesWritten u n → u ≡ t → IsInObject t x place → place < n
word_within u t n x place w e i =
    let all = object_within u t n x i.object w e i.is in
    let below = i.below in
    omega arith

-- an object's header is in the words that are written, and counts its fields
pub header_there : (size : ℕ) (words : List ℕ) (rows : List Row) (t : Table) (n x : ℕ) → IsTable size words rows
    → AreTilesWritten (table_of size words rows) n → table_of size words rows ≡ t → IsSome (object_at t x)
    → (x < n) × IsSome (counts_of (header_of (get_or words x 0)))
header_there size words rows t n x g w e h =
    let o = object_there size words rows t x g e h in
    (word_within (table_of size words rows) t n x x w e (header_in t x o.0 o.1.is), is_counted words t x o.0 o.1)

-- a forwarded header's target lies in the words that are written
pub target_within : (size : ℕ) (words : List ℕ) (rows : List Row) (t : Table) (x : ℕ) (tile : Tile) (n : ℕ) → IsTable size words rows
    → AreTilesWritten (table_of size words rows) n → table_of size words rows ≡ t → tile_in t x ≡ Some tile
    → IsBelow (header_target (header_of (get_or words x 0))) n
target_within size words rows t x tile n g w e h = go tile h (target_is size words rows t x g e (rw h refl))
  where
    go : (tile : Tile) → tile_in t x ≡ Some tile → header_target (header_of (get_or words x 0)) ≡ moved_to (tile_in t x)
        → IsBelow (header_target (header_of (get_or words x 0))) n
    go (Object s) f is = rw (is, f) tt
    go (Filler m) f is = rw (is, f) tt
    go (Forwarded to m) f is =
        let o = moved_in (HasObject t) t x to m (targets_of size words rows t g e) f in
        let place = word_within (table_of size words rows) t n to to w e (header_in t to o.object o.is) in
        rw (is, f) place

-- ---- each change of the table
pub free_within : (count size n : ℕ) → AreTilesWritten (free_table count size) n
unfolding free_table tile_in region_at
free_within count size n = record {
  each = λ a tile h.
      absurd (let z : None ≡ Some tile = sym (ap (λ (r : Region). region_tile r (a % size)) (frees count (a / size))) ∙ h in cc);
}

pub within_fewer : (t t' : Table) (n m : ℕ) → n ≤ m → ((y : ℕ) (u : Tile) → tile_in t' y ≡ Some u → tile_in t y ≡ Some u)
    → AreTilesWritten t n → AreTilesWritten t' m
within_fewer t t' n m le fewer w = record { each = λ y u h. let old = w.each y u (fewer y u h) in omega arith }

pub within_added : (t t' : Table) (n m x : ℕ) (tile : Tile) → n ≤ m → x + tile_size tile ≤ m → tile_in t' x ≡ Some tile
    → ((y : ℕ) → y ≢ x → tile_in t' y ≡ tile_in t y) → AreTilesWritten t n → AreTilesWritten t' m
within_added t t' n m x tile le fits is others w = record {
  each = λ y u h. elim (cases_eq y x) [
    | inl q ↦
        let here : tile_in t' x ≡ Some u = subst (λ (z : ℕ). tile_in t' z ≡ Some u) q h in
        let same : tile ≡ u = cc in
        let size : tile_size tile ≡ tile_size u = ap tile_size same in
        omega arith
    | inr apart ↦ let old = w.each y u (sym (others y apart) ∙ h) in omega arith
  ];
}

pub within_cut : (t t' : Table) (n m x size r : ℕ) (tile : Tile) → n ≤ m → Replaces t t' x size (tile ∷ remainder r)
    → tile_in t x ≡ Some (Filler size) → tile_size tile + r ≡ size → AreTilesWritten t n → AreTilesWritten t' m
within_cut t t' n m x size r tile le cut was sum w = record {
  each = λ y u h.
      let all = w.each x (Filler size) was in
      elim (cases_lt y x) [
        | inl b ↦ (let old = w.each y u (sym (cut.others y (inl b)) ∙ h) in omega arith)
        | inr b ↦ elim (cases_lt y (x + size)) [
          | inl f ↦
              let place : x + (y - x) ≡ y = omega arith in
              let at : tile_at (y - x) (tile ∷ remainder r) ≡ Some u =
              sym (cut.within (y - x) (omega arith)) ∙ ap (tile_in t') place ∙ h in
              let end = tile_at-end (tile ∷ remainder r) (y - x) u at in
              let total = remainder_total r in
              omega arith
          | inr f ↦ let old = w.each y u (sym (cut.others y (inr f)) ∙ h) in omega arith
        ]
      ];
}
