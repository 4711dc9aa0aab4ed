-- Which tiles a table has once an object is forwarded. No word is in it.
use Rattle.regions.proofs.Common.{◌≡◌, ◌≢◌, ℕ, ◌/◌, ◌%◌, ◌<◌, Some, List, [], ◌∷◌, length, get_or, refl, ◌∙◌, ap, inl, inr, get_or-set_same}
use Rattle.regions.proofs.Common.{get_or-set_other, length-set, cases_eq, Stored, Object, Forwarded, Tile, tile_size, Region, Free}
use Rattle.regions.proofs.Common.{Ordinary, First, Rest, Table, region_tile, region_at, tile_in, nth_region, region_replaced, replace_tile}
use Rattle.regions.proofs.Common.{IsOrdinary, region_kind, kind_of}
use Rattle.regions.proofs.Tiles.Laws.{tile_at-replace_same, tile_at-replace_other, same_place, known_region}

replaced_same : (r : Region) (o : ℕ) (old new : Tile) → IsOrdinary r → region_tile r o ≡ Some old
    → region_tile (region_replaced r o (new ∷ [])) o ≡ Some new
replaced_same (Ordinary ts) o old new i h = tile_at-replace_same ts o old new h
replaced_same _ o old new i h = absurd i

replaced_other : (r : Region) (o y : ℕ) (old new : Tile) → region_tile r o ≡ Some old → tile_size new ≡ tile_size old → y ≢ o
    → region_tile (region_replaced r o (new ∷ [])) y ≡ region_tile r y
replaced_other (Ordinary ts) o y old new h e n = tile_at-replace_other ts o y old new h e n
replaced_other _ o y old new h e n = refl

-- the tile at an address, once another of its size took its place
pub tile_in-replace_same : (t : Table) (a : ℕ) (old new : Tile) → IsOrdinary (region_at t a) → tile_in t a ≡ Some old
    → tile_in (replace_tile t a (new ∷ [])) a ≡ Some new
unfolding tile_in region_at replace_tile
tile_in-replace_same t a old new i h =
    let k : ℕ = a / t.words_per_region in
    let r : Region = get_or t.regions k Free in
    let e = get_or-set_same t.regions k (region_replaced r (a % t.words_per_region) (new ∷ [])) Free (known_region t.regions k _ _ h) in
    rw (e, replaced_same r (a % t.words_per_region) old new i h) refl

-- every other tile is as it was
pub tile_in-replace_other : (t : Table) (a y : ℕ) (old new : Tile) → 0 < t.words_per_region → tile_in t a ≡ Some old
    → tile_size new ≡ tile_size old → y ≢ a → tile_in (replace_tile t a (new ∷ [])) y ≡ tile_in t y
unfolding tile_in region_at replace_tile
tile_in-replace_other t a y old new z h e n =
    let size : ℕ = t.words_per_region in
    let r : Region = region_replaced (get_or t.regions (a / size) Free) (a % size) (new ∷ []) in
    elim (cases_eq (y / size) (a / size)) [
      | inl q ↦
          let p = get_or-set_same t.regions (a / size) r Free (known_region t.regions (a / size) _ _ h) in
          let apart : y % size ≢ a % size = λ k. n (same_place y a size z q k) in
          rw (q, p) (replaced_other _ (a % size) (y % size) old new h e apart)
      | inr q ↦ rw (get_or-set_other t.regions (a / size) (y / size) r Free q) refl
    ]

kind_replaced : (r : Region) (o : ℕ) (new : List Tile) → region_kind (region_replaced r o new) ≡ region_kind r
kind_replaced Free o new = refl
kind_replaced (Ordinary ts) o new = refl
kind_replaced (First s) o new = refl
kind_replaced (Rest n) o new = refl

-- no region becomes one of another kind
pub kind_of-replace : (t : Table) (a : ℕ) (new : List Tile) (k : ℕ) → a / t.words_per_region < length t.regions
    → kind_of (replace_tile t a new) k ≡ kind_of t k
unfolding kind_of nth_region replace_tile region_at
kind_of-replace t a new k h =
    let j : ℕ = a / t.words_per_region in
    let r : Region = region_replaced (get_or t.regions j Free) (a % t.words_per_region) new in
    elim (cases_eq k j) [
      | inl q ↦ rw q (ap region_kind (get_or-set_same t.regions j r Free h)
          ∙ kind_replaced (get_or t.regions j Free) (a % t.words_per_region) new)
      | inr q ↦ ap region_kind (get_or-set_other t.regions j k r Free q)
    ]

replace_size : (t : Table) (a : ℕ) (new : List Tile)
    → ((replace_tile t a new).words_per_region ≡ t.words_per_region) × (length (replace_tile t a new).regions ≡ length t.regions)
unfolding replace_tile
replace_size t a new = (refl, length-set t.regions _ _)

tile_known : (t : Table) (a : ℕ) (tile : Tile) → tile_in t a ≡ Some tile → a / t.words_per_region < length t.regions
unfolding tile_in region_at
tile_known t a tile h = known_region t.regions _ _ _ h

-- an object of an ordinary region is forwarded
pub record Forwards (t t' : Table) (a to n : ℕ) : Type 0 where
  pub size : t'.words_per_region ≡ t.words_per_region
  pub count : length t'.regions ≡ length t.regions
  pub kinds_same : (k : ℕ) → kind_of t' k ≡ kind_of t k
  pub is : tile_in t' a ≡ Some (Forwarded to n)
  pub others : (y : ℕ) → y ≢ a → tile_in t' y ≡ tile_in t y

pub object_forwarded : (t : Table) (a to : ℕ) (s : Stored) → 0 < t.words_per_region → IsOrdinary (region_at t a)
    → tile_in t a ≡ Some (Object s) → Forwards t (replace_tile t a (Forwarded to (tile_size (Object s)) ∷ [])) a to (tile_size (Object s))
object_forwarded t a to s z ordinary h =
    let n : ℕ = tile_size (Object s) in
    let whole = replace_size t a (Forwarded to n ∷ []) in
    record {
      size = whole.0;
      count = whole.1;
      kinds_same = λ k. kind_of-replace t a (Forwarded to n ∷ []) k (tile_known t a (Object s) h);
      is = tile_in-replace_same t a (Object s) (Forwarded to n) ordinary h;
      others = λ y apart. tile_in-replace_other t a y (Object s) (Forwarded to n) z h refl apart;
    }
