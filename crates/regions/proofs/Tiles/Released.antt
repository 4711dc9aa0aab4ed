-- What a release changes: its region alone.
use Rattle.regions.proofs.Common.{◌≡◌, ◌≢◌, ◌+◌, ◌-◌, ◌*◌, ◌/◌, ◌%◌, ◌<◌, ◌≤◌, ◌⊎◌, ◌∙◌, ℕ, Some, None, length, get_or, set, refl, sym, ap}
use Rattle.regions.proofs.Common.{subst, arith, inl, inr, get_or-set_same, get_or-set_other, length-set, div-mul-add, Tile, Filler}
use Rattle.regions.proofs.Common.{tile_size, tile_at, total_size, Region, Free, Table, region_tile, region_at, nth_region, region_used}
use Rattle.regions.proofs.Common.{region_kind, used_of, top_of, kind_of, tile_in, with_region, released, released_as, HasNoForwarded}
use Rattle.regions.proofs.Common.{EachForwardedIn, AreFitting, tiles_of, region_tiles, IsShaped}
use Rattle.regions.specs.declared.row.Kind.TheVariants as kinds
use Rattle.regions.proofs.Words.Sizes.{EachForwardedIn-set, EachForwardedIn-imp}
use Rattle.regions.proofs.Tiles.Placing.{ordinary_at, tile_at-end, filler_region}

-- a region is free now, and nothing else changed
pub record Releases (t t' : Table) (k : ℕ) : Type 0 where
  pub size : t'.words_per_region ≡ t.words_per_region
  pub count : length t'.regions ≡ length t.regions
  pub free : nth_region t' k ≡ Free
  pub others : (j : ℕ) → j ≢ k → nth_region t' j ≡ nth_region t j
  pub gone : (a : ℕ) → k * t.words_per_region ≤ a → a < k * t.words_per_region + t.words_per_region → tile_in t' a ≡ None
  pub stays : (a : ℕ) → (a < k * t.words_per_region) ⊎ (k * t.words_per_region + t.words_per_region ≤ a) → tile_in t' a ≡ tile_in t a
  pub unmoved : HasNoForwarded t → HasNoForwarded t'

-- the region of an address, by its bottom
pub row_within : (a k size : ℕ) → 0 < size → k * size ≤ a → a < k * size + size → a / size ≡ k
row_within a k size z low high =
    let at : k * size + (a - k * size) ≡ a = omega arith in
    subst (λ (n : ℕ). n / size ≡ k) at (div-mul-add k size (a - k * size) (omega arith))

row_outside : (a k size : ℕ) → 0 < size → (a < k * size) ⊎ (k * size + size ≤ a) → a / size ≢ k
row_outside a k size z out e =
    let whole : a / size * size + a % size ≡ a = omega arith in
    let whole' : k * size + a % size ≡ a = rw e at whole in
    let less : a % size < size = omega arith in
    elim out [ inl x ↦ omega arith | inr x ↦ omega arith ]

freed : (t : Table) (k : ℕ) → 0 < t.words_per_region → k < length t.regions → Releases t (with_region t k Free) k
unfolding tile_in region_at nth_region
freed t k z known =
    let size : ℕ = t.words_per_region in
    let here = get_or-set_same t.regions k Free Free known in
    record {
      size = refl;
      count = length-set t.regions k Free;
      free = here;
      others = λ j n. get_or-set_other t.regions k j Free Free n;
      gone = λ a low high. ap (λ (j : ℕ). region_tile (get_or (set t.regions k Free) j Free) (a % size)) (row_within a k size z low high)
          ∙ ap (λ (r : Region). region_tile r (a % size)) here;
      stays = λ a out.
          ap (λ (r : Region). region_tile r (a % size)) (get_or-set_other t.regions k (a / size) Free Free (row_outside a k size z out));
      unmoved = λ m. EachForwardedIn-set (λ _. ⊥) t.regions k Free tt m;
    }

pub released_one : (t : Table) (k : ℕ) → kind_of t k ≡ kinds.Ordinary → released t k ≡ with_region t k Free
unfolding released kind_of
released_one t k o = let q = ordinary_at (nth_region t k) o in ap (λ (r : Region). released_as r t k) q.is

pub region_released : (t : Table) (k : ℕ) → 0 < t.words_per_region → k < length t.regions
    → kind_of t k ≡ kinds.Ordinary → Releases t (released t k) k
region_released t k z known o = subst (λ (u : Table). Releases t u k) (sym (released_one t k o)) (freed t k z known)

pub used_stays : (t t' : Table) (k j : ℕ) → Releases t t' k → j ≢ k → used_of t' j ≡ used_of t j
unfolding used_of
used_stays t t' k j r n = ap (λ (w : ℕ). region_used w (nth_region t' j)) r.size ∙ ap (region_used t.words_per_region) (r.others j n)

pub kind_stays : (t t' : Table) (k j : ℕ) → Releases t t' k → j ≢ k → kind_of t' j ≡ kind_of t j
unfolding kind_of
kind_stays t t' k j r n = ap region_kind (r.others j n)

-- no moved object's new place is in a region when nothing is moved
pub untargeted : (t : Table) (k : ℕ) → HasNoForwarded t → EachForwardedIn (λ to. k ≢ to / t.words_per_region) t.regions
untargeted t k m = EachForwardedIn-imp (λ _. ⊥) (λ to. k ≢ to / t.words_per_region) t.regions (λ to x. absurd x) m

-- a tile of an ordinary region lies below its top, and the top within the region
tile_below : (t : Table) (a k : ℕ) (tile : Tile) → 0 < t.words_per_region → kind_of t k ≡ kinds.Ordinary → k * t.words_per_region ≤ a
    → a < k * t.words_per_region + t.words_per_region → tile_in t a ≡ Some tile → a + tile_size tile ≤ top_of t k
unfolding tile_in region_at kind_of nth_region used_of
tile_below t a k tile z o low high e =
    let size : ℕ = t.words_per_region in
    let q = ordinary_at (get_or t.regions k Free) o in
    let row = row_within a k size z low high in
    let whole : a / size * size + a % size ≡ a = omega arith in
    let whole' : k * size + a % size ≡ a = rw row at whole in
    let there : tile_at (a % size) q.tiles ≡ Some tile =
    sym (ap (λ (j : ℕ). region_tile (get_or t.regions j Free) (a % size)) row ∙ ap (λ (r : Region). region_tile r (a % size)) q.is) ∙ e in
    let end = tile_at-end q.tiles (a % size) tile there in
    let used : region_used size (get_or t.regions k Free) ≡ total_size q.tiles = ap (region_used size) q.is in
    omega (arith, end, used, whole')

pub tile_below_top : (t : Table) (a k : ℕ) (tile : Tile) → IsShaped t → kind_of t k ≡ kinds.Ordinary → k * t.words_per_region ≤ a
    → a < k * t.words_per_region + t.words_per_region → tile_in t a ≡ Some tile → a + tile_size tile ≤ top_of t k
tile_below_top t a k tile shaped o low high e = tile_below t a k tile shaped.positive o low high e

pub used_within : (t : Table) (k : ℕ) → AreFitting t → kind_of t k ≡ kinds.Ordinary → used_of t k ≤ t.words_per_region
unfolding tiles_of kind_of nth_region used_of
used_within t k fitting o =
    let q = ordinary_at (get_or t.regions k Free) o in
    let fits : total_size q.tiles ≤ t.words_per_region =
    subst (λ (r : Region). total_size (region_tiles r) ≤ t.words_per_region) q.is ((fitting k).fits o) in
    let used : used_of t k ≡ total_size q.tiles = ap (region_used t.words_per_region) q.is in
    omega arith

-- a filler lies within the region that it starts in
pub filler_within : (t : Table) (a n k : ℕ) → 0 < t.words_per_region → AreFitting t → tile_in t a ≡ Some (Filler n)
    → k * t.words_per_region ≤ a → a < k * t.words_per_region + t.words_per_region → a + n ≤ k * t.words_per_region + t.words_per_region
filler_within t a n k z fitting e low high =
    let row = row_within a k t.words_per_region z low high in
    let o : kind_of t k ≡ kinds.Ordinary = subst (λ (j : ℕ). kind_of t j ≡ kinds.Ordinary) row (filler_region t a n e).1 in
    let below = tile_below t a k (Filler n) z o low high e in
    omega (arith, below, used_within t k fitting o)

-- a filler is no longer than its region
pub filler_short : (t : Table) (a n : ℕ) → 0 < t.words_per_region → AreFitting t → tile_in t a ≡ Some (Filler n) → n ≤ t.words_per_region
filler_short t a n some fitting is =
    let k : ℕ = a / t.words_per_region in
    let low : k * t.words_per_region ≤ a = omega (arith, some) in
    let end = filler_within t a n k some fitting is low (omega (arith, some)) in
    omega (arith, end, low)
