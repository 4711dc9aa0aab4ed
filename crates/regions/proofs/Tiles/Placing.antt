-- Where tiles stand once fillers are made, split and filled, with no word in it.
use Rattle.regions.proofs.Common.{◌≡◌, ◌≢◌, ◌+◌, ◌-◌, ◌*◌, ◌/◌, ◌%◌, ◌<◌, ◌≤◌, ◌⊎◌, ◌∷◌, ◌++◌, ◌∙◌, ℕ, zero, suc, Some, None, List, []}
use Rattle.regions.proofs.Common.{length, get_or, set, refl, sym, ap, subst, arith, true, inl, inr, get_or-set_same, get_or-set_other}
use Rattle.regions.proofs.Common.{length-set, position-Some, cases_lt, cases_eq, le-leb, lt-leb, leb_tells, div-mul-add, Tile, Filler}
use Rattle.regions.proofs.Common.{tile_size, tile_at, replace, total_size, Region, Free, Ordinary, First, Rest, Table, region_tile}
use Rattle.regions.proofs.Common.{region_at, nth_region, tile_in, kind_of, region_kind, HasNoForwarded, EachForwarded, replace_tile}
use Rattle.regions.proofs.Common.{region_replaced, push_tile, region_with_tile, used_of, region_used, top_of, taken, first_free, is_free}
use Rattle.regions.proofs.Common.{remainder, AllPositive, AreFitting, tiles_of, region_tiles}
use Rattle.regions.proofs.Tiles.Laws.{known_region}
use Rattle.regions.proofs.Words.Parse.{past}
use Rattle.regions.proofs.Tiles.Totals.{total-append, total-replace}
use Rattle.regions.proofs.Tiles.Kept.{replaced-moved, with_tile-moved}
use Rattle.regions.proofs.Words.Sizes.{EachForwardedIn-set, EachForwardedIn-at}
use Rattle.regions.specs.declared.row.Kind.TheVariants as kinds
use Rattle.regions.proofs.Tiles.TileLaws.{kind_of-replace}

-- the tiles of a list once one of them gives way to others of the same size
pub tile_at-before : (ts new : List Tile) (o y : ℕ) (u : Tile) → tile_at o ts ≡ Some u → y < o → tile_at y (replace o new ts) ≡ tile_at y ts
tile_at-before (t ∷ ts) new zero y u f h = absurd (omega arith)
tile_at-before (t ∷ ts) new (suc o) (suc y) u f h =
    let p = past (tile_size t) (suc o) _ u f in
    elim (leb_tells (tile_size t) (suc y)) [
      | inl q ↦ rw q.0 (tile_at-before ts new (suc o - tile_size t) (suc y - tile_size t) u p.1 (omega (arith, q.1, p.0)))
      | inr q ↦ rw q.0 refl
    ]
tile_at-before _ new _ _ u f h = refl

pub tile_at-front : (new ts : List Tile) (j : ℕ) → j < total_size new → tile_at j (new ++ ts) ≡ tile_at j new
tile_at-front [] ts j h = absurd (omega arith)
tile_at-front (t ∷ new) ts zero h = refl
tile_at-front (t ∷ new) ts (suc j) h =
    elim (leb_tells (tile_size t) (suc j)) [
      | inl q ↦ rw q.0 (tile_at-front new ts (suc j - tile_size t) (omega (arith, q.1)))
      | inr q ↦ rw q.0 refl
    ]

pub tile_at-back : (new ts : List Tile) (j : ℕ) → AllPositive new → total_size new ≤ j
    → tile_at j (new ++ ts) ≡ tile_at (j - total_size new) ts
tile_at-back [] ts j z h = let e : j - 0 ≡ j = omega arith in rw e refl
tile_at-back (t ∷ new) ts zero z h = absurd (let p = z.0 in omega arith)
tile_at-back (t ∷ new) ts (suc j) z h =
    let le : tile_size t ≤ suc j = omega arith in
    let e : suc j - tile_size t - total_size new ≡ suc j - (tile_size t + total_size new) = omega arith in
    rw (le-leb (tile_size t) (suc j) le, ← e) (tile_at-back new ts (suc j - tile_size t) z.1 (omega arith))

pub tile_at-within : (ts new : List Tile) (o y j : ℕ) (u : Tile) → tile_at o ts ≡ Some u → y ≡ o + j → j < total_size new
    → tile_at y (replace o new ts) ≡ tile_at j new
tile_at-within [] new o y j u f e h = cc
tile_at-within (t ∷ ts) new zero y j u f e h = let s : y ≡ j = omega arith in rw s (tile_at-front new ts j h)
tile_at-within (t ∷ ts) new (suc o) zero j u f e h = absurd (omega arith)
tile_at-within (t ∷ ts) new (suc o) (suc y) j u f e h =
    let p = past (tile_size t) (suc o) _ u f in
    let le : tile_size t ≤ suc y = omega (arith, p.0) in
    rw (le-leb (tile_size t) (suc y) le) (tile_at-within ts new (suc o - tile_size t) (suc y - tile_size t) j u p.1 (omega (arith, p.0)) h)

pub tile_at-after : (ts new : List Tile) (o y : ℕ) (u : Tile) → tile_at o ts ≡ Some u → AllPositive new → total_size new ≡ tile_size u
    → 0 < tile_size u → o + tile_size u ≤ y → tile_at y (replace o new ts) ≡ tile_at y ts
tile_at-after [] new o y u f z e p h = refl
tile_at-after (t ∷ ts) new zero y u f z e p h =
    let same : t ≡ u = cc in
    let size : tile_size t ≡ tile_size u = ap tile_size same in
    let back = tile_at-back new ts y z (omega arith) in
    let front = tile_at-back (t ∷ []) ts y (rw size p, tt) (omega arith) in
    let n : y - total_size new ≡ y - (tile_size t + 0) = omega arith in
    back ∙ ap (λ k. tile_at k ts) n ∙ sym front
tile_at-after (t ∷ ts) new (suc o) zero u f z e p h = absurd (omega arith)
tile_at-after (t ∷ ts) new (suc o) (suc y) u f z e p h =
    let q = past (tile_size t) (suc o) _ u f in
    let le : tile_size t ≤ suc y = omega (arith, q.0) in
    rw (le-leb (tile_size t) (suc y) le) (tile_at-after ts new (suc o - tile_size t) (suc y - tile_size t) u q.1 z e p (omega (arith, q.0)))

-- no tile starts inside another
pub tile_at-inside : (ts : List Tile) (o y : ℕ) (u : Tile) → tile_at o ts ≡ Some u → o < y → y < o + tile_size u → tile_at y ts ≡ None
tile_at-inside [] o y u f h k = refl
tile_at-inside (t ∷ ts) o zero u f h k = absurd (omega arith)
tile_at-inside (t ∷ ts) zero (suc y) u f h k =
    let same : t ≡ u = cc in
    let size : tile_size t ≡ tile_size u = ap tile_size same in
    let lt : suc y < tile_size t = omega arith in
    rw (lt-leb (tile_size t) (suc y) lt) refl
tile_at-inside (t ∷ ts) (suc o) (suc y) u f h k =
    let p = past (tile_size t) (suc o) _ u f in
    let le : tile_size t ≤ suc y = omega (arith, p.0) in
    rw (le-leb (tile_size t) (suc y) le)
    (tile_at-inside ts (suc o - tile_size t) (suc y - tile_size t) u p.1 (omega (arith, p.0)) (omega (arith, p.0)))

-- a tile lies within its list
pub tile_at-end : (ts : List Tile) (o : ℕ) (u : Tile) → tile_at o ts ≡ Some u → o + tile_size u ≤ total_size ts
tile_at-end [] o u f = cc
tile_at-end (t ∷ ts) zero u f = let same : t ≡ u = cc in let size : tile_size t ≡ tile_size u = ap tile_size same in omega arith
tile_at-end (t ∷ ts) (suc o) u f =
    let p = past (tile_size t) (suc o) _ u f in
    let i = tile_at-end ts (suc o - tile_size t) u p.1 in
    omega (arith, p.0)

-- a filler, unless it has no words
pub remainder_total : (r : ℕ) → total_size (remainder r) ≡ r
remainder_total zero = refl
remainder_total (suc r) = omega arith

pub remainder_positive : (r : ℕ) → AllPositive (remainder r)
remainder_positive zero = tt
remainder_positive (suc r) = (omega arith, tt)

pub remainder_unmoved : (r : ℕ) → EachForwarded (λ _. ⊥) (remainder r)
remainder_unmoved zero = tt
remainder_unmoved (suc r) = tt

-- a filler gives way to tiles of its size
pub record Replaces (t t' : Table) (x n : ℕ) (new : List Tile) : Type 0 where
  pub size : t'.words_per_region ≡ t.words_per_region
  pub count : length t'.regions ≡ length t.regions
  pub kinds_same : (k : ℕ) → kind_of t' k ≡ kind_of t k
  pub unmoved : HasNoForwarded t → HasNoForwarded t'
  pub within : (j : ℕ) → j < n → tile_in t' (x + j) ≡ tile_at j new
  pub inside : (j : ℕ) → 0 < j → j < n → tile_in t (x + j) ≡ None
  pub others : (y : ℕ) → (y < x) ⊎ (x + n ≤ y) → tile_in t' y ≡ tile_in t y
  pub used : (k : ℕ) → used_of t' k ≡ used_of t k

-- the ordinary region of a filler
record HasTiles (r : Region) (o n : ℕ) : Type 0 where
  tiles : List Tile
  is : r ≡ Ordinary tiles
  there : tile_at o tiles ≡ Some (Filler n)

has_tiles : (r : Region) (o n : ℕ) → region_tile r o ≡ Some (Filler n) → HasTiles r o n
has_tiles Free o n h = cc
has_tiles (Ordinary ts) o n h = record { tiles = ts; is = refl; there = h }
has_tiles (First s) zero n h = cc
has_tiles (First s) (suc o) n h = cc
has_tiles (Rest m) o n h = cc

pub filler_region : (t : Table) (x n : ℕ) → tile_in t x ≡ Some (Filler n)
    → (x / t.words_per_region < length t.regions) × (kind_of t (x / t.words_per_region) ≡ kinds.Ordinary)
unfolding tile_in region_at kind_of nth_region
filler_region t x n h =
    let q = has_tiles _ _ n h in
    (known_region t.regions _ _ _ h, ap region_kind q.is)

pub filler_replaced : (t : Table) (x n : ℕ) (new : List Tile) → 0 < t.words_per_region → AreFitting t → tile_in t x ≡ Some (Filler n)
    → 0 < n → AllPositive new → total_size new ≡ n → EachForwarded (λ _. ⊥) new → Replaces t (replace_tile t x new) x n new
unfolding tile_in region_at kind_of nth_region replace_tile tiles_of used_of
filler_replaced t x n new z fitting h p positive total moved =
    let size : ℕ = t.words_per_region in
    let k : ℕ = x / size in
    let o : ℕ = x % size in
    let q = has_tiles (get_or t.regions k Free) o n h in
    let is = q.is in
    let there = q.there in
    let known = known_region t.regions k o _ h in
    let f = (fitting k).fits (ap region_kind is) in
    let fits : total_size q.tiles ≤ size = subst (λ (r : Region). total_size (region_tiles r) ≤ size) is f in
    let end = tile_at-end q.tiles o (Filler n) there in
    let at : k * size + o ≡ x = omega arith in
    let r : Region = region_replaced (get_or t.regions k Free) o new in
    let ris : r ≡ Ordinary (replace o new q.tiles) = ap (λ (g : Region). region_replaced g o new) is in
    let here : get_or (set t.regions k r) k Free ≡ Ordinary (replace o new q.tiles) = get_or-set_same t.regions k r Free known ∙ ris in
    let after_is : (y : ℕ) → y / size ≡ k
    → region_tile (get_or (set t.regions k r) (y / size) Free) (y % size) ≡ tile_at (y % size) (replace o new q.tiles) =
    λ y e.
    ap (λ (j : ℕ). region_tile (get_or (set t.regions k r) j Free) (y % size)) e ∙ ap (λ (g : Region). region_tile g (y % size)) here in
    let before_is : (y : ℕ) → y / size ≡ k → region_tile (get_or t.regions (y / size) Free) (y % size) ≡ tile_at (y % size) q.tiles =
    λ y e. ap (λ (j : ℕ). region_tile (get_or t.regions j Free) (y % size)) e ∙ ap (λ (g : Region). region_tile g (y % size)) is in
    record {
      size = refl;
      count = length-set t.regions k r;
      kinds_same = λ j. kind_of-replace t x new j known;
      unmoved = λ m. EachForwardedIn-set (λ _. ⊥) t.regions k r
          (replaced-moved (λ _. ⊥) (get_or t.regions k Free) o new moved (EachForwardedIn-at (λ _. ⊥) t.regions k m)) m;
      within = λ j lt.
          let place : k * size + (o + j) ≡ x + j = omega arith in
          let row : (x + j) / size ≡ k = subst (λ (a : ℕ). a / size ≡ k) place (div-mul-add k size (o + j) (omega arith)) in
          let whole : (x + j) / size * size + (x + j) % size ≡ x + j = omega arith in
          let whole' = rw row at whole in
          let column : (x + j) % size ≡ o + j = omega (arith, whole') in
          rw (row, here) (tile_at-within q.tiles new o _ j (Filler n) there column (omega arith));
      inside = λ j lt lt'.
          let place : k * size + (o + j) ≡ x + j = omega arith in
          let row : (x + j) / size ≡ k = subst (λ (a : ℕ). a / size ≡ k) place (div-mul-add k size (o + j) (omega arith)) in
          let whole : (x + j) / size * size + (x + j) % size ≡ x + j = omega arith in
          let whole' = rw row at whole in
          let column : (x + j) % size ≡ o + j = omega (arith, whole') in
          rw (row, is) (tile_at-inside q.tiles o _ (Filler n) there (omega arith) (omega arith));
      others = λ y apart. elim (cases_eq (y / size) k) [
        | inl e ↦
            let whole : y / size * size + y % size ≡ y = omega arith in
            let whole' = rw e at whole in
            elim apart [
              | inl lt ↦
                  after_is y e ∙ tile_at-before q.tiles new o (y % size) (Filler n) there (omega (arith, whole', at)) ∙ sym (before_is y e)
              | inr le ↦ after_is y e ∙ tile_at-after q.tiles new o (y % size) (Filler n) there positive total p (omega (arith, whole', at))
                  ∙ sym (before_is y e)
            ]
        | inr e ↦ ap (λ (g : Region). region_tile g (y % size)) (get_or-set_other t.regions k (y / size) r Free e)
      ];
      used = λ j. elim (cases_eq j k) [
        | inl e ↦ rw e (ap (region_used size) here ∙ total-replace q.tiles new o (Filler n) there total ∙ sym (ap (region_used size) is))
        | inr e ↦ ap (region_used size) (get_or-set_other t.regions k j r Free e)
      ];
    }

-- a tile is pushed at a region's top
pub record Pushed (t t' : Table) (k a : ℕ) (tile : Tile) : Type 0 where
  pub size : t'.words_per_region ≡ t.words_per_region
  pub count : length t'.regions ≡ length t.regions
  pub kinds_same : (j : ℕ) → kind_of t' j ≡ kind_of t j
  pub unmoved : HasNoForwarded t → HasNoForwarded t'
  pub known : k < length t.regions
  pub positive : 0 < tile_size tile
  pub at : a ≡ top_of t k
  pub room : used_of t k + tile_size tile ≤ t.words_per_region
  pub used : used_of t' k ≡ used_of t k + tile_size tile
  pub used_others : (j : ℕ) → j ≢ k → used_of t' j ≡ used_of t j
  pub is : tile_in t' a ≡ Some tile
  pub was : tile_in t a ≡ None
  pub others : (y : ℕ) → y ≢ a → tile_in t' y ≡ tile_in t y

-- past the end is no tile
tile_at-past : (ts : List Tile) (y : ℕ) → AllPositive ts → total_size ts ≤ y → tile_at y ts ≡ None
tile_at-past [] y z h = refl
tile_at-past (t ∷ ts) zero z h = absurd (let p = z.0 in omega arith)
tile_at-past (t ∷ ts) (suc y) z h =
    let le : tile_size t ≤ suc y = omega arith in
    rw (le-leb (tile_size t) (suc y) le) (tile_at-past ts (suc y - tile_size t) z.1 (omega arith))

pub tile_at-alone : (t : Tile) (j : ℕ) → 0 < j → tile_at j (t ∷ []) ≡ None
tile_at-alone t zero h = absurd (omega arith)
tile_at-alone t (suc j) h = elim (leb_tells (tile_size t) (suc j)) [ inl q ↦ rw q.0 refl | inr q ↦ rw q.0 refl ]

tile_at-push_other : (ts : List Tile) (t : Tile) (y : ℕ) → AllPositive ts → y ≢ total_size ts → tile_at y (ts ++ t ∷ []) ≡ tile_at y ts
tile_at-push_other ts t y z n = elim (cases_lt y (total_size ts)) [
  | inl lt ↦ tile_at-front ts (t ∷ []) y lt
  | inr le ↦ tile_at-back ts (t ∷ []) y z le ∙ tile_at-alone t (y - total_size ts) (omega arith) ∙ sym (tile_at-past ts y z le)
]

-- an ordinary region has tiles
pub record IsOrdinaryAt (r : Region) : Type 0 where
  pub tiles : List Tile
  pub is : r ≡ Ordinary tiles

pub ordinary_at : (r : Region) → region_kind r ≡ kinds.Ordinary → IsOrdinaryAt r
ordinary_at (Ordinary ts) h = record { tiles = ts; is = refl }
ordinary_at _ h = cc

pub filler_push : (t : Table) (k : ℕ) (tile : Tile) → 0 < t.words_per_region → AreFitting t → k < length t.regions
    → kind_of t k ≡ kinds.Ordinary → 0 < tile_size tile → used_of t k + tile_size tile ≤ t.words_per_region
    → EachForwarded (λ _. ⊥) (tile ∷ []) → Pushed t (push_tile t k tile) k (k * t.words_per_region + used_of t k) tile
unfolding tile_in region_at kind_of nth_region push_tile tiles_of used_of
filler_push t k tile z fitting known ordinary p room moved =
    let size : ℕ = t.words_per_region in
    let q = ordinary_at (get_or t.regions k Free) ordinary in
    let is = q.is in
    let positive : AllPositive q.tiles = subst (λ (r : Region). AllPositive (region_tiles r)) is (fitting k).positive in
    let used : region_used size (get_or t.regions k Free) ≡ total_size q.tiles = ap (region_used size) is in
    let r : Region = region_with_tile (get_or t.regions k Free) tile in
    let ris : r ≡ Ordinary (q.tiles ++ tile ∷ []) = ap (λ (g : Region). region_with_tile g tile) is in
    let here : get_or (set t.regions k r) k Free ≡ Ordinary (q.tiles ++ tile ∷ []) = get_or-set_same t.regions k r Free known ∙ ris in
    let a : ℕ = k * size + region_used size (get_or t.regions k Free) in
    let row : a / size ≡ k = div-mul-add k size (region_used size (get_or t.regions k Free)) (omega arith) in
    let whole : a / size * size + a % size ≡ a = omega arith in
    let whole' : k * size + a % size ≡ a = rw row at whole in
    let column : a % size ≡ total_size q.tiles = omega (arith, used, whole') in
    let zero_at : total_size q.tiles - total_size q.tiles ≡ 0 = omega arith in
    record {
      size = refl;
      count = length-set t.regions k r;
      kinds_same = λ j. elim (cases_eq j k) [
        | inl e ↦ rw e (ap region_kind here ∙ sym ordinary)
        | inr e ↦ ap region_kind (get_or-set_other t.regions k j r Free e)
      ];
      unmoved = λ m. EachForwardedIn-set (λ _. ⊥) t.regions k r
          (with_tile-moved (λ _. ⊥) (get_or t.regions k Free) tile moved (EachForwardedIn-at (λ _. ⊥) t.regions k m)) m;
      known = known;
      positive = p;
      at = refl;
      room = room;
      used = ap (region_used size) here ∙ total-append q.tiles (tile ∷ [])
          ∙ (let zero_more : tile_size tile + 0 ≡ tile_size tile = omega arith in rw (zero_more, used) refl);
      used_others = λ j n. ap (region_used size) (get_or-set_other t.regions k j r Free n);
      is = ap (λ (j : ℕ). region_tile (get_or (set t.regions k r) j Free) (a % size)) row
          ∙ ap (λ (g : Region). region_tile g (a % size)) here ∙ ap (λ (j : ℕ). tile_at j (q.tiles ++ tile ∷ [])) column
          ∙ tile_at-back q.tiles (tile ∷ []) (total_size q.tiles) positive (omega arith) ∙ ap (λ (j : ℕ). tile_at j (tile ∷ [])) zero_at;
      was = ap (λ (j : ℕ). region_tile (get_or t.regions j Free) (a % size)) row ∙ ap (λ (g : Region). region_tile g (a % size)) is
          ∙ ap (λ (j : ℕ). tile_at j q.tiles) column ∙ tile_at-past q.tiles (total_size q.tiles) positive (omega arith);
      others = λ y apart. elim (cases_eq (y / size) k) [
        | inl e ↦
            let whole : y / size * size + y % size ≡ y = omega arith in
            let whole' : k * size + y % size ≡ y = rw e at whole in
            let ne : y % size ≢ total_size q.tiles = λ h. apart (omega (arith, h, used, whole')) in
            ap (λ (j : ℕ). region_tile (get_or (set t.regions k r) j Free) (y % size)) e
            ∙ ap (λ (g : Region). region_tile g (y % size)) here ∙ tile_at-push_other q.tiles tile (y % size) positive ne
            ∙ sym (ap (λ (j : ℕ). region_tile (get_or t.regions j Free) (y % size)) e ∙ ap (λ (g : Region). region_tile g (y % size)) is)
        | inr e ↦ ap (λ (g : Region). region_tile g (y % size)) (get_or-set_other t.regions k (y / size) r Free e)
      ];
    }

pub free_is : (r : Region) → is_free r ≡ true → r ≡ Free
free_is Free h = refl
free_is _ h = cc

-- a free region is taken
pub record Takes (t t' : Table) (k : ℕ) : Type 0 where
  pub size : t'.words_per_region ≡ t.words_per_region
  pub known : k < length t'.regions
  pub ordinary : kind_of t' k ≡ kinds.Ordinary
  pub was : kind_of t k ≡ kinds.Free
  pub kinds_same : (j : ℕ) → kind_of t j ≡ kinds.Ordinary → kind_of t' j ≡ kinds.Ordinary
  pub in_use : (j : ℕ) → kind_of t j ≢ kinds.Free → kind_of t' j ≢ kinds.Free
  pub count : length t'.regions ≡ length t.regions
  pub unmoved : HasNoForwarded t → HasNoForwarded t'
  pub empty : used_of t' k ≡ 0
  pub used : (j : ℕ) → used_of t' j ≡ used_of t j
  pub others : (y : ℕ) → tile_in t' y ≡ tile_in t y

pub region_taken : (t : Table) (k : ℕ) → first_free t ≡ Some k → Takes t (taken t (Some k)) k
unfolding tile_in region_at kind_of nth_region used_of
region_taken t k h =
    let size : ℕ = t.words_per_region in
    let p = position-Some is_free t.regions k Free h in
    let is : get_or t.regions k Free ≡ Free = free_is _ p.1 in
    let known : k < length t.regions = p.0 in
    let here = get_or-set_same t.regions k (Ordinary []) Free known in
    record {
      size = refl;
      known = rw length-set known;
      ordinary = ap region_kind here;
      was = ap region_kind is;
      kinds_same = λ j o. elim (cases_eq j k) [
        | inl e ↦ rw e (ap region_kind here)
        | inr e ↦ ap region_kind (get_or-set_other t.regions k j (Ordinary []) Free e) ∙ o
      ];
      in_use = λ j n h. elim (cases_eq j k) [
        | inl e ↦ n (ap (λ (i : ℕ). region_kind (get_or t.regions i Free)) e ∙ ap region_kind is)
        | inr e ↦ n (sym (ap region_kind (get_or-set_other t.regions k j (Ordinary []) Free e)) ∙ h)
      ];
      count = length-set t.regions k (Ordinary []);
      unmoved = λ m. EachForwardedIn-set (λ _. ⊥) t.regions k (Ordinary []) (tt, tt) m;
      empty = ap (region_used size) here;
      used = λ j. elim (cases_eq j k) [
        | inl e ↦ rw e (ap (region_used size) here ∙ sym (ap (region_used size) is))
        | inr e ↦ ap (region_used size) (get_or-set_other t.regions k j (Ordinary []) Free e)
      ];
      others = λ y. elim (cases_eq (y / size) k) [
        | inl e ↦ ap (λ (j : ℕ). region_tile (get_or (set t.regions k (Ordinary [])) j Free) (y % size)) e
            ∙ ap (λ (g : Region). region_tile g (y % size)) here
            ∙ sym (ap (λ (j : ℕ). region_tile (get_or t.regions j Free) (y % size)) e ∙ ap (λ (g : Region). region_tile g (y % size)) is)
        | inr e ↦ ap (λ (g : Region). region_tile g (y % size)) (get_or-set_other t.regions k (y / size) (Ordinary []) Free e)
      ];
    }
