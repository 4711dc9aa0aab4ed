-- What a moved tile tells of its new place.
use Rattle.regions.proofs.Common.{◌≡◌, ◌-◌, ◌/◌, ◌%◌, ◌∷◌, ◌∙◌, ℕ, zero, suc, Option, Some, None, List, [], get_or, refl, sym, ap, subst}
use Rattle.regions.proofs.Common.{IsSome, Header, header_of, Tile, Object, Filler, Forwarded, tile_size, tile_at, Region, Free, Ordinary}
use Rattle.regions.proofs.Common.{First, Rest, Table, region_tile, region_at, tile_in, EachForwarded, EachForwardedIn, HasObject, moved_to}
use Rattle.regions.proofs.Common.{sizes_in, table_of, IsTable, header_target, shape_by, tile_shape, Row}
use Rattle.heap_words.specs.declared.header.Header.TheVariants as headers
use Rattle.regions.specs.Table.{AreTargetsRight}
use Rattle.regions.proofs.Words.Parse.{past}
use Rattle.regions.proofs.Words.Sizes.{EachForwardedIn-at}
use Rattle.regions.proofs.Tiles.Making.{targets_of}
use Rattle.regions.proofs.Words.ObjectWords.{there}
use Rattle.regions.proofs.Tiles.Shown.{tile_shown, some_tile}
use Rattle.regions.specs.declared.row.Shape.TheVariants as shapes

moved_at : (P : ℕ → Type 0) (ts : List Tile) (o to n : ℕ) → tile_at o ts ≡ Some (Forwarded to n) → EachForwarded P ts → P to
moved_at P (Forwarded at m ∷ ts) zero to n h a = let e : at ≡ to = cc in subst P e a.0
moved_at P (Object s ∷ ts) (suc o) to n h a =
    moved_at P ts (suc o - tile_size (Object s)) to n (past (tile_size (Object s)) (suc o) _ (Forwarded to n) h).1 a
moved_at P (Filler m ∷ ts) (suc o) to n h a = moved_at P ts (suc o - m) to n (past m (suc o) _ (Forwarded to n) h).1 a
moved_at P (Forwarded at m ∷ ts) (suc o) to n h a = moved_at P ts (suc o - m) to n (past m (suc o) _ (Forwarded to n) h).1 a.1
moved_at P _ _ to n h a = cc

moved_region : (P : ℕ → Type 0) (r : Region) (o to n : ℕ) → region_tile r o ≡ Some (Forwarded to n) → EachForwardedIn P (r ∷ []) → P to
moved_region P Free o to n h a = cc
moved_region P (Ordinary ts) o to n h a = moved_at P ts o to n h a.0
moved_region P (First s) zero to n h a = cc
moved_region P (First s) (suc o) to n h a = cc
moved_region P (Rest m) o to n h a = cc

-- what holds of each moved tile holds of the one at an address
pub moved_in : (P : ℕ → Type 0) (t : Table) (x to n : ℕ) → EachForwardedIn P t.regions → tile_in t x ≡ Some (Forwarded to n) → P to
unfolding tile_in region_at
moved_in P t x to n a h = moved_region P (get_or t.regions (x / t.words_per_region) Free) (x % t.words_per_region) to n h
    (EachForwardedIn-at P t.regions (x / t.words_per_region) a)

moved_shape : (f : ℕ → ℕ) (o : Option Header) (to n : ℕ) → shape_by f o ≡ shapes.Forwarded to n → n ≡ f to
moved_shape f (Some (headers.Forwarded at)) to n h = let a : at ≡ to = cc in let b : f at ≡ n = cc in sym b ∙ ap f a
moved_shape f _ to n h = cc

pub targets_right : (size : ℕ) (words : List ℕ) (rows : List Row) (t : Table) → IsTable size words rows
    → table_of size words rows ≡ t → AreTargetsRight t
targets_right size words rows t g e x to n h =
    let o = moved_in (HasObject t) t x to n (targets_of size words rows t g e) h in
    let s = tile_shown size words rows t x (Forwarded to n) g e h in
    let i = there size words rows t to o.object g e o.is in
    (o, sym i.size_is ∙ sym (moved_shape (sizes_in words) (header_of (get_or words x 0)) to n s.shape_is))

target_shape : (f : ℕ → ℕ) (o : Option Header) (t : Tile) → shape_by f o ≡ tile_shape t → header_target o ≡ moved_to (Some t)
target_shape f None (Forwarded to n) h = cc
target_shape f (Some (headers.Object p weak d)) (Forwarded to n) h = cc
target_shape f (Some (headers.Pairs p m d)) (Forwarded to n) h = cc
target_shape f (Some (headers.Filler m)) (Forwarded to n) h = cc
target_shape f (Some (headers.Forwarded at)) (Object s) h = cc
target_shape f (Some (headers.Forwarded at)) (Filler n) h = cc
target_shape f (Some (headers.Forwarded at)) (Forwarded to n) h = cc
target_shape f _ _ h = refl

pub target_is : (size : ℕ) (words : List ℕ) (rows : List Row) (t : Table) (x : ℕ) → IsTable size words rows → table_of size words rows ≡ t
    → IsSome (tile_in t x) → header_target (header_of (get_or words x 0)) ≡ moved_to (tile_in t x)
target_is size words rows t x g e h =
    let s = some_tile (tile_in t x) h in
    let i = tile_shown size words rows t x s.0 g e s.1 in
    target_shape (sizes_in words) (header_of (get_or words x 0)) s.0 i.shape_is ∙ sym (ap moved_to s.1)
