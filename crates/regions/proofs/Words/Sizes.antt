-- The sizes of moved objects are read at their new places: what keeps those headers keeps the tiles.
-- the two give one size to each moved tile
use Rattle.regions.proofs.Common.{EachForwardedIn, EachForwarded, regions_of, header_of, Forwarded, tile_size, region_by, Ordinary, replace}
use Rattle.regions.proofs.Common.{tile_by, size_by, IsTiled, AreRows, Option, get_or, Header, Object, Filler, Region, tiles, First, IsRow}
use Rattle.regions.proofs.Common.{zero, Some, List, ◌++◌, take, drop, refl, Tile, Free, Rest, Kind, ◌≡◌, suc, ◌-◌, ◌∷◌, set, Row, [], ap, ℕ}
use Rattle.heap_words.specs.declared.header.Header.TheVariants as headers
use Rattle.regions.specs.declared.row.Kind.TheVariants as kinds

abbrev pub AgreeOn : (ℕ → ℕ) → (ℕ → ℕ) → List Tile → Type 0
AgreeOn f g ts = EachForwarded (λ to. g to ≡ f to) ts

abbrev pub AgreeIn : (ℕ → ℕ) → (ℕ → ℕ) → List Region → Type 0
AgreeIn f g rs = EachForwardedIn (λ to. g to ≡ f to) rs

record SameTile (f g : ℕ → ℕ) (o : Option Header) (ws : List ℕ) (ts : List Tile) : Type 0 where
  pub tile_is : tile_by g ws o ≡ tile_by f ws o
  pub size_is : size_by g o ≡ size_by f o
  pub others : AgreeOn f g ts

same_tile : (f g : ℕ → ℕ) (o : Option Header) (ws : List ℕ) (ts : List Tile) → AgreeOn f g (tile_by f ws o ∷ ts) → SameTile f g o ws ts
same_tile f g (Some (headers.Forwarded to)) ws ts a = record { tile_is = ap (Forwarded to) a.0; size_is = a.0; others = a.1 }
same_tile f g _ ws ts a = record { tile_is = refl; size_is = refl; others = a }

pub tiles-agree : (f g : ℕ → ℕ) (k : ℕ) (ws : List ℕ) → AgreeOn f g (tiles f k ws) → tiles g k ws ≡ tiles f k ws
tiles-agree f g k [] a = refl
tiles-agree f g zero (w ∷ ws) a =
    let s = same_tile f g (header_of w) ws (tiles f (size_by f (header_of w) - 1) ws) a in
    let i = tiles-agree f g (size_by f (header_of w) - 1) ws s.others in
    rw (s.tile_is, s.size_is, i) refl
tiles-agree f g (suc k) (w ∷ ws) a = tiles-agree f g k ws a

pub IsTiled-agree : (f g : ℕ → ℕ) (k : ℕ) (ws : List ℕ) → AgreeOn f g (tiles f k ws) → IsTiled f k ws → IsTiled g k ws
IsTiled-agree f g k [] a t = t
IsTiled-agree f g zero (w ∷ ws) a t =
    let s = same_tile f g (header_of w) ws (tiles f (size_by f (header_of w) - 1) ws) a in
    let i = IsTiled-agree f g (size_by f (header_of w) - 1) ws s.others t.2 in
    rw s.size_is (t.0, t.1, i)
IsTiled-agree f g (suc k) (w ∷ ws) a t = IsTiled-agree f g k ws a t

record SameRegion (f g : ℕ → ℕ) (size : ℕ) (ws : List ℕ) (used : ℕ) (kind : Kind) (rs : List Region) : Type 0 where
  pub region_is : region_by g ws used kind ≡ region_by f ws used kind
  pub row_is : IsRow f size ws used kind → IsRow g size ws used kind
  pub others : AgreeIn f g rs

same_region : (f g : ℕ → ℕ) (size : ℕ) (ws : List ℕ) (used : ℕ) (kind : Kind) (rs : List Region)
    → AgreeIn f g (region_by f ws used kind ∷ rs) → SameRegion f g size ws used kind rs
same_region f g size ws used kinds.Free rs a = record { region_is = refl; row_is = λ r. r; others = a }
same_region f g size ws used kinds.Ordinary rs a = record {
  region_is = ap Ordinary (tiles-agree f g 0 (take used ws) a.0);
  row_is = λ r. (r.0, IsTiled-agree f g 0 (take used ws) a.0 r.1);
  others = a.1;
}
same_region f g size ws used kinds.First rs a = record { region_is = refl; row_is = λ r. r; others = a }
same_region f g size ws used kinds.Rest rs a = record { region_is = refl; row_is = λ r. r; others = a }

pub regions-agree : (f g : ℕ → ℕ) (size : ℕ) (ws : List ℕ) (rows : List Row) → AgreeIn f g (regions_of f size ws rows)
    → regions_of g size ws rows ≡ regions_of f size ws rows
regions-agree f g size ws [] a = refl
regions-agree f g size ws (row ∷ rows) a =
    let s = same_region f g size ws row.used row.kind (regions_of f size (drop size ws) rows) a in
    rw (s.region_is, regions-agree f g size (drop size ws) rows s.others) refl

pub AreRows-agree : (f g : ℕ → ℕ) (size : ℕ) (rows : List Row) (left : ℕ) (ws : List ℕ) → AgreeIn f g (regions_of f size ws rows)
    → AreRows f size left ws rows → AreRows g size left ws rows
AreRows-agree f g size [] left ws a r = r
AreRows-agree f g size (row ∷ rows) zero ws a r =
    let s = same_region f g size ws row.used row.kind (regions_of f size (drop size ws) rows) a in
    (s.row_is r.0, AreRows-agree f g size rows _ (drop size ws) s.others r.1)
AreRows-agree f g size (row ∷ rows) (suc left) ws a r =
    let s = same_region f g size ws row.used row.kind (regions_of f size (drop size ws) rows) a in
    (r.0, AreRows-agree f g size rows (suc left - size) (drop size ws) s.others r.1)

pub EachForwarded-imp : (P Q : ℕ → Type 0) (ts : List Tile) → ((to : ℕ) → P to → Q to) → EachForwarded P ts → EachForwarded Q ts
EachForwarded-imp P Q [] h a = tt
EachForwarded-imp P Q (Object s ∷ ts) h a = EachForwarded-imp P Q ts h a
EachForwarded-imp P Q (Filler n ∷ ts) h a = EachForwarded-imp P Q ts h a
EachForwarded-imp P Q (Forwarded to n ∷ ts) h a = (h to a.0, EachForwarded-imp P Q ts h a.1)

pub EachForwardedIn-imp : (P Q : ℕ → Type 0) (rs : List Region) → ((to : ℕ) → P to → Q to) → EachForwardedIn P rs → EachForwardedIn Q rs
EachForwardedIn-imp P Q [] h a = tt
EachForwardedIn-imp P Q (Free ∷ rs) h a = EachForwardedIn-imp P Q rs h a
EachForwardedIn-imp P Q (Ordinary ts ∷ rs) h a = (EachForwarded-imp P Q ts h a.0, EachForwardedIn-imp P Q rs h a.1)
EachForwardedIn-imp P Q (First s ∷ rs) h a = EachForwardedIn-imp P Q rs h a
EachForwardedIn-imp P Q (Rest n ∷ rs) h a = EachForwardedIn-imp P Q rs h a

-- a region whose moved tiles are so, in the place of another
tail_of : (P : ℕ → Type 0) (r : Region) (rs : List Region) → EachForwardedIn P (r ∷ rs) → EachForwardedIn P rs
tail_of P (Ordinary ts) rs a = a.1
tail_of P _ rs a = a

join : (P : ℕ → Type 0) (r : Region) (rs : List Region) → EachForwardedIn P (r ∷ []) → EachForwardedIn P rs → EachForwardedIn P (r ∷ rs)
join P (Ordinary ts) rs h a = (h.0, a)
join P _ rs h a = a

pub EachForwardedIn-set : (P : ℕ → Type 0) (rs : List Region) (k : ℕ) (r : Region) → EachForwardedIn P (r ∷ [])
    → EachForwardedIn P rs → EachForwardedIn P (set rs k r)
EachForwardedIn-set P [] k r h a = tt
EachForwardedIn-set P (q ∷ rs) zero r h a = join P r rs h (tail_of P q rs a)
EachForwardedIn-set P (Free ∷ rs) (suc k) r h a = EachForwardedIn-set P rs k r h a
EachForwardedIn-set P (Ordinary ts ∷ rs) (suc k) r h a = (a.0, EachForwardedIn-set P rs k r h a.1)
EachForwardedIn-set P (First s ∷ rs) (suc k) r h a = EachForwardedIn-set P rs k r h a
EachForwardedIn-set P (Rest n ∷ rs) (suc k) r h a = EachForwardedIn-set P rs k r h a

pub EachForwardedIn-at : (P : ℕ → Type 0) (rs : List Region) (k : ℕ) → EachForwardedIn P rs → EachForwardedIn P (get_or rs k Free ∷ [])
EachForwardedIn-at P (Ordinary ts ∷ rs) zero a = (a.0, tt)
EachForwardedIn-at P (q ∷ rs) (suc k) a = EachForwardedIn-at P rs k (tail_of P q rs a)
EachForwardedIn-at P _ _ a = tt

pub EachForwarded-append : (P : ℕ → Type 0) (ts us : List Tile) → EachForwarded P ts → EachForwarded P us → EachForwarded P (ts ++ us)
EachForwarded-append P [] us a b = b
EachForwarded-append P (Object s ∷ ts) us a b = EachForwarded-append P ts us a b
EachForwarded-append P (Filler n ∷ ts) us a b = EachForwarded-append P ts us a b
EachForwarded-append P (Forwarded to n ∷ ts) us a b = (a.0, EachForwarded-append P ts us a.1 b)

pub EachForwarded-replace : (P : ℕ → Type 0) (o : ℕ) (new ts : List Tile) → EachForwarded P new
    → EachForwarded P ts → EachForwarded P (replace o new ts)
EachForwarded-replace P o new [] h a = tt
EachForwarded-replace P zero new (Object s ∷ ts) h a = EachForwarded-append P new ts h a
EachForwarded-replace P zero new (Filler n ∷ ts) h a = EachForwarded-append P new ts h a
EachForwarded-replace P zero new (Forwarded to n ∷ ts) h a = EachForwarded-append P new ts h a.1
EachForwarded-replace P (suc o) new (Object s ∷ ts) h a = EachForwarded-replace P (suc o - tile_size (Object s)) new ts h a
EachForwarded-replace P (suc o) new (Filler n ∷ ts) h a = EachForwarded-replace P (suc o - n) new ts h a
EachForwarded-replace P (suc o) new (Forwarded to n ∷ ts) h a = (a.0, EachForwarded-replace P (suc o - n) new ts h a.1)
