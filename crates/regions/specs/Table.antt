-- A table of regions, as callers see it: regions of tiles, and no words.
use Rattle.std.specs.Prelude.{◌≡◌, ◌+◌, ◌-◌, ◌*◌, ◌/◌, ◌%◌, ◌≤◌, ◌∷◌, ◌++◌, if◌then◌else◌, ℕ, zero, suc, Option, Some, None, List, []}
use Rattle.std.specs.Prelude.{slice_index_or, slice_set, replicate, min, position, count_by, Bool, true, false, take, drop, nat_le}
use Rattle.heap_model.specs.Heap.{Stored, fields, with_field}
use Rattle.regions.specs.Tiles.{Tile, Object, Filler, Forwarded, tile_size, tile_at, replace, total_size}
use Rattle.regions.specs.declared.row.Kind.{Kind}
use Rattle.regions.specs.declared.row.Kind.TheVariants as kinds

-- a free region; an ordinary one by its tiles; the first of a run by the run's object; a later one of a run by
-- how many of its words are the object's
pub data Region : Type 0 where
  Free : Region
  Ordinary : List Tile → Region
  First : Stored → Region
  Rest : ℕ → Region

-- equally large regions, in address order
pub record Table : Type 0 where
  pub words_per_region : ℕ
  pub regions : List Region

-- the tile that starts at an offset from the region's bottom
abbrev pub region_tile : Region → ℕ → Option Tile
region_tile (Ordinary ts) o = tile_at o ts
region_tile (First s) zero = Some (Object s)
region_tile _ _ = None

-- the region of an address
unfoldable pub region_at : Table → ℕ → Region
region_at t a = slice_index_or t.regions (a / t.words_per_region) Free

-- the tile that starts at an address
unfoldable pub tile_in : Table → ℕ → Option Tile
tile_in t a = region_tile (region_at t a) (a % t.words_per_region)

-- the object that a tile is
abbrev pub tile_object : Option Tile → Option Stored
tile_object (Some (Object s)) = Some s
tile_object _ = None

-- the object that starts at an address
unfoldable pub object_at : Table → ℕ → Option Stored
object_at t a = tile_object (tile_in t a)

-- an object's pointers
abbrev pub object_pointers : Option Stored → List (Option ℕ)
object_pointers None = []
object_pointers (Some s) = s.pointers

-- the pointers of the object at an address, none where there is no object
unfoldable pub pointers_at : Table → ℕ → List (Option ℕ)
pointers_at t a = object_pointers (object_at t a)

-- an object's weak slots
abbrev pub object_weaks : Option Stored → List (Option ℕ)
object_weaks None = []
object_weaks (Some s) = s.weaks

-- the weak slots of the object at an address, none where there is no object
unfoldable pub weaks_at : Table → ℕ → List (Option ℕ)
weaks_at t a = object_weaks (object_at t a)

-- an object's held slots
abbrev pub object_held : Option Stored → List (Option ℕ)
object_held None = []
object_held (Some s) = s.held

-- the held slots of the object at an address, none where there is no object
unfoldable pub held_at : Table → ℕ → List (Option ℕ)
held_at t a = object_held (object_at t a)

-- an object's fields
abbrev pub object_fields : Option Stored → List (Option ℕ)
object_fields None = []
object_fields (Some s) = fields s

-- the fields of the object at an address, none where there is no object
unfoldable pub fields_at : Table → ℕ → List (Option ℕ)
fields_at t a = object_fields (object_at t a)

-- the region with another object at the offset
abbrev pub with_object : Region → ℕ → Stored → Region
with_object Free o s = Free
with_object (Ordinary ts) o s = Ordinary (replace o (Object s ∷ []) ts)
with_object (First old) o s = First s
with_object (Rest n) o s = Rest n

-- the table with another object at the address, and otherwise as it is
unfoldable pub put_object : Table → ℕ → Stored → Table
put_object t a s = record {
  words_per_region = t.words_per_region;
  regions = slice_set t.regions (a / t.words_per_region) (with_object (region_at t a) (a % t.words_per_region) s);
}

abbrev pub set_pointer_of : Table → ℕ → ℕ → Option ℕ → Option Stored → Table
set_pointer_of t a i v None = t
set_pointer_of t a i v (Some s) = put_object t a (record s { pointers = slice_set s.pointers i v })

-- the table with one pointer of the object at the address changed
unfoldable pub set_pointer : Table → ℕ → ℕ → Option ℕ → Table
set_pointer t a i v = set_pointer_of t a i v (object_at t a)

abbrev pub set_field_of : Table → ℕ → ℕ → Option ℕ → Option Stored → Table
set_field_of t a i v None = t
set_field_of t a i v (Some s) = put_object t a (with_field s i v)

-- the table with one field of the object at the address changed
unfoldable pub set_field : Table → ℕ → ℕ → Option ℕ → Table
set_field t a i v = set_field_of t a i v (object_at t a)

-- the new place of each moved object is so
abbrev pub EachForwarded : (ℕ → Type 0) → List Tile → Type 0
EachForwarded P [] = Unit {0}
EachForwarded P (Object s ∷ ts) = EachForwarded P ts
EachForwarded P (Filler n ∷ ts) = EachForwarded P ts
EachForwarded P (Forwarded to n ∷ ts) = P to × EachForwarded P ts

-- the same in all regions
abbrev pub EachForwardedIn : (ℕ → Type 0) → List Region → Type 0
EachForwardedIn P [] = Unit {0}
EachForwardedIn P (Free ∷ rs) = EachForwardedIn P rs
EachForwardedIn P (Ordinary ts ∷ rs) = EachForwarded P ts × EachForwardedIn P rs
EachForwardedIn P (First s ∷ rs) = EachForwardedIn P rs
EachForwardedIn P (Rest n ∷ rs) = EachForwardedIn P rs

-- nothing is moved now
abbrev pub HasNoForwarded : Table → Type 0
HasNoForwarded t = EachForwardedIn (λ _. ⊥) t.regions

-- an object starts at the address
pub record HasObject (t : Table) (x : ℕ) : Type 0 where
  pub object : Stored
  pub is : object_at t x ≡ Some object

-- the new place of each moved object is the start of an object
abbrev pub HasTargets : Table → Type 0
HasTargets t = EachForwardedIn (HasObject t) t.regions

-- an object's words
abbrev pub stored_size : Option Stored → ℕ
stored_size None = 0
stored_size (Some s) = tile_size (Object s)

-- how many words the object at an address has, 0 where there is none
unfoldable pub object_words : Table → ℕ → ℕ
object_words t a = stored_size (object_at t a)

-- an object's data
abbrev pub object_values : Option Stored → List ℕ
object_values None = []
object_values (Some s) = s.values

-- the data of the object at an address, none where there is no object
unfoldable pub values_at : Table → ℕ → List ℕ
values_at t a = object_values (object_at t a)

abbrev pub set_weak_of : Table → ℕ → ℕ → Option ℕ → Option Stored → Table
set_weak_of t a i v None = t
set_weak_of t a i v (Some s) = put_object t a (record s { weaks = slice_set s.weaks i v })

-- the table with one weak slot of the object at the address changed
unfoldable pub set_weak : Table → ℕ → ℕ → Option ℕ → Table
set_weak t a i v = set_weak_of t a i v (object_at t a)

abbrev pub set_held_of : Table → ℕ → ℕ → Option ℕ → Option Stored → Table
set_held_of t a i v None = t
set_held_of t a i v (Some s) = put_object t a (record s { held = slice_set s.held i v })

-- the table with one held slot of the object at the address changed
unfoldable pub set_held : Table → ℕ → ℕ → Option ℕ → Table
set_held t a i v = set_held_of t a i v (object_at t a)

abbrev pub set_value_of : Table → ℕ → ℕ → ℕ → Option Stored → Table
set_value_of t a i v None = t
set_value_of t a i v (Some s) = put_object t a (record s { values = slice_set s.values i v })

-- the table with one data word of the object at the address changed
unfoldable pub set_value : Table → ℕ → ℕ → ℕ → Table
set_value t a i v = set_value_of t a i v (object_at t a)

-- the table with data words of the object at the address changed, one after another from one on
abbrev pub set_values : Table → ℕ → ℕ → List ℕ → Table
set_values t a i [] = t
set_values t a i (v ∷ vs) = set_values (set_value t a i v) a (suc i) vs

-- the region is ordinary
abbrev pub IsOrdinary : Region → Type 0
IsOrdinary (Ordinary ts) = Unit {0}
IsOrdinary _ = ⊥

-- whether a region is free
abbrev pub is_free : Region → Bool
is_free Free = true
is_free _ = false

-- the lowest free region
abbrev pub first_free : Table → Option ℕ
first_free t = position is_free t.regions

-- how many regions are free
abbrev pub free_count : Table → ℕ
free_count t = count_by is_free t.regions

-- the table with another region in place of region k
abbrev pub with_region : Table → ℕ → Region → Table
with_region t k r = record { words_per_region = t.words_per_region; regions = slice_set t.regions k r }

-- the table once a region is taken, if there is one
abbrev pub taken : Table → Option ℕ → Table
taken t None = t
taken t (Some k) = with_region t k (Ordinary [])

-- how many words of a region are handed out
abbrev pub region_used : ℕ → Region → ℕ
region_used size Free = 0
region_used size (Ordinary ts) = total_size ts
region_used size (First s) = min size (tile_size (Object s))
region_used size (Rest n) = n

-- region k, free past the end
unfoldable pub nth_region : Table → ℕ → Region
nth_region t k = slice_index_or t.regions k Free

-- how many words of region k are handed out
unfoldable pub used_of : Table → ℕ → ℕ
used_of t k = region_used t.words_per_region (nth_region t k)

-- one more tile at the region's top
abbrev pub region_with_tile : Region → Tile → Region
region_with_tile Free t = Free
region_with_tile (Ordinary ts) t = Ordinary (ts ++ t ∷ [])
region_with_tile (First s) t = First s
region_with_tile (Rest n) t = Rest n

-- the table with one more tile at the top of region k
unfoldable pub push_tile : Table → ℕ → Tile → Table
push_tile t k tile = with_region t k (region_with_tile (nth_region t k) tile)

-- an object just made, with p nil pointers, so many nil weak slots, no held slots and d zeros
abbrev pub new_object : ℕ → ℕ → ℕ → ℕ → Stored
new_object name p weak d = record {
  name = name;
  pointers = replicate p None;
  weaks = replicate weak None;
  held = [];
  values = replicate d 0;
}

-- an object of pairs just made, with p nil pointers, n nil keys that hold nothing, and d zeros
abbrev pub new_pairs : ℕ → ℕ → ℕ → ℕ → Stored
new_pairs name p n d = record {
  name = name;
  pointers = replicate p None;
  weaks = replicate n None;
  held = replicate n None;
  values = replicate d 0;
}

-- what a region is
abbrev pub region_kind : Region → Kind
region_kind Free = kinds.Free
region_kind (Ordinary ts) = kinds.Ordinary
region_kind (First s) = kinds.First
region_kind (Rest n) = kinds.Rest

-- what region k is
unfoldable pub kind_of : Table → ℕ → Kind
kind_of t k = region_kind (nth_region t k)

-- each object in an ordinary region has at most half of the region's words
abbrev pub AreHalves : Table → Type 0
AreHalves t = (a : ℕ) (object : Stored) → object_at t a ≡ Some object → kind_of t (a / t.words_per_region) ≡ kinds.Ordinary
    → 2 * tile_size (Object object) ≤ t.words_per_region

-- so many free regions of so many words
unfoldable pub free_table : ℕ → ℕ → Table
free_table count size = record { words_per_region = size; regions = replicate count Free }

-- the tile at an offset gives way to others
abbrev pub region_replaced : Region → ℕ → List Tile → Region
region_replaced Free o new = Free
region_replaced (Ordinary ts) o new = Ordinary (replace o new ts)
region_replaced (First s) o new = First s
region_replaced (Rest n) o new = Rest n

-- the table in which the tile at an address gives way to others
unfoldable pub replace_tile : Table → ℕ → List Tile → Table
replace_tile t a new = with_region t (a / t.words_per_region) (region_replaced (region_at t a) (a % t.words_per_region) new)

-- a filler, unless it has no words
abbrev pub remainder : ℕ → List Tile
remainder zero = []
remainder (suc n) = Filler (suc n) ∷ []

-- how many elements pass before the first that doesn't
abbrev pub front_count : {A : Type 0} → (A → Bool) → List A → ℕ
front_count passes [] = 0
front_count passes (x ∷ xs) = if passes x then suc (front_count passes xs) else 0

-- the same place, seen from one element before
abbrev pub behind_one : Option ℕ → Option ℕ
behind_one None = None
behind_one (Some k) = Some (suc k)

-- the lowest place from which m in a row are free
abbrev pub first_run : {A : Type 0} → (A → Bool) → ℕ → List A → Option ℕ
first_run free m [] = None
first_run free m (x ∷ xs) = if nat_le m (front_count free (x ∷ xs)) then Some 0 else behind_one (first_run free m xs)

-- the regions i and so on of an object of s words, m of them
abbrev pub rests : ℕ → ℕ → ℕ → ℕ → List Region
rests size s i zero = []
rests size s i (suc m) = Rest (min size (s - i * size)) ∷ rests size s (suc i) m

-- the regions of a humongous object, m of them
abbrev pub run_regions : ℕ → Stored → ℕ → List Region
run_regions size s zero = []
run_regions size s (suc m) = First s ∷ rests size (tile_size (Object s)) 1 m

-- m regions from k on give way to others
abbrev pub with_regions : Table → ℕ → ℕ → List Region → Table
with_regions t k m block = record { words_per_region = t.words_per_region; regions = take k t.regions ++ (block ++ drop (k + m) t.regions) }

-- the table with a humongous object in a run of m regions, if there is one
abbrev pub with_run : Table → ℕ → Stored → Option ℕ → Table
with_run t m s None = t
with_run t m s (Some k) = with_regions t k m (run_regions t.words_per_region s m)

-- whether a region is a later one of a run
abbrev pub is_rest : Region → Bool
is_rest (Rest n) = true
is_rest _ = false

-- how many regions the run that begins at k has
abbrev pub run_length : Table → ℕ → ℕ
run_length t k = suc (front_count is_rest (drop (suc k) t.regions))

-- the table without the run that begins at k
abbrev pub without_run : Table → ℕ → Table
without_run t k = with_regions t k (run_length t k) (replicate (run_length t k) Free)

-- what can be released: an ordinary region, or the first of a run
abbrev pub IsReleasable : Kind → Type 0
IsReleasable kinds.Ordinary = Unit {0}
IsReleasable kinds.First = Unit {0}
IsReleasable _ = ⊥

abbrev pub released_as : Region → Table → ℕ → Table
released_as (Ordinary ts) t k = with_region t k Free
released_as (First s) t k = without_run t k
released_as _ t k = t

-- the table once region k is released, and with a run's first all regions of the run
unfoldable pub released : Table → ℕ → Table
released t k = released_as (nth_region t k) t k

abbrev pub moved_as : Region → Table → ℕ → ℕ → Table
moved_as Free t k to = t
moved_as (Ordinary ts) t k to = t
moved_as (First s) t k to =
    with_regions (released t k) to (run_length t k) (run_regions t.words_per_region s (run_length t k))
moved_as (Rest n) t k to = t

-- the table once the run that begins at k begins at `to`
unfoldable pub moved_run : Table → ℕ → ℕ → Table
moved_run t k to = moved_as (nth_region t k) t k to

-- the address behind the words of a region that are handed out
abbrev pub top_of : Table → ℕ → ℕ
top_of t k = k * t.words_per_region + used_of t k

-- where a moved tile went
abbrev pub moved_to : Option Tile → Option ℕ
moved_to (Some (Forwarded to n)) = Some to
moved_to _ = None

-- each moved tile's new place is the start of an object, which has the tile's size
abbrev pub AreTargetsRight : Table → Type 0
AreTargetsRight t = (x to n : ℕ) → tile_in t x ≡ Some (Forwarded to n) → HasObject t to × (object_words t to ≡ n)
