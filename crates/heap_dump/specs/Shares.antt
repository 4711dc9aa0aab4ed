-- What the words of a region are, and how many of its objects are grey.
use Rattle.std.specs.Prelude.{◌≡◌, ℕ, ◌+◌, ◌*◌, ◌&&◌, min, Bool, false, not, List, [], ◌∷◌, if◌then◌else◌}
use Rattle.heap_words.specs.declared.addr.Addr.{Addr}
use Rattle.regions.specs.declared.row.Shape.{Shape}
use Rattle.regions.specs.declared.row.Shape.TheVariants.{Object, Filler, Forwarded}
use Rattle.regions.specs.Shapes.{size_of_shape}
use Rattle.regions.specs.Walks.{placed, tiles_of}
use Rattle.mark_bitmap.specs.Marks.{is_marked}
use Rattle.mark_bitmap.specs.Tops.{is_below}
use Rattle.step_core.specs.Stands.{CoreState}
use Rattle.heap_dump.specs.declared.shares.Part.{Part}
use Rattle.heap_dump.specs.declared.shares.Part.TheVariants as parts
use Rattle.heap_dump.specs.declared.shares.Shares.{Shares}

-- what the words of a tile count as: of an object, by its region's top at mark start and its mark
abbrev pub part_in : CoreState → ℕ → Shape → Part
part_in c a (Object p w d) =
    if is_below c.table.words_per_region c.marker.tams.previous a
    then (if is_marked c.marker.bitmaps.previous a then parts.Marked else parts.Dead)
    else parts.New
part_in c a (Filler n) = parts.Filler
part_in c a (Forwarded to n) = parts.Filler

-- the words, where the parts are the same
abbrev pub words_if : Part → Part → ℕ → ℕ
words_if parts.Marked parts.Marked n = n
words_if parts.Dead parts.Dead n = n
words_if parts.New parts.New n = n
words_if parts.Filler parts.Filler n = n
words_if _ _ n = 0

-- the words of those of some tiles that count as a part
abbrev pub words_in : CoreState → Part → List (Addr × Shape) → ℕ
words_in c part [] = 0
words_in c part (x ∷ xs) = words_if part (part_in c x.0 x.1) (size_of_shape x.1) + words_in c part xs

-- the tiles that start in region k
abbrev pub region_tiles : CoreState → ℕ → List (Addr × Shape)
region_tiles c k = placed (k * c.table.words_per_region) (tiles_of c.table k)

-- the words of a region's tiles that count as a part
abbrev pub part_words : CoreState → Part → ℕ → ℕ
part_words c part k = words_in c part (region_tiles c k)

-- the shares of region k
pub record AreSharesOf (c : CoreState) (k : ℕ) (s : Shares) : Type 0 where
  pub marked : s.marked ≡ part_words c parts.Marked k
  pub dead : s.dead ≡ part_words c parts.Dead k
  pub new : s.new ≡ part_words c parts.New k
  pub filler : s.filler ≡ part_words c parts.Filler k

-- the tile is an object that the marking that runs found, and hasn't scanned
abbrev pub is_grey : CoreState → ℕ → Shape → Bool
is_grey c a (Object p w d) = is_marked c.marker.bitmaps.next a && not (is_marked c.marker.grey.scanned a)
is_grey c a _ = false

abbrev pub grey_in : CoreState → List (Addr × Shape) → ℕ
grey_in c [] = 0
grey_in c (x ∷ xs) = (if is_grey c x.0 x.1 then 1 else 0) + grey_in c xs

-- how many grey objects start in region k, as far as it fits 32 bits
abbrev pub grey_objects : CoreState → ℕ → ℕ
grey_objects c k = min (grey_in c (region_tiles c k)) 4294967295
