-- How much one call of marking does: objects are counted in the first two formats, words in the third.
use Rattle.std.specs.Prelude.{◌≡◌, ◌+◌, ◌<◌, ◌≤◌, ℕ, zero, suc, Bool, true, false, List, [], length, if◌then◌else◌}
use Rattle.regions.specs.Table.{Table, pointers_at}
use Rattle.mark_bitmap.specs.Marks.{is_marked, marked_count, HasNone}
use Rattle.mark_bitmap.specs.Grey.{is_grey}
use Rattle.marker.specs.declared.marker.Marker.{Marker}

-- what marking begins with: in the first two formats what roots name is marked at once, in the third it waits, and nothing is marked
abbrev pub BeginsBy : Bool → Marker → Type 0
BeginsBy true m = m.waiting.addresses ≡ []
BeginsBy false m = (a : ℕ) → is_marked m.bitmaps.next a ≡ false

-- how many words are looked at where an object is scanned whole: one for itself, and one for each of its pointers
abbrev pub words_of_scan : Table → ℕ → ℕ
words_of_scan t a = 1 + length (pointers_at t a)

-- and for all scanned objects that start at one of n addresses from a on
abbrev pub words_looked : Table → List Bool → ℕ → ℕ → ℕ
words_looked t scanned a zero = 0
words_looked t scanned a (suc n) = (if is_marked scanned a then words_of_scan t a else 0) + words_looked t scanned (suc a) n

-- and since marking began, with those of the held object that were looked at
abbrev pub words_scanned : Table → Marker → ℕ
words_scanned t m = words_looked t m.grey.scanned 0 (length m.grey.scanned) + m.grey.looked

-- nothing is left to be marked: no root waits, and no object is grey
pub record HasNoneLeft (m : Marker) : Type 0 where
  pub waiting : m.waiting.addresses ≡ []
  pub grey : HasNone (is_grey m.bitmaps.next m.grey) 0

-- n objects were scanned: k, or fewer if nothing is left
pub record ScansUpTo (k n : ℕ) (m m' : Marker) : Type 0 where
  pub count : marked_count m'.grey.scanned ≡ marked_count m.grey.scanned + n
  pub most : n ≤ k
  pub enough : n < k → HasNoneLeft m'

-- n words were looked at, one for each root that was taken, and those of the objects that were scanned, the held one perhaps in part: k, or
-- fewer if nothing is left
pub record LooksUpTo (t : Table) (k n : ℕ) (m m' : Marker) : Type 0 where
  pub taken : ℕ
  pub roots : length m.waiting.addresses ≡ length m'.waiting.addresses + taken
  pub count : words_scanned t m' + taken ≡ words_scanned t m + n
  pub most : n ≤ k
  pub enough : n < k → HasNoneLeft m'

-- the one or the other, by whether grey objects are scanned by rising address
abbrev pub MarksUpTo : Bool → Table → ℕ → ℕ → Marker → Marker → Type 0
MarksUpTo true t k n m m' = ScansUpTo k n m m'
MarksUpTo false t k n m m' = LooksUpTo t k n m m'
