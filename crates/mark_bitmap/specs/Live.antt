-- The live bound of a region: no fewer words than its kept objects have.
use Rattle.std.specs.Prelude.{ℕ, zero, suc, ◌+◌, ◌-◌, ◌*◌, Bool, List, slice_index, if◌then◌else◌}
use Rattle.regions.specs.Table.{Table, object_words, stored_size, top_of}
use Rattle.mark_bitmap.specs.Marks.{is_marked}
use Rattle.mark_bitmap.specs.Tops.{Tops}
use Rattle.mark_bitmap.specs.Kept.{kept_in}

-- the words of the marked objects that start at one of n addresses from a on
abbrev pub marked_words : Table → List Bool → ℕ → ℕ → ℕ
marked_words t marks a zero = 0
marked_words t marks a (suc n) = (if is_marked marks a then object_words t a else 0) + marked_words t marks (suc a) n

-- the words of the kept objects that start at one of n addresses from a on
abbrev pub kept_words : Table → Tops → List Bool → ℕ → ℕ → ℕ
kept_words t tops previous a zero = 0
kept_words t tops previous a (suc n) = stored_size (kept_in t tops previous a) + kept_words t tops previous (suc a) n

-- the live bound of region k: the words of its marked objects below its previous top at mark start, and all words from
-- there to its top
unfoldable pub live_bound_of : Table → List ℕ → List Bool → ℕ → ℕ
live_bound_of t tops marks k =
    marked_words t marks (k * t.words_per_region) (slice_index tops k - k * t.words_per_region) + (top_of t k - slice_index tops k)
