-- What a policy of collection steers by.
use Rattle.std.specs.Prelude.{◌≡◌, ◌≢◌, ◌⊎◌, ℕ, zero, suc, ◌+◌, ◌*◌, true, [], length, IsSome}
use Rattle.regions.specs.Table.{kind_of, used_of, stored_size}
use Rattle.regions.specs.declared.row.Kind.{Kind}
use Rattle.regions.specs.declared.row.Kind.TheVariants as kinds
use Rattle.mark_bitmap.specs.Live.{live_bound_of}
use Rattle.mark_bitmap.specs.Grey.{is_grey}
use Rattle.step_core.specs.Stands.{CoreState, kept_of}

-- the sum of what the numbers below one give
abbrev pub sum_below : (ℕ → ℕ) → ℕ → ℕ
sum_below f zero = 0
sum_below f (suc n) = sum_below f n + f n

-- how many words of all regions are handed out, to objects and to buffers: none of a free one
abbrev pub used_words : CoreState → ℕ
used_words c = sum_below (used_of c.table) (length c.table.regions)

-- the live words of region k, by its kind: of an ordinary one its live bound, of a run all words of its object, at its first region, if
-- the object is kept
abbrev pub live_by_kind : Kind → CoreState → ℕ → ℕ
live_by_kind kinds.Free c k = 0
live_by_kind kinds.Ordinary c k = live_bound_of c.table c.marker.tams.previous c.marker.bitmaps.previous k
live_by_kind kinds.First c k = stored_size (kept_of c (k * c.table.words_per_region))
live_by_kind kinds.Rest c k = 0

abbrev pub live_in : CoreState → ℕ → ℕ
live_in c k = live_by_kind (kind_of c.table k) c k

-- how many words of all regions are live
abbrev pub live_words : CoreState → ℕ
live_words c = sum_below (live_in c) (length c.table.regions)

-- some marked object isn't scanned
abbrev pub HasUnscanned : CoreState → Type 0
HasUnscanned c = (address : ℕ) × (is_grey c.marker.bitmaps.next c.marker.grey address ≡ true)

-- marking runs, and something is left to be marked: a root waits, or some marked object isn't scanned
pub record HasGrey (c : CoreState) : Type 0 where
  pub running : c.marker.running ≡ true
  pub left : (c.marker.waiting.addresses ≢ []) ⊎ HasUnscanned c

-- weak slots that show nil wait to be cleared
abbrev pub HasSlotsLeft : CoreState → Type 0
HasSlotsLeft c = IsSome c.clearing
