-- What releasing regions changes.
use Rattle.std.specs.Prelude.{◌≡◌, ℕ, Bool, ◌*◌, ◌/◌, true, false, List, length, if◌then◌else◌}
use Rattle.regions.specs.Table.{Table, Free, nth_region, EachForwardedIn}
use Rattle.mark_bitmap.specs.declared.bitmaps.Bitmaps.{Bitmaps}
use Rattle.mark_bitmap.specs.Tops.{Tops}
use Rattle.bit_sets.specs.Bits.{has}
use Rattle.remembered_sets.specs.Sets.{Sets, emptied, set_of}
use Rattle.region_choice.specs.declared.LiveRow.{LiveRow}
use Rattle.evacuation.specs.Evacuates.{is_chosen}

-- the regions that are gone are free, and the others are as they were
pub record AreReleased (gone : ℕ → Bool) (t t' : Table) : Type 0 where
  pub size : t'.words_per_region ≡ t.words_per_region
  pub count : length t'.regions ≡ length t.regions
  pub freed : (k : ℕ) → gone k ≡ true → nth_region t' k ≡ Free
  pub others : (k : ℕ) → gone k ≡ false → nth_region t' k ≡ nth_region t k

-- the regions that are gone have empty sets, and no card of theirs has entered a set; the other sets stay, and the other cards have as
-- they had
pub record AreCleared (gone : ℕ → Bool) (s s' : Sets) : Type 0 where
  pub cards : s'.cards_per_region ≡ s.cards_per_region
  pub count : length s'.sets ≡ length s.sets
  pub cleared : (k : ℕ) → gone k ≡ true → set_of s' k ≡ emptied (set_of s k)
  pub others : (k : ℕ) → gone k ≡ false → set_of s' k ≡ set_of s k
  pub entered : (card : ℕ) → has s'.entered card ≡ (if gone (card / s.cards_per_region) then false else has s.entered card)

-- nothing moved into the rows' regions
abbrev pub NoneForwardedInto : List LiveRow → ℕ → Table → Type 0
NoneForwardedInto rows words t = EachForwardedIn (λ to. is_chosen rows (to / words) ≡ false) t.regions

-- the marks, the tops at mark start and the remembered sets are those of the table's regions
pub record AreOfTable (t : Table) (tops : Tops) (marks : Bitmaps) (s : Sets) : Type 0 where
  pub previous : length marks.previous ≡ length t.regions * t.words_per_region
  pub next : length marks.next ≡ length t.regions * t.words_per_region
  pub previous_tops : length tops.previous ≡ length t.regions
  pub next_tops : length tops.next ≡ length t.regions
  pub each_set : length s.sets ≡ length t.regions
