-- What is forgotten of regions that are free from then on.
use Rattle.std.specs.Prelude.{◌≡◌, ℕ, ◌+◌}
use Rattle.bit_sets.specs.Bits.{is_between}
use Rattle.evacuation.specs.Evacuates.{MarksAfter}
use Rattle.evacuation.specs.Releasing.{AreCleared}
use Rattle.marker.specs.declared.marker.Marker.{Marker}
use Rattle.remembered_sets.specs.Sets.{Sets}

-- m regions from k on are forgotten: they have no marks, and their tops at mark start are their bottoms; those of other
-- regions stay
pub record HasForgotten (words k m : ℕ) (was now : Marker) : Type 0 where
  pub same : now ≡ record was { tams = now.tams; bitmaps = now.bitmaps; live = now.live }
  pub previous : MarksAfter words (is_between k (k + m)) was.tams.previous now.tams.previous was.bitmaps.previous now.bitmaps.previous
  pub next : MarksAfter words (is_between k (k + m)) was.tams.next now.tams.next was.bitmaps.next now.bitmaps.next

-- the sets of m regions from k on are emptied, and no card of theirs has entered a set; the other sets stay, and the other cards have as
-- they had
abbrev pub HasEmptied : ℕ → ℕ → Sets → Sets → Type 0
HasEmptied k m was now = AreCleared (is_between k (k + m)) was now
