-- Roots that name marked objects are passed over.
use Rattle.std.proofs.Common.{◌≡◌, ℕ, ◌∙◌, inl, inr, List, Option, Some, length, sym, ap, arith, slice_get}
use Rattle.std.proofs.lemmas.Bool.{cases_lt}
use Rattle.root_table.specs.Roots.{IsNextNamed}
use Rattle.regions.specs.Table.{Table}
use Rattle.regions.specs.Shaped.{IsShaped}
use Rattle.mark_bitmap.specs.Marks.{is_marked}
use Rattle.marker.specs.Stands.{MarkerStands, IsKept}
use Rattle.marker.specs.Roots.{AreNamedBelow, IsInFirst, IsFirstUnmarked}
use Rattle.marker.specs.declared.marker.Marker.{Marker}
use Rattle.marker.proofs.Views.{kept_within}
use Rattle.marker.proofs.Reached.{Reached, among_wider, among_past}

-- what roots name is kept, so it has a mark
pub named_below : (t : Table) (words : List (Option ℕ)) (from : ℕ) (m : Marker) → IsShaped t → MarkerStands t m
    → ((place a : ℕ) → slice_get words place ≡ Some (Some a) → IsKept t m a) → AreNamedBelow words from (length m.bitmaps.next)
named_below t words from m shape st kept = λ place a _ is. omega (arith, kept_within t m a shape (kept place a is), st.next.each_word)

-- all up to a place were reached, and the roots after it, up to another one, name what is marked: so all up to there were
passed : (t : Table) (words : List (Option ℕ)) (place end : ℕ) (m m' : Marker) → IsFirstUnmarked m'.bitmaps.next words place end
    → Reached t (IsInFirst words place) m m' → Reached t (IsInFirst words end) m m'
passed t words place end m m' first r = record {
  stands = r.stands;
  marks = record {
    stays = r.marks.stays;
    only = λ a k. elim (r.marks.only a k) [ inl was ↦ inl was | inr w ↦ inr (among_wider words place end a first.from_on w) ];
    each = λ a w below. elim (cases_lt w.place place) [
      | inl before ↦ r.marks.each a (record { place = w.place; front = before; is = w.is }) below
      | inr behind ↦
          let q = first.marked_before w.place behind w.front in
          let both : Some (Some a) ≡ Some (Some q.address) = sym w.is ∙ q.is in
          let same : a ≡ q.address = cc in
          ap (is_marked m'.bitmaps.next) same ∙ q.marked
    ];
  };
  same = r.same;
  scanned = r.scanned;
  place = r.place;
  scans = r.scans;
  logs = r.logs;
  waiting = r.waiting;
}

-- the same from the next place on that is named, of which only nil stands in front
pub among_passed : (t : Table) (words : List (Option ℕ)) (from place end : ℕ) (m m' : Marker) → IsNextNamed words from place
    → IsFirstUnmarked m'.bitmaps.next words place end → Reached t (IsInFirst words from) m m' → Reached t (IsInFirst words end) m m'
among_passed t words from place end m m' n first r =
    passed t words place end m m' first (among_past t words from place m m' n.from_on n.nil_before r)
