-- How many pointers of an object are done while it is scanned in part.
use Rattle.std.proofs.Common.{inl, inr, ◌≡◌, ◌≢◌, ◌-◌, ◌<◌, ◌≤◌, ◌==◌, ◌∙◌, ℕ, Bool, true, false, Option, Some, None, length, refl, sym, ap}
use Rattle.std.proofs.Common.{arith, if◌then◌else◌}
use Rattle.std.proofs.lemmas.Bool.{cases_eq}
use Rattle.heap_model.specs.Heap.{Heap}
use Rattle.heap_model.specs.Marking.{Marking, LeadsOn}
use Rattle.regions.specs.Table.{Table, pointers_at}
use Rattle.mark_bitmap.specs.Marks.{is_marked}
use Rattle.mark_bitmap.specs.Grey.{Scans, KeepsPlace, done_of, done_in}
use Rattle.marker.specs.Stands.{MarkerStands}
use Rattle.marker.specs.declared.marker.Marker.{Marker}
use Rattle.marker.proofs.Scanned.{grey_is}

done_zero : (held : Option ℕ) (a : ℕ) → done_of held 0 a ≡ 0
done_zero None a = refl
done_zero (Some b) a = either (a == b)
  where
    either : (same : Bool) → (if same then 0 - 1 else 0) ≡ 0
    either true = refl
    either false = refl

-- none is where no word of the held object was looked at
pub done_whole : (g : Scans) (a : ℕ) → g.looked ≡ 0 → done_in g a ≡ 0
done_whole g a e = ap (λ (k : ℕ). done_of g.held k a) e ∙ done_zero g.held a

pub is_same : (a b : ℕ) → a ≡ b → (a == b) ≡ true
is_same a b e = grind arith

pub is_other : (a b : ℕ) → a ≢ b → (a == b) ≡ false
is_other a b e = grind arith

pub done_held : (g : Scans) (b a : ℕ) → g.held ≡ Some b → a ≡ b → done_in g a ≡ g.looked - 1
done_held g b a held e =
    ap (λ (o : Option ℕ). done_of o g.looked a) held ∙ ap (λ (same : Bool). if same then g.looked - 1 else 0) (is_same a b e)

pub done_other : (g : Scans) (b a : ℕ) → g.held ≡ Some b → a ≢ b → done_in g a ≡ 0
done_other g b a held e =
    ap (λ (o : Option ℕ). done_of o g.looked a) held ∙ ap (λ (same : Bool). if same then g.looked - 1 else 0) (is_other a b e)

-- as many are done of each
pub done_same : (g g' : Scans) → KeepsPlace g g' → (a : ℕ) → done_in g' a ≡ done_in g a
done_same g g' p a = elim (cases_eq g.looked 0) [
  | inl none ↦ done_whole g' a (p.looked ∙ none) ∙ sym (done_whole g a none)
  | inr some ↦ ap (λ (k : ℕ). done_of g'.held k a) p.looked ∙ ap (λ (o : Option ℕ). done_of o g.looked a) (p.held some)
]

-- so none is newly done
pub none_newly : (h : Heap) (k : Marking) (done : ℕ → ℕ) → ((a : ℕ) → done a ≡ k.done a) → (a b : ℕ) (p : LeadsOn h k a b)
    → p.points.field < done a → ⊥
none_newly h k done same a b p now = omega (arith, p.left, now, same a)

pub place_same : (g : Scans) → KeepsPlace g g
place_same g = record { looked = refl; held = λ _. refl }

pub place_trans : (g g' g'' : Scans) → KeepsPlace g g' → KeepsPlace g' g'' → KeepsPlace g g''
place_trans g g' g'' p q = record {
  looked = q.looked ∙ p.looked;
  held = λ some. q.held (λ none. some (sym p.looked ∙ none)) ∙ p.held some;
}

-- some word of the held object is left
pub part_same : (t : Table) (m m' : Marker) → KeepsPlace m.grey m'.grey
    → ((a : ℕ) → m.grey.held ≡ Some a → m.grey.looked ≤ length (pointers_at t a))
    → (a : ℕ) → m'.grey.held ≡ Some a → m'.grey.looked ≤ length (pointers_at t a)
part_same t m m' p part a held = elim (cases_eq m.grey.looked 0) [
  | inl none ↦ omega (arith, none, p.looked)
  | inr some ↦ omega (arith, p.looked, part a (sym (p.held some) ∙ held))
]

-- pointers are done of marked objects alone
pub undone : (t : Table) (m : Marker) → MarkerStands t m → m.running ≡ true → (a : ℕ) → is_marked m.bitmaps.next a ≡ false
    → done_in m.grey a ≡ 0
undone t m st run a unmarked = of m.grey.held refl
  where
    of : (held : Option ℕ) → m.grey.held ≡ held → done_of held m.grey.looked a ≡ 0
    of None e = refl
    of (Some b) e = elim (cases_eq a b) [
      | inl same ↦ absurd (let marked = (grey_is m.bitmaps.next m.grey b ((st.finger run).held b e)).0 in
          let here = ap (is_marked m.bitmaps.next) same in cc)
      | inr other ↦ ap (λ (same : Bool). if same then m.grey.looked - 1 else 0) (is_other a b other)
    ]
