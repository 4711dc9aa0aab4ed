-- What is kept while fields are redirected: tops at mark start and marks stay.
use Rattle.std.proofs.Common.{◌≡◌, ◌∙◌, ℕ, Bool, true, false, List, Option, Some, None, refl, sym, ap, subst, if◌then◌else◌, IsSome, IsTrue}
use Rattle.heap_model.specs.Heap.{Stored}
use Rattle.regions.specs.Table.{Table, object_at}
use Rattle.mark_bitmap.specs.Marks.{is_marked}
use Rattle.mark_bitmap.specs.Tops.{is_below}
use Rattle.mark_bitmap.specs.Tops.{Tops}
use Rattle.mark_bitmap.specs.Kept.{kept_in}
use Rattle.evacuation.specs.declared.outside.Kept.{Kept}
use Rattle.evacuation.specs.Sliding.{Slide, AreKeptIn, kept_at}

keep : Bool → Bool → Option Stored → Option Stored
keep below marked x = if below then (if marked then x else None) else x

kept_is_keep : (s : Slide) (t : Table) (a : ℕ)
    → kept_at s t a ≡ keep (is_below t.words_per_region s.tams.previous a) (is_marked s.marks a) (object_at t a)
unfolding kept_at keep
kept_is_keep s t a = refl

keep_none : (b m : Bool) → keep b m None ≡ None
unfolding keep
keep_none true true = refl
keep_none true false = refl
keep_none false m = refl

keep_some : (b m : Bool) (o o' : Option Stored) (y : Stored) → keep b m o ≡ Some y → keep b m o' ≡ o'
unfolding keep
keep_some true true o o' y e = refl
keep_some true false o o' y e = cc
keep_some false m o o' y e = refl

keep_same : (s : Slide) (t t' : Table) (a : ℕ) → t'.words_per_region ≡ t.words_per_region
    → kept_at s t' a ≡ keep (is_below t.words_per_region s.tams.previous a) (is_marked s.marks a) (object_at t' a)
keep_same s t t' a e = kept_is_keep s t' a ∙ ap (λ (n : ℕ). keep (is_below n s.tams.previous a) (is_marked s.marks a) (object_at t' a)) e

pub kept_as : (s : Slide) (t t' : Table) (a : ℕ) → t'.words_per_region ≡ t.words_per_region
    → object_at t' a ≡ object_at t a → kept_at s t' a ≡ kept_at s t a
kept_as s t t' a e o =
    keep_same s t t' a e ∙ ap (keep (is_below t.words_per_region s.tams.previous a) (is_marked s.marks a)) o ∙ sym (kept_is_keep s t a)

-- where an object is kept, the one that is there in another table is kept there
pub kept_some : (s : Slide) (t t' : Table) (a : ℕ) (y : Stored) → kept_at s t a ≡ Some y
    → t'.words_per_region ≡ t.words_per_region → kept_at s t' a ≡ object_at t' a
kept_some s t t' a y e w = keep_same s t t' a w ∙ keep_some (is_below t.words_per_region s.tams.previous a) (is_marked s.marks a)
    (object_at t a) (object_at t' a) y (sym (kept_is_keep s t a) ∙ e)

pub kept_none : (s : Slide) (t : Table) (a : ℕ) → object_at t a ≡ None → kept_at s t a ≡ None
kept_none s t a o =
    kept_is_keep s t a ∙ ap (keep (is_below t.words_per_region s.tams.previous a) (is_marked s.marks a)) o ∙ keep_none _ _

pub kept_object : (s : Slide) (t : Table) (a : ℕ) (y : Stored) → kept_at s t a ≡ Some y → object_at t a ≡ Some y
kept_object s t a y e = sym (kept_some s t t a y e refl) ∙ e

-- what is kept, as a pair
pub some_kept : (s : Slide) (t : Table) (a : ℕ) → IsSome (kept_at s t a) → (y : Stored) × (kept_at s t a ≡ Some y)
some_kept s t a h = go (kept_at s t a) refl h
  where
    go : (o : Option Stored) → kept_at s t a ≡ o → IsSome o → (y : Stored) × (kept_at s t a ≡ Some y)
    go None e x = absurd cc
    go (Some y) e x = (y, e)

pub is_some : (o : Option Stored) (y : Stored) → o ≡ Some y → IsSome o
is_some (Some x) y e = refl
is_some None y e = cc

-- what marks and tops of a pause tell
kept_is : (s : Slide) (t : Table) (k : Kept) → AreKeptIn s k → (a : ℕ) → kept_in t k.tams.now k.marks.now a ≡ kept_at s t a
unfolding kept_at
kept_is s t k are a =
    ap (λ (m : List Bool). kept_in t k.tams.now m a) are.1 ∙ ap (λ (u : Tops). kept_in t u s.marks a) are.0

pub kept_by : (s : Slide) (t : Table) (k : Kept) → AreKeptIn s k → (a : ℕ) → IsSome (kept_in t k.tams.now k.marks.now a)
    → IsSome (kept_at s t a)
kept_by s t k are a h = subst (λ (o : Option Stored). IsSome o) (kept_is s t k are a) h

pub not_kept : (s : Slide) (t : Table) (k : Kept) → AreKeptIn s k → (a : ℕ) (r : Bool)
    → (IsSome (kept_in t k.tams.now k.marks.now a) → IsTrue r)
    → r ≡ false → (y : Stored) → kept_at s t a ≡ Some y → ⊥
not_kept s t k are a r f e y is =
    let h = f (is_some (kept_in t k.tams.now k.marks.now a) y (kept_is s t k are a ∙ is)) in
    absurd (wrong r e h)
  where
    wrong : (b : Bool) → b ≡ false → IsTrue b → ⊥
    wrong true q h = cc
    wrong false q h = cc
