-- The tile of a field, and what is kept of objects.
use Rattle.std.proofs.Common.{◌≡◌, ◌+◌, ◌*◌, ◌/◌, ◌<◌, ◌≤◌, ◌∙◌, ℕ, Bool, true, false, Option, Some, None, List, length, refl, sym}
use Rattle.std.proofs.Common.{ap}
use Rattle.std.proofs.Common.{arith, slice_get, IfSome, IsSome, IsTrue, if◌then◌else◌}
use Rattle.std.proofs.lemmas.Option.{slice_get_within}
use Rattle.heap_model.specs.Heap.{Stored, IsClosed, fields}
use Rattle.regions.specs.Tiles.{Tile, Object, Filler, Forwarded, tile_size}
use Rattle.regions.specs.Table.{Table, tile_in, tile_object, object_at, object_fields, fields_at}
use Rattle.regions.specs.Shapes.{tile_shape}
use Rattle.regions.specs.Walks.{IsHolder, IsPlacedTile}
use Rattle.regions.specs.Shaped.{IsShaped}
use Rattle.regions.specs.declared.row.Shape.{Shape}
use Rattle.regions.specs.declared.row.Shape.TheVariants as shapes
use Rattle.regions.proofs.Tiles.Laws.{object_tile}
use Rattle.regions.proofs.Words.FieldAccess.{count_fields}
use Rattle.regions.proofs.Walks.WalkFrom.{tile_listed}
use Rattle.mark_bitmap.specs.Tops.{Tops, below_previous}
use Rattle.mark_bitmap.specs.Marks.{is_marked}
use Rattle.mark_bitmap.specs.Kept.{heap_in, kept_in}
use Rattle.refinement.specs.Remembering.{field_word, IsCrossing, LeadsInside}
use Rattle.refinement.specs.Refining.{FieldsInside}

-- ---- objects
-- what is kept is in the table
abbrev pub Stands : Table → (ℕ → Option Stored) → Type 0
Stands t kept = (a : ℕ) (s : Stored) → kept a ≡ Some s → object_at t a ≡ Some s

-- a field's word belongs to its object's tile
pub word_holder : (t : Table) (a i : ℕ) (x : Stored) → IsShaped t → object_at t a ≡ Some x → i < length (fields x)
    → IsHolder t a (field_word a i)
unfolding object_at
word_holder t a i x shape at inside = record {
  tile = Object x;
  tile_is = object_tile (tile_in t a) x at;
  low = omega arith;
  high = omega (arith, inside, count_fields x);
}

pub field_holder : (t : Table) (kept : ℕ → Option Stored) (a i v : ℕ) → IsShaped t → Stands t kept
    → IsCrossing t.words_per_region kept a i v → IsHolder t a (field_word a i)
field_holder t kept a i v shape stands x =
    word_holder t a i x.object shape (stands a x.object x.kept_is) (slice_get_within (fields x.object) i (Some v) x.field_is)

pub object_known : (t : Table) (a : ℕ) (s : Stored) → object_at t a ≡ Some s → a / t.words_per_region < length t.regions
unfolding object_at
object_known t a s e = (tile_listed t a (Object s) (object_tile (tile_in t a) s e)).1

either_way : (below marked : Bool) (o : Option Stored) (s : Stored)
    → (if below then (if marked then o else None) else o) ≡ Some s → o ≡ Some s
either_way true true o s e = e
either_way true false o s e = cc
either_way false marked o s e = e

-- what is kept is an object of the table
pub kept_object : (t : Table) (tops : Tops) (previous : List Bool) → Stands t (kept_in t tops previous)
kept_object t tops previous a s e = either_way (below_previous t tops a) (is_marked previous a) (object_at t a) s e

pub closed_inside : (t : Table) (tops : Tops) (previous : List Bool) (roots : List (Option ℕ)) → IsClosed (heap_in t tops previous roots)
    → LeadsInside t.words_per_region (length t.regions) (kept_in t tops previous)
closed_inside t tops previous roots closed = record {
  each = λ a i v s e f.
      let there = closed.field a i v s e f in
      object_known t v there.0 (kept_object t tops previous v there.0 there.1);
}

pub fields_of : (t : Table) (a : ℕ) (s : Stored) → object_at t a ≡ Some s → fields_at t a ≡ (fields s)
unfolding fields_at
fields_of t a s e = ap object_fields e

-- a filler and what has moved are no objects
pub shape_object : (t : Table) (a p weak d : ℕ) → IsPlacedTile t a (shapes.Object p weak d) → IsSome (object_at t a)
unfolding object_at
shape_object t a p weak d h = go h.tile h.tile_is h.shape_is
  where
    go : (u : Tile) → tile_in t a ≡ Some u → shapes.Object p weak d ≡ tile_shape u → IsSome (tile_object (tile_in t a))
    go (Object s) e f = rw e refl
    go _ e f = cc

pub shape_filler : (t : Table) (a m : ℕ) → IsPlacedTile t a (shapes.Filler m) → object_at t a ≡ None
unfolding object_at
shape_filler t a m h = go h.tile h.tile_is h.shape_is
  where
    go : (u : Tile) → tile_in t a ≡ Some u → shapes.Filler m ≡ tile_shape u → tile_object (tile_in t a) ≡ None
    go (Object s) e f = cc
    go (Filler m) e f = rw e refl
    go (Forwarded to m) e f = cc

pub shape_forwarded : (t : Table) (a to m : ℕ) → IsPlacedTile t a (shapes.Forwarded to m) → object_at t a ≡ None
unfolding object_at
shape_forwarded t a to m h = go h.tile h.tile_is h.shape_is
  where
    go : (u : Tile) → tile_in t a ≡ Some u → shapes.Forwarded to m ≡ tile_shape u → tile_object (tile_in t a) ≡ None
    go (Object s) e f = cc
    go (Filler m) e f = cc
    go (Forwarded to m) e f = rw e refl

-- ---- where fields are
pub object_within : (t : Table) (a : ℕ) (s : Stored) → IsShaped t → object_at t a ≡ Some s
    → a + tile_size (Object s) ≤ length t.regions * t.words_per_region
unfolding object_at
object_within t a s g e = g.within a (Object s) (object_tile (tile_in t a) s e)

pub shape_within : (t : Table) (a p weak d n : ℕ) → IsShaped t → n ≡ length t.regions * t.words_per_region
    → IsPlacedTile t a (shapes.Object p weak d) → a < n
shape_within t a p weak d n g e h = go (object_at t a) refl (shape_object t a p weak d h)
  where
    go : (o : Option Stored) → object_at t a ≡ o → IsSome o → a < n
    go None f x = cc
    go (Some s) f x = let w = object_within t a s g f in omega (arith, w, e)

-- a field is one of an object
pub record IsFieldAt (t : Table) (a i : ℕ) : Type 0 where
  pub object : Stored
  pub is : object_at t a ≡ Some object
  pub within : i < length (fields object)

pub field_at : (t : Table) (a i : ℕ) → i < length (fields_at t a) → IsFieldAt t a i
unfolding fields_at
field_at t a i h = go (object_at t a) refl
  where
    go : (o : Option Stored) → object_at t a ≡ o → IsFieldAt t a i
    go None e = absurd (omega (arith, h, ap (λ (x : Option Stored). length (object_fields x)) e))
    go (Some s) e = record { object = s; is = e; within = omega (arith, h, ap (λ (x : Option Stored). length (object_fields x)) e) }

pub field_inside : (t : Table) (a i : ℕ) → IsShaped t → i < length (fields_at t a) → a + 2 + i < length t.regions * t.words_per_region
field_inside t a i g h =
    let f = field_at t a i h in
    let w = object_within t a f.object g f.is in
    omega (arith, w, f.within, count_fields f.object)

pub object_small : (t : Table) (a : ℕ) → IsShaped t → IsSome (object_at t a) → a + 2 ≤ length t.regions * t.words_per_region
object_small t a g h = go (object_at t a) refl h
  where
    go : (o : Option Stored) → object_at t a ≡ o → IsSome o → a + 2 ≤ length t.regions * t.words_per_region
    go None e x = cc
    go (Some s) e x = let w = object_within t a s g e in omega (arith, w)

-- ---- what is kept of an object
some_above : (b m : Bool) (o : Option Stored) → b ≡ false → IsSome o
    → (IsTrue true → IsSome (if b then (if m then o else None) else o)) × (IsSome (if b then (if m then o else None) else o) → IsTrue true)
some_above true m o e s = cc
some_above false m o e s = (λ _. s, λ _. refl)

some_marked : (b m r : Bool) (o : Option Stored) → b ≡ true → r ≡ m → IsSome o
    → (IsTrue r → IsSome (if b then (if m then o else None) else o)) × (IsSome (if b then (if m then o else None) else o) → IsTrue r)
some_marked false m r o e f s = cc
some_marked true true r o e f s = (λ _. s, λ _. f)
some_marked true false r o e f s = (λ x. absurd (let y : r ≡ true = x in cc), λ x. absurd (let y : IsSome {T = Stored} None = x in cc))

some_nothing : (b m : Bool) (o : Option Stored) → o ≡ None
    → (IsTrue false → IsSome (if b then (if m then o else None) else o))
    × (IsSome (if b then (if m then o else None) else o) → IsTrue false)
some_nothing b m (Some s) e = cc
some_nothing true true None e = (λ x. absurd (let y : false ≡ true = x in cc), λ x. x)
some_nothing true false None e = (λ x. absurd (let y : false ≡ true = x in cc), λ x. x)
some_nothing false m None e = (λ x. absurd (let y : false ≡ true = x in cc), λ x. x)

pub kept_above : (t : Table) (tops : Tops) (previous : List Bool) (a : ℕ) → below_previous t tops a ≡ false → IsSome (object_at t a)
    → (IsTrue true → IsSome (kept_in t tops previous a)) × (IsSome (kept_in t tops previous a) → IsTrue true)
kept_above t tops previous a e s = some_above (below_previous t tops a) (is_marked previous a) (object_at t a) e s

pub kept_marked : (t : Table) (tops : Tops) (previous : List Bool) (a : ℕ) (r : Bool) → below_previous t tops a ≡ true
    → r ≡ is_marked previous a → IsSome (object_at t a)
    → (IsTrue r → IsSome (kept_in t tops previous a)) × (IsSome (kept_in t tops previous a) → IsTrue r)
kept_marked t tops previous a r e f s = some_marked (below_previous t tops a) (is_marked previous a) r (object_at t a) e f s

pub kept_nothing : (t : Table) (tops : Tops) (previous : List Bool) (a : ℕ) → object_at t a ≡ None
    → (IsTrue false → IsSome (kept_in t tops previous a)) × (IsSome (kept_in t tops previous a) → IsTrue false)
kept_nothing t tops previous a e = some_nothing (below_previous t tops a) (is_marked previous a) (object_at t a) e

-- what is kept leads where its object in the table does
pub same_object : (t : Table) (kept : ℕ → Option Stored) (a : ℕ) → Stands t kept → IsSome (kept a) → kept a ≡ object_at t a
same_object t kept a stands h = go (kept a) refl h
  where
    go : (o : Option Stored) → kept a ≡ o → IsSome o → kept a ≡ object_at t a
    go None e x = cc
    go (Some s) e x = e ∙ sym (stands a s e)

pub fields_inside : (t : Table) (kept : ℕ → Option Stored) (a : ℕ) → Stands t kept
    → LeadsInside t.words_per_region (length t.regions) kept → IsSome (kept a) → FieldsInside t a
fields_inside t kept a stands inside h i v f = go (kept a) refl h
  where
    go : (o : Option Stored) → kept a ≡ o → IsSome o → v / t.words_per_region < length t.regions
    go None e x = cc
    go (Some s) e x = inside.each a i v s e (ap (λ (l : List (Option ℕ)). slice_get l i) (sym (fields_of t a s (stands a s e))) ∙ f)

pub not_kept : (kept : ℕ → Option Stored) (a : ℕ) (r : Bool) → (IsSome (kept a) → IsTrue r) → r ≡ false → kept a ≡ None
not_kept kept a r f e = go (kept a) refl
  where
    go : (o : Option Stored) → kept a ≡ o → kept a ≡ None
    go None h = h
    go (Some s) h = absurd (let y : r ≡ true = f (rw h refl) in cc)

-- where no object is, none is kept
pub no_kept : (t : Table) (tops : Tops) (previous : List Bool) (a : ℕ) → object_at t a ≡ None → kept_in t tops previous a ≡ None
no_kept t tops previous a e = go (kept_in t tops previous a) refl
  where
    go : (o : Option Stored) → kept_in t tops previous a ≡ o → kept_in t tops previous a ≡ None
    go None f = f
    go (Some s) f = absurd (let k = kept_object t tops previous a s f in cc)

-- a tile is placed as what it is
pub placed_as : (t : Table) (a : ℕ) (shape : Shape) → IsSome (tile_in t a) → IfSome (tile_in t a) (λ u. shape ≡ tile_shape u)
    → IsPlacedTile t a shape
placed_as t a shape h is = go (tile_in t a) refl h is
  where
    go : (o : Option Tile) → tile_in t a ≡ o → IsSome o → IfSome o (λ u. shape ≡ tile_shape u) → IsPlacedTile t a shape
    go None e x y = cc
    go (Some u) e x y = record { tile = u; tile_is = e; shape_is = y }
