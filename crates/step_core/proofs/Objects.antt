-- Tiles that are objects, and their names.
use Rattle.std.proofs.Common.{◌≡◌, ℕ, ◌*◌, ◌<◌, Option, Some, None, length, refl, sym, ap, arith, ◌/◌, ◌≤◌, IsSome, IfSome}
use Rattle.heap_model.specs.Heap.{Stored}
use Rattle.regions.specs.Tiles.{Tile, Object}
use Rattle.regions.specs.Table.{Table, tile_object, tile_in, object_at, top_of}
use Rattle.regions.specs.Shapes.{tile_shape}
use Rattle.regions.specs.Shaped.{IsShaped}
use Rattle.regions.specs.declared.row.Shape.TheVariants as shapes
use Rattle.regions.specs.Walks.{IsHolder}
use Rattle.regions.proofs.Tiles.Laws.{object_tile}
use Rattle.regions.proofs.Tiles.Holders.{holder_below, one_holder}
use Rattle.refinement.proofs.Holders.{object_within}
use Rattle.step_core.specs.Stands.{name_of}

-- a tile with an object's shape is an object
pub is_object : (tile : Option Tile) (p w d : ℕ) → IsSome tile
    → IfSome tile (λ t. shapes.Object p w d ≡ tile_shape t) → IsSome (tile_object tile)
is_object (Some (Object s)) p w d some shape = refl
is_object _ p w d some shape = absurd (cc)

-- the name that an object has
pub has_name : (o : Option Stored) (n : ℕ) → IsSome o → IfSome o (λ s. n ≡ s.name) → name_of o ≡ Some n
has_name (Some s) n some e = ap (λ (m : ℕ). Some m) (sym e)
has_name None n some e = absurd (cc)

-- an object starts at a word of the heap
pub object_word : (t : Table) (a : ℕ) → IsShaped t → IsSome (object_at t a) → a < length t.regions * t.words_per_region
object_word t a g some = go (object_at t a) refl some
  where
    go : (o : Option Stored) → object_at t a ≡ o → IsSome o → a < length t.regions * t.words_per_region
    go None f x = absurd (cc)
    go (Some s) f x = let w = object_within t a s g f in omega (arith, w)

-- ---- where no object starts
-- neither a tile with a filler's shape nor one that has moved is an object
pub filler_object : (tile : Option Tile) (n : ℕ) → IfSome tile (λ t. shapes.Filler n ≡ tile_shape t) → tile_object tile ≡ None
filler_object (Some (Object s)) n shape = absurd (cc)
filler_object _ n shape = refl

pub forwarded_object : (tile : Option Tile) (to n : ℕ) → IfSome tile (λ t. shapes.Forwarded to n ≡ tile_shape t)
    → tile_object tile ≡ None
forwarded_object (Some (Object s)) to n shape = absurd (cc)
forwarded_object _ to n shape = refl

-- where what follows from an object is false there is none
none_if : (t : Table) (a : ℕ) → ((s : Stored) → object_at t a ≡ Some s → ⊥) → object_at t a ≡ None
none_if t a h = go (object_at t a) refl
  where
    go : (o : Option Stored) → object_at t a ≡ o → object_at t a ≡ None
    go None e = e
    go (Some s) e = absurd (h s e)

-- an object holds the word that it starts at
object_holder : (t : Table) (a : ℕ) (s : Stored) → object_at t a ≡ Some s → IsHolder t a a
unfolding object_at
object_holder t a s e = record { tile = Object s; tile_is = object_tile (tile_in t a) s e; low = omega arith; high = omega arith }

pub none_past : (t : Table) (a : ℕ) → IsShaped t → length t.regions * t.words_per_region ≤ a → object_at t a ≡ None
none_past t a g past = none_if t a (λ s e. let w = object_within t a s g e in absurd (omega (arith, w)))

-- none starts where no tile holds the word
pub none_held : (t : Table) (a : ℕ) → IsShaped t → (a < top_of t (a / t.words_per_region) → ⊥) → object_at t a ≡ None
none_held t a g above = none_if t a (λ s e. above (holder_below t a a g (object_holder t a s e)))

-- none starts where another tile holds the word
pub none_inside : (t : Table) (first a : ℕ) → IsShaped t → IsHolder t first a → (first ≡ a → ⊥) → object_at t a ≡ None
none_inside t first a g held other = none_if t a (λ s e. other (one_holder t first a a g held (object_holder t a s e)))
