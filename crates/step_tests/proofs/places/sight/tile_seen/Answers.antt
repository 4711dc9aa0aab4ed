use Rattle.std.proofs.Common.{◌≡◌, ℕ, refl, subst}
use Rattle.std.specs.Prelude.{Option, Some, None, IsSome, IfSome}
use Rattle.regions.specs.Tiles.{Tile, Object, Filler, Forwarded}
use Rattle.regions.specs.Table.{Table, tile_in, tile_object, object_at}
use Rattle.regions.specs.Shapes.{tile_shape}
use Rattle.regions.specs.declared.row.Shape.TheVariants as shapes
use Rattle.step_tests.proofs.places.sight.tile_seen.Goals as goal

-- a tile with an object's shape is an object
is_object : (tile : Option Tile) (p w d : ℕ) → IsSome tile
    → IfSome tile (λ t. shapes.Object p w d ≡ tile_shape t) → IsSome (tile_object tile)
is_object (Some (Object s)) p w d some shape = refl
is_object (Some (Filler n)) p w d some shape = absurd (cc)
is_object (Some (Forwarded to n)) p w d some shape = absurd (cc)
is_object None p w d some shape = absurd (cc)

pub object_seen-requires : goal.object_seen-requires
unfolding object_at
object_seen-requires c =
    let shape = subst (λ (t : Table).
    IfSome (tile_in t c.args.at) (λ t. shapes.Object c.in-Object.pointers c.in-Object.slots c.in-Object.values ≡ tile_shape t))
    c.table.ensures c.in-Object.ensures in
    is_object _ c.in-Object.pointers c.in-Object.slots c.in-Object.values c.requires shape
