use Rattle.std.proofs.Common.{IsSome, IfSome, Option, ℕ, subst, sym}
use Rattle.regions.specs.Table.{Table, tile_in}
use Rattle.step_core.specs.Stands.{kept_of}
use Rattle.heap_walk.proofs.Keeping.{kept_tile}
use Rattle.heap_walk.proofs.kept.tile_after.Goals as goal

pub tile_above-requires : goal.tile_above-requires
tile_above-requires c =
    subst (λ (t : Table). IsSome (tile_in t c.in-Some.at)) (sym c.table.ensures)
    (kept_tile c.args.core.now c.in-Some.at
    (subst (λ (o : Option ℕ). IfSome o (λ a. IsSome (kept_of c.args.core.now a))) c.in-Some.is c.requires))
