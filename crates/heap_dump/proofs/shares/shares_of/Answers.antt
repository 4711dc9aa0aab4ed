use Rattle.std.proofs.Common.{◌∙◌, List, sym, subst, arith}
use Rattle.std.proofs.lemmas.Grind.{common_steps}
use Rattle.heap_words.specs.declared.addr.Addr.{Addr}
use Rattle.regions.specs.declared.row.Shape.{Shape}
use Rattle.regions.specs.Shaped.{IsShaped}
use Rattle.regions.specs.Walks.{ArePlaced}
use Rattle.heap_dump.specs.declared.shares.Part.TheVariants as parts
use Rattle.heap_dump.proofs.Parts.{part_fits, all_left}
use Rattle.heap_dump.proofs.shares.shares_of.Goals as goal

pub loop-at-init : goal.loop-at-init
loop-at-init c =
    let core = c.args.core.now in
    let is = c.into_iter-at-iterator.ensures.into_iter_gives in
    let walk = is ∙ c.walk_region-at-items.ensures.tiles in
    record {
      are_placed = subst (λ (l : List (Addr × Shape)). ArePlaced core.table l) (sym is) c.walk_region-at-items.ensures.placed;
      in_marked = all_left core parts.Marked _ _ walk;
      in_dead = all_left core parts.Dead _ _ walk;
      in_new = all_left core parts.New _ _ walk;
      in_filler = all_left core parts.Filler _ _ walk;
    }

pub overflow_add-marked : goal.overflow_add-marked
overflow_add-marked c =
    let fits = part_fits c.args.core.now parts.Marked c.args.region (subst IsShaped c.table.ensures c.law.ensures) c.requires in
    grind (arith, common_steps, fits)

pub overflow_add-dead : goal.overflow_add-dead
overflow_add-dead c =
    let fits = part_fits c.args.core.now parts.Dead c.args.region (subst IsShaped c.table.ensures c.law.ensures) c.requires in
    grind (arith, common_steps, fits)

pub overflow_add-new : goal.overflow_add-new
overflow_add-new c =
    let fits = part_fits c.args.core.now parts.New c.args.region (subst IsShaped c.table.ensures c.law.ensures) c.requires in
    grind (arith, common_steps, fits)

pub overflow_add-filler : goal.overflow_add-filler
overflow_add-filler c =
    let fits = part_fits c.args.core.now parts.Filler c.args.region (subst IsShaped c.table.ensures c.law.ensures) c.requires in
    grind (arith, common_steps, fits)
