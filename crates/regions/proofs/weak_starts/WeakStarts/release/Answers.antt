use Rattle.std.proofs.Common.{sym, ◌∙◌, arith}
use Rattle.regions.proofs.Tiles.WeakStarts.{none_cleared}
use Rattle.regions.proofs.weak_starts.WeakStarts.release.Goals as goal

pub overflow_mul-bottom : goal.overflow_mul-bottom
overflow_mul-bottom c =
    let room = rw (← c.self.view_is) at c.requires in
    omega (arith, room, c.law.ensures)

pub overflow_add-bottom : goal.overflow_add-bottom
overflow_add-bottom c =
    let room = rw (← c.self.view_is) at c.requires in
    omega (arith, room, c.law.ensures)

pub returns-else-get-clause-flags : goal.returns-else-get-clause-flags
returns-else-get-clause-flags c =
    rw (← c.self.view_is)
    (none_cleared c.self.inside.region_words c.args.region c.self.inside.regions c.self.inside.addresses
    c.self.invariant (sym c.get.ensures ∙ c.if-get.false))
