use Rattle.std.proofs.Common.{ℕ, subst, arith}
use Rattle.heap_walk.specs.Paths.{HasMany}
use Rattle.heap_walk.proofs.Places.{this_name}
use Rattle.heap_walk.proofs.GraphWays.{ways_show}
use Rattle.heap_walk.proofs.Showing.{links_show}
use Rattle.heap_walk.proofs.Ways.{few_names, told_all}
use Rattle.heap_walk.proofs.paths.path.Goals as goal

pub returns-then-room-lt2-clause-tells : goal.returns-then-room-lt2-clause-tells
returns-then-room-lt2-clause-tells c =
    subst (λ (k : ℕ). HasMany c.args.core.now c.args.name k) c.min-room.ensures
    (few_names c.args.core.now c.args.name c.min-room.result c.if-room-lt2.true)

pub returns-then-room-lt2-clause-shows : goal.returns-then-room-lt2-clause-shows
returns-then-room-lt2-clause-shows c = λ s stands. links_show s c.args.core.now stands

pub search-requires-clause-named : goal.search-requires-clause-named
search-requires-clause-named c = this_name c.args.steps.now _ _ (omega (arith, c.min-room.ensures, c.if-room-lt2.false))

pub returns-clause-tells : goal.returns-clause-tells
returns-clause-tells c =
    told_all c.args.core.now c.args.name c.args.steps.now c.search.new.steps c.min-room.result c.search.result c.min-room.ensures
    c.search.ensures.none c.search.ensures.told

pub returns-clause-shows : goal.returns-clause-shows
returns-clause-shows c = λ s stands. links_show s c.args.core.now stands

pub returns-then-room-lt2-clause-ways : goal.returns-then-room-lt2-clause-ways
returns-then-room-lt2-clause-ways c = λ s stands. ways_show s c.args.core.now c.law_remembers.ensures.core stands

pub returns-clause-ways : goal.returns-clause-ways
returns-clause-ways c = λ s stands. ways_show s c.args.core.now c.law_remembers.ensures.core stands
