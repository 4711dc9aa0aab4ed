use Rattle.std.proofs.Common.{◌≡◌, ◌+◌, ℕ, Option, Some, None, refl, subst, arith}
use Rattle.heap_walk.specs.Searching.{GrowsTo, IsRootStepIn}
use Rattle.heap_walk.specs.declared.steps.RootStep.{RootStep}
use Rattle.heap_walk.proofs.Ways.{many, searched_next, told_none, told_way}
use Rattle.heap_walk.proofs.paths.search.Goals as goal

pub returns-in-Some-clause-told : goal.returns-in-Some-clause-told
returns-in-Some-clause-told c = λ count e.
    let core = c.args.core.now in
    let s = c.loop-low.invariant.found in
    let found : IsRootStepIn core c.loop-low.steps c.loop-low.low c.loop-low.last (Some c.in-Some.found) =
    subst (λ (o : Option RootStep). IsRootStepIn core c.loop-low.steps c.loop-low.low c.loop-low.last o) c.in-Some.is c.root_step.ensures in
    let same : c.loop-low.depth + 1 ≡ count = cc in
    told_way core c.args.name c.loop-low.steps c.args.room c.loop-low.low c.loop-low.last c.loop-low.depth s c.write_way.new.steps count
    same c.write_way.ensures.room (c.write_way.ensures.way found.name c.args.name found.named s.named found.root)

pub returns-in_default-grow-clause-none : goal.returns-in_default-grow-clause-none
returns-in_default-grow-clause-none c = λ e.
    let core = c.args.core.now in
    let s = c.loop-low.invariant.found in
    let spent : GrowsTo core c.loop-low.steps c.grow.new.steps c.loop-low.low c.loop-low.last c.args.room None =
    subst (λ (o : Option ℕ). GrowsTo core c.loop-low.steps c.grow.new.steps c.loop-low.low c.loop-low.last c.args.room o)
    c.in_default-grow.is c.grow.ensures in
    many core c.args.name c.loop-low.steps c.args.room c.loop-low.low c.loop-low.last c.loop-low.depth s c.grow.new.steps spent.0 spent.1.0
    spent.1.1 (omega (arith, c.loop-low.invariant.long, c.grow.auto.steps)) c.requires.two

pub loop-low-preserved : goal.loop-low-preserved
loop-low-preserved c =
    let core = c.args.core.now in
    let s = c.loop-low.invariant.found in
    let grown : GrowsTo core c.loop-low.steps c.grow.new.steps c.loop-low.low c.loop-low.last c.args.room (Some c.in-Some-grow.next) =
    subst (λ (o : Option ℕ). GrowsTo core c.loop-low.steps c.grow.new.steps c.loop-low.low c.loop-low.last c.args.room o)
    c.in-Some-grow.is c.grow.ensures in
    let rootless : IsRootStepIn core c.loop-low.steps c.loop-low.low c.loop-low.last None =
    subst (λ (o : Option RootStep). IsRootStepIn core c.loop-low.steps c.loop-low.low c.loop-low.last o) c.in_default.is c.root_step.ensures
    in
    record {
      found = searched_next core c.args.name c.loop-low.steps c.args.room c.loop-low.low c.loop-low.last c.loop-low.depth s
          c.grow.new.steps c.in-Some-grow.next grown.1 grown.2 (c.loop-low.depth + 1) refl c.loop-low-test.true grown.0 rootless;
      long = omega (arith, c.loop-low.invariant.long, c.grow.auto.steps);
    }

pub returns-clause-told : goal.returns-clause-told
returns-clause-told c = λ count e.
    let same : 0 ≡ count = cc in
    told_none c.args.core.now c.args.name c.loop-low.steps c.args.room c.loop-low.low c.loop-low.last c.loop-low.depth
    c.loop-low.invariant.found c.loop-low.steps count (omega (arith, c.loop-low-test.false)) same
