use Rattle.std.proofs.Common.{◌+◌, ◌++◌, ◌∷◌, [], List, arith, subst, sym}
use Rattle.std.proofs.lemmas.List.{get_or_default}
use Rattle.heap_view.specs.declared.census.Row.{Row}
use Rattle.heap_view.proofs.Counting.{IsCounted, counted_all, counted_more, counted_none, run_positive, run_within}
use Rattle.heap_view.proofs.census.rows_of.Goals as goal

pub loop-place-init : goal.loop-place-init
loop-place-init c =
    subst (λ (r : List Row). IsCounted c.args.classes.now 0 r) (sym c.new-rows.ensures.items) (counted_none c.args.classes.now)

pub row_of-requires : goal.row_of-requires
row_of-requires c =
    let within = run_within c.args.classes.now c.loop-place.place _ _ c.loop-place.rows.items c.requires.sorted c.loop-place-test.true
    c.run_length-count.ensures (λ d. get_or_default c.args.classes.now c.loop-place.place _ d c.loop-place-test.true)
    c.loop-place.invariant in
    record {
      objects = (let few = c.requires.small.few in omega (arith, within, few));
      size = c.requires.small.each c.loop-place.place _ c.loop-place-test.true;
    }

pub loop-place-smaller : goal.loop-place-smaller
loop-place-smaller c =
    let some = run_positive c.args.classes.now c.loop-place.place _ _ c.loop-place.rows.items c.requires.sorted c.loop-place-test.true
    c.run_length-count.ensures (λ d. get_or_default c.args.classes.now c.loop-place.place _ d c.loop-place-test.true)
    c.loop-place.invariant in
    let more = c.loop-place-test.true in
    omega (arith, some, more)

pub loop-place-preserved : goal.loop-place-preserved
loop-place-preserved c =
    let next = c.loop-place.place + c.run_length-count.result in
    subst (λ (r : List Row). IsCounted c.args.classes.now next r) (sym c.in_ok-push.ensures.items)
    (subst (λ (row : Row). IsCounted c.args.classes.now next (c.loop-place.rows.items ++ row ∷ [])) (sym c.row_of.ensures)
    (counted_more c.args.classes.now c.loop-place.place _ _ c.loop-place.rows.items c.requires.sorted c.loop-place-test.true
    c.run_length-count.ensures (λ d. get_or_default c.args.classes.now c.loop-place.place _ d c.loop-place-test.true)
    c.loop-place.invariant))

pub returns : goal.returns
returns c = counted_all c.args.classes.now c.loop-place.place c.loop-place.rows.items c.loop-place-test.false c.loop-place.invariant
