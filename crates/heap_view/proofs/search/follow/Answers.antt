use Rattle.std.proofs.Common.{◌≡◌, ◌∙◌, ◌<◌, ℕ, ap, arith, refl, subst, sym}
use Rattle.std.specs.Prelude.{IsSome, length}
use Rattle.std.proofs.lemmas.Option.{slice_get_read, slice_get_within}
use Rattle.regions.specs.Table.{pointers_at}
use Rattle.step_core.specs.Stands.{kept_of}
use Rattle.heap_walk.proofs.Entries.{kept_there}
use Rattle.heap_view.specs.declared.search.Stage.{Stage}
use Rattle.heap_view.proofs.Searched.{links_all}
use Rattle.heap_view.proofs.search.follow.Goals as goal

pub links-index-end-requires : goal.links-index-end-requires
links-index-end-requires c =
    let q = c.args.stages.now.items in
    let there = slice_get_read q (length q) c.args.place c.index.result.now refl c.requires.place c.index.ensures in
    kept_there c.args.core.now c.args.core.now.table c.new-object.result refl
    (subst (λ (x : ℕ). IsSome (kept_of c.args.core.now x)) (sym c.new-object.ensures)
    (c.requires.searched.are.kept c.args.place c.index.result.now there))

pub loop-index-init : goal.loop-index-init
loop-index-init c = (c.requires.searched, λ i s e. e)

pub follow_link-requires-clause-place : goal.follow_link-requires-clause-place
follow_link-requires-clause-place c =
    let q = c.args.stages.now.items in
    let there = slice_get_read q (length q) c.args.place c.index.result.now refl c.requires.place c.index.ensures in
    slice_get_within c.loop-index.stages.items c.args.place c.index.result.now
    (c.loop-index.invariant.1 c.args.place c.index.result.now there)

pub follow_link-requires-clause-index : goal.follow_link-requires-clause-index
follow_link-requires-clause-index c = λ stage e.
    let q = c.args.stages.now.items in
    let there = slice_get_read q (length q) c.args.place c.index.result.now refl c.requires.place c.index.ensures in
    let here = c.loop-index.invariant.1 c.args.place c.index.result.now there in
    let same : c.index.result.now ≡ stage = (let two = sym here ∙ e in cc) in
    let count = c.links-index-end.ensures
    ∙ ap (λ (x : ℕ). length (pointers_at c.args.core.now.table x)) c.new-object.ensures in
    subst (λ (x : Stage). c.loop-index.index < length (pointers_at c.args.core.now.table x.at)) same
    (omega (arith, count, c.loop-index-test.true))

pub loop-index-preserved : goal.loop-index-preserved
loop-index-preserved c =
    let (searched, keeps) = c.in_ok-follow_link.ensures in
    (searched, λ i s e. keeps i s (c.loop-index.invariant.1 i s e))

pub returns : goal.returns
returns c =
    let q = c.args.stages.now.items in
    let there = slice_get_read q (length q) c.args.place c.index.result.now refl c.requires.place c.index.ensures in
    let here = c.loop-index.invariant.1 c.args.place c.index.result.now there in
    let count = c.links-index-end.ensures
    ∙ ap (λ (x : ℕ). length (pointers_at c.args.core.now.table x)) c.new-object.ensures in (
      links_all c.args.core.now _ _ c.args.place c.loop-index.index c.index.result.now here
          (omega (arith, count, c.loop-index-test.false)) c.loop-index.invariant.0,
      c.loop-index.invariant.1,
    )
