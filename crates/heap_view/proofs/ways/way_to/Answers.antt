use Rattle.std.proofs.Common.{◌≡◌, ◌∙◌, ℕ, ap, arith, subst, sym}
use Rattle.std.specs.Prelude.{IsSome}
use Rattle.std.proofs.lemmas.Option.{slice_get_within}
use Rattle.step_core.specs.Stands.{kept_of}
use Rattle.heap_view.specs.Search.{IsLink, PointsTo}
use Rattle.heap_view.specs.declared.search.Stage.{Stage}
use Rattle.heap_view.proofs.WayBack.{back_first, back_last, back_less, back_more, from_object, from_root}
use Rattle.heap_view.proofs.ways.way_to.Goals as goal

pub loop-stage-init : goal.loop-stage-init
loop-stage-init c = λ last e.
    back_first c.args.core.now c.args.stages.now c.args.place c.stage_at-stage.result last _ c.new-way.ensures.items
    c.stage_at-stage.ensures e

pub stage_at-before-requires : goal.stage_at-before-requires
stage_at-before-requires c =
    let q = c.args.stages.now in
    let s = c.loop-stage.stage in
    let b = c.loop-stage.invariant c.stage_at-stage.result c.stage_at-stage.ensures in
    let found = from_object c.args.core.now q s s.depth (c.requires.search.over.are.each b.place s b.there)
    (omega (arith, c.loop-stage-test.true)) in
    slice_get_within q s.from found.before found.there

pub link_of-requires-clause-kept : goal.link_of-requires-clause-kept
link_of-requires-clause-kept c =
    subst (λ (x : ℕ). IsSome (kept_of c.args.core.now x)) (sym c.new.ensures)
    (c.requires.search.over.are.kept c.loop-stage.stage.from c.stage_at-before.result c.stage_at-before.ensures)

pub link_of-requires-clause-leads : goal.link_of-requires-clause-leads
link_of-requires-clause-leads c =
    let q = c.args.stages.now in
    let s = c.loop-stage.stage in
    let b = c.loop-stage.invariant c.stage_at-stage.result c.stage_at-stage.ensures in
    let found = from_object c.args.core.now q s s.depth (c.requires.search.over.are.each b.place s b.there)
    (omega (arith, c.loop-stage-test.true)) in
    let same : found.before ≡ c.stage_at-before.result = (let two = sym found.there ∙ c.stage_at-before.ensures in cc) in
    subst (λ (x : ℕ). PointsTo c.args.core.now c.new.result x) (sym c.new-in-loop-stage.ensures)
    (subst (λ (x : ℕ). PointsTo c.args.core.now x s.at) (ap (λ (x : Stage). x.at) same ∙ sym c.new.ensures) found.leads)

pub loop-stage-smaller : goal.loop-stage-smaller
loop-stage-smaller c =
    let s = c.loop-stage.stage in
    let b = c.loop-stage.invariant c.stage_at-stage.result c.stage_at-stage.ensures in
    back_less c.args.core.now c.args.stages.now s c.stage_at-before.result b.place c.requires.search b.there
    (omega (arith, c.loop-stage-test.true)) c.stage_at-before.ensures

pub loop-stage-preserved : goal.loop-stage-preserved
loop-stage-preserved c = λ last e.
    let core = c.args.core.now in
    let s = c.loop-stage.stage in
    let h = c.link_of.result in
    let link = subst (λ (x : ℕ). IsLink core c.stage_at-before.result.at x h) c.new-in-loop-stage.ensures
    (subst (λ (x : ℕ). IsLink core x c.new-in-loop-stage.result h) c.new.ensures c.link_of.ensures) in
    back_more core c.args.stages.now last s c.stage_at-before.result _ _ h c.requires.search (c.loop-stage.invariant last e)
    (omega (arith, c.loop-stage-test.true)) c.stage_at-before.ensures link c.in_ok-push.ensures.items

pub root_entry-requires : goal.root_entry-requires
root_entry-requires c =
    let s = c.loop-stage.stage in
    let b = c.loop-stage.invariant c.stage_at-stage.result c.stage_at-stage.ensures in
    (from_root c.args.core.now c.args.stages.now s s.depth (c.requires.search.over.are.each b.place s b.there)
    (omega (arith, c.loop-stage-test.false))).place

pub returns : goal.returns
returns c = λ last e.
    back_last c.args.core.now c.args.stages.now last c.loop-stage.stage _ _ _ c.root_entry.result c.law_remembers.ensures.core
    c.requires.search (c.loop-stage.invariant last e) (omega (arith, c.loop-stage-test.false)) c.root_entry.ensures
    c.in_ok-push-2.ensures.items c.reverse.ensures.items
