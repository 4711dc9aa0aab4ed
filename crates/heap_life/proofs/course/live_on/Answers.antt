use Rattle.std.proofs.Common.{◌∙◌, rules, refl, sym, subst, arith}
use Rattle.heap_words.specs.declared.config.Config.{Config}
use Rattle.heap_steps.specs.Actors.{IsStep, IsStepOf}
use Rattle.heap_life.specs.Tolds.{nothing_told}
use Rattle.heap_life.proofs.Courses.{begun, passed, lived}
use Rattle.heap_life.proofs.course.live_on.Goals as goal

pub loop-index-init : goal.loop-index-init
loop-index-init c =
    begun _ _ _ _ _ _ (search rules) (search rules) refl refl refl (search rules) (λ s stands. search rules) c.requires.told refl
    c.requires.teller

pub pass-requires-clause-own : goal.pass-requires-clause-own
pass-requires-clause-own c =
    subst (λ (config : Config). IsStepOf config c.event_at-event.result.actor c.event_at-event.result.step)
    (sym c.loop-index.invariant.config) (c.event_at-event.ensures.own c.args.core.now.config c.requires.events)

pub pass-requires-clause-step : goal.pass-requires-clause-step
pass-requires-clause-step c =
    subst (λ (config : Config). IsStep config c.event_at-event.result.step) (sym c.loop-index.invariant.config)
    (c.event_at-event.ensures.step c.args.core.now.config c.requires.events)

pub pass-requires-clause-sizes : goal.pass-requires-clause-sizes
pass-requires-clause-sizes c = c.loop-index.invariant.sizes ∙ sym c.loop-index.invariant.config

pub pass-requires-clause-teller : goal.pass-requires-clause-teller
pass-requires-clause-teller c = c.loop-index.invariant.teller

pub note_if-requires : goal.note_if-requires
note_if-requires c = c.loop-index.invariant.teller

pub loop-index-preserved : goal.loop-index-preserved
loop-index-preserved c =
    passed c.args.teller.most (nothing_told c.args.teller.tiles) c.args.core.now c.args.pace.now c.args.events.now c.loop-index.index
    c.event_at-event.result c.loop-index.core c.pass.new.core
    c.loop-index.course c.pass.new.course c.loop-index.invariant c.loop-index-test.true c.event_at-event.ensures.at c.in_ok-pass.ensures

pub returns : goal.returns
returns c =
    lived c.args.teller.most (nothing_told c.args.teller.tiles) c.args.core.now c.args.pace.now c.args.events.now c.loop-index.core
    c.loop-index.course c.note_if.new.moments.items
    c.note_if.new.teller c.loop-index.index (omega arith) c.loop-index.invariant c.in_ok-note_if.ensures
