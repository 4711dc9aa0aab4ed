use Rattle.std.proofs.Common.{◌≡◌, ◌∙◌, ◌++◌, ap, refl, List, arith}
use Rattle.rand_pcg.specs.Pcg.{pcg32}
use Rattle.step_core.specs.Steps.{Actor, Event}
use Rattle.mutators.specs.Journals.{mutators_of}
use Rattle.mutators.specs.Draws.{rest_of, has_background, scripted_actors}
use Rattle.mutators.proofs.Rounds.{none_asked, lefts_first, picked_first}
use Rattle.mutators.specs.Interleavings.{IsOf}
use Rattle.mutators.proofs.Plans.{whole_run, same_plan, none_left}
use Rattle.mutators.proofs.Faults.{bad_exactly}
use Rattle.mutators.proofs.schedule.simulate.Goals as goal

pub returns-clause-drawn : goal.returns-clause-drawn
returns-clause-drawn c =
    let d₀ = c.in-Ok.journal in
    let b = has_background c.args.markers c.args.refiners in
    let lines = c.args.plan.now.steps in
    let m : mutators_of d₀ ≡ c.args.plan.now.config.mutators = ap (λ x. x.mutators) c.in-Ok.ensures.config in
    let lefts =
    lefts_first d₀ c.args.plan.now.config.mutators lines c.in-Ok.ensures.keeps m c.in-Ok.ensures.places c.in-Ok.ensures.scripts in
    let rest : List Actor = rest_of pcg32 b c.new-words.result d₀ in
    ap (λ (es : List Event). scripted_actors es) c.into_record.ensures.events ∙ c.in-Ok-all_rounds.ensures.drawn
    ∙ ap (λ (es : List Event). scripted_actors es ++ rest) c.in-Ok.ensures.events
    ∙ picked_first pcg32 b c.new-words.result _ d₀ c.args.plan.now.config.mutators lines c.new-words.ensures m lefts

pub returns-clause-run : goal.returns-clause-run
returns-clause-run c =
    let d₀ = c.in-Ok.journal in
    let d = c.all_rounds.new.journal in
    let none = none_asked c.args.markers c.args.refiners d₀ c.in-Ok.ensures.events in
    let first : IsOf c.args.plan.now c.args.markers c.args.refiners d₀ = record {
      config = c.in-Ok.ensures.config;
      scripts = c.in-Ok.ensures.scripts;
      asked = none;
    } in
    let keeps = c.into_record.ensures.keeps in
    whole_run c.args.plan.now c.args.markers c.args.refiners d c.into_record.result
    (same_plan c.args.plan.now c.args.markers c.args.refiners d₀ d c.in-Ok-all_rounds.ensures.plan
    (c.in-Ok-all_rounds.ensures.asked none) first) keeps (none_left d keeps c.in-Ok-all_rounds.ensures.over)
    c.into_record.ensures.config c.into_record.ensures.events

pub returns-in-Err-clause-fault : goal.returns-in-Err-clause-fault
returns-in-Err-clause-fault c = λ other. c.run_fault.ensures c.args.plan.now.config c.in-Err.ensures.fault

pub returns-in-Err-clause-bad : goal.returns-in-Err-clause-bad
returns-in-Err-clause-bad c =
    bad_exactly c.args.plan.now.config c.run_fault.result _ refl (c.run_fault.ensures c.args.plan.now.config c.in-Err.ensures.fault)
    (λ over. omega (arith, over, c.if-refiners-gt8.false, c.if-markers-gt8.false))

pub returns-clause-bad : goal.returns-clause-bad
returns-clause-bad c = (λ same. absurd (cc), λ over. absurd (omega (arith, over, c.if-refiners-gt8.false, c.if-markers-gt8.false)))

pub returns-in_default-clause-bad : goal.returns-in_default-clause-bad
returns-in_default-clause-bad c =
    (λ same. absurd (cc), λ over. absurd (omega (arith, over, c.if-refiners-gt8.false, c.if-markers-gt8.false)))
