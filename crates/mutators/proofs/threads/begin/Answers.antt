use Rattle.std.proofs.Common.{◌≡◌, refl, ap, ◌∙◌, List, length, arith}
use Rattle.heap_words.specs.declared.config.Config.{Config}
use Rattle.heap_steps.specs.declared.step.Event.{Event}
use Rattle.mutators.proofs.Rounds.{none_asked}
use Rattle.mutators.proofs.Faults.{bad_exactly, threads_fault}
use Rattle.mutators.proofs.threads.begin.Goals as goal

pub returns-in-Err-clause-fault : goal.returns-in-Err-clause-fault
returns-in-Err-clause-fault c =
    λ other. threads_fault c.args.plan.now.config c.run_fault.result (c.run_fault.ensures c.args.plan.now.config c.in-Err.ensures.fault)

pub returns-in-Err-clause-bad : goal.returns-in-Err-clause-bad
returns-in-Err-clause-bad c =
    bad_exactly c.args.plan.now.config c.run_fault.result _ refl (c.run_fault.ensures c.args.plan.now.config c.in-Err.ensures.fault)
    (λ p. let e = c.if-not-are_counts.ensures.bad.1 p in absurd (cc))

pub returns-clause-of : goal.returns-clause-of
returns-clause-of c = record {
  config = c.in-Ok.ensures.config;
  scripts = c.in-Ok.ensures.scripts;
  asked = none_asked c.args.markers c.args.refiners c.in-Ok.journal c.in-Ok.ensures.events;
}

pub returns-clause-empty : goal.returns-clause-empty
returns-clause-empty c = ap (λ (es : List Event). length es) c.in-Ok.ensures.events

pub returns-clause-cast : goal.returns-clause-cast
returns-clause-cast c = (ap (λ (n : Config). n.mutators) (c.config.ensures.value ∙ c.in-Ok.ensures.config), refl, refl)

pub returns-clause-few : goal.returns-clause-few
returns-clause-few c = (c.if-not-are_counts.ensures.few refl).0

pub returns-clause-bad : goal.returns-clause-bad
returns-clause-bad c = (λ same. absurd (cc), λ p. let e = c.if-not-are_counts.ensures.bad.1 p in absurd (cc))

pub invariant_of-cast : goal.invariant_of-cast
invariant_of-cast c =
    let fit = c.if-not-are_counts.ensures.few refl in
    let same : c.config.result.mutators ≡ c.in-Ok.journal.core.config.mutators = ap (λ (n : Config). n.mutators) c.config.ensures.value in
    let few = c.config.ensures.keeps.few in record { small = (omega (arith, same, few), fit.2, fit.1) }
