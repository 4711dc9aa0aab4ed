use Rattle.std.proofs.Common.{arith, length, ◌≡◌, ◌+◌, ◌∙◌, ap, sym, subst, ℕ, List, slice_index}
use Rattle.std.proofs.lemmas.List.{length-replicate}
use Rattle.heap_words.specs.declared.config.Config.{Config}
use Rattle.heap_steps.specs.declared.step.Step.{Step}
use Rattle.heap_steps.specs.Actors.{AreSteps}
use Rattle.step_core.specs.Fresh.{fresh_core}
use Rattle.mutators.specs.Scripts.{scripted, lines_of}
use Rattle.mutators.proofs.Counts.{zeros}
use Rattle.mutators.proofs.New.{keeps_new}
use Rattle.mutators.proofs.journal.Journal.new.Goals as goal

pub rows_of-requires-clause-steps : goal.rows_of-requires-clause-steps
rows_of-requires-clause-steps c =
    subst (λ (x : Config × List Step). AreSteps x.0 x.1)
    (λ i. (sym c.config-config.ensures i, sym c.steps.ensures.steps i)) c.steps.ensures.each

pub returns-clause-scripts : goal.returns-clause-scripts
returns-clause-scripts c k below =
    let m : c.config-config.result.mutators ≡ c.args.plan.now.config.mutators = ap (λ (n : Config). n.mutators) c.config-config.ensures in
    c.in-Ok-rows_of.ensures.each k (omega (arith, m))
    ∙ ap (λ (x : ℕ × List Step). lines_of (scripted x.0 k) x.1) (λ i. (m i, c.steps.ensures.steps i))

pub invariant_of-result : goal.invariant_of-result
invariant_of-result c =
    let rows = c.in-Ok-rows_of.rows in
    let h = c.in-Ok-rows_of.ensures in
    let m : c.config-config.result.mutators ≡ c.args.plan.now.config.mutators = ap (λ (n : Config). n.mutators) c.config-config.ensures in
    let count = c.config-config.result.mutators + 1 in
    keeps_new (λ s. s.items) rows.scripts.items c.args.plan.now.config c.args.plan.now.steps c.in-Ok.core
    rows.places.items rows.events.items h.events (c.in-Ok.ensures.config ∙ c.config-config.ensures)
    (rw (sym c.config-config.ensures) c.in-Ok.ensures.suits)
    (c.in-Ok.ensures.fresh ∙ ap fresh_core c.config-config.ensures) c.in-Ok.ensures.core
    (rw (sym c.config-config.ensures) c.in-Ok.ensures.stands) c.steps.ensures.each
    (h.len ∙ ap (λ n. n + 1) m)
    (λ k below.
    h.each k (omega (arith, m)) ∙ ap (λ (x : ℕ × List Step). lines_of (scripted x.0 k) x.1) (λ i. (m i, c.steps.ensures.steps i)))
    (ap (λ (ns : List ℕ). length ns) h.places ∙ length-replicate count 0 ∙ ap (λ n. n + 1) m)
    (λ k. ap (λ (ns : List ℕ). slice_index ns k) h.places ∙ zeros count k)

pub returns-clause-places : goal.returns-clause-places
returns-clause-places c k =
    ap (λ (ns : List ℕ). slice_index ns k) c.in-Ok-rows_of.ensures.places ∙ zeros (c.config-config.result.mutators + 1) k

pub returns-clause-keeps : goal.returns-clause-keeps
returns-clause-keeps c = invariant_of-result c

pub returns-in_default-clause-fault : goal.returns-in_default-clause-fault
returns-in_default-clause-fault c = rw (sym c.config-config.ensures) c.in-Ok.ensures.suits
