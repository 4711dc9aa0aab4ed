use Rattle.std.proofs.Common.{ℕ, subst, IfOk}
use Rattle.mutators.specs.Interleavings.{IsRunOf}
use Rattle.mutators.proofs.Faults.{never_bad, its_fault}
use Rattle.mutators.proofs.threads.run_threads_seen.Goals as goal

pub returns-clause-run : goal.returns-clause-run
returns-clause-run g c =
    subst (λ (x : ℕ × ℕ). IfOk c.gather.result (λ t. IsRunOf c.args.plan.now x.0 x.1 t.history))
    (λ i. (c.in_ok-journal.ensures.cast.1 i, c.in_ok-journal.ensures.cast.2 i)) c.gather.ensures.run

pub returns-clause-bad : goal.returns-clause-bad
returns-clause-bad g c =
    never_bad c.args.plan.now.config c.gather.result c.gather.ensures.fault c.in_ok-journal.ensures.suits
    (λ p. let e = c.in_ok-journal.ensures.bad.1 p in absurd (cc))

pub returns-clause-fault : goal.returns-clause-fault
returns-clause-fault g c = its_fault c.args.plan.now.config c.gather.result c.gather.ensures.fault c.in_ok-journal.ensures.suits
