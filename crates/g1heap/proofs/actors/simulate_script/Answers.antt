use Rattle.job_ends.proofs.Endings.{ends}
use Rattle.g1heap.proofs.Endings.{comes_drawn}
use Rattle.heap_steps.specs.Faults.{IsRunFault}
use Rattle.g1heap.specs.Runs.{AreFew, IsDrawnRun, IsCountedFault}
use Rattle.g1heap.proofs.actors.simulate_script.Goals as goal

pub returns : goal.returns
returns g c =
    let run = c.simulate-outcome.ensures in
    ends (IsDrawnRun c.args.seed c.args.refiners c.args.markers)
    (IsCountedFault (AreFew c.args.refiners c.args.markers) IsRunFault) c.in_ok-plan.plan _ _ _ _ c.simulate-outcome.result c.answer.result
    c.in_ok-plan.ensures
    (comes_drawn c.in_ok-plan.plan c.args.seed c.args.refiners c.args.markers c.simulate-outcome.result run.run run.drawn
    run.rounds run.bad run.fault) c.answer.ensures
