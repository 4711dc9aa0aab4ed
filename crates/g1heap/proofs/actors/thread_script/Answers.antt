use Rattle.job_ends.proofs.Endings.{ends}
use Rattle.g1heap.proofs.Endings.{comes_threaded}
use Rattle.mutators.specs.Interleavings.{IsThreadsFault}
use Rattle.g1heap.specs.Runs.{CanStart, IsThreadedRun, IsCountedFault}
use Rattle.g1heap.proofs.actors.thread_script.Goals as goal

pub returns : goal.returns
returns g c =
    let run = c.run_threads-outcome.ensures in
    ends (IsThreadedRun c.args.workers c.args.refiners c.args.markers)
    (IsCountedFault (CanStart c.args.workers c.args.refiners c.args.markers) IsThreadsFault) c.in_ok-plan.plan _ _ _ _
    c.run_threads-outcome.result c.answer.result c.in_ok-plan.ensures
    (comes_threaded c.in_ok-plan.plan c.args.workers c.args.refiners c.args.markers c.run_threads-outcome.result run.run run.bad run.fault)
    c.answer.ensures
