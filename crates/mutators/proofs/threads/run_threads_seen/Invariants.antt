use Rattle.std.specs.Prelude.{◌+◌}
use Rattle.mutators.proofs.threads.run_threads_seen.Given as goal

abbrev pub ghosts-gather-C-Crew : goal.ghosts-gather-C-Crew
ghosts-gather-C-Crew g a = record {
  plan = a.plan.now;
  markers = a.cast.markers;
  refiners = a.cast.refiners;
  places = a.cast.mutators + 1 + a.cast.markers + a.cast.refiners;
}

abbrev pub ghosts-gather-C-Ledger : goal.ghosts-gather-C-Ledger
ghosts-gather-C-Ledger g a = record { name = a.blank.name; parts = a.blank.parts }
