use Rattle.std.proofs.Common.{◌≡◌, ◌++◌}
use Rattle.rand_pcg.specs.Pcg.{pcg32}
use Rattle.mutators.specs.Turns.{SamePlan}
use Rattle.mutators.specs.Draws.{total, lefts_of, open_places, rest_of, has_background, scripted_actors}
use Rattle.mutators.specs.Interleavings.{AreAsked}
use Rattle.mutators.proofs.Rounds.{HasGone}
use Rattle.mutators.proofs.schedule.all_rounds.Given as goal

abbrev pub invariant-rounds : goal.invariant-rounds
invariant-rounds l = record {
  plan : SamePlan l.initial.journal l.journal;
  asked : AreAsked l.markers l.refiners l.initial.journal.events → AreAsked l.markers l.refiners l.journal.events;
  drawn : scripted_actors l.journal.events ++ rest_of pcg32 (has_background l.markers l.refiners) l.words l.journal
      ≡ scripted_actors l.initial.journal.events ++ rest_of pcg32 (has_background l.markers l.refiners) l.initial.words l.initial.journal;
  gone : HasGone pcg32 l.markers l.refiners l.initial.journal l.initial.words l.journal l.words;
  left : l.unfinished.items ≡ open_places (lefts_of l.journal);
}

abbrev pub decreases-rounds : goal.decreases-rounds
decreases-rounds l = total (lefts_of l.journal)
