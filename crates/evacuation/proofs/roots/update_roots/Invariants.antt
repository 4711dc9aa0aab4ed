use Rattle.std.proofs.Common.{◌≡◌, ◌-◌, length}
use Rattle.heap_model.specs.Evacuation.{place_after}
use Rattle.evacuation.specs.Space.{AreRootsMoved}
use Rattle.evacuation.specs.Turns.{IsTurn, After, in_set, space}
use Rattle.evacuation.proofs.roots.update_roots.Given as goal
use Rattle.evacuation.specs.declared.room.Notes.{Notes}

abbrev pub ghost-new_word : goal.ghost-new_word
ghost-new_word g a = g.pause

abbrev pub invariant-loop-place : goal.invariant-loop-place
invariant-loop-place g l = record {
  turn : IsTurn g.pause l.table l.destinations;
  after : (noted : Notes) → After g.pause noted noted l.initial.table l.table l.initial.destinations l.destinations;
  roots : AreRootsMoved (place_after (in_set g.pause) (space g.pause l.table).forward) g.pause.roots l.roots.words l.place;
  places : l.roots.places ≡ l.initial.roots.places;
}

abbrev pub decreases-loop-place : goal.decreases-loop-place
decreases-loop-place g l = length l.roots.words - l.place
