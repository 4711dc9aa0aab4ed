use Rattle.std.proofs.Common.{◌≤◌, ◌<◌, ◌-◌, ℕ}
use Rattle.refinement.proofs.Fields.{AreInCard}
use Rattle.evacuation.specs.Space.{IsFieldClean, IsStill}
use Rattle.evacuation.specs.Turns.{PauseGoesOn, layout, space}
use Rattle.evacuation.proofs.outside.update_object.Given as goal

abbrev pub ghost-update_field : goal.ghost-update_field
ghost-update_field g a = g.pause

abbrev pub invariant-fields : goal.invariant-fields
invariant-fields g l = record {
  on : PauseGoesOn g.pause l.initial.table l.table l.initial.context l.context;
  still : IsStill (space g.pause l.table) l.at l.count;
  lie : AreInCard l.initial.context.card_words l.place.card l.at l.count l.start l.end;
  low : l.start ≤ l.next;
  clean : (i : ℕ) → l.start ≤ i → i < l.next → IsFieldClean (layout g.pause) (space g.pause l.table) l.at i;
}

abbrev pub decreases-fields : goal.decreases-fields
decreases-fields g l = l.end - l.next
