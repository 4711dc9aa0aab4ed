use Rattle.evacuation.specs.Space.{IsStill}
use Rattle.evacuation.specs.Turns.{PauseGoesOn, space}
use Rattle.evacuation.specs.Cursors.{AreFieldsSettled}
use Rattle.evacuation.proofs.copied.settle_object.Given as goal

abbrev pub ghost-settle_field : goal.ghost-settle_field
ghost-settle_field g a = g.pause

abbrev pub invariant-loop-field : goal.invariant-loop-field
invariant-loop-field g l = record {
  on : PauseGoesOn g.pause l.initial.table l.table l.initial.context l.context;
  still : IsStill (space g.pause l.table) l.at l.count;
  settled : AreFieldsSettled g.pause l.context.noted l.table l.at l.field;
}
