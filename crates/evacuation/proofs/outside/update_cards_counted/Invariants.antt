use Rattle.std.proofs.Common.{◌+◌, ◌≤◌, ◌-◌, Bool, count_by, length, take}
use Rattle.evacuation.specs.Space.{AreClean}
use Rattle.evacuation.specs.Turns.{PauseGoesOn, layout, plan, space}
use Rattle.evacuation.proofs.outside.update_cards_counted.Given as goal

abbrev pub ghost-update_card : goal.ghost-update_card
ghost-update_card g a = g.pause

abbrev pub invariant-loop-card : goal.invariant-loop-card
invariant-loop-card g l = record {
  on : PauseGoesOn g.pause l.initial.table l.table l.initial.context l.context;
  visits : l.visits ≤ l.fn.visits + count_by (λ (b : Bool). b) (take l.start l.visited);
  inside : l.start ≤ length l.visited;
  clean : AreClean (layout g.pause) (plan g.pause) l.visited (space g.pause l.table) l.start;
}

abbrev pub decreases-loop-card : goal.decreases-loop-card
decreases-loop-card g l = length l.visited - l.start
