use Rattle.step_core.specs.Stands.{ShowsGraph}
use Rattle.step_core.proofs.Cycles.Cycling.{to_fields, can_begin, can_wait, begun_shows, begun_keeps, begun_kept, begun_from}
use Rattle.step_core.proofs.heap.Core.begin.Goals as goal

pub begin-requires-clause-closed : goal.begin-requires-clause-closed
begin-requires-clause-closed c = can_begin _ c.self.invariant

pub begin-requires-clause-room : goal.begin-requires-clause-room
begin-requires-clause-room c = can_wait _ c.self.invariant

pub invariant_of-self : goal.invariant_of-self
invariant_of-self c = let r = c.retire_all.ensures in let b = c.begin.ensures in
    rw c.make_all_old.ensures.made (begun_kept _ c.self.invariant _ _ r.retired r.stand r.above b.stands b.running b.logs b.room
    b.previous_tops b.previous_marks b.snapshot c.law.ensures b.tops)

pub returns : goal.returns
returns c = let r = c.retire_all.ensures in let b = c.begin.ensures in record {
  shows = λ g s. rw c.make_all_old.ensures.made (begun_shows _ c.self.invariant _ _ r.retired r.stand r.above b.stands b.running b.logs
      b.room b.previous_tops b.previous_marks b.snapshot c.law.ensures b.tops g (to_fields _ _ c.self.view_is (λ d. ShowsGraph g d) s));
  keeps = λ g s. rw c.make_all_old.ensures.made (begun_keeps _ c.self.invariant _ _ r.retired r.stand r.above b.stands b.running b.logs
      b.room b.previous_tops b.previous_marks b.snapshot c.law.ensures b.tops g (to_fields _ _ c.self.view_is (λ d. ShowsGraph g d) s));
  begun = rw c.make_all_old.ensures.made (begun_from _ c.self.invariant _ _ r.retired r.stand r.above b.stands b.running b.logs
      b.room b.previous_tops b.previous_marks b.snapshot c.law.ensures b.tops _ c.self.view_is b.begins b.roots b.scans);
}
