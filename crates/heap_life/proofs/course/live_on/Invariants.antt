use Rattle.heap_life.specs.Tolds.{nothing_told}
use Rattle.heap_life.proofs.Courses.{IsCourseOf}
use Rattle.heap_life.proofs.course.live_on.Given as goal

abbrev pub invariant-loop-index : goal.invariant-loop-index
invariant-loop-index l =
    IsCourseOf l.fn.teller.most (nothing_told l.fn.teller.tiles) l.initial.core l.pace l.events l.index l.core l.course
