use Rattle.jobs.proofs.Following.{IsFollowing}
use Rattle.jobs.proofs.follow.follow_events.Given as goal

abbrev pub invariant-loop-count : goal.invariant-loop-count
invariant-loop-count g l = IsFollowing l.config l.judge l.fn.reader l.fn.lines l.reader l.lines l.count
