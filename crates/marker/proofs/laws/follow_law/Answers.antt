use Rattle.marker.proofs.Follow.{can_follow}
use Rattle.marker.proofs.laws.follow_law.Goals as goal

pub returns : goal.returns
returns c = can_follow
