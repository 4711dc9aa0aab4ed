use Rattle.marker.proofs.Forgotten.{released_stands}
use Rattle.marker.proofs.laws.release_law.Goals as goal

pub returns : goal.returns
returns c =
    λ t m k shape st off known ordinary none none' low low'. released_stands t m k shape.positive st off ordinary none none' low low'
