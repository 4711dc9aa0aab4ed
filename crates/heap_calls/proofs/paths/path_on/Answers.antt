use Rattle.heap_calls.proofs.FoundWays.{found_way}
use Rattle.heap_calls.proofs.paths.path_on.Goals as goal

pub returns : goal.returns
returns c =
    found_way c.args.name c.args.way.now c.path-count.new.steps c.args.core.now c.way_answer.result c.path-count.result c.way_answer.ensures
    c.path-count.ensures.tells c.path-count.ensures.shows c.path-count.ensures.ways
