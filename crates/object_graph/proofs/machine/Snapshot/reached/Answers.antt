use Rattle.object_graph.proofs.Reaching.{if_reached}
use Rattle.object_graph.proofs.machine.Snapshot.reached.Goals as goal

pub returns : goal.returns
returns c = if_reached c.search.result (λ flags. flags.items) c.self.inside.graph c.args.self.now c.self.inside.touched.items
    c.as_slice.result.now c.self.view_is c.requires.names c.requires.pairs c.as_slice.ensures.value c.search.ensures
