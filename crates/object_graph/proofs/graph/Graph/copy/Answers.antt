use Rattle.std.proofs.Common.{◌∙◌, ℕ, List, Option, ap₂}
use Rattle.std.specs.List.{each_same}
use Rattle.heap_model.specs.Graph.{Graph, Object}
use Rattle.object_graph.proofs.graph.Graph.copy.Goals as goal

pub returns : goal.returns
returns c =
    let graph : List Object → List (Option ℕ) → Graph = λ objects roots. record {
      room = c.self.inside.room;
      first_name = c.self.inside.first_name;
      places = c.self.inside.places;
      objects = objects;
      roots = roots;
    } in
    ap₂ graph c.in_ok-copy.ensures (each_same _ _ c.in_ok-clone.ensures.cases.0) ∙ c.self.view_is
