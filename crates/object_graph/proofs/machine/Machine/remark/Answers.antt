use Rattle.std.proofs.Common.{List, Bool, sym, ap, ◌∙◌, subst}
use Rattle.heap_model.specs.Graph.{next_name}
use Rattle.heap_model.specs.Weak.{AreReached}
use Rattle.graph_runs.specs.State.{State}
use Rattle.object_graph.specs.Reached.{flag_of}
use Rattle.object_graph.proofs.Reaching.{cleared_by_flags}
use Rattle.object_graph.proofs.machine.Machine.remark.Goals as goal

pub returns-clause-cleared : goal.returns-clause-cleared
returns-clause-cleared c = cleared_by_flags c.args.self.now c.in-Some.snapshot c.self.inside.graph c.clear.new.self c.as_slice.result.now
    c.next_name-limit.result c.requires
    (ap (λ (t : State). t.snapshot) (sym c.self.view_is) ∙ sym c.take.ensures.value ∙ c.in-Some.is)
    (ap (λ (t : State). t.graph) c.self.view_is)
    (subst (λ (l : List Bool). AreReached c.in-Some.snapshot (flag_of c.in-Some.snapshot.first_name l))
    (sym c.as_slice.ensures.value) c.in_ok-flags.ensures)
    (c.next_name-limit.ensures ∙ ap next_name c.snapshot.view_is)
    c.clear.ensures
