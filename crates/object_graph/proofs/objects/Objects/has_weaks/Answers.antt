use Rattle.std.proofs.Common.{sym, ◌∙◌}
use Rattle.object_graph.proofs.ObjectLaws.{weaks_told}
use Rattle.object_graph.proofs.objects.Objects.has_weaks.Goals as goal

pub returns : goal.returns
returns c = c.self.invariant.1 ∙ sym (weaks_told c.self.inside.words.items c.self.inside.entries.items c.args.self.now c.self.view_is
    c.self.invariant.0)
