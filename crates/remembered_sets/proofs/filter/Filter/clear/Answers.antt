use Rattle.std.proofs.Common.{ap, sym, ◌∙◌, List, length, set}
use Rattle.remembered_sets.specs.Sets.{CardFilter, emptied_filter}
use Rattle.remembered_sets.specs.Sharing.{filter_at}
use Rattle.remembered_sets.proofs.Sharing.{part_emptied, length-four}
use Rattle.remembered_sets.proofs.filter.Filter.clear.Goals as goal

pub returns-clause-emptied : goal.returns-clause-emptied
returns-clause-emptied c =
    part_emptied c.self.inside.rows c.self.inside.size c.args.part c.self.inside.used c.self.inside.flags c.requires c.self.told
    ∙ ap (λ (l : List CardFilter). set l c.args.part (emptied_filter (filter_at l c.args.part))) c.self.view_is

pub returns-clause-four : goal.returns-clause-four
returns-clause-four c =
    ap (λ (l : List CardFilter). length l) (sym c.self.view_is)
    ∙ length-four c.self.inside.rows c.self.inside.used c.self.inside.flags c.self.inside.size
