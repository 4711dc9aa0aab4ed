use Rattle.std.proofs.Common.{◌∙◌, ℕ, List, ap}
use Rattle.heap_words.specs.Memory.{Memory, cut_at, memory}
use Rattle.heap_words.proofs.Cut.{memory_cut}
use Rattle.heap_words.proofs.words.Words.give_back.Goals as goal

pub returns : goal.returns
returns c =
    ap (λ (l : List ℕ). memory l c.self.inside.count) (c.give_back.ensures.items ∙ c.truncate.ensures.items)
    ∙ memory_cut c.args.end c.self.inside.count c.self.inside.items.items c.self.invariant.0
    ∙ ap (λ (m : Memory). cut_at m c.args.end) c.self.view_is
