use Rattle.std.proofs.Common.{ℕ, Option, Some, None, sym, ap, ◌∙◌}
use Rattle.std.proofs.lemmas.Option.{get_or_from_slice_get, slice_get-get_or}
use Rattle.object_graph.specs.Reached.{found}
use Rattle.object_graph.proofs.Reaching.{found_more}
use Rattle.object_graph.proofs.search.Search.find_all.Goals as goal

pub loop-name-preserved : goal.loop-name-preserved
loop-name-preserved c =
    let there = slice_get-get_or c.args.names.now c.loop-name.name-index c.name-item.result c.loop-name-test.true
    ∙ ap (λ (v : Option ℕ). Some v) (sym c.name-item.is) in
    let read = get_or_from_slice_get c.args.names.now c.loop-name.name-index c.name-item.result None there in
    found_more c.args.self.now c.args.names.now c.loop-name.name-index c.loop-name.self c.find.new.self c.loop-name-test.true
    c.loop-name.invariant (c.in_ok-find.ensures ∙ ap (found c.loop-name.self) (sym read))
