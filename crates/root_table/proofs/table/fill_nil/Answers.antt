use Rattle.std.proofs.Common.{ℕ, List, Option, None, set, refl, ap, ◌∙◌, ◌+◌, suc, arith}
use Rattle.heap_model.specs.Graph.{with_nils}
use Rattle.root_table.proofs.table.fill_nil.Goals as goal

pub loop-index-init : goal.loop-index-init
loop-index-init c = refl

pub loop-index-preserved : goal.loop-index-preserved
loop-index-preserved c =
    ap (λ (nil : Option ℕ). set c.loop-index.words (c.args.first + c.loop-index.index) nil) c.nil.ensures
    ∙ ap (λ (ws : List (Option ℕ)). set ws (c.args.first + c.loop-index.index) None) c.loop-index.invariant
    ∙ ap (λ (n : ℕ). with_nils c.args.words.now c.args.first n) {x = suc c.loop-index.index} {y = c.loop-index.index + 1} (omega arith)

pub returns : goal.returns
returns c = c.loop-index.invariant ∙ ap (λ (n : ℕ). with_nils c.args.words.now c.args.first n) {x = c.loop-index.index} {y = c.args.count}
    (omega (arith, c.loop-index-test.false, c.loop-index.auto.index-end))
