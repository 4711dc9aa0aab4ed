use Rattle.std.proofs.Common.{◌+◌, List, ℕ, subst, sym, arith}
use Rattle.heap_words.proofs.Blocks.{AreFresh, fresh_start, fresh_more, fresh_still}
use Rattle.heap_words.proofs.words.write_fresh.Goals.{then-i-fields, else-i-fields}
use Rattle.heap_words.proofs.words.write_fresh.Goals as goal

pub loop-i-init : goal.loop-i-init
loop-i-init c = fresh_start c.args.words.now c.args.at c.args.header c.args.name c.args.fields (omega arith)

pub loop-i-preserved : goal.loop-i-preserved
loop-i-preserved c =
    let i = c.loop-i.i in
    elim c.if-i-fields.branch [
      | then-i-fields w ↦
          subst (λ (ws : List ℕ). AreFresh c.args.words.now ws c.args.at c.args.header c.args.name c.args.fields (i + 1)) (sym w.words-is)
          (fresh_more c.args.words.now c.loop-i.words c.args.at c.args.header c.args.name c.args.fields i (omega arith)
          (omega (arith, w.if-i-fields.true)) c.loop-i.invariant)
      | else-i-fields w ↦
          subst (λ (ws : List ℕ). AreFresh c.args.words.now ws c.args.at c.args.header c.args.name c.args.fields (i + 1)) (sym w.words-is)
          (fresh_still c.args.words.now c.loop-i.words c.args.at c.args.header c.args.name c.args.fields i (i + 1)
          (omega (arith, w.if-i-fields.false)) (omega (arith, w.if-i-fields.false)) c.loop-i.invariant)
    ]

pub loop-more-preserved : goal.loop-more-preserved
loop-more-preserved c =
    fresh_more c.args.words.now c.loop-more.words c.args.at c.args.header c.args.name c.args.fields c.loop-more.more (omega arith)
    c.loop-more-test.true c.loop-more.invariant
