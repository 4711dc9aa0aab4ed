use Rattle.std.proofs.Common.{◌≡◌, ◌*◌, length, arith, ℕ, ap, ◌∙◌}
use Rattle.std.proofs.lemmas.Nat.{row_fits}
use Rattle.alloc_buffers.proofs.Runs.{takes}
use Rattle.regions.specs.Table.{new_object}
use Rattle.regions.proofs.Tiles.Released.{filler_short}
use Rattle.step_core.proofs.mutator.make.Goals as goal

pub new-size-requires-clause-small : goal.new-size-requires-clause-small
new-size-requires-clause-small c =
    let there = rw c.in-Filler.is at c.requires in
    let short = filler_short c.args.table.now c.in-Filler.at _ c.law.ensures.positive c.law.ensures.fitting there in
    omega (arith, short, c.law.ensures.small, c.size.ensures)

pub overflow_mul-number : goal.overflow_mul-number
overflow_mul-number c =
    let run = rw c.in-Run.is at c.requires in
    let known = (takes _ _ _ (new_object 0 0 0 0) c.law.ensures run.positive run.lowest).known in
    let some = run.positive in
    let fits = row_fits c.in-Run.first c.args.table.now.words_per_region (length c.args.table.now.regions)
    c.args.table.now.words_per_region (omega arith) (omega arith) in
    let at : c.number.result * c.words_per_region-words.result ≡ c.in-Run.first * c.args.table.now.words_per_region =
    ap (λ (n : ℕ). n * c.words_per_region-words.result) c.number.ensures
    ∙ ap (λ (n : ℕ). c.in-Run.first * n) c.words_per_region-words.ensures in
    omega (arith, at, fits, c.law.ensures.in_all)
