use Rattle.std.proofs.Common.{◌≡◌, ◌∙◌, ◌*◌, ℕ, Some, IsSome, sym, ap, subst}
use Rattle.std.proofs.Common.{arith}
use Rattle.regions.specs.Table.{object_at}
use Rattle.step_core.proofs.Cycles.Cycling.{to_fields}
use Rattle.step_core.proofs.Mutating.Small.{words_are}
use Rattle.step_core.proofs.Pauses.Slid.{is_kept, kept_there, some_there}
use Rattle.step_core.proofs.heap.Core.can_move.Goals as goal

pub object_size-size-requires : goal.object_size-size-requires
object_size-size-requires c =
    let at : c.new-bottom.result ≡ c.args.region * c.self.inside.table.words_per_region =
    c.new-bottom.ensures ∙ ap (λ (n : ℕ). n * c.words_per_region.result) c.number.ensures
    ∙ ap (λ (n : ℕ). c.args.region * n) c.words_per_region.ensures in
    let (x, is) = is_kept _ _ _ c.is_dead_run.ensures.1 c.if-is_dead_run.false in
    let there = to_fields _ _ c.self.view_is (λ d. object_at d.table (c.args.region * d.table.words_per_region) ≡ Some x)
    (kept_there _ _ x is) in
    subst (λ (a : ℕ). IsSome (object_at c.self.inside.table a)) (sym at) (some_there _ _ x there)

pub returns-then-size-words-clause-no : goal.returns-then-size-words-clause-no
returns-then-size-words-clause-no c = λ e x is.
    let at : c.new-bottom.result ≡ c.args.region * c.self.inside.table.words_per_region =
    c.new-bottom.ensures ∙ ap (λ (n : ℕ). n * c.words_per_region.result) c.number.ensures
    ∙ ap (λ (n : ℕ). c.args.region * n) c.words_per_region.ensures in
    let there = to_fields _ _ c.self.view_is (λ d. object_at d.table (c.args.region * d.table.words_per_region) ≡ Some x)
    (kept_there _ _ x is) in
    let size = c.object_size-size.ensures ∙ words_are _ _ x (ap (object_at c.self.inside.table) at ∙ there) in
    let more = c.if-size-words.true in
    omega (arith, size, more)

pub returns-clause-yes : goal.returns-clause-yes
returns-clause-yes c = λ e.
    let at : c.new-bottom.result ≡ c.args.region * c.self.inside.table.words_per_region =
    c.new-bottom.ensures ∙ ap (λ (n : ℕ). n * c.words_per_region.result) c.number.ensures
    ∙ ap (λ (n : ℕ). c.args.region * n) c.words_per_region.ensures in
    let (x, is) = is_kept _ _ _ c.is_dead_run.ensures.1 c.if-is_dead_run.false in
    let there = to_fields _ _ c.self.view_is (λ d. object_at d.table (c.args.region * d.table.words_per_region) ≡ Some x)
    (kept_there _ _ x is) in
    let size = c.object_size-size.ensures ∙ words_are _ _ x (ap (object_at c.self.inside.table) at ∙ there) in
    let less = c.if-size-words.false in
    (x, is, omega (arith, size, less))
