use Rattle.std.proofs.Common.{◌≡◌, ◌*◌, ℕ, None, ap, sym, ◌∙◌, subst, IsSome}
use Rattle.regions.specs.Table.{object_at, object_words, stored_size}
use Rattle.step_core.specs.Stands.{CoreState, kept_of}
use Rattle.step_core.proofs.Cycles.Cycling.{to_fields}
use Rattle.step_core.proofs.Measuring.{live_object, live_size}
use Rattle.step_core.proofs.heap.Core.live_in_run.Goals as goal

pub object_size-requires : goal.object_size-requires
object_size-requires c =
    let words = c.self.inside.table.words_per_region in
    let at : c.new.result ≡ c.args.region * words = c.new.ensures ∙ ap (λ (n : ℕ). n * c.words_per_region-words.result) c.number.ensures
    ∙ ap (λ (n : ℕ). c.args.region * n) c.words_per_region-words.ensures in
    let kept = to_fields _ _ c.self.view_is (λ d. kept_of d (c.args.region * d.table.words_per_region) ≡ None → ⊥)
    (λ none. let yes = c.is_dead_run.ensures.1 none in let no = c.if-is_dead_run.false in cc) in
    subst (λ (a : ℕ). IsSome (object_at c.self.inside.table a)) (sym at) (live_object _ (c.args.region * words) kept)

pub returns : goal.returns
returns c =
    let words = c.self.inside.table.words_per_region in
    let at : c.new.result ≡ c.args.region * words = c.new.ensures ∙ ap (λ (n : ℕ). n * c.words_per_region-words.result) c.number.ensures
    ∙ ap (λ (n : ℕ). c.args.region * n) c.words_per_region-words.ensures in
    let kept = to_fields _ _ c.self.view_is (λ d. kept_of d (c.args.region * d.table.words_per_region) ≡ None → ⊥)
    (λ none. let yes = c.is_dead_run.ensures.1 none in let no = c.if-is_dead_run.false in cc) in
    c.object_size.ensures ∙ ap (object_words c.self.inside.table) at ∙ live_size _ (c.args.region * words) kept
    ∙ ap (λ (d : CoreState). stored_size (kept_of d (c.args.region * d.table.words_per_region))) c.self.view_is
