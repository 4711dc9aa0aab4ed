use Rattle.std.proofs.Common.{◌≡◌, ◌*◌, ℕ, true, false, None, sym, subst, ap, ◌∙◌, not, ◌↔◌, IsTrue}
use Rattle.regions.specs.declared.row.Kind.TheVariants as kinds
use Rattle.regions.specs.Table.{kind_of}
use Rattle.mark_bitmap.specs.Marks.{is_marked}
use Rattle.mark_bitmap.specs.Tops.{is_below}
use Rattle.step_core.specs.Stands.{CoreState, kept_of}
use Rattle.step_core.proofs.Cycles.Cycling.{to_fields}
use Rattle.step_core.proofs.Cycles.Cleaning.{run_new, run_tells}
use Rattle.step_core.proofs.heap.Core.is_dead_run.Goals as goal

pub returns-then-not-is_below_previous : goal.returns-then-not-is_below_previous
returns-then-not-is_below_previous c =
    let words = c.self.inside.table.words_per_region in
    let first = to_fields _ _ c.self.view_is (λ d. kind_of d.table c.args.region ≡ kinds.First) c.requires.first in
    let at : c.new-object.result ≡ c.args.region * words =
    c.new-object.ensures ∙ ap (λ (n : ℕ). n * c.words_per_region-words.result) c.number.ensures
    ∙ ap (λ (n : ℕ). c.args.region * n) c.words_per_region-words.ensures in
    let above : is_below words c.self.inside.marker.tams.previous (c.args.region * words) ≡ false =
    ap (λ (n : ℕ). is_below words c.self.inside.marker.tams.previous n) (sym at)
    ∙ ap (λ (n : ℕ). is_below n c.self.inside.marker.tams.previous c.new-object.result) (sym c.words_per_region-words.ensures)
    ∙ sym c.is_below_previous.ensures ∙ c.if-not-is_below_previous.true in
    subst (λ (d : CoreState). IsTrue false ↔ (kept_of d (c.args.region * d.table.words_per_region) ≡ None)) c.self.view_is
    (λ h. absurd (let no : false ≡ true = h in cc), λ none. absurd (run_new _ c.args.region c.law.ensures.positive first above none))

pub returns : goal.returns
returns c =
    let words = c.self.inside.table.words_per_region in
    let first = to_fields _ _ c.self.view_is (λ d. kind_of d.table c.args.region ≡ kinds.First) c.requires.first in
    let at : c.new-object.result ≡ c.args.region * words =
    c.new-object.ensures ∙ ap (λ (n : ℕ). n * c.words_per_region-words.result) c.number.ensures
    ∙ ap (λ (n : ℕ). c.args.region * n) c.words_per_region-words.ensures in
    let below : is_below words c.self.inside.marker.tams.previous (c.args.region * words) ≡ true =
    ap (λ (n : ℕ). is_below words c.self.inside.marker.tams.previous n) (sym at)
    ∙ ap (λ (n : ℕ). is_below n c.self.inside.marker.tams.previous c.new-object.result) (sym c.words_per_region-words.ensures)
    ∙ sym c.is_below_previous.ensures ∙ c.if-not-is_below_previous.false in
    let marked : is_marked c.self.inside.marker.bitmaps.previous (c.args.region * words) ≡ c.get.result =
    ap (λ (n : ℕ). is_marked c.self.inside.marker.bitmaps.previous n) (sym at) ∙ sym c.get.ensures in
    subst (λ (d : CoreState). IsTrue (not c.get.result) ↔ (kept_of d (c.args.region * d.table.words_per_region) ≡ None)) c.self.view_is
    (run_tells _ c.args.region c.get.result c.law.ensures.positive first below marked)
