use Rattle.std.proofs.Common.{◌≡◌, ◌∙◌, ℕ, ap, count_by}
use Rattle.regions.specs.Table.{is_free}
use Rattle.region_choice.specs.Choice.{copy_limit}
use Rattle.step_core.proofs.Pauses.Young.{young_chosen, young_sorted}
use Rattle.step_core.proofs.youngest.choose_front.Goals as goal

pub returns-clause-by_age : goal.returns-clause-by_age
returns-clause-by_age c =
    let t = c.args.table.now in
    let m = c.args.marker.now in
    let f = c.find_young.ensures in
    let r = c.sort_rows.ensures in
    let limit : copy_limit c.words_per_region.result c.args.budget c.free_count.result
    ≡ copy_limit t.words_per_region c.args.budget (count_by is_free t.regions) =
    ap (λ (w : ℕ). copy_limit w c.args.budget c.free_count.result) c.words_per_region.ensures
    ∙ ap (λ (n : ℕ). copy_limit t.words_per_region c.args.budget n) c.free_count.ensures in
    young_chosen t m.tams m.bitmaps.previous m.running c.args.ages.now c.args.budget c.sort_rows.result c.sort_rows.new.rows.items _
    limit (young_sorted t m.tams m.bitmaps.previous m.running c.args.ages.now _ c.sort_rows.new.rows.items r.same f.young) r.sorted r.count
    r.within r.next
