use Rattle.std.proofs.Common.{◌≡◌, ◌∙◌, ◌+◌, ◌<◌, ◌≤◌, ℕ, sym, ap, subst, take, drop, All, count_by}
use Rattle.regions.specs.Table.{is_free}
use Rattle.region_choice.specs.Choice.{copy_limit, live_sum}
use Rattle.step_core.proofs.Pauses.Others.{front_within}
use Rattle.step_core.proofs.candidates.choose_regions.Goals as goal

pub returns-clause-chosen : goal.returns-clause-chosen
returns-clause-chosen c =
    let f = c.find_candidates.ensures in
    let r = c.choose_rows.ensures in
    let same : copy_limit c.words_per_region-words.result c.args.budget c.free_count-free.result ≡ c.limit_of-limit.result =
    sym (c.limit_of-limit.ensures ∙ ap (λ (b : ℕ). copy_limit c.words_per_region-words.result b c.free_count-free.result) c.from.ensures) in
    let limit : c.limit_of-limit.result
    ≡ copy_limit c.args.table.now.words_per_region c.args.budget (count_by is_free c.args.table.now.regions) =
    sym same ∙ ap (λ (w : ℕ). copy_limit w c.args.budget c.free_count-free.result) c.words_per_region-words.ensures
    ∙ ap (λ (f : ℕ). copy_limit c.args.table.now.words_per_region c.args.budget f) c.free_count-free.ensures in
    let rows = c.choose_rows.new.rows.items in
    let n = c.choose_rows.result in
    front_within c.args.table.now c.args.marker.now.tams c.args.marker.now.bitmaps.previous c.args.marker.now.running c.args.budget n
    c.limit_of-limit.result _ rows limit f.candidates r.same r.count r.sorted r.first
    (subst (λ (m : ℕ). All (λ row. m < live_sum (take n rows) + row.live_bound) (drop n rows)) same r.next)
    (subst (λ (m : ℕ). live_sum (take n rows) ≤ m) same r.best.within)
