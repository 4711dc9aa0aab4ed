use Rattle.regions.proofs.Common.{◌≡◌, ◌∙◌, Bool, List, false, true, length, length-set, ap, length-replicate}
use Rattle.remembered_sets.specs.Sets.{Sets, empty_set}
use Rattle.region_tests.proofs.Samples.{sample_scans}
use Rattle.region_tests.proofs.refining.over.Goals as goal

pub returns-clause-stands : goal.returns-clause-stands
returns-clause-stands c =
    let marks : length c.set.new.self ≡ 64 = ap (λ (l : List Bool). length l) c.set.ensures
    ∙ length-set c.in_ok-marks.marks c.new-5.result true
    ∙ ap (λ (l : List Bool). length l) c.in_ok-marks.ensures ∙ length-replicate 64 false in
    let sets : length c.in_ok-sets.sets.sets ≡ 4 =
    ap (λ (s : Sets). length s.sets) c.in_ok-sets.ensures ∙ length-replicate 4 (empty_set 4 2 0) in
    sample_scans c.args.table c.swap_roles.new.self c.set.new.self c.in_ok-sets.sets c.requires marks sets
    (ap (λ (s : Sets). s.cards_per_region) c.in_ok-sets.ensures)
