use Rattle.std.proofs.Common.{rules}
use Rattle.std.proofs.lemmas.Fn.{always_returns_same}
use Rattle.region_choice.specs.Ages.{stamp_of}
use Rattle.region_choice.proofs.ages.choose_by_age.Goals as goal

pub returns-clause-sorted : goal.returns-clause-sorted
returns-clause-sorted c =
    c.sort_unstable_by_key.ensures.sorted (λ row. (stamp_of c.args.ages.now row.region, row.region))
    (always_returns_same _ _ _ (λ a r q k. (search rules, search rules)))
