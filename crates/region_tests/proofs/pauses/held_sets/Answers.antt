use Rattle.region_tests.proofs.PauseSamples.{are_two_cards}
use Rattle.region_tests.proofs.pauses.held_sets.Goals as goal

pub returns : goal.returns
returns c = are_two_cards _ _ _ _ _ _ c.in_ok-sets.ensures c.add.ensures.after c.add-2.ensures.after c.new-region.ensures c.new-2.ensures
    c.new-3.ensures
