use Rattle.region_tests.proofs.PairSamples.{paired_is}
use Rattle.region_tests.proofs.pairs.holds_pairs.Goals as goal

pub counts-requires : goal.counts-requires
counts-requires g c = (paired_is _ _ _ _ c.in_ok-table.ensures c.new-object.ensures).object

pub pairs-requires : goal.pairs-requires
pairs-requires g c =
    let p = paired_is _ _ _ _ c.in_ok-table.ensures c.new-object.ensures in record { weaks = p.weaks; held = p.held }

pub pairs-requires-2 : goal.pairs-requires-2
pairs-requires-2 g c =
    let p = paired_is _ _ _ _ c.fill_pair.ensures c.new-object.ensures in record { weaks = p.weaks; held = p.held }

pub fields-requires : goal.fields-requires
fields-requires g c = (paired_is _ _ _ _ c.fill_pair.ensures c.new-object.ensures).fields

pub pairs-requires-3 : goal.pairs-requires-3
pairs-requires-3 g c =
    let p = paired_is _ _ _ _ c.empty_pair.ensures c.new-object.ensures in record { weaks = p.weaks; held = p.held }

pub fields-requires-2 : goal.fields-requires-2
fields-requires-2 g c = (paired_is _ _ _ _ c.empty_pair.ensures c.new-object.ensures).fields
