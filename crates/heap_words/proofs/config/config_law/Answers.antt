use Rattle.heap_words.proofs.Limits.{small_region, small_heap, few_mutators, card_power, region_cards}
use Rattle.heap_words.proofs.config.config_law.Goals as goal

pub returns-clause-region : goal.returns-clause-region
returns-clause-region c = small_region

pub returns-clause-heap : goal.returns-clause-heap
returns-clause-heap c = small_heap

pub returns-clause-mutators : goal.returns-clause-mutators
returns-clause-mutators c = few_mutators

pub returns-clause-power : goal.returns-clause-power
returns-clause-power c = card_power

pub returns-clause-cards : goal.returns-clause-cards
returns-clause-cards c = region_cards
