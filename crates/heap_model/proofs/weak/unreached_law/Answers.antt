use Rattle.heap_model.proofs.Unreached.{unreached_begins, unreached_root, unreached_object, unreached_changed, unreached_written}
use Rattle.heap_model.proofs.Unreached.{unreached_touched}
use Rattle.heap_model.proofs.weak.unreached_law.Goals as goal

pub returns-clause-begins : goal.returns-clause-begins
returns-clause-begins c = λ g k. unreached_begins g k

pub returns-clause-root : goal.returns-clause-root
returns-clause-root c = λ s g place v u. unreached_root s g u place v

pub returns-clause-object : goal.returns-clause-object
returns-clause-object c = λ s g o place u earlier bare. unreached_object s g u o place earlier bare

pub returns-clause-changed : goal.returns-clause-changed
returns-clause-changed c = λ s g n o p u e why pairs. unreached_changed s g u n o p e why pairs

pub returns-clause-written : goal.returns-clause-written
returns-clause-written c = λ s g n o p u e same pairs. unreached_written s g u n o p e same pairs

pub returns-clause-touches : goal.returns-clause-touches
returns-clause-touches c = λ s g v u. unreached_touched s g u v
