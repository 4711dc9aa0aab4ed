use Rattle.std.proofs.Common.{◌∙◌, ap, get_or, false}
use Rattle.cards.proofs.Laws.{flag_set_after, flag_cleared_after, dirty_after}
use Rattle.cards.proofs.table.dirty_law.Goals as goal

pub returns-clause-dirtied : goal.returns-clause-dirtied
returns-clause-dirtied c = λ t mutator card other h. dirty_after t mutator card other h

pub returns-clause-appended : goal.returns-clause-appended
returns-clause-appended c = λ t card other h. flag_set_after t.dirty card other h

pub returns-clause-cleaned : goal.returns-clause-cleaned
returns-clause-cleaned c = λ t u card other h flags. ap (λ d. get_or d other false) flags ∙ flag_cleared_after t.dirty card other h
