use Rattle.std.proofs.Common.{arith}
use Rattle.remembered_sets.specs.Sets.{may_lead}
use Rattle.mark_bitmap.specs.Kept.{kept_in}
use Rattle.refinement.proofs.Taken.{taken_remembers}
use Rattle.refinement.proofs.refine.refine_one_counted.Goals as goal

pub returns-clause-remembers : goal.returns-clause-remembers
returns-clause-remembers c = λ before.
    taken_remembers c.args.table.now.words_per_region c.args.card_words c.in-Some.card
    (kept_in c.args.table.now c.args.tams.now c.args.marks.now) c.args.cards.now.dirty c.dequeue.new.self.dirty (may_lead c.args.sets.now)
    (may_lead c.scan_card_counted.new.sets) c.in-Some.ensures.cleaned c.scan_card_counted.ensures.covered
    c.scan_card_counted.ensures.leads before

pub returns-clause-work : goal.returns-clause-work
returns-clause-work c = omega (arith, c.scan_card_counted.ensures.work, c.law.ensures.positive)
