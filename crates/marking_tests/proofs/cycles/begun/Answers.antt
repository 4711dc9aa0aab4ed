use Rattle.std.proofs.Common.{sym, ◌∙◌}
use Rattle.marking_tests.proofs.Samples.{linked_closed, none_below, object_kept}
use Rattle.marking_tests.proofs.cycles.begun.Goals as goal

pub begin-requires-clause-closed : goal.begin-requires-clause-closed
begin-requires-clause-closed c =
    linked_closed c.args.table.now c.args.roots.now.words c.in_ok-marker.marker c.requires.linked c.requires.roots
    (λ a. c.in_ok-marker.ensures.all_kept c.args.table.now a (c.requires.words ∙ sym c.sizes.ensures.words))

pub returns-clause-kept : goal.returns-clause-kept
returns-clause-kept c = λ a h.
    object_kept c.args.table.now c.in_ok-marker.marker c.begin.new.self a
    (λ b. c.in_ok-marker.ensures.all_kept c.args.table.now b (c.requires.words ∙ sym c.sizes.ensures.words)) c.begin.ensures.previous_tops h

pub begin-requires-clause-stands : goal.begin-requires-clause-stands
begin-requires-clause-stands c = c.in_ok-marker.ensures.stands c.args.table.now (c.requires.count ∙ sym c.sizes.ensures.regions)
    (c.requires.words ∙ sym c.sizes.ensures.words)

pub returns-clause-all_kept : goal.returns-clause-all_kept
returns-clause-all_kept c =
    none_below c.args.table.now c.in_ok-marker.marker c.begin.new.self
    (λ b. c.in_ok-marker.ensures.all_kept c.args.table.now b (c.requires.words ∙ sym c.sizes.ensures.words)) c.begin.ensures.previous_tops
