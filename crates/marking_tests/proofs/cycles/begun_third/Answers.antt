use Rattle.std.proofs.Common.{sym, ◌∙◌, arith}
use Rattle.marking_tests.proofs.Samples.{linked_closed}
use Rattle.marking_tests.proofs.cycles.begun_third.Goals as goal

pub begin-requires-clause-closed : goal.begin-requires-clause-closed
begin-requires-clause-closed c =
    linked_closed c.args.table.now c.args.roots.now.words c.in_ok-marker.marker c.requires.linked c.requires.roots
    (λ a. c.in_ok-marker.ensures.all_kept c.args.table.now a (c.requires.words ∙ sym c.third_sizes-config.ensures.words))

pub begin-requires-clause-stands : goal.begin-requires-clause-stands
begin-requires-clause-stands c = c.in_ok-marker.ensures.stands c.args.table.now
    (c.requires.count ∙ sym c.third_sizes-config.ensures.regions)
    (c.requires.words ∙ sym c.third_sizes-config.ensures.words)

pub begin-requires-clause-room : goal.begin-requires-clause-room
begin-requires-clause-room c = λ _.
    omega (arith, c.in_ok-marker.ensures.room, c.third_sizes-config.ensures.room, c.len.ensures)
