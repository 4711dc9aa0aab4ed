use Rattle.std.proofs.Common.{◌∙◌, refl, sym}
use Rattle.heap_life.proofs.Shown.{noted_told, not_noted}
use Rattle.heap_life.proofs.course.note_if.Goals as goal

pub tell-requires : goal.tell-requires
tell-requires c = c.requires ∙ sym c.law_remembers.ensures.core.layers.region_count

pub returns-then-not-due : goal.returns-then-not-due
returns-then-not-due c =
    not_noted c.args.due c.args.core.now c.args.event c.args.copied c.args.moments.now.items c.args.teller.now c.if-not-due.true

pub returns : goal.returns
returns c =
    noted_told c.args.due c.args.core.now c.args.event c.args.copied c.args.moments.now.items _ c.args.teller.now c.tell.new.self _
    c.if-not-due.false c.in_ok-push.ensures.items refl refl c.numbers_of-numbers.ensures c.tell.ensures
