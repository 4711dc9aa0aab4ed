use Rattle.std.proofs.Common.{true, false}
use Rattle.g1heap.proofs.Unread.{unread_more, unread_task}
use Rattle.g1heap.proofs.program.unopened_task.Goals as goal

pub returns-then-explained : goal.returns-then-explained
returns-then-explained g c = λ names types given left old new unread kept.
    rw c.if-explained.true (unread_more c.args.name.now names types c.args.task given left old new c.args.err.now c.conclude_unread.new.err
    c.conclude_unread.result c.requires unread kept c.conclude_unread.ensures.status c.conclude_unread.ensures.tells)

pub returns : goal.returns
returns g c = λ names types given left old new unread kept.
    rw c.if-explained.false (unread_task c.args.name.now names types c.args.task given left old new c.args.err.now c.conclude.new.err
    c.conclude.result c.requires unread kept c.conclude.ensures)
