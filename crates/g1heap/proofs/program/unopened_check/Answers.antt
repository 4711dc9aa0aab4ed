use Rattle.g1heap.proofs.Unread.{unread_check, unread_explained, unread_followed}
use Rattle.g1heap.proofs.program.unopened_check.Goals as goal

pub returns-then-followed : goal.returns-then-followed
returns-then-followed g c = λ given left old new unread kept.
    rw c.if-followed.true (unread_followed c.args.name.now c.args.explained given left old new c.args.err.now
    c.conclude_verdict.new.err c.conclude_verdict.result unread kept c.conclude_verdict.ensures)

pub returns-then-explained : goal.returns-then-explained
returns-then-explained g c = λ given left old new unread kept.
    rw (c.if-followed.false, c.if-explained.true) (unread_explained c.args.name.now given left old new c.args.err.now
    c.conclude_unread.new.err c.conclude_unread.result unread kept c.conclude_unread.ensures.status c.conclude_unread.ensures.tells)

pub returns : goal.returns
returns g c = λ given left old new unread kept.
    rw (c.if-followed.false, c.if-explained.false) (unread_check c.args.name.now given left old new c.args.err.now
    c.conclude_verdict-2.new.err c.conclude_verdict-2.result unread kept c.conclude_verdict-2.ensures)
