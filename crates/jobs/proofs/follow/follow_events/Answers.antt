use Rattle.jobs.proofs.Following.{found_yes, found_no, found_wrong, found_unread, found_short, goes_on}
use Rattle.jobs.proofs.follow.follow_events.Goals as goal

pub returns-in-Ok-None : goal.returns-in-Ok-None
returns-in-Ok-None g c =
    let next = rw (c.in-Ok-None.is, c.in-Ok-None.field-0-is) at c.next_event.ensures.next in
    found_yes _ _ _ _ _ _ _ c.next_event.new.self _ c.requires.suits c.loop-count.invariant next

pub returns-in-Err-Line : goal.returns-in-Err-Line
returns-in-Err-Line g c =
    let next = rw (c.in-Err-Line.is, c.in-Err-Line.field-0-is) at c.next_event.ensures.next in
    found_wrong _ _ _ _ _ _ _ _ _ _ c.loop-count.invariant next

pub returns-in-Err-Read : goal.returns-in-Err-Read
returns-in-Err-Read g c =
    let next = rw (c.in-Err-Read.is, c.in-Err-Read.field-0-is) at c.next_event.ensures.next in
    found_unread _ _ _ _ _ _ _ _ _ c.loop-count.invariant next

pub returns-in-Ok-Some-judge_event : goal.returns-in-Ok-Some-judge_event
returns-in-Ok-Some-judge_event g c =
    let next = rw (c.in-Ok-Some.is, c.in-Ok-Some.field-0-is) at c.next_event.ensures.next in
    found_no _ _ c.judge_event.new.self _ _ _ _ _ c.next_event.new.self _ _ _ c.requires.suits c.loop-count.invariant next
    (rw (c.in-Ok-Some-judge_event.is, c.in-Ok-Some-judge_event.field-0-is) at c.judge_event.ensures.told)

pub returns-in-Err : goal.returns-in-Err
returns-in-Err g c =
    let next = rw (c.in-Ok-Some.is, c.in-Ok-Some.field-0-is) at c.next_event.ensures.next in
    found_short _ _ _ _ _ _ _ c.next_event.new.self _ _ c.requires.suits c.loop-count.invariant next

pub loop-count-preserved : goal.loop-count-preserved
loop-count-preserved g c =
    let next = rw (c.in-Ok-Some.is, c.in-Ok-Some.field-0-is) at c.next_event.ensures.next in
    goes_on _ _ _ _ _ _ _ _ _ _ _ c.loop-count.invariant next
    c.judge_event.ensures.config (rw (c.in-Ok-None-judge_event.is, c.in-Ok-None-judge_event.field-0-is) at c.judge_event.ensures.told)
