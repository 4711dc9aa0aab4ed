use Rattle.std.proofs.Common.{◌∙◌, arith, subst, take, Option}
use Rattle.heap_words.specs.declared.config.Config.{Config}
use Rattle.graph_runs.specs.State.{first_state}
use Rattle.object_graph.specs.Reasons.{Refuses, JudgesNext}
use Rattle.object_graph.specs.declared.given.Given.{Given}
use Rattle.graph_runs.proofs.RunLaws.{event_in, event_there}
use Rattle.object_graph.proofs.ReasonLaws.{all_judged, judged_more, found_there}
use Rattle.object_graph.proofs.judge.explain.Goals as goal

pub returns-in-Some : goal.returns-in-Some
returns-in-Some c =
    let i = c.loop-index.index in
    let e = event_in c.events-events.result.now i in
    let before = take i c.args.history.now.events in
    let told = subst (λ (o : Option Given). JudgesNext c.loop-index.judge c.judge_event.new.self before e o) c.in-Some.is
    (c.in_ok-given.ensures.told before c.loop-index.invariant.judged) in
    found_there (first_state c.args.history.now.config) c.args.history.now.events c.events-events.result.now i e c.in-Some.given
    c.events-events.ensures.events c.loop-index-test.true
    (event_there c.events-events.result.now i c.loop-index-test.true)
    (subst (λ (k : Config). Refuses (first_state k) before e c.in-Some.given) c.loop-index.invariant.config told)

pub loop-index-preserved : goal.loop-index-preserved
loop-index-preserved c =
    let i = c.loop-index.index in
    let e = event_in c.events-events.result.now i in
    let before = take i c.args.history.now.events in
    let told = subst (λ (o : Option Given). JudgesNext c.loop-index.judge c.judge_event.new.self before e o) c.in_default.is
    (c.in_ok-given.ensures.told before c.loop-index.invariant.judged) in
    record {
      judged = judged_more c.judge_event.new.self c.args.history.now.events c.events-events.result.now i e c.events-events.ensures.events
          c.loop-index-test.true
          (event_there c.events-events.result.now i c.loop-index-test.true) told;
      config = c.in_ok-given.ensures.config ∙ c.loop-index.invariant.config;
    }

pub returns : goal.returns
returns c =
    all_judged c.loop-index.judge c.args.history.now.config c.args.history.now.events c.events-events.result.now c.loop-index.index
    c.events-events.ensures.events (omega (arith, c.loop-index-test.false)) c.loop-index.invariant.config c.loop-index.invariant.judged
