use Rattle.std.proofs.Common.{ap, sym, subst}
use Rattle.heap_steps.specs.Actors.{IsEvent}
use Rattle.object_graph.specs.Reasons.{Judging, HasJudged}
use Rattle.object_graph.proofs.ReasonLaws.{op_judged, judged_sound, judges_told}
use Rattle.object_graph.proofs.judge.Judge.judge_event.Goals as goal

pub judge_event-requires-clause-op : goal.judge_event-requires-clause-op
judge_event-requires-clause-op c =
    let j : Judging = record { config = c.self.inside.config; state = c.self.inside.machine } in
    let es = c.requires.judged.0 in
    op_judged j es c.args.event.now (subst (λ (j : Judging). HasJudged j es) (sym c.self.view_is) c.requires.judged.1)
    (subst (λ (j : Judging). IsEvent j.config c.args.event.now) (sym c.self.view_is) c.requires.known)

pub judge_event-requires-clause-sound : goal.judge_event-requires-clause-sound
judge_event-requires-clause-sound c =
    let j : Judging = record { config = c.self.inside.config; state = c.self.inside.machine } in
    let es = c.requires.judged.0 in
    judged_sound j es (subst (λ (j : Judging). HasJudged j es) (sym c.self.view_is) c.requires.judged.1)

pub returns-clause-told : goal.returns-clause-told
returns-clause-told c =
    judges_told c.judge_event.result c.args.self.now
    (record { config = c.self.inside.config; state = c.judge_event.new.self }) c.args.event.now c.self.inside.machine
    (ap (λ (j : Judging). j.config) c.self.view_is)
    (ap (λ (j : Judging). j.state) c.self.view_is) c.judge_event.ensures
