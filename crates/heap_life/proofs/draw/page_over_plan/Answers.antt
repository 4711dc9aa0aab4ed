use Rattle.std.proofs.lemmas.Result.{IfOk-weaker}
use Rattle.heap_life.proofs.Drawn.{of_plan}
use Rattle.heap_life.proofs.draw.page_over_plan.Goals as goal

pub returns-clause-page : goal.returns-clause-page
returns-clause-page c =
    let made = c.in-Ok.ensures in
    IfOk-weaker c.page_over.result _ _
    (λ page h. of_plan c.args.name.now c.args.names.now c.args.every c.args.plan.now c.in-Ok.events page.items h.0 made.config made.steps
    made.actors h.1 h.2)
    c.page_over.ensures.page
