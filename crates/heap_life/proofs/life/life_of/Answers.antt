use Rattle.std.proofs.Common.{◌∙◌, ℕ, Bool, Global, Vec, ap, subst, sym}
use Rattle.heap_steps.specs.Actors.{EventList}
use Rattle.heap_life.specs.Lives.{IsLived}
use Rattle.heap_life.specs.Tolds.{nothing_told, tells_tiles}
use Rattle.heap_life.specs.declared.life.Moment.{Moment}
use Rattle.heap_life.specs.declared.moment_text.Teller.{Teller}
use Rattle.heap_life.proofs.life.life_of.Goals as goal

pub returns-clause-lived : goal.returns-clause-lived
returns-clause-lived c =
    let first = c.args.core.now in
    let course = c.in_ok-course.course in
    let p = c.args.pace in
    let es = c.args.events.now in
    let end = c.live_on.new.core in
    let t = nothing_told (tells_tiles first.config) in
    let told = c.in_ok-teller.ensures.tiles ∙ c.tells_tiles.ensures ∙ ap tells_tiles c.config-config.ensures.config in
    let limited = subst (λ (n : ℕ). IsLived n (nothing_told c.in_ok-teller.teller.tiles) first p es end course.done course.moments.items
    course.teller) c.in_ok-teller.ensures.limit c.in_ok-course.ensures in
    let lived = subst (λ (b : Bool). IsLived 8000000 (nothing_told b) first p es end course.done course.moments.items course.teller) told
    limited in
    record {
      teller = c.into_parts-history.result.2;
      lived = subst (λ (q : EventList × Vec Moment Global × Teller). IsLived 8000000 t first p es end q.0 q.1.items q.2)
          (sym c.into_parts-history.ensures) lived;
      told = c.in_ok-told.ensures;
    }
