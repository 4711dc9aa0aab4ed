use Rattle.std.proofs.Common.{◌≡◌, ◌∙◌, suc, List, length, map, ap, ap₂, subst, sym}
use Rattle.step_core.specs.Stands.{CoreState}
use Rattle.heap_life.specs.Tolds.{nothing_told, tells_tiles, told_of}
use Rattle.std.specs.Prelude.{All}
use Rattle.heap_words.specs.declared.config.Config.{Config}
use Rattle.heap_steps.specs.Actors.{AreEvents}
use Rattle.heap_steps.specs.declared.step.Event.{Event}
use Rattle.graph_runs.specs.Run.{IsRun}
use Rattle.graph_runs.specs.State.{first_state}
use Rattle.heap_steps.specs.Faults.{IsRunFault}
use Rattle.step_core.specs.Passages.{RunsTo, step_in, actor_in}
use Rattle.step_core.proofs.Cores.Following.{passage_is_run}
use Rattle.heap_life.specs.Paces.{moments_below}
use Rattle.heap_life.specs.declared.pace.Pace.{Pace}
use Rattle.heap_life.specs.declared.life.Moment.{Moment}
use Rattle.heap_life.specs.Lives.{IsMomentIn}
use Rattle.heap_life.proofs.Moments.{runs_to, of_new, pace_for}
use Rattle.heap_life.proofs.life.live.Goals as goal

pub returns-in-Err-clause-fault : goal.returns-in-Err-clause-fault
returns-in-Err-clause-fault c =
    subst (λ (config : Config). IsRunFault config c.run_fault.result) c.config-config.ensures
    (c.run_fault.ensures c.config-config.result c.in-Err.ensures.fault)

pub life_of-requires : goal.life_of-requires
life_of-requires c =
    let same = c.in-Ok.ensures.config ∙ c.config-config.ensures in
    subst (λ (events : List Event). AreEvents c.in-Ok.core.config events) (sym c.events-2.ensures.events)
    (subst (λ (config : Config). AreEvents config c.args.events.now.events) (sym same) c.events-2.ensures.each)

pub returns-in-Ok-life_of-clause-life : goal.returns-in-Ok-life_of-clause-life
returns-in-Ok-life_of-clause-life c =
    let life = c.in-Ok-life_of.life in
    let es = life.history.events in
    let made = c.in-Ok.ensures in
    let from = c.in-Ok-life_of.ensures.lived in
    let lived = from.lived in
    let shown = lived.told.shown in
    let pace = c.in-Ok-life_of.ensures.pace in
    let events = c.events-2.ensures.events in
    let config = c.config-config.result in
    let is = c.config-config.ensures in
    let runs = lived.leads (first_state config) made.stands in
    record {
      config = lived.config ∙ made.config ∙ is;
      steps = lived.steps ∙ ap (λ (events : List Event). map step_in events) events;
      actors = lived.actors ∙ ap (λ (events : List Event). map actor_in events) events;
      last = runs.last;
      run = subst (λ (k : Config). IsRun (first_state k) es runs.last) is (passage_is_run _ _ _ _ _ runs.passage);
      end = c.life_of.new.core;
      ends = subst (λ (k : Config). RunsTo k es c.life_of.new.core) is
          (runs_to config c.in-Ok.core c.life_of.new.core es made.fresh made.core made.stands runs);
      pace = pace_for c.args.every c.from.result c.most_moments.result config c.args.events.now.config c.events.result.now
          c.args.events.now.events life.pace c.pace_of-pace.result
          c.pace_of-pace.ensures c.from.ensures c.most_moments.ensures is c.events.ensures.events pace;
      due = lived.due ∙ ap₂ (λ (p : Pace) (l : List Event). moments_below p l (suc (length l))) (sym pace) events;
      shown = shown;
      moments = lived.told.moments;
      each = subst (λ (k : Config). All (λ (x : Moment × CoreState). IsMomentIn (RunsTo k) es x.0 x.1) shown) is
          (λ i d lt. of_new config c.in-Ok.core es _ _ made.fresh made.core made.stands (lived.told.each i d lt));
      told = subst (λ (k : Config). life.told.items ≡ (told_of 8000000 (nothing_told (tells_tiles k)) shown).text) (made.config ∙ is)
          (lived.told.told life.told.items from.told).0;
    }
