use Rattle.std.proofs.Common.{◌≡◌, ◌∙◌, List, ap, length, map, sym}
use Rattle.std.proofs.lemmas.List.{length-map}
use Rattle.heap_steps.specs.declared.step.Event.{Event}
use Rattle.heap_steps.specs.declared.step.Step.{Step}
use Rattle.jobs.specs.Replays.{reply_in}
use Rattle.step_core.specs.Passages.{step_in}
use Rattle.heap_life.proofs.Redrawn.{of_history}
use Rattle.heap_life.proofs.redraw.page_over_history.Goals as goal

same_length : (ran events : List Event) → map step_in ran ≡ map step_in events → length ran ≡ length events
same_length ran events same = sym (length-map ran step_in) ∙ ap (λ (ss : List Step). length ss) same ∙ length-map events step_in

pub first_other-requires : goal.first_other-requires
first_other-requires c =
    same_length c.events-2.result.now c.events.result.now
    (ap (λ (es : List Event). map step_in es) c.events-2.ensures.events ∙ c.in-Ok.ensures.life.steps
    ∙ sym (ap (λ (es : List Event). map step_in es) c.events.ensures.events))

pub returns-in-Ok-page_of-clause-page : goal.returns-in-Ok-page_of-clause-page
returns-in-Ok-page_of-clause-page c =
    let replies = sym (ap (λ (es : List Event). map reply_in es) c.events-2.ensures.events) ∙ c.first_other.ensures.none c.in_default.is
    ∙ ap (λ (es : List Event). map reply_in es) c.events.ensures.events in
    of_history c.args.name.now c.args.names.now c.args.every c.args.history.now c.in-Ok-page_of.page.items c.in-Ok.life replies
    c.in-Ok.ensures.life c.in-Ok-page_of.ensures
