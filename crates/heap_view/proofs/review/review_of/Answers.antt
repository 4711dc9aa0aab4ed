use Rattle.std.proofs.Common.{◌∙◌, List, All, ap, subst, sym}
use Rattle.heap_words.specs.declared.config.Config.{Config}
use Rattle.heap_steps.specs.Actors.{IsEvent}
use Rattle.heap_steps.specs.declared.step.Event.{Event}
use Rattle.heap_view.specs.Views.{front}
use Rattle.heap_view.proofs.Fronts.{all_front}
use Rattle.heap_view.proofs.review.review_of.Goals as goal

pub core_over-requires : goal.core_over-requires
core_over-requires c =
    let history = c.args.history.now in
    let at = c.args.glance.now.at in
    let events = c.first_of-events.ensures ∙ ap (λ (es : List Event). front at es) c.events.ensures.events in
    let each = all_front (IsEvent history.config) at history.events c.events.ensures.each in
    subst (λ (es : List Event). All (IsEvent c.config.result) es) (sym events)
    (subst (λ (config : Config). All (IsEvent config) (front at history.events)) (sym c.config.ensures) each)
