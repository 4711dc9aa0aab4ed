-- From a life over the steps of a record, and their replies, to the page of the record.
use Rattle.std.proofs.Common.{◌≡◌, ◌∙◌, ℕ, List, [], ◌∷◌, ap, drop, get_or, map, refl, subst, sym}
use Rattle.heap_words.specs.declared.config.Config.{Config}
use Rattle.heap_steps.specs.Actors.{EventList}
use Rattle.heap_steps.specs.declared.step.Actor.{Actor}
use Rattle.heap_steps.specs.declared.step.Event.{Event}
use Rattle.heap_steps.specs.declared.step.Reply.{Reply}
use Rattle.heap_steps.specs.declared.step.Step.{Step}
use Rattle.jobs.specs.Replays.{reply_in}
use Rattle.step_core.specs.Passages.{step_in, actor_in}
use Rattle.heap_life.specs.declared.life.Life.{Life}
use Rattle.heap_life.specs.Lives.{IsLifeOf}
use Rattle.heap_life.specs.Pages.{IsPageOf}
use Rattle.heap_life.specs.Redrawings.{IsPageOfHistory}

abbrev event_of : Actor → Step → Reply → Event
event_of actor step reply = record { actor = actor; step = step; reply = reply }

same_event : (x y : Event) → x.actor ≡ y.actor → x.step ≡ y.step → x.reply ≡ y.reply → x ≡ y
same_event x y actor step reply =
    ap (λ (k : Actor). event_of k x.step x.reply) actor ∙ ap (λ (k : Step). event_of y.actor k x.reply) step
    ∙ ap (λ (k : Reply). event_of y.actor y.step k) reply

-- two lists with the same actors, steps and replies are the same
same_events : (xs ys : List Event) → map actor_in xs ≡ map actor_in ys → map step_in xs ≡ map step_in ys
    → map reply_in xs ≡ map reply_in ys → xs ≡ ys
same_events [] [] actors steps replies = refl
same_events [] (y ∷ ys) actors steps replies = absurd (cc)
same_events (x ∷ xs) [] actors steps replies = absurd (cc)
same_events (x ∷ xs) (y ∷ ys) actors steps replies =
    let rest : xs ≡ ys = same_events xs ys (ap (λ (l : List Actor). drop 1 l) actors) (ap (λ (l : List Step). drop 1 l) steps)
    (ap (λ (l : List Reply). drop 1 l) replies) in
    let first : x ≡ y = same_event x y (ap (λ (l : List Actor). get_or l 0 x.actor) actors)
    (ap (λ (l : List Step). get_or l 0 x.step) steps) (ap (λ (l : List Reply). get_or l 0 x.reply) replies) in
    ap (λ (e : Event). e ∷ xs) first ∙ ap (λ (es : List Event). y ∷ es) rest

same_history : (made history : EventList) → made.config ≡ history.config → made.events ≡ history.events → made ≡ history
same_history made history config events =
    subst (λ (c : Config). (record { config = c; events = made.events }) ≡ history) (sym config)
    (subst (λ (es : List Event). (record { config = history.config; events = es }) ≡ history) (sym events) refl)

pub of_history : (name names : List ℕ) (every : ℕ) (history : EventList) (page : List ℕ) (life : Life)
    → map reply_in life.history.events ≡ map reply_in history.events → IsLifeOf every history life → IsPageOf name names life page
    → IsPageOfHistory name names every history page
of_history name names every history page life replies l drawn = record {
  life = life;
  same = same_history life.history history l.config (same_events life.history.events history.events l.actors l.steps replies);
  lives = l;
  drawn = drawn;
}
