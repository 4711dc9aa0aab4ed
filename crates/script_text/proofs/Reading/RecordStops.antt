-- The fault of an event's line is never want of memory.
use Rattle.std.proofs.Common.{◌≡◌, ◌∷◌, ◌∙◌}
use Rattle.std.proofs.Common.{ℕ, eqb, List, [], length, Option, Some, None, Ok, Err, ap}
use Rattle.std.specs.Prelude.{nat_lt, codes}
use Rattle.std.specs.Str.{bytes_eq}
use Rattle.heap_words.specs.declared.config.Config.{Config}
use Rattle.heap_steps.specs.declared.step.Actor.{Actor}
use Rattle.heap_steps.specs.declared.step.Actor.TheVariants as actors
use Rattle.script_text.specs.declared.fault.Kind.{Kind}
use Rattle.script_text.specs.declared.fault.Kind.TheVariants as kinds
use Rattle.script_text.specs.Reading.{number_of, large}
use Rattle.script_text.specs.EventWords.{background_of, taken_of, step_part, answer_of}
use Rattle.script_text.specs.Lines.{or_fault, words_of, mutator_of}
use Rattle.script_text.specs.Events.{foreground_of, actor_of, counted_of, event_of, event_line_of}
use Rattle.script_text.proofs.Reading.Stops.{Never, never_or, never_cond, never_bind, never_ok, never_err, mutator_never}

foreground_never : (c : Config) (word : List ℕ) (o : Option Actor) → Never (foreground_of c word o)
unfolding foreground_of
foreground_never c word (Some a) = never_ok a
foreground_never c word None =
    never_bind (mutator_of c word) (λ m. Ok (actors.Mutator m)) (mutator_never c word) (λ m. never_ok (actors.Mutator m))

actor_never : (c : Config) (word : List ℕ) → Never (actor_of c word)
unfolding actor_of
actor_never c word = never_cond (bytes_eq word (codes "gc")) (Ok actors.Collector) (foreground_of c word (background_of word))
    (never_ok actors.Collector) (foreground_never c word (background_of word))

counted_never : (c : Config) (ws : List (List ℕ)) → Never (counted_of c ws)
unfolding counted_of
counted_never c [] = never_err kinds.BadActor (λ e. cc)
counted_never c (word ∷ rest) =
    never_bind (actor_of c word) _ (actor_never c word)
    (λ a. never_bind (or_fault (taken_of c a (step_part rest)) kinds.BadStep) _
    (never_or (taken_of c a (step_part rest)) kinds.BadStep (λ e. cc))
    (λ s. never_bind (or_fault (answer_of rest) kinds.BadReply) _ (never_or (answer_of rest) kinds.BadReply (λ e. cc)) (λ r. never_ok _)))

event_never : (n : ℕ) (c : Config) (ws : List (List ℕ)) → Never (event_of n c ws)
unfolding event_of
event_never n c [] = never_err kinds.BadCount (λ e. cc)
event_never n c (word ∷ rest) =
    never_bind (or_fault (number_of large word) kinds.BadCount) _ (never_or (number_of large word) kinds.BadCount (λ e. cc))
    (λ count. never_cond (eqb count n) (counted_of c rest) (Err kinds.BadCount) (counted_never c rest) (never_err kinds.BadCount (λ e. cc)))

pub event_line_never : (n : ℕ) (c : Config) (line : List ℕ) (k : Kind) → event_line_of n c line ≡ Err k → k ≡ kinds.NoMemory → ⊥
unfolding event_line_of
event_line_never n c line k e memory = never_cond (nat_lt 120 (length line)) (Err kinds.LongLine) (event_of n c (words_of line))
    (never_err kinds.LongLine (λ d. cc)) (event_never n c (words_of line)) (e ∙ ap (λ (x : Kind). Err x) memory)
