-- A pointer that is loaded, and a data word of the object that it leads to: the answer by the reply.
use Rattle.std.proofs.Common.{◌≡◌, ◌∙◌, ℕ, Option, Some, None, refl, ap}
use Rattle.heap_steps.specs.declared.step.Reply.{Reply}
use Rattle.heap_steps.specs.declared.step.Reply.TheVariants as replies
use Rattle.step_core.specs.Loads as core
use Rattle.step_core.specs.Stands.{CoreState}
use Rattle.heap_calls.specs.Loads.{Loads, ReadsLoaded, word_or_name}
use Rattle.heap_calls.specs.Numbers.{numbers, register}

-- what is told of an object that was loaded
told_of : (name : ℕ) (read : Reply) → numbers (core.word_or_name (Some name) read) ≡ word_or_name name read
told_of name (replies.Word word) = refl
told_of name _ = refl

told_read : (loaded : Reply) (d : CoreState) (m to word : ℕ) (reply : Reply) → core.ReadsLoaded loaded d m (register to) word reply
    → ReadsLoaded loaded d m to word (numbers reply) d
told_read (replies.Named (Some name)) d m to word reply (read, takes, is) = (read, takes, ap numbers is ∙ told_of name read)
told_read (replies.Named None) d m to word reply is = (ap numbers is, refl)
told_read _ d m to word reply is = (ap numbers is, refl)

pub told_loaded : (c d : CoreState) (m to object field word : ℕ) (reply : Reply)
    → core.LoadsWord c m (register to) (register object) field word reply d
    → Loads c m to object field word (numbers reply) (Some d)
told_loaded c d m to object field word reply l = record {
  reply = l.loaded;
  loaded = d;
  loads = l.loads;
  core = d;
  reads = told_read l.loaded d m to word reply l.reads;
  held = refl;
}
