-- A pointer that is loaded, and a data word of the object that it leads to: each as by a step of its own.
use Rattle.std.specs.Prelude.{◌≡◌, ℕ, Option, Some}
use Rattle.heap_steps.specs.declared.step.Reply.TheVariants as replies
use Rattle.step_core.specs.Steps.{Register, Reply}
use Rattle.step_core.specs.Stands.{CoreState}
use Rattle.step_core.specs.Mutators.{register_of}
use Rattle.step_core.specs.Rows.{getting}
use Rattle.step_core.specs.Stands.{name_in}
use Rattle.step_core.specs.Words.{Takes, reading}

-- a register takes a pointer, which holds this word, and the reply names what that leads to; the sizes stay
pub record LoadsHeld (c : CoreState) (m : ℕ) (to object : Register) (field : ℕ) (word : Option ℕ) (d : CoreState) : Type 0 where
  pub takes : Takes c (getting m to object field) (replies.Named (name_in d.table word)) d
  pub held : register_of d m to ≡ word
  pub config : d.config ≡ c.config

-- what is replied of an object that was loaded, by the reply to who reads its data word: the word, or else the object's name
abbrev pub word_or_name : Option ℕ → Reply → Reply
word_or_name name (replies.Word word) = replies.Word word
word_or_name name _ = replies.Named name

-- where an object was loaded, a step of its own reads its data word; else the reply is the load's, and no step follows
abbrev pub ReadsLoaded : Reply → CoreState → ℕ → Register → ℕ → Reply → Type 0
ReadsLoaded (replies.Named (Some name)) d m to word reply =
    (read : Reply) × Takes d (reading m to word) read d × (reply ≡ word_or_name (Some name) read)
ReadsLoaded loaded d m to word reply = reply ≡ loaded

-- a pointer is loaded by a step of its own, and the word is read
pub record LoadsWord (c : CoreState) (m : ℕ) (to object : Register) (field word : ℕ) (reply : Reply) (d : CoreState) : Type 0 where
  pub loaded : Reply
  pub loads : Takes c (getting m to object field) loaded d
  pub reads : ReadsLoaded loaded d m to word reply
