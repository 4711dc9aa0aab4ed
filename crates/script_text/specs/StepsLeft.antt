-- The steps that are left of a script's text.
use Rattle.std.specs.Prelude.{◌≡◌, ℕ, List, [], Result, Ok, Err}
use Rattle.heap_words.specs.declared.config.Config.{Config}
use Rattle.heap_steps.specs.declared.step.Step.{Step}
use Rattle.script_text.specs.declared.fault.LineFault.{LineFault}
use Rattle.script_text.specs.Lines.{pieces_of, steps_of}

-- the steps that were read, none after a fault
abbrev pub steps_read : Result (List Step) LineFault → List Step
steps_read (Ok ss) = ss
steps_read (Err fault) = []

-- the steps of the lines of a text, which follow a heap line
abbrev pub steps_in : Config → List ℕ → List Step
steps_in config lines = steps_read (steps_of 2 config (pieces_of lines))

-- no line of the text has a fault
abbrev pub IsFaultless : Config → List ℕ → Type 0
IsFaultless config lines = steps_of 2 config (pieces_of lines) ≡ Ok (steps_in config lines)
