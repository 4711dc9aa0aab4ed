use Rattle.std.proofs.Common.{◌≡◌, drop}
use Rattle.script_text.specs.Reading.{verb_among}
use Rattle.script_text.proofs.read.steps.verb.Given as goal

abbrev pub invariant-loop-verb : goal.invariant-loop-verb
invariant-loop-verb g l = verb_among g.V.Verb.row_of l.verbs l.word ≡ verb_among g.V.Verb.row_of (drop l.verb-index l.verbs) l.word
