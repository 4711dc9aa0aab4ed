use Rattle.std.proofs.Common.{◌≡◌, ◌≤◌, ◌+◌, drop, length}
use Rattle.script_text.specs.Hints.{known_words}
use Rattle.script_text.proofs.hints.known_count.Given as goal

abbrev pub invariant-loop-verb : goal.invariant-loop-verb
invariant-loop-verb g l = record {
  known : length (known_words g.V.Verb.row_of l.format l.verbs)
      ≡ l.count + length (known_words g.V.Verb.row_of l.format (drop l.verb-index l.verbs));
  few : l.count ≤ l.verb-index;
}
