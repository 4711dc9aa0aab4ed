use Rattle.std.proofs.Common.{◌≡◌, ◌≤◌, ◌<◌, ◌+◌, ℕ, get_or}
use Rattle.script_text.specs.Feeds.{end_of}
use Rattle.script_text.proofs.read.line_words.word_end.Given as goal

abbrev pub invariant-bytes : goal.invariant-bytes
invariant-bytes l = record {
  within : l.at + l.index ≤ end_of l.text;
  same : (k : ℕ) → k < l.index → get_or l.text (l.at + k) 0 ≡ get_or l.word k 0;
}
