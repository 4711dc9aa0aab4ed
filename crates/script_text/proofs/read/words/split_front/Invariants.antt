use Rattle.std.proofs.Common.{◌≡◌, ◌≤◌, ◌-◌, length, take, map}
use Rattle.script_text.proofs.Parts.Splitting.{IsSplit}
use Rattle.script_text.proofs.read.words.split_front.Given as goal

abbrev pub invariant-bytes : goal.invariant-bytes
invariant-bytes l = record {
  room : length l.words ≡ 12;
  count : l.count ≤ 12;
  begun : l.start ≤ l.at;
  within : l.at ≤ length l.text;
  split : IsSplit l.text (map (λ w. w.now) (take l.count l.words)) l.start l.at;
}

abbrev pub decreases-bytes : goal.decreases-bytes
decreases-bytes l = length l.text - l.at
