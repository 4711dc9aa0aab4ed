use Rattle.std.proofs.Common.{◌≡◌, ◌<◌, ◌-◌, length}
use Rattle.std.specs.Str.Parse.{AllDigits, digits_value}
use Rattle.script_text.specs.Fronts.{part, IsClear}
use Rattle.script_text.proofs.read.line_words.long_number.Given as goal

abbrev pub invariant-digits : goal.invariant-digits
invariant-digits l = record {
  clear : IsClear l.text l.at l.past;
  digits : AllDigits 10 (part l.text l.at l.past);
  value : digits_value 10 (part l.text l.at l.past) ≡ l.number;
  small : l.number < 1000000000;
}

abbrev pub decreases-digits : goal.decreases-digits
decreases-digits l = length l.text - l.past
