use Rattle.std.proofs.Common.{◌≡◌, ◌∙◌, ◌++◌, [], Some, ap, subst, sym, take}
use Rattle.heap_words.specs.declared.config.Config.{Config}
use Rattle.std.proofs.lemmas.List.{append-nil}
use Rattle.script_text.specs.Hints.{stop_text}
use Rattle.script_text.specs.Lines.{words_of}
use Rattle.script_text.specs.Expected.{no_sizes}
use Rattle.script_text.proofs.hints.put_heap_hint.Goals as goal

pub returns-in-Some-clause-put : goal.returns-in-Some-clause-put
returns-in-Some-clause-put c = (
  stop_text no_sizes c.in-Some.stop,
  (λ n input all words stop line is.
      let same : Some c.in-Some.stop ≡ Some stop = c.in-Some.ensures (words_of all) words ∙ is in
      let stops : c.in-Some.stop ≡ stop = cc in
      ap (stop_text no_sizes) stops),
  subst (λ (d : Config). take c.put_stop.result c.put_stop.new.buffer ≡ take c.args.at c.args.buffer.now ++ stop_text d c.in-Some.stop)
      c.no_sizes.ensures c.put_stop.ensures.put,
)

pub returns-in-None-clause-put : goal.returns-in-None-clause-put
returns-in-None-clause-put c = (
  [],
  (λ n input all words stop line is.
      let bad = c.in-None.ensures (words_of all) words ∙ is in
      absurd (cc)),
  sym (append-nil (take c.args.at c.args.buffer.now)),
)
