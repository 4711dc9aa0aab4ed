use Rattle.std.proofs.Common.{◌≡◌, ◌∙◌, [], Some, ap, sym, take}
use Rattle.std.proofs.lemmas.List.{append-nil}
use Rattle.heap_words.specs.declared.config.Config.{Config}
use Rattle.script_text.specs.Hints.{line_reason}
use Rattle.jobs.specs.Reasons.{sizes_hint}
use Rattle.jobs.proofs.causes.put_sizes_reason.Goals as goal

pub returns-in-Some-clause-put : goal.returns-in-Some-clause-put
returns-in-Some-clause-put c =
    let told = c.put_line_reason.ensures.put in (
      told.0,
      (λ first d begins heap.
          let sizes : Some c.in-Some.config ≡ Some d = c.in-Some.ensures first begins d heap in
          let same : c.in-Some.config ≡ d = cc in
          told.1 first begins.there ∙ ap (line_reason 1 first) (c.sizes_hint.ensures.hint
          ∙ ap (λ (x : Config). sizes_hint x.format c.args.fault) same)),
      told.2,
    )

pub returns-in-None-clause-put : goal.returns-in-None-clause-put
returns-in-None-clause-put c = (
  [],
  (λ first d begins heap.
      let bad = c.in-None.ensures first begins d heap in
      absurd (cc)),
  sym (append-nil (take c.args.at c.args.buffer.now)),
)
