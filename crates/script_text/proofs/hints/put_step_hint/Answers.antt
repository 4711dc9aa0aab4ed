use Rattle.std.proofs.Common.{◌≡◌, ◌∙◌, ◌-◌, [], ℕ, List, Some, ap, arith, sym, take}
use Rattle.std.proofs.lemmas.List.{append-nil}
use Rattle.heap_words.specs.declared.config.Config.{Config}
use Rattle.script_text.specs.declared.expected.Stop.{Stop}
use Rattle.script_text.specs.declared.expected.TextKind.{TextKind}
use Rattle.script_text.specs.Hints.{stop_text}
use Rattle.script_text.specs.Lines.{words_of}
use Rattle.script_text.specs.Expected.{stop_in}
use Rattle.script_text.proofs.hints.put_step_hint.Goals as goal

-- the same sizes and the same place tell the same
same_text : (c d : Config) (s t : Stop) → Some c ≡ Some d → Some s ≡ Some t → stop_text c s ≡ stop_text d t
same_text c d s t e f =
    let sizes : c ≡ d = cc in
    let stops : s ≡ t = cc in
    ap (λ (x : Config). stop_text x s) sizes ∙ ap (stop_text d) stops

-- the same sizes and the same count stop at the same place
same_stop : (kind : TextKind) (c d : Config) (n m : ℕ) (words : List (List ℕ)) → Some c ≡ Some d → n ≡ m
    → stop_in kind c n words ≡ stop_in kind d m words
same_stop kind c d n m words e f =
    let sizes : c ≡ d = cc in
    ap (λ (x : Config). stop_in kind x n words) sizes ∙ ap (λ (k : ℕ). stop_in kind d k words) f

pub returns-in-Some-stop_in-clause-put : goal.returns-in-Some-stop_in-clause-put
returns-in-Some-stop_in-clause-put c = (
  stop_text c.in-Some.config c.in-Some-stop_in.stop,
  (λ all words first d stop begins heap line is.
      let sizes = c.in-Some.ensures first begins d heap in
      let count : c.saturating_sub.result ≡ c.args.line - 1 = omega arith in
      same_text c.in-Some.config d c.in-Some-stop_in.stop stop sizes
      (c.in-Some-stop_in.ensures (words_of all) words
      ∙ same_stop c.args.kind c.in-Some.config d c.saturating_sub.result (c.args.line - 1) (words_of all) sizes count ∙ is)),
  c.put_stop.ensures.put,
)

pub returns-in-None-clause-put : goal.returns-in-None-clause-put
returns-in-None-clause-put c = (
  [],
  (λ all words first d stop begins heap line is.
      let sizes = c.in-Some.ensures first begins d heap in
      let count : c.saturating_sub.result ≡ c.args.line - 1 = omega arith in
      let bad = c.in-None.ensures (words_of all) words
      ∙ same_stop c.args.kind c.in-Some.config d c.saturating_sub.result (c.args.line - 1) (words_of all) sizes count ∙ is in
      absurd (cc)),
  sym (append-nil (take c.args.at c.args.buffer.now)),
)
