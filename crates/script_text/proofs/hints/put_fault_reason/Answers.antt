use Rattle.std.proofs.Common.{◌≡◌, ◌++◌, ◌∷◌, [], ℕ, List, Some, ap, slice_get, take}
use Rattle.script_text.specs.Hints.{line_reason}
use Rattle.script_text.specs.Lines.{pieces_of}
use Rattle.script_text.proofs.Hinting.{four, front, same_line}
use Rattle.script_text.proofs.hints.put_fault_reason.Goals as goal

pub returns-clause-put : goal.returns-clause-put
returns-clause-put c =
    let n = c.args.fault.line in
    let first = c.first_line-line.result.now in
    let rest = c.behind-rest.result.now in
    let told = c.put_hint-at.ensures.put in
    let mistake = c.put_mistake.ensures.put in (
      front n first ++ told.0 ++ 10 ∷ [] ++ mistake.0,
      (λ line is.
          let same : first ≡ line = same_line c.args.text.now rest first line n c.behind-rest.ensures c.first_line-line.ensures is in
          let here : slice_get (pieces_of rest) 0 ≡ Some first = c.first_line-line.ensures in
          let there : slice_get (pieces_of rest) 0 ≡ Some line = cc in (
            told.0,
            mistake.0,
            told.1 line (λ ended. c.split_words-count.ensures.words line ended.next there (c.behind-rest.ensures 1 ended.next ended.ended)),
            ap (λ (l : List ℕ). line_reason n l told.0 ++ mistake.0) same,
          )),
      four (take c.args.at c.args.buffer.now) (front n first) told.0 (10 ∷ []) mistake.0 _ _ _ _
          c.put_line-at.ensures.put told.2 c.put_text-at.ensures.put mistake.1,
    )
