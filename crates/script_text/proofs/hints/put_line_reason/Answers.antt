use Rattle.std.proofs.Common.{◌++◌, ◌∷◌, [], ℕ, List, ap, take}
use Rattle.script_text.specs.Hints.{line_reason}
use Rattle.script_text.proofs.Hinting.{front, same_line, three}
use Rattle.script_text.proofs.hints.put_line_reason.Goals as goal

pub returns-clause-put : goal.returns-clause-put
returns-clause-put c =
    let first = c.first_line-shown.result.now in (
      front c.args.line first ++ c.args.hint.now ++ 10 ∷ [],
      (λ line is. ap (λ (l : List ℕ). line_reason c.args.line l c.args.hint.now)
          (same_line c.args.text.now c.behind.result.now first line c.args.line c.behind.ensures c.first_line-shown.ensures is)),
      three (take c.args.at c.args.buffer.now) (front c.args.line first) c.args.hint.now (10 ∷ []) _ _ _
          c.put_line-at.ensures.put c.put_text-at.ensures.put c.put_text.ensures.put,
    )
