use Rattle.std.proofs.Common.{◌≡◌, ◌≤◌, length, take, arith, sym, ◌∙◌}
use Rattle.std.proofs.lemmas.List.{length-take-le}
use Rattle.script_text.proofs.Parts.Waiting.{read_behind_it}
use Rattle.script_text.proofs.read.awaited.read_behind.Goals as goal

pub returns-in-Ok-clause-more : goal.returns-in-Ok-clause-more
returns-in-Ok-clause-more g c =
    let read = c.read_some.new.buffer in
    let n = c.in-Ok.count in
    let few : n ≤ length read = omega (arith, c.in-Ok.ensures.within) in
    let size : length (take n read) ≡ n = length-take-le n read few in (
      take n read,
      c.in-Ok.ensures.gives,
      read_behind_it c.args.bytes.now c.rotate_left.new.self read c.args.start c.args.end n _ c.requires.begun c.requires.within
          c.rotate_left.ensures.after few
          (omega (arith, c.rotate_left.ensures.len, length-take-le c.args.end c.args.bytes.now c.requires.within)),
      omega arith,
      λ none. c.in-Ok.ensures.end (sym size ∙ none),
    )
