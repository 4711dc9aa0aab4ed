use Rattle.std.proofs.Common.{sym}
use Rattle.std.specs.Fmt.{decimal}
use Rattle.heap_dump.specs.Fields.{named_text}
use Rattle.heap_dump.specs.declared.fields.Spelling.{Spelling}
use Rattle.heap_dump.specs.declared.fields.Spelling.TheVariants.{Lines}
use Rattle.heap_dump.proofs.Putting.{then_adds, adds_at}
use Rattle.heap_dump.proofs.fields.put_named.Goals as goal

pub returns-in-None : goal.returns-in-None
returns-in-None c =
    adds_at (λ (s : Spelling). named_text s c.args.at c.args.name) _ _ _ _ c.in-Lines.is (adds_at (named_text Lines c.args.at) _ _ _ _
    c.in-None.is (then_adds _ _ _ _ _ c.put.ensures (adds_at decimal _ _ _ _ (sym c.word.ensures) c.put_digits.ensures)))
