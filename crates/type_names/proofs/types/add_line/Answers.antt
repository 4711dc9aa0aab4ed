use Rattle.std.proofs.Common.{◌∙◌, sym}
use Rattle.std.specs.Ordering.{nat_cmp}
use Rattle.std.specs.BTreeMap.{get}
use Rattle.type_names.specs.Tables.{type_of}
use Rattle.type_names.proofs.Reading.{taken}
use Rattle.type_names.proofs.types.add_line.Goals as goal

pub returns-in-Ok-add : goal.returns-in-Ok-add
returns-in-Ok-add c = λ ts are. (
  _,
  taken ts (type_of c.in-Ok.named) c.args.line.now (get nat_cmp c.args.names.now.words c.in-Ok.named.word)
      (sym c.is_passed.ensures ∙ c.if-is_passed.false) c.in-Ok.ensures.ok (are.words c.in-Ok.named.word)
      (sym c.contains_key.ensures ∙ c.if-contains_key.false),
  c.in-Ok-add.ensures ts are,
)
