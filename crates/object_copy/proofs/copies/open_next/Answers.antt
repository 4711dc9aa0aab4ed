use Rattle.std.proofs.Common.{◌∙◌, sym}
use Rattle.object_copy.proofs.Frees.{some_free}
use Rattle.object_copy.proofs.copies.open_next.Goals as goal

pub unreachable-requires : goal.unreachable-requires
unreachable-requires c = some_free c.args.table.now c.requires.some (sym c.take_free.ensures.lowest ∙ c.in-None.is)
