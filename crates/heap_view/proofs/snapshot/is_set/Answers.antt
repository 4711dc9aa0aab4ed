use Rattle.std.proofs.Common.{◌∙◌, None, ap, sym}
use Rattle.std.specs.Prelude.{is_some}
use Rattle.std.proofs.lemmas.Option.{get_or_from_slice_get}
use Rattle.heap_walk.specs.Holders.{links_at}
use Rattle.heap_view.proofs.snapshot.is_set.Goals as goal

pub returns : goal.returns
returns c =
    c.is_some.ensures
    ∙ ap is_some (sym (get_or_from_slice_get (links_at c.args.weak c.args.core.now c.args.object) c.args.index c.link_at.result None
    c.link_at.ensures))
