use Rattle.std.proofs.Common.{arith}
use Rattle.cards.proofs.Fields.{clean_room}
use Rattle.cards.proofs.table.CardTable.append.Goals as goal

pub push_back_reserved-requires : goal.push_back_reserved-requires
push_back_reserved-requires c =
    omega (
      arith,
      clean_room c.self.inside c.args.self.now c.args.card c.self.view_is c.self.invariant c.requires.card c.requires.clean,
      c.self.inside.queue.ok.0,
    )
