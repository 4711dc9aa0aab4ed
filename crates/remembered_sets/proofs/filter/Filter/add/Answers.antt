use Rattle.std.proofs.Common.{◌∙◌, ap, sym, arith, set, length, List}
use Rattle.std.proofs.Math.Nat.{pos_of_ne-zero}
use Rattle.std.proofs.lemmas.List.{set-get_or}
use Rattle.remembered_sets.specs.Sets.{CardFilter}
use Rattle.remembered_sets.specs.Sharing.{no_filter}
use Rattle.remembered_sets.proofs.Parts.{part_at, filter_none}
use Rattle.remembered_sets.proofs.Sharing.{length-four}
use Rattle.remembered_sets.proofs.filter.Filter.add.Goals as goal

pub returns-then-self-eq0-clause-added : goal.returns-then-self-eq0-clause-added
returns-then-self-eq0-clause-added c =
    let is = part_at c.self.inside _ _ _ c.self.view_is c.self.invariant c.requires.part c.requires.stands in
    sym (ap (λ (f : CardFilter). set c.args.self.now c.args.part f) (filter_none is c.args.card c.if-self-eq0.true)
    ∙ set-get_or c.args.self.now c.args.part no_filter)

pub returns-then-self-eq0-clause-four : goal.returns-then-self-eq0-clause-four
returns-then-self-eq0-clause-four c =
    ap (λ (l : List CardFilter). length l) (sym c.self.view_is)
    ∙ length-four c.self.inside.rows c.self.inside.used c.self.inside.flags c.self.inside.size

pub take_places-requires-clause-some_rows : goal.take_places-requires-clause-some_rows
take_places-requires-clause-some_rows c =
    let is = part_at c.self.inside _ _ _ c.self.view_is c.self.invariant c.requires.part c.requires.stands in
    let some = pos_of_ne-zero c.if-self-eq0.false in omega (arith, some, is.rows_are)

pub returns-clause-four : goal.returns-clause-four
returns-clause-four c =
    ap (λ (l : List CardFilter). length l) (sym c.self.view_is)
    ∙ length-four c.self.inside.rows c.self.inside.used c.self.inside.flags c.self.inside.size
