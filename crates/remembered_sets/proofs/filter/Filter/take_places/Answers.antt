use Rattle.std.proofs.Common.{◌+◌, ◌*◌, ◌^◌, ◌∙◌, ap, ap₂, arith, length, length-set, set, true, List, Bool}
use Rattle.remembered_sets.specs.Sets.{CardFilter}
use Rattle.remembered_sets.specs.Sharing.{four_filters}
use Rattle.remembered_sets.proofs.Parts.{part_at, few_flags, has_rows, in_table, taking_is}
use Rattle.remembered_sets.proofs.Owed.{owes_turns}
use Rattle.remembered_sets.proofs.Sharing.{two_taken}
use Rattle.remembered_sets.proofs.filter.Filter.take_places.Goals as goal

pub places-first-requires-clause-some_rows : goal.places-first-requires-clause-some_rows
places-first-requires-clause-some_rows c =
    has_rows (part_at c.self.inside _ _ _ c.self.view_is c.self.invariant c.requires.part c.requires.stands) c.requires.some_rows

pub places-first-requires-clause-few : goal.places-first-requires-clause-few
places-first-requires-clause-few c =
    few_flags (part_at c.self.inside _ _ _ c.self.view_is c.self.invariant c.requires.part c.requires.stands) (2 ^ 32) c.law.ensures

pub overflow_add-from : goal.overflow_add-from
overflow_add-from c =
    let is = part_at c.self.inside _ _ _ c.self.view_is c.self.invariant c.requires.part c.requires.stands in
    omega (arith, in_table is c.places-first.result.0 c.places-first.ensures.within.0, c.law.ensures)

pub set-requires : goal.set-requires
set-requires c =
    let is = part_at c.self.inside _ _ _ c.self.view_is c.self.invariant c.requires.part c.requires.stands in
    omega (arith, in_table is c.places-first.result.0 c.places-first.ensures.within.0, c.begin.ensures.len)

pub overflow_add-from-2 : goal.overflow_add-from-2
overflow_add-from-2 c =
    let is = part_at c.self.inside _ _ _ c.self.view_is c.self.invariant c.requires.part c.requires.stands in
    omega (arith, in_table is c.places-first.result.1 c.places-first.ensures.within.1, c.law.ensures)

pub set-requires-2 : goal.set-requires-2
set-requires-2 c =
    let is = part_at c.self.inside _ _ _ c.self.view_is c.self.invariant c.requires.part c.requires.stands in
    let there = in_table is c.places-first.result.1 c.places-first.ensures.within.1 in
    omega (
      arith,
      there,
      c.begin.ensures.len,
      ap (λ (l : List Bool). length l) c.set.ensures,
      length-set c.begin.new.flags (c.args.part * c.self.inside.size + c.places-first.result.0) true,
    )

pub returns-clause-taken : goal.returns-clause-taken
returns-clause-taken c =
    let is = part_at c.self.inside _ _ _ c.self.view_is c.self.invariant c.requires.part c.requires.stands in
    ap (λ (l : List Bool). four_filters c.self.inside.rows c.begin.new.used l c.self.inside.size)
    (c.set-2.ensures
    ∙ ap (λ (l : List Bool). set l (c.args.part * c.self.inside.size + c.places-first.result.1) true) c.set.ensures)
    ∙ two_taken c.self.inside.rows c.self.inside.size c.args.part c.places-first.result.0 c.places-first.result.1 c.self.inside.used
    c.self.inside.flags c.begin.new.used c.begin.new.flags c.requires.part (omega (arith, is.size_is, c.places-first.ensures.within.0))
    (omega (arith, is.size_is, c.places-first.ensures.within.1)) c.self.told (c.begin.ensures.len ∙ c.self.invariant)
    c.begin.ensures.used c.begin.ensures.same
    ∙ ap₂ (λ (l : List CardFilter) (f : CardFilter). set l c.args.part f) c.self.view_is
    (taking_is is c.args.card c.args.source c.places-first.result.0 c.places-first.result.1 c.requires.source
    c.places-first.ensures.first c.places-first.ensures.second)

pub returns-clause-work : goal.returns-clause-work
returns-clause-work c =
    owes_turns (part_at c.self.inside _ _ _ c.self.view_is c.self.invariant c.requires.part c.requires.stands) _ _ c.begin.ensures.work
