use Rattle.std.proofs.Common.{◌+◌, ◌*◌, ◌^◌, ◌∙◌, ap, sym, arith, Bool, ◌&&◌}
use Rattle.std.proofs.Math.Nat.{pos_of_ne-zero}
use Rattle.bit_sets.specs.Bits.{has}
use Rattle.remembered_sets.proofs.Parts.{part_at, few_flags, in_table, lets_all, lets_both, lets_none}
use Rattle.remembered_sets.proofs.filter.Filter.lets_through.Goals as goal

pub returns-then-self-eq0 : goal.returns-then-self-eq0
returns-then-self-eq0 c =
    let is = part_at c.self.inside _ _ _ c.self.view_is c.self.invariant c.requires.part c.requires.stands in
    sym (lets_all is c.args.card c.if-self-eq0.true)

pub returns-then-not-self-part : goal.returns-then-not-self-part
returns-then-not-self-part c =
    let is = part_at c.self.inside _ _ _ c.self.view_is c.self.invariant c.requires.part c.requires.stands in
    sym (lets_none is c.args.card (pos_of_ne-zero c.if-self-eq0.false) c.if-not-self-part.true)

pub places-first-requires-clause-few : goal.places-first-requires-clause-few
places-first-requires-clause-few c =
    few_flags (part_at c.self.inside _ _ _ c.self.view_is c.self.invariant c.requires.part c.requires.stands) (2 ^ 32) c.law.ensures

pub overflow_add-from : goal.overflow_add-from
overflow_add-from c =
    let is = part_at c.self.inside _ _ _ c.self.view_is c.self.invariant c.requires.part c.requires.stands in
    omega (arith, in_table is c.places-first.result.0 c.places-first.ensures.within.0, c.law.ensures)

pub get-requires : goal.get-requires
get-requires c =
    let is = part_at c.self.inside _ _ _ c.self.view_is c.self.invariant c.requires.part c.requires.stands in
    in_table is c.places-first.result.0 c.places-first.ensures.within.0

pub overflow_add-from-then-get : goal.overflow_add-from-then-get
overflow_add-from-then-get c =
    let is = part_at c.self.inside _ _ _ c.self.view_is c.self.invariant c.requires.part c.requires.stands in
    omega (arith, in_table is c.places-first.result.1 c.places-first.ensures.within.1, c.law.ensures)

pub get-requires-then-get : goal.get-requires-then-get
get-requires-then-get c =
    let is = part_at c.self.inside _ _ _ c.self.view_is c.self.invariant c.requires.part c.requires.stands in
    in_table is c.places-first.result.1 c.places-first.ensures.within.1

pub returns-then-get : goal.returns-then-get
returns-then-get c =
    let is = part_at c.self.inside _ _ _ c.self.view_is c.self.invariant c.requires.part c.requires.stands in
    let through = lets_both is c.args.card c.args.source c.places-first.result.0 c.places-first.result.1
    (pos_of_ne-zero c.if-self-eq0.false) c.if-not-self-part.false c.requires.source c.places-first.ensures.within
    c.places-first.ensures.first c.places-first.ensures.second in
    c.get-then-get.ensures ∙ ap (λ (b : Bool). b && has c.self.inside.flags (c.args.part * c.self.inside.size + c.places-first.result.1))
    (sym (sym c.get.ensures ∙ c.if-get.true)) ∙ through

pub returns-else-get : goal.returns-else-get
returns-else-get c =
    let is = part_at c.self.inside _ _ _ c.self.view_is c.self.invariant c.requires.part c.requires.stands in
    let through = lets_both is c.args.card c.args.source c.places-first.result.0 c.places-first.result.1
    (pos_of_ne-zero c.if-self-eq0.false) c.if-not-self-part.false c.requires.source c.places-first.ensures.within
    c.places-first.ensures.first c.places-first.ensures.second in
    c.if-get.false ∙ ap (λ (b : Bool). b && has c.self.inside.flags (c.args.part * c.self.inside.size + c.places-first.result.1))
    (sym (sym c.get.ensures ∙ c.if-get.false)) ∙ through
