use Rattle.std.proofs.Common.{◌≡◌, ◌/◌, ◌∙◌, arith, ap, sym, Bool, false, ◌||◌, ◌&&◌}
use Rattle.std.proofs.Math.Bool.{or-false}
use Rattle.bit_sets.specs.Bits.{has}
use Rattle.remembered_sets.specs.Sets.{CardSet, lets_through, set_covers, set_of}
use Rattle.remembered_sets.proofs.Reading.{known_set, reading, set_is}
use Rattle.remembered_sets.proofs.sets.RememberedSets.mark_cards.Goals as goal

pub index-set-requires : goal.index-set-requires
index-set-requires c =
    omega (arith, known_set c.self.inside _ c.self.view_is c.args.region c.requires.region, c.number.ensures)

pub returns-then-is_untouched-clause-flags : goal.returns-then-is_untouched-clause-flags
returns-then-is_untouched-clause-flags c = λ j.
    let is = reading c.self.view_is c.self.invariant c.requires.region c.number.ensures c.index-set.ensures in
    let none : set_covers (set_of c.args.self.now c.args.region) j (j / c.args.self.now.cards_per_region) ≡ false =
    ap (λ (s : CardSet). set_covers s j (j / c.args.self.now.cards_per_region)) (set_is is)
    ∙ c.is_untouched.ensures c.if-is_untouched.true j (j / c.args.self.now.cards_per_region) in
    sym (ap (λ (b : Bool). has c.args.flags.now j
    || (b && (has c.args.self.now.entered j
    && lets_through (set_of c.args.self.now c.args.region).filter c.args.self.now.cards_per_region j))) none
    ∙ or-false (has c.args.flags.now j))
