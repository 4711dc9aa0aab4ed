use Rattle.regions.proofs.Common.{arith, refl, ap, ◌∙◌, ◌≡◌, ◌+◌, length, ℕ}
use Rattle.regions.proofs.Words.HeldSlots.{has_held, held_field, held_small, held_set}
use Rattle.regions.specs.Table.{pointers_at, weaks_at, set_field}
use Rattle.regions.proofs.table.RegionTable.set_held.Goals as goal

pub pointer_count-requires : goal.pointer_count-requires
pointer_count-requires c = has_held c.args.self.now c.args.object c.args.slot c.requires

pub weak_count-requires : goal.weak_count-requires
weak_count-requires c = has_held c.args.self.now c.args.object c.args.slot c.requires

pub overflow_add-place : goal.overflow_add-place
overflow_add-place c =
    let small = held_small c.args.self.now c.args.object c.args.slot c.requires c.law.ensures in
    omega (arith, small, c.pointer_count.ensures, c.weak_count.ensures)

pub overflow_add-place-2 : goal.overflow_add-place-2
overflow_add-place-2 c =
    let small = held_small c.args.self.now c.args.object c.args.slot c.requires c.law.ensures in
    omega (arith, small, c.pointer_count.ensures, c.weak_count.ensures)

pub set_field-requires : goal.set_field-requires
set_field-requires c = rw (c.pointer_count.ensures, c.weak_count.ensures) (held_field c.args.self.now c.args.object c.args.slot c.requires)

pub returns : goal.returns
returns c =
    let place : c.pointer_count.result + c.weak_count.result + c.args.slot
    ≡ length (pointers_at c.args.self.now c.args.object) + length (weaks_at c.args.self.now c.args.object) + c.args.slot =
    rw (c.pointer_count.ensures, c.weak_count.ensures) refl in
    c.set_field.ensures ∙ ap (λ (n : ℕ). set_field c.args.self.now c.args.object n c.args.target) place
    ∙ held_set c.args.self.now c.args.object c.args.slot c.requires c.args.target
