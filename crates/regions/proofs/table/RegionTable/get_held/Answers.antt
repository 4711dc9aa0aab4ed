use Rattle.regions.proofs.Common.{arith, refl, ap, sym, ◌∙◌, ◌≡◌, ◌+◌, length, ℕ, slice_get}
use Rattle.regions.proofs.Words.HeldSlots.{has_held, held_field, held_small, held_read}
use Rattle.regions.specs.Table.{pointers_at, weaks_at, fields_at}
use Rattle.regions.proofs.table.RegionTable.get_held.Goals as goal

pub pointer_count-requires : goal.pointer_count-requires
pointer_count-requires c = has_held c.args.self.now c.args.object c.args.slot c.requires

pub weak_count-requires : goal.weak_count-requires
weak_count-requires c = has_held c.args.self.now c.args.object c.args.slot c.requires

pub overflow_add-place : goal.overflow_add-place
overflow_add-place c =
    let small = held_small c.args.self.now c.args.object c.args.slot c.requires c.law.ensures in
    omega (arith, small, c.pointer_count.ensures, c.weak_count.ensures)

pub overflow_add-place-2 : goal.overflow_add-place-2
overflow_add-place-2 c =
    let small = held_small c.args.self.now c.args.object c.args.slot c.requires c.law.ensures in
    omega (arith, small, c.pointer_count.ensures, c.weak_count.ensures)

pub get_field-requires : goal.get_field-requires
get_field-requires c = rw (c.pointer_count.ensures, c.weak_count.ensures) (held_field c.args.self.now c.args.object c.args.slot c.requires)

pub returns : goal.returns
returns c =
    let place : c.pointer_count.result + c.weak_count.result + c.args.slot
    ≡ length (pointers_at c.args.self.now c.args.object) + length (weaks_at c.args.self.now c.args.object) + c.args.slot =
    rw (c.pointer_count.ensures, c.weak_count.ensures) refl in
    held_read c.args.self.now c.args.object c.args.slot c.requires
    ∙ sym (ap (λ (n : ℕ). slice_get (fields_at c.args.self.now c.args.object) n) place) ∙ c.get_field.ensures
