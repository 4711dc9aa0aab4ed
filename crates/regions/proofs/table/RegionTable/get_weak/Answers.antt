use Rattle.std.proofs.Common.{Some, refl, sym, ap, ◌∙◌, arith}
use Rattle.regions.proofs.Words.Access.{weak_read}
use Rattle.regions.proofs.Tiles.Within.{word_within}
use Rattle.regions.proofs.table.RegionTable.get_weak.Goals as goal

pub pointers_in-requires-clause-within : goal.pointers_in-requires-clause-within
pointers_in-requires-clause-within c =
    word_within _ _ _ _ _ c.self.invariant.written c.self.view_is
    (weak_read _ _ _ _ _ _ c.self.invariant.table c.self.view_is c.requires).at

pub pointers_in-requires-clause-object : goal.pointers_in-requires-clause-object
pointers_in-requires-clause-object c = (weak_read _ _ _ _ _ _ c.self.invariant.table c.self.view_is c.requires).object

pub overflow_add-place : goal.overflow_add-place
overflow_add-place c =
    let r = weak_read _ _ _ _ _ _ c.self.invariant.table c.self.view_is c.requires in
    omega (arith, r.in_words, c.pointers_in.ensures, c.self.invariant.table.small)

pub get_field-requires : goal.get_field-requires
get_field-requires c =
    let r = weak_read _ _ _ _ _ _ c.self.invariant.table c.self.view_is c.requires in
    rw c.pointers_in.ensures (word_within _ _ _ _ _ c.self.invariant.written c.self.view_is r.in_object)

pub returns : goal.returns
returns c =
    let r = weak_read _ _ _ _ _ _ c.self.invariant.table c.self.view_is c.requires in
    r.value ∙ ap Some (sym (c.get_field.ensures ∙ rw c.pointers_in.ensures refl))
