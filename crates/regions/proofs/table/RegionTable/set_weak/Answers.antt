use Rattle.regions.proofs.Common.{refl, ◌∙◌, arith, pointer_word, pointer_of}
use Rattle.regions.proofs.Cards.Entries.{weak_sound}
use Rattle.regions.proofs.Words.Access.{weak_read, weak_written}
use Rattle.regions.proofs.Tiles.Within.{word_within}
use Rattle.regions.proofs.table.RegionTable.set_weak.Goals as goal

pub pointers_in-requires-clause-within : goal.pointers_in-requires-clause-within
pointers_in-requires-clause-within c =
    word_within _ _ _ _ _ c.self.invariant.written c.self.view_is
    (weak_read _ _ _ _ _ _ c.self.invariant.table c.self.view_is c.requires).at

pub pointers_in-requires-clause-object : goal.pointers_in-requires-clause-object
pointers_in-requires-clause-object c = (weak_read _ _ _ _ _ _ c.self.invariant.table c.self.view_is c.requires).object

pub overflow_add-place : goal.overflow_add-place
overflow_add-place c =
    let r = weak_read _ _ _ _ _ _ c.self.invariant.table c.self.view_is c.requires in
    omega (arith, r.in_words, c.pointers_in.ensures, c.self.invariant.table.small)

pub set_field-requires : goal.set_field-requires
set_field-requires c =
    let r = weak_read _ _ _ _ _ _ c.self.invariant.table c.self.view_is c.requires in
    rw c.pointers_in.ensures (word_within _ _ _ _ _ c.self.invariant.written c.self.view_is r.in_object)

pub invariant_of-self : goal.invariant_of-self
invariant_of-self c =
    let w = weak_written _ _ _ _ _ _ (pointer_word c.args.target) c.self.invariant.table c.self.view_is c.requires in
    weak_sound _ _ _ _ _ _ _ _ _ c.self.invariant c.self.view_is _ c.args.object c.args.slot
    (pointer_of (pointer_word c.args.target)) c.requires (omega (arith, c.set_field.ensures.written))
    (rw (c.set_field.ensures.word, c.pointers_in.ensures) w)

pub returns : goal.returns
returns c =
    let w = weak_written _ _ _ _ _ _ (pointer_word c.args.target) c.self.invariant.table c.self.view_is c.requires in
    rw (c.set_field.ensures.word, c.pointers_in.ensures) (w.table_is ∙ rw c.set_field.ensures.back refl)
