use Rattle.regions.proofs.Common.{arith, refl, ◌∙◌, pointer_word, pointer_of}
use Rattle.regions.proofs.Cards.Entries.{field_sound}
use Rattle.regions.proofs.Words.FieldAccess.{field_read, field_written}
use Rattle.regions.proofs.Tiles.Within.{word_within}
use Rattle.regions.proofs.table.RegionTable.set_field.Goals as goal

pub set_field-requires : goal.set_field-requires
set_field-requires c =
    word_within _ _ _ _ _ c.self.invariant.written c.self.view_is
    (field_read _ _ _ _ _ _ c.self.invariant.table c.self.view_is c.requires).in_object

pub invariant_of-self : goal.invariant_of-self
invariant_of-self c =
    let w = field_written _ _ _ _ _ _ c.self.invariant.table c.self.view_is c.requires (pointer_word c.args.target) in
    field_sound _ _ _ _ _ _ _ _ _ c.self.invariant c.self.view_is _ c.args.object c.args.field
    (pointer_of (pointer_word c.args.target)) c.requires (omega (arith, c.set_field.ensures.written)) (rw c.set_field.ensures.word w)

pub returns : goal.returns
returns c =
    let w = field_written _ _ _ _ _ _ c.self.invariant.table c.self.view_is c.requires (pointer_word c.args.target) in
    rw c.set_field.ensures.word (w.table_is ∙ rw c.set_field.ensures.back refl)
