use Rattle.std.proofs.Common.{◌∙◌, arith, refl, sym}
use Rattle.regions.proofs.Words.FieldAccess.{header_fields}
use Rattle.regions.proofs.Words.ObjectWords.{object_there}
use Rattle.regions.proofs.Words.Values.{has_value, value_read, value_written}
use Rattle.regions.proofs.Cards.Entries.{value_sound}
use Rattle.regions.proofs.Tiles.Within.{word_within}
use Rattle.regions.proofs.table.RegionTable.set_value_behind.Goals as goal

pub set_value_behind-requires-clause-fields : goal.set_value_behind-requires-clause-fields
set_value_behind-requires-clause-fields c =
    let p = has_value _ c.args.object c.args.field c.requires.field in
    let o = object_there _ _ _ _ _ c.self.invariant.table c.self.view_is (rw p.object_is refl) in
    c.requires.fields ∙ sym (header_fields _ _ _ _ o.1)

pub set_value_behind-requires-clause-within : goal.set_value_behind-requires-clause-within
set_value_behind-requires-clause-within c =
    word_within _ _ _ _ _ c.self.invariant.written c.self.view_is
    (value_read _ _ _ _ _ _ c.self.invariant.table c.self.view_is c.requires.field).in_object

pub invariant_of-self : goal.invariant_of-self
invariant_of-self c =
    value_sound _ _ _ _ _ _ _ _ _ c.self.invariant c.self.view_is _ c.args.object c.args.field c.args.value c.requires.field
    (omega (arith, c.set_value_behind.ensures.written))
    (rw c.set_value_behind.ensures.all
    (value_written _ _ _ _ _ _ c.args.value c.self.invariant.table c.self.view_is c.requires.field))

pub returns : goal.returns
returns c =
    rw c.set_value_behind.ensures.all
    (value_written _ _ _ _ _ _ c.args.value c.self.invariant.table c.self.view_is c.requires.field).table_is
