use Rattle.marking_tests.proofs.Samples.{link_keeps}
use Rattle.marking_tests.proofs.cycles.link.Goals as goal

pub returns-then-field-field_count : goal.returns-then-field-field_count
returns-then-field-field_count c = record {
  keeps = link_keeps c.args.table.now c.args.from c.args.field c.args.to c.law.ensures.positive
      c.requires.from c.requires.to _ c.set_field.ensures;
}
