use Rattle.std.proofs.Common.{◌∙◌}
use Rattle.marking_tests.proofs.Samples.{keeps_trans, grown_stands, object_read}
use Rattle.marking_tests.proofs.cycles.add_new.Goals as goal

pub returns-in_default : goal.returns-in_default
returns-in_default c = record {
  stands = grown_stands c.args.made.now.table c.add.new.table c.args._marker.now c.requires.stands c.requires.linked
      c.requires.all_kept c.in_default.ensures.keeps;
}

pub link-requires-clause-to : goal.link-requires-clause-to
link-requires-clause-to c =
    let to = object_read c.args.made.now.table c.args.made.now.objects.items c.len-else-holder-len.result c.args.target
    c.index-to.result.now (c.len-else-holder-len.ensures ∙ c.args.made.now.objects.ok.0) c.if-target-len.false
    c.index-to.ensures c.requires.objects in
    c.in-Some.ensures.keeps.stays c.index-to.result.now to

pub link-requires-3-clause-from : goal.link-requires-3-clause-from
link-requires-3-clause-from c =
    let from = object_read c.args.made.now.table c.args.made.now.objects.items c.len.result c.args.holder c.index-from.result.now
    (c.len.ensures ∙ c.args.made.now.objects.ok.0) c.if-holder-len.false c.index-from.ensures c.requires.objects in
    let at = c.index-from.result.now in
    c.link-2.ensures.keeps.stays at (c.link.ensures.keeps.stays at (c.in-Some.ensures.keeps.stays at from))

pub returns : goal.returns
returns c =
    let early = keeps_trans c.args.made.now.table c.add.new.table c.link.new.table c.in-Some.ensures.keeps c.link.ensures.keeps in
    let late = keeps_trans c.link.new.table c.link-2.new.table c.link-3.new.table c.link-2.ensures.keeps c.link-3.ensures.keeps in
    record {
      stands = grown_stands c.args.made.now.table c.link-3.new.table c.args._marker.now c.requires.stands c.requires.linked
          c.requires.all_kept (keeps_trans c.args.made.now.table c.link.new.table c.link-3.new.table early late);
    }
