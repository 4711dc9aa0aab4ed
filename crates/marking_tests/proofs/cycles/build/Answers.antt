use Rattle.std.proofs.Common.{◌∙◌}
use Rattle.marking_tests.proofs.Samples.{free_linked, free_size, objects_push}
use Rattle.marking_tests.proofs.cycles.build.Goals as goal

pub loop-init : goal.loop-init
loop-init c =
    let size = free_size c.in-Ok.table _ _ c.in-Ok.ensures.made in
    record {
      count = size.0 ∙ c.sizes.ensures.regions;
      words = size.1 ∙ c.sizes.ensures.words;
      linked = free_linked c.in-Ok.table _ _ c.in-Ok.ensures.made;
    }

pub loop-i-preserved : goal.loop-i-preserved
loop-i-preserved c =
    let p = c.loop-i.invariant in
    let k = c.in-Some.ensures.keeps in
    record {
      count = k.count ∙ p.count;
      words = k.size ∙ p.words;
      linked = k.linked p.linked;
      objects = objects_push c.loop-i.table c.add.new.table c.loop-i.objects.items c.push.new.self.items c.in-Some.at k
          c.in-Some.ensures.object c.in_ok-push.ensures.items p.objects;
    }

pub loop-from-preserved : goal.loop-from-preserved
loop-from-preserved c =
    let p = c.loop-from.invariant in
    let k = c.link_listed.ensures.keeps in
    record {
      count = k.count ∙ p.count;
      words = k.size ∙ p.words;
      linked = k.linked p.linked;
      objects = λ i a e. k.stays a (p.objects i a e);
    }
