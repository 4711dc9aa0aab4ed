use Rattle.std.proofs.Common.{◌∙◌, ap, sym, List, ℕ, slice_get}
use Rattle.marking_tests.proofs.Samples.{objects_push}
use Rattle.marking_tests.proofs.pairs.build_maps.Goals as goal

pub loop-i-preserved : goal.loop-i-preserved
loop-i-preserved c =
    let p = c.loop-i.invariant in
    let k = c.in-Some.ensures.keeps in
    record {
      count = k.count ∙ p.count;
      words = k.size ∙ p.words;
      linked = k.linked p.linked;
      objects = objects_push c.loop-i.made.table c.add_pairs.new.table c.loop-i.made.objects.items c.push.new.self.items c.in-Some.at k
          c.in-Some.ensures.object c.in_ok-push.ensures.items p.objects;
    }

pub link_listed-requires : goal.link_listed-requires
link_listed-requires c = record {
  objects = λ i a e. c.loop-from.invariant.objects i a (ap (λ (l : List ℕ). slice_get l i) (sym c.deref.ensures.value) ∙ e);
}

pub loop-from-preserved : goal.loop-from-preserved
loop-from-preserved c =
    let p = c.loop-from.invariant in
    let k = c.link_listed.ensures.keeps in
    record {
      count = k.count ∙ p.count;
      words = k.size ∙ p.words;
      linked = k.linked p.linked;
      objects = λ i a e. k.stays a (p.objects i a e);
    }
