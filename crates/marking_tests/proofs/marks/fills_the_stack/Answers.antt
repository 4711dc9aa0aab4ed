use Rattle.regions.proofs.Common.{◌∙◌, ap, rules, false, length, List, Bool, length-replicate}
use Rattle.mark_bitmap.specs.Marks.{is_marked}
use Rattle.mark_bitmap.specs.Grey.{Scans, nothing_scanned}
use Rattle.mark_bitmap.proofs.ObjectLaws.{none_marked}
use Rattle.marking_tests.proofs.marks.fills_the_stack.Goals as goal

pub loop-at-init : goal.loop-at-init
unfolding nothing_scanned
loop-at-init g c = record {
  marked_flags = search rules;
  scanned_flags = ap (λ (s : Scans). length s.scanned) c.in_ok-grey.ensures.none ∙ length-replicate {A = Bool} 200 false;
  fingers =
      c.in_ok-grey.ensures.fingers c.in_ok-marks.marks
      (λ a. ap (λ (l : List Bool). is_marked l a) c.in_ok-marks.ensures ∙ none_marked 200 a);
}
