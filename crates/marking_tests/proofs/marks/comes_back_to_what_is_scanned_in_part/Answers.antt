use Rattle.std.proofs.Common.{◌∙◌, ap, List, Bool}
use Rattle.mark_bitmap.specs.Marks.{is_marked}
use Rattle.mark_bitmap.proofs.ObjectLaws.{none_marked}
use Rattle.marking_tests.proofs.marks.comes_back_to_what_is_scanned_in_part.Goals as goal

pub mark-requires-clause-fingers : goal.mark-requires-clause-fingers
mark-requires-clause-fingers g c =
    c.in_ok-grey.ensures.fingers c.in_ok-marks.marks (λ a. ap (λ (l : List Bool). is_marked l a) c.in_ok-marks.ensures ∙ none_marked 200 a)
