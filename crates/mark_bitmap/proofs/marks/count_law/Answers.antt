use Rattle.mark_bitmap.proofs.Listed.{marked_from, listed, length-marked_from}
use Rattle.mark_bitmap.proofs.marks.count_law.Goals as goal

pub returns : goal.returns
returns c = λ marks. (marked_from 0 marks, listed marks, length-marked_from marks 0)
