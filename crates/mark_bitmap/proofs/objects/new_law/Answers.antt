use Rattle.mark_bitmap.proofs.ObjectLaws.{new_objects}
use Rattle.mark_bitmap.proofs.objects.new_law.Goals as goal

pub returns : goal.returns
returns c = λ count words. new_objects count words
