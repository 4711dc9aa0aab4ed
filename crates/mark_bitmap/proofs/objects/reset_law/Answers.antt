use Rattle.mark_bitmap.proofs.ObjectLaws.{reset_objects}
use Rattle.mark_bitmap.proofs.objects.reset_law.Goals as goal

pub returns : goal.returns
returns c = λ t tops marks k z m none. reset_objects t tops marks k z m none
