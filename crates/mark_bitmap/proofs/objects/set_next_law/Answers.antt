use Rattle.mark_bitmap.proofs.ObjectLaws.{set_next_objects}
use Rattle.mark_bitmap.proofs.objects.set_next_law.Goals as goal

pub returns : goal.returns
returns c = λ t tops marks k z m known. set_next_objects t tops marks k z m known
