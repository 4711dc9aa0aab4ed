use Rattle.mark_bitmap.proofs.ObjectLaws.{set_objects}
use Rattle.mark_bitmap.proofs.objects.set_law.Goals as goal

pub returns : goal.returns
returns c = λ t tops marks a s m o h. set_objects t tops marks a s m o h
