use Rattle.std.proofs.Common.{refl}
use Rattle.step_core.proofs.Cores.Following.{unreached_of}
use Rattle.step_core.proofs.Cores.Snapshots.{keeps_touched}
use Rattle.step_core.proofs.Cores.Acted.{acted_by, acted_new, acted_plain}
use Rattle.step_core.proofs.Mutating.Made.{made_as}
use Rattle.step_core.proofs.heap.Core.act.Goals as goal

pub returns-in-New-clause-takes : goal.returns-in-New-clause-takes
returns-in-New-clause-takes c = acted_new c.args.op _ _ _ _ _ _ c.in-New.is c.weaks_of.ensures c.new_object.ensures

pub returns-in-New-clause-made : goal.returns-in-New-clause-made
returns-in-New-clause-made c = made_as _ _ _ _ c.weaks_of.result _ _ c.in-New.is c.weaks_of.ensures c.new_object.ensures.made

pub returns-in-Get-clause-takes : goal.returns-in-Get-clause-takes
returns-in-Get-clause-takes c = acted_plain c.args.op _ _ _ _ c.in-Get.is refl (λ g f. f) c.get.ensures

pub returns-in-Put-clause-takes : goal.returns-in-Put-clause-takes
returns-in-Put-clause-takes c = acted_plain c.args.op _ _ _ _ c.in-Put.is refl (λ g f. f) c.put.ensures

pub returns-in-Read-clause-takes : goal.returns-in-Read-clause-takes
returns-in-Read-clause-takes c = acted_plain c.args.op _ _ _ _ c.in-Read.is refl (λ g f. f) c.read.ensures

pub returns-in-Write-clause-takes : goal.returns-in-Write-clause-takes
returns-in-Write-clause-takes c = acted_plain c.args.op _ _ _ _ c.in-Write.is refl (λ g f. f) c.write.ensures

pub returns-in-Move-clause-takes : goal.returns-in-Move-clause-takes
returns-in-Move-clause-takes c = acted_plain c.args.op _ _ _ _ c.in-Move.is refl (λ g f. f) c.move_register.ensures

pub returns-in-Drop-clause-takes : goal.returns-in-Drop-clause-takes
returns-in-Drop-clause-takes c = acted_plain c.args.op _ _ _ _ c.in-Drop.is refl (λ g f. f) c.drop_register.ensures

pub returns-in-Load-clause-takes : goal.returns-in-Load-clause-takes
returns-in-Load-clause-takes c = acted_plain c.args.op _ _ _ _ c.in-Load.is refl (λ g f. f) c.load.ensures

pub returns-in-Save-clause-takes : goal.returns-in-Save-clause-takes
returns-in-Save-clause-takes c = acted_plain c.args.op _ _ _ _ c.in-Save.is refl (λ g f. f) c.save.ensures

pub returns-in-Shape-clause-takes : goal.returns-in-Shape-clause-takes
returns-in-Shape-clause-takes c = acted_plain c.args.op _ _ _ _ c.in-Shape.is refl (λ g f. f) c.shape.ensures

pub returns-in-GetWeak-clause-takes : goal.returns-in-GetWeak-clause-takes
returns-in-GetWeak-clause-takes c = acted_by c.args.op _ _ _ _ c.in-GetWeak.is (λ g f. f) c.get_weak.ensures.acts
    (λ s st. keeps_touched s.snapshot _ _ _ _ _ _ _ c.get_weak.ensures.after
    (λ x is f. c.get_weak.ensures.keeps x s.graph st.shows (unreached_of s x _ st is) f) st.keeps) c.get_weak.ensures.after
    c.get_weak.ensures.leaves

pub returns-in-PutWeak-clause-takes : goal.returns-in-PutWeak-clause-takes
returns-in-PutWeak-clause-takes c = acted_plain c.args.op _ _ _ _ c.in-PutWeak.is refl (λ g f. f) c.put_weak.ensures

pub returns-in-Weaks-clause-takes : goal.returns-in-Weaks-clause-takes
returns-in-Weaks-clause-takes c = acted_plain c.args.op _ _ _ _ c.in-Weaks.is refl (λ g f. f) c.weaks.ensures

pub returns-in-Scope-clause-takes : goal.returns-in-Scope-clause-takes
returns-in-Scope-clause-takes c = acted_plain c.args.op _ _ _ _ c.in-Scope.is refl (λ g f. f) c.scope.ensures
