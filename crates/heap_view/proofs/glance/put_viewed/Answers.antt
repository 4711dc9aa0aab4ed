use Rattle.std.proofs.Common.{refl, subst, sym}
use Rattle.std.proofs.lemmas.Result.{IfOk-weaker}
use Rattle.heap_view.specs.Glances.{AreViewed, viewed_regions}
use Rattle.heap_view.specs.declared.glance.Viewed.{Viewed}
use Rattle.heap_view.proofs.glance.put_viewed.Goals as goal

pub returns-in-Regions : goal.returns-in-Regions
returns-in-Regions c =
    let lines = viewed_regions c.in-Regions.region c.in-Regions.summary c.args.core.now in
    (lines, subst (λ (v : Viewed). AreViewed c.args.types.now v c.args.core.now lines) (sym c.in-Regions.is) refl, c.put_regions.ensures)

pub returns-in-Object : goal.returns-in-Object
returns-in-Object c =
    let (lines, are, added) = c.put_object.ensures in
    (lines, subst (λ (v : Viewed). AreViewed c.args.types.now v c.args.core.now lines) (sym c.in-Object.is) are, added)

pub returns-in-Path : goal.returns-in-Path
returns-in-Path c =
    IfOk-weaker c.put_path.result _ _ (λ v told.
    let (lines, are, added) = told in
    (lines, subst (λ (v : Viewed). AreViewed c.args.types.now v c.args.core.now lines) (sym c.in-Path.is) are, added)) c.put_path.ensures
