use Rattle.std.proofs.Common.{◌≡◌, true}
use Rattle.mark_bitmap.specs.Tops.{below_previous}
use Rattle.mark_bitmap.proofs.ObjectLaws.{within}
use Rattle.marker.proofs.marker.Marker.keeps.Goals as goal

pub get-requires : goal.get-requires
get-requires c =
    let below : below_previous c.args.table.now c.args.self.now.tams c.args.at ≡ true = cc in
    within _ _ _ _ c.law.ensures.positive c.requires below
