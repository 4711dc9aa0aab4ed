use Rattle.regions.proofs.Common.{◌≡◌, arith, length, sym, ap, ◌∙◌, Table, sizes_in}
use Rattle.regions.proofs.Tiles.Making.{length-regions_of}
use Rattle.regions.proofs.table.RegionTable.region_count.Goals as goal

pub returns : goal.returns
returns c =
    let count : length c.args.self.now.regions ≡ length c.self.inside.rows.items =
    ap (λ (u : Table). length u.regions) (sym c.self.view_is)
    ∙ length-regions_of (sizes_in c.self.inside.words.all) c.self.inside.words_per_region c.self.inside.rows.items
    c.self.inside.words.all in
    omega (arith, count)
