use Rattle.std.proofs.Common.{◌∙◌, ℕ, length, ap, refl}
use Rattle.std.specs.Prelude.{◌&&◌, nat_le}
use Rattle.heap_life.specs.RegionTexts.{region_text}
use Rattle.heap_life.specs.Telling.{heap_text}
use Rattle.heap_life.proofs.Tellings.{moment_told}
use Rattle.heap_life.proofs.moment_text.Teller.tell.Goals as goal

pub returns : goal.returns
returns c =
    let x = c.args.self.now in
    let core = c.args.core.now in
    let tiles = c.tells_on-tiles.result in
    let is = c.tells_on-tiles.ensures ∙ ap (λ (n : ℕ). x.tiles && nat_le n x.most) c.len.ensures in
    record {
      told = λ t has. moment_told (heap_text core c.args.moment.now) (λ flag. region_text flag core) (length core.table.regions) x.most
          t.text t.last t.tiles x.text c.put_heap.new.text c.put_end.new.text c.tell_regions.new.text x.last.items
          c.tell_regions.new.last.items x.tiles tiles has c.put_heap.ensures is c.put_end.ensures c.tell_regions.ensures.told;
      limit = refl;
      size = c.tell_regions.ensures.size;
    }
