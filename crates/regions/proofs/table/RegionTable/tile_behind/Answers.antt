use Rattle.regions.proofs.Common.{arith, ◌≡◌, ◌+◌, ◌*◌, refl, ap, ◌∙◌, size_of_shape}
use Rattle.regions.proofs.Tiles.Within.{tile_starts, target_within}
use Rattle.regions.proofs.Walks.WalkFrom.{behind_is}
use Rattle.regions.proofs.Walks.WalkMade.{shape_size_is}
use Rattle.regions.proofs.table.RegionTable.tile_behind.Goals as goal

pub overflow_mul-number : goal.overflow_mul-number
overflow_mul-number c =
    let b = behind_is _ _ _ _ _ _ c.self.invariant.table c.self.view_is c.requires.cut c.requires.within in
    rw c.number.ensures (omega (arith, b.shown.in_words, c.self.invariant.table.small))

pub overflow_add-number : goal.overflow_add-number
overflow_add-number c =
    let b = behind_is _ _ _ _ _ _ c.self.invariant.table c.self.view_is c.requires.cut c.requires.within in
    rw c.number.ensures (omega (arith, b.shown.in_words, c.self.invariant.table.small))

pub shape_at-shape-requires-clause-known : goal.shape_at-shape-requires-clause-known
shape_at-shape-requires-clause-known c =
    let b = behind_is _ _ _ _ _ _ c.self.invariant.table c.self.view_is c.requires.cut c.requires.within in
    rw (c.new-at.ensures, c.number.ensures)
    (tile_starts _ _ _ _ _ _ b.tile c.self.invariant.table c.self.invariant.written c.self.view_is b.stands)

pub shape_at-shape-requires-clause-target : goal.shape_at-shape-requires-clause-target
shape_at-shape-requires-clause-target c =
    let b = behind_is _ _ _ _ _ _ c.self.invariant.table c.self.view_is c.requires.cut c.requires.within in
    rw (c.new-at.ensures, c.number.ensures)
    (target_within _ _ _ _ _ b.tile _ c.self.invariant.table c.self.invariant.written c.self.view_is b.stands)

pub returns : goal.returns
returns c =
    let b = behind_is _ _ _ _ _ _ c.self.invariant.table c.self.view_is c.requires.cut c.requires.within in
    let at : c.new-at.result ≡ c.args.region * c.self.inside.words_per_region + c.args.offset =
    c.new-at.ensures ∙ rw c.number.ensures refl in
    let is = (rw at at c.shape_at-shape.ensures) ∙ b.shown.shape_is in
    let size = c.size-size.ensures ∙ ap size_of_shape is ∙ shape_size_is b.tile in
    record {
      tile = b.tile;
      tile_is = b.tile_is;
      at_is = at ∙ rw b.size_is refl;
      shape_is = is;
      size_is = size;
      positive = omega (arith, size, b.positive);
    }
