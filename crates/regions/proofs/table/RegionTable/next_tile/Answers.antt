use Rattle.regions.proofs.Common.{◌≡◌, ◌∙◌, sym, ap, subst, arith, ◌+◌, ◌/◌, inl, inr, tile_size, top_of, kind_of, tile_shape}
use Rattle.regions.proofs.Common.{size_of_shape, IsNextTile}
use Rattle.regions.specs.declared.row.Kind.TheVariants as kinds
use Rattle.regions.proofs.Walks.WalkFrom.{tile_region}
use Rattle.regions.proofs.Walks.WalkMade.{shape_size_is}
use Rattle.regions.proofs.Tiles.Steps.{next_is, last_is, last_else, tile_there}
use Rattle.regions.proofs.table.RegionTable.next_tile.Goals as goal

pub overflow_add-next : goal.overflow_add-next
overflow_add-next c =
    let (u, e) = tile_there c.args.self.now c.args.at c.requires in
    let shape : c.tile.result ≡ tile_shape u = rw e at c.tile.ensures in
    let size : c.size.result ≡ tile_size u = c.size.ensures ∙ ap size_of_shape shape ∙ shape_size_is u in
    let within = c.law.ensures.within c.args.at u e in
    let small = c.law.ensures.in_all in
    let at = c.word.ensures in
    omega (arith, size, within, small, at)

pub kind-requires : goal.kind-requires
kind-requires c =
    let r : c.region_of-region.result ≡ c.args.at / c.args.self.now.words_per_region = cc in
    rw r (tile_region c.args.self.now c.args.at c.requires)

pub top-requires : goal.top-requires
top-requires c =
    let r : c.region_of-region.result ≡ c.args.at / c.args.self.now.words_per_region = cc in
    rw r (tile_region c.args.self.now c.args.at c.requires)

pub returns-then-next-word-clause-next : goal.returns-then-next-word-clause-next
returns-then-next-word-clause-next c =
    let (u, e) = tile_there c.args.self.now c.args.at c.requires in
    let shape : c.tile.result ≡ tile_shape u = rw e at c.tile.ensures in
    let size : c.size.result ≡ tile_size u = c.size.ensures ∙ ap size_of_shape shape ∙ shape_size_is u in
    let r : c.region_of-region.result ≡ c.args.at / c.args.self.now.words_per_region = cc in
    let o : kind_of c.args.self.now (c.args.at / c.args.self.now.words_per_region) ≡ kinds.Ordinary =
    ap (kind_of c.args.self.now) (sym r) ∙ sym c.kind.ensures ∙ c.in-Ordinary.is in
    let next : c.word.result + c.size.result ≡ c.args.at + tile_size u = (let at = c.word.ensures in omega (arith, size, at)) in
    let top : c.word-in-Ordinary.result ≡ top_of c.args.self.now (c.args.at / c.args.self.now.words_per_region) =
    c.word-in-Ordinary.ensures ∙ c.top.ensures ∙ ap (top_of c.args.self.now) r in
    subst (IsNextTile c.args.self.now c.args.at) (sym (c.new.ensures ∙ next))
    (next_is c.args.self.now c.law.ensures c.args.at u e o (let h = c.if-next-word.true in omega (arith, next, top, h)))

pub returns-else-next-word-clause-last : goal.returns-else-next-word-clause-last
returns-else-next-word-clause-last c =
    let (u, e) = tile_there c.args.self.now c.args.at c.requires in
    let shape : c.tile.result ≡ tile_shape u = rw e at c.tile.ensures in
    let size : c.size.result ≡ tile_size u = c.size.ensures ∙ ap size_of_shape shape ∙ shape_size_is u in
    let r : c.region_of-region.result ≡ c.args.at / c.args.self.now.words_per_region = cc in
    let o : kind_of c.args.self.now (c.args.at / c.args.self.now.words_per_region) ≡ kinds.Ordinary =
    ap (kind_of c.args.self.now) (sym r) ∙ sym c.kind.ensures ∙ c.in-Ordinary.is in
    let next : c.word.result + c.size.result ≡ c.args.at + tile_size u = (let at = c.word.ensures in omega (arith, size, at)) in
    let top : c.word-in-Ordinary.result ≡ top_of c.args.self.now (c.args.at / c.args.self.now.words_per_region) =
    c.word-in-Ordinary.ensures ∙ c.top.ensures ∙ ap (top_of c.args.self.now) r in
    last_is c.args.self.now c.law.ensures c.args.at u e o (let h = c.if-next-word.false in omega (arith, next, top, h))

pub returns-in-Free : goal.returns-in-Free
returns-in-Free c =
    let (u, e) = tile_there c.args.self.now c.args.at c.requires in
    let r : c.region_of-region.result ≡ c.args.at / c.args.self.now.words_per_region = cc in
    let k : c.kind.result ≡ kind_of c.args.self.now (c.args.at / c.args.self.now.words_per_region) =
    c.kind.ensures ∙ ap (kind_of c.args.self.now) r in
    record {
      next = tt;
      last = last_else c.args.self.now c.law.ensures c.args.at u e (λ o. let h = k ∙ o in elim c.in-Free.is [
        | inl f ↦ (let n : kinds.Free ≡ kinds.Ordinary = sym f ∙ h in cc)
        | inr f ↦ elim f [
          | inl g ↦ (let n : kinds.First ≡ kinds.Ordinary = sym g ∙ h in cc)
          | inr g ↦ (let n : kinds.Rest ≡ kinds.Ordinary = sym g ∙ h in cc)
        ]
      ]);
    }
