use Rattle.regions.proofs.Common.{arith, ◌≡◌, sym, ap, ◌∙◌, inl, inr, Row, kind_of}
use Rattle.regions.specs.declared.row.Kind.TheVariants as kinds
use Rattle.regions.proofs.Tiles.Making.{row_read, known, kind_is}
use Rattle.regions.proofs.Walks.WalkMade.{walk_ordinary}
use Rattle.regions.proofs.table.RegionTable.tile_words.Goals as goal

pub index-row-requires : goal.index-row-requires
index-row-requires c =
    let n = known _ _ _ _ _ c.self.view_is c.requires in
    omega (arith, n.in_rows, c.number.ensures)

pub returns-in-Ordinary : goal.returns-in-Ordinary
returns-in-Ordinary c =
    let n = known _ _ _ _ _ c.self.view_is c.requires in
    let read = row_read _ _ _ _ _ _ _ n c.number.ensures c.index-row.ensures in
    let is : kind_of c.args.self.now c.args.region ≡ kinds.Ordinary =
    kind_is _ _ _ _ _ n ∙ sym (ap (λ (row : Row). row.kind) read) ∙ c.in-Ordinary.is in
    rw read (walk_ordinary _ _ _ _ _ c.self.invariant.table c.self.view_is c.requires is)

pub run_words-requires : goal.run_words-requires
run_words-requires c =
    let n = known _ _ _ _ _ c.self.view_is c.requires in
    let read = row_read _ _ _ _ _ _ _ n c.number.ensures c.index-row.ensures in
    let is : kind_of c.args.self.now c.args.region ≡ c.index-row.result.now.kind =
    kind_is _ _ _ _ _ n ∙ sym (ap (λ (row : Row). row.kind) read) in
    record {
      known = c.requires;
      other = λ o. let ordinary : c.index-row.result.now.kind ≡ kinds.Ordinary = sym is ∙ o in elim c.in-Free.is [
        | inl f ↦ cc
        | inr (inl f) ↦ cc
        | inr (inr f) ↦ cc
      ];
    }
