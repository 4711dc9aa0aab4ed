use Rattle.regions.proofs.Common.{arith, sym, ap, ◌∙◌, inl, inr, Row}
use Rattle.regions.proofs.Tiles.Making.{row_read, known, kind_is}
use Rattle.regions.proofs.Walks.WalkFrom.{walk_first, walk_free, walk_rests}
use Rattle.regions.proofs.Tiles.Within.{first_stands}
use Rattle.regions.proofs.table.RegionTable.run_words.Goals as goal

pub index-requires : goal.index-requires
index-requires c =
    let n = known _ _ _ _ _ c.self.view_is c.requires.known in
    omega (arith, n.in_rows, c.number.ensures)

pub overflow_mul-number : goal.overflow_mul-number
overflow_mul-number c =
    let n = known _ _ _ _ _ c.self.view_is c.requires.known in
    let read = row_read _ _ _ _ _ _ _ n c.number.ensures c.index.ensures in
    let is = kind_is _ _ _ _ _ n ∙ sym (ap (λ (row : Row). row.kind) read) ∙ c.in-First.is in
    let w = walk_first _ _ _ _ _ c.self.invariant.table c.self.view_is c.requires.known is in
    rw c.number-in-First.ensures (omega (arith, w.1, c.self.invariant.table.small))

pub size_at-requires : goal.size_at-requires
size_at-requires c =
    let n = known _ _ _ _ _ c.self.view_is c.requires.known in
    let read = row_read _ _ _ _ _ _ _ n c.number.ensures c.index.ensures in
    let is = kind_is _ _ _ _ _ n ∙ sym (ap (λ (row : Row). row.kind) read) ∙ c.in-First.is in
    let stands = first_stands _ _ _ _ _ _ c.self.invariant.table c.self.invariant.written c.self.view_is is in
    rw (c.new.ensures, c.number-in-First.ensures) stands

pub returns-in-First : goal.returns-in-First
returns-in-First c =
    let n = known _ _ _ _ _ c.self.view_is c.requires.known in
    let read = row_read _ _ _ _ _ _ _ n c.number.ensures c.index.ensures in
    let is = kind_is _ _ _ _ _ n ∙ sym (ap (λ (row : Row). row.kind) read) ∙ c.in-First.is in
    rw (c.size_at.ensures, c.new.ensures, c.number-in-First.ensures)
    (walk_first _ _ _ _ _ c.self.invariant.table c.self.view_is c.requires.known is).0

pub returns-in-Free : goal.returns-in-Free
returns-in-Free c =
    let n = known _ _ _ _ _ c.self.view_is c.requires.known in
    let read = row_read _ _ _ _ _ _ _ n c.number.ensures c.index.ensures in
    let is = kind_is _ _ _ _ _ n ∙ sym (ap (λ (row : Row). row.kind) read) in
    elim c.in-Free.is [
      | inl f ↦ walk_free _ _ c.requires.known (is ∙ f)
      | inr (inl f) ↦ walk_rests _ _ c.requires.known (is ∙ f)
      | inr (inr f) ↦ absurd (c.requires.other (is ∙ f))
    ]
