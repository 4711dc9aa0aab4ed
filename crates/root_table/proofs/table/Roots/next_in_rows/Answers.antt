use Rattle.std.proofs.Common.{◌⊎◌, ◌≤◌, ◌∙◌, get_or, ap, arith, inl, inr}
use Rattle.std.proofs.lemmas.Bool.{cases_lt}
use Rattle.root_table.specs.Roots.{RootTable, row_start}
use Rattle.root_table.proofs.Rows.{bound_within, past_read, past_unused}
use Rattle.root_table.proofs.Apart.{bounded_in, read_used}
use Rattle.root_table.proofs.table.Roots.next_in_rows.Goals as goal

pub loop-row-preserved-then-used-eq0 : goal.loop-row-preserved-then-used-eq0
loop-row-preserved-then-used-eq0 c =
    let t = c.args.self.now in
    let b = bounded_in _ _ _ _ t c.self.view_is c.self.invariant in
    let known : c.loop-row.row ≤ t.places.mutators = omega (
      arith,
      c.loop-row-test.true,
      c.mutators.ensures,
      ap (λ (u : RootTable). u.places.mutators) c.self.view_is,
    ) in
    past_unused t.places t.words c.self.inside.used c.args.from c.loop-row.row (get_or c.self.inside.used c.loop-row.row 0) b known
    (read_used c.self.inside.used c.loop-row.row (omega (arith, known, b.rows))) c.if-used-eq0.true c.loop-row.invariant

pub first_named-requires : goal.first_named-requires
first_named-requires c =
    let t = c.args.self.now in
    let b = bounded_in _ _ _ _ t c.self.view_is c.self.invariant in
    let known : c.loop-row.row ≤ t.places.mutators = omega (
      arith,
      c.loop-row-test.true,
      c.mutators.ensures,
      ap (λ (u : RootTable). u.places.mutators) c.self.view_is,
    ) in
    let start = c.start_of-start.ensures ∙ ap (λ (u : RootTable). row_start u.places c.loop-row.row) c.self.view_is in
    let bound = bound_within t.places t.words c.self.inside.used c.loop-row.row (get_or c.self.inside.used c.loop-row.row 0) b known
    (read_used c.self.inside.used c.loop-row.row (omega (arith, known, b.rows))) in
    omega (arith, bound, start)

pub loop-row-preserved : goal.loop-row-preserved
loop-row-preserved c =
    let t = c.args.self.now in
    let b = bounded_in _ _ _ _ t c.self.view_is c.self.invariant in
    let known : c.loop-row.row ≤ t.places.mutators = omega (
      arith,
      c.loop-row-test.true,
      c.mutators.ensures,
      ap (λ (u : RootTable). u.places.mutators) c.self.view_is,
    ) in
    let start = c.start_of-start.ensures ∙ ap (λ (u : RootTable). row_start u.places c.loop-row.row) c.self.view_is in
    let which : (c.max.result ≤ c.args.from) ⊎ (c.max.result ≤ row_start t.places c.loop-row.row) =
    elim (cases_lt c.args.from c.start_of-start.result) [
      | inl less ↦ inr (omega (arith, less, c.max.ensures, start))
      | inr more ↦ inl (omega (arith, more, c.max.ensures))
    ] in
    past_read t.places t.words c.self.inside.used c.args.from c.loop-row.row (get_or c.self.inside.used c.loop-row.row 0) c.max.result
    b known (read_used c.self.inside.used c.loop-row.row (omega (arith, known, b.rows))) which c.loop-row.invariant
    (λ place low high. c.in_default.ensures.lowest place low (omega (arith, high, start)))
