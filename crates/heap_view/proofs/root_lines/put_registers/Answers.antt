use Rattle.std.proofs.Common.{List, suc}
use Rattle.root_table.proofs.Rows.{row_within}
use Rattle.step_core.specs.Stands.{root_counts_of}
use Rattle.std.proofs.Common.{ℕ, Option, length, ap, ◌∙◌, arith}
use Rattle.std.proofs.Common.{ap₂}
use Rattle.heap_model.specs.Graph.{RootCounts, register_place}
use Rattle.heap_view.proofs.root_lines.put_registers.Goals as goal

pub put_roots-requires-clause-order : goal.put_roots-requires-clause-order
put_roots-requires-clause-order c =
    let places = c.places-places.ensures.places ∙ c.roots.ensures.places in
    let first = c.register-first.ensures ∙ ap (λ (p : RootCounts). register_place p c.args.mutator 0) places in
    let end = c.register-end.ensures ∙ ap₂ (λ (p : RootCounts) (n : ℕ). register_place p c.args.mutator n) places
    (c.registers.ensures ∙ ap (λ (p : RootCounts). p.registers) places) in
    omega (arith, first, end)

pub put_roots-requires-clause-within : goal.put_roots-requires-clause-within
put_roots-requires-clause-within c =
    let places = c.places-places.ensures.places ∙ c.roots.ensures.places in
    let first = c.register-first.ensures ∙ ap (λ (p : RootCounts). register_place p c.args.mutator 0) places in
    let end = c.register-end.ensures ∙ ap₂ (λ (p : RootCounts) (n : ℕ). register_place p c.args.mutator n) places
    (c.registers.ensures ∙ ap (λ (p : RootCounts). p.registers) places) in
    let row = row_within (root_counts_of c.args.core.now.config) (suc c.args.mutator) c.requires in
    omega (arith, end, row, c.law_remembers.ensures.core.places, ap (λ (l : List (Option ℕ)). length l) c.roots-2.ensures.words)
