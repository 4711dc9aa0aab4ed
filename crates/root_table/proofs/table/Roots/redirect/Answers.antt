use Rattle.std.proofs.Common.{◌≤◌, ◌+◌, ◌∙◌, ap, ap₂, arith, get_or, length, ℕ, List, Option}
use Rattle.heap_model.specs.Graph.{RootCounts}
use Rattle.root_table.specs.Roots.{RootTable, row_start, AreRedirectedBetween}
use Rattle.root_table.proofs.Rows.{all_rows, bound_within}
use Rattle.root_table.proofs.Apart.{bounded_in, read_used}
use Rattle.root_table.proofs.Redirected.{all_redirected, none_redirected, row_redirected, unused_redirected}
use Rattle.root_table.proofs.table.Roots.redirect.Goals as goal

pub loop-row-preserved-then-used-eq0 : goal.loop-row-preserved-then-used-eq0
loop-row-preserved-then-used-eq0 c =
    let t = c.loop-row.self in
    let used = c.self-in-loop-row.inside.used in
    let b = bounded_in _ _ _ _ t c.self-in-loop-row.view_is c.self-in-loop-row.invariant in
    let same = ap (λ (p : RootCounts). p.mutators) c.loop-row.invariant.places in
    let mutators = ap (λ (u : RootTable). u.places.mutators) c.self.view_is in
    let known : c.loop-row.row ≤ t.places.mutators = omega (arith, c.loop-row-test.true, c.mutators.ensures, mutators, same) in
    let read = read_used used c.loop-row.row (omega (arith, known, b.rows)) in
    let at = ap (λ (p : RootCounts). row_start p c.loop-row.row) c.loop-row.invariant.places in
    let words : AreRedirectedBetween c.args.from c.args.to 0 (row_start t.places c.loop-row.row) c.args.self.now.words t.words =
    rw at c.loop-row.invariant.words in
    record {
      words = rw (← c.loop-row.invariant.places) (unused_redirected t.places used c.args.from c.args.to c.loop-row.row
          (get_or used c.loop-row.row 0) c.args.self.now.words t.words b known read c.if-used-eq0.true words);
      places = c.loop-row.invariant.places;
    }

pub redirect_among-requires-clause-within : goal.redirect_among-requires-clause-within
redirect_among-requires-clause-within c =
    let t = c.loop-row.self in
    let used = c.self-in-loop-row.inside.used in
    let b = bounded_in _ _ _ _ t c.self-in-loop-row.view_is c.self-in-loop-row.invariant in
    let same = ap (λ (p : RootCounts). p.mutators) c.loop-row.invariant.places in
    let mutators = ap (λ (u : RootTable). u.places.mutators) c.self.view_is in
    let known : c.loop-row.row ≤ t.places.mutators = omega (arith, c.loop-row-test.true, c.mutators.ensures, mutators, same) in
    let bound = bound_within t.places t.words used c.loop-row.row (get_or used c.loop-row.row 0) b known
    (read_used used c.loop-row.row (omega (arith, known, b.rows))) in
    let start = c.start_of-start.ensures ∙ ap (λ (u : RootTable). row_start u.places c.loop-row.row) c.self-in-loop-row.view_is in
    omega (arith, bound, start)

pub loop-row-preserved : goal.loop-row-preserved
loop-row-preserved c =
    let t = c.loop-row.self in
    let used = c.self-in-loop-row.inside.used in
    let x = get_or used c.loop-row.row 0 in
    let b = bounded_in _ _ _ _ t c.self-in-loop-row.view_is c.self-in-loop-row.invariant in
    let same = ap (λ (p : RootCounts). p.mutators) c.loop-row.invariant.places in
    let mutators = ap (λ (u : RootTable). u.places.mutators) c.self.view_is in
    let known : c.loop-row.row ≤ t.places.mutators = omega (arith, c.loop-row-test.true, c.mutators.ensures, mutators, same) in
    let read = read_used used c.loop-row.row (omega (arith, known, b.rows)) in
    let start = c.start_of-start.ensures ∙ ap (λ (u : RootTable). row_start u.places c.loop-row.row) c.self-in-loop-row.view_is in
    let at = ap (λ (p : RootCounts). row_start p c.loop-row.row) c.loop-row.invariant.places in
    let words : AreRedirectedBetween c.args.from c.args.to 0 (row_start t.places c.loop-row.row) c.args.self.now.words t.words =
    rw at c.loop-row.invariant.words in
    let more : AreRedirectedBetween c.args.from c.args.to (row_start t.places c.loop-row.row) (row_start t.places c.loop-row.row + x)
    t.words c.redirect_among.new.self.words =
    rw (← start) c.redirect_among.ensures.words in
    record {
      words = rw (← c.loop-row.invariant.places) (row_redirected t.places used c.args.from c.args.to c.loop-row.row x
          c.args.self.now.words t.words c.redirect_among.new.self.words b known read words more);
      places = c.redirect_among.ensures.places ∙ c.loop-row.invariant.places;
    }

pub returns : goal.returns
returns c =
    let t = c.args.self.now in
    let b = bounded_in _ _ _ _ t c.self.view_is c.self.invariant in
    let mutators = ap (λ (u : RootTable). u.places.mutators) c.self.view_is in
    ap₂ (λ (p : RootCounts) (ws : List (Option ℕ)). let u : RootTable = record { places = p; words = ws } in u)
    c.loop-row.invariant.places
    (all_redirected t.places c.args.from c.args.to c.loop-row.row t.words c.loop-row.self.words c.loop-row.invariant.words
    (omega (arith, c.loop-row-test.false, c.loop-row.auto.row-end, c.mutators.ensures, mutators))
    (omega (arith, b.places, all_rows t.places)))
