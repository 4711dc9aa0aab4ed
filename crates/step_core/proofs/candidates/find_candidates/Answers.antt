use Rattle.std.proofs.Common.{◌≤◌, ◌+◌, ◌-◌, ◌≡◌, ◌∙◌, ◌∷◌, ◌++◌, ℕ, [], subst, sym, ap, refl, arith, List, length}
use Rattle.region_choice.specs.declared.LiveRow.{LiveRow}
use Rattle.step_core.specs.Pause.{AreCandidatesWithin}
use Rattle.step_core.proofs.Pauses.Rows.{length-push}
use Rattle.step_core.proofs.Pauses.Others.{within_none, within_gap, within_written, beyond_limit}
use Rattle.step_core.proofs.candidates.find_candidates.Goals as goal

pub loop-row-init : goal.loop-row-init
loop-row-init c = record {
  candidates = subst (λ (xs : List LiveRow). AreCandidatesWithin c.args.table.now c.args.marker.now.tams c.args.marker.now.bitmaps.previous
      c.args.marker.now.running c.args.limit 0 xs) (sym c.clear.ensures.items)
      (within_none c.args.table.now c.args.marker.now.tams c.args.marker.now.bitmaps.previous c.args.marker.now.running c.args.limit);
  known = omega arith;
  room = c.clear.ensures.capacity;
  few = omega (arith, c.clear.ensures.len);
  len = ap (λ (xs : List LiveRow). length xs) c.clear.ensures.items ∙ sym c.clear.ensures.len;
}

pub next_candidate-requires-clause-start : goal.next_candidate-requires-clause-start
next_candidate-requires-clause-start c = c.loop-row.invariant.known

pub loop-row-preserved : goal.loop-row-preserved
loop-row-preserved c =
    let row : LiveRow = c.in-Some.row in
    let found = c.in-Some.ensures in
    let p = c.push_reserved.ensures in
    let k = c.loop-row.invariant in
    let at = c.number-from.ensures in
    let gap = within_gap c.args.table.now c.args.marker.now.tams c.args.marker.now.bitmaps.previous c.args.marker.now.running c.args.limit
    c.loop-row.from (row.region - c.loop-row.from) row.region c.loop-row.rows.items (omega (arith, found.from)) (omega (arith, found.known))
    (λ j low high. beyond_limit c.args.table.now c.args.marker.now.tams c.args.marker.now.bitmaps.previous c.args.marker.now.running
    c.args.limit c.words_per_region.result c.min-most.result j c.min-most.ensures c.words_per_region.ensures (found.lowest j low high))
    k.candidates in
    let low : row.live_bound ≤ c.args.limit = omega (arith, found.within, c.min-most.ensures) in
    let written = within_written c.args.table.now c.args.marker.now.tams c.args.marker.now.bitmaps.previous c.args.marker.now.running
    c.args.limit row.region c.loop-row.rows.items row gap found.known refl found.bound low found.some in
    let next : row.region + 1 ≡ c.number-from.result + 1 = omega (arith, at) in
    record {
      candidates = subst (λ (xs : List LiveRow). AreCandidatesWithin c.args.table.now c.args.marker.now.tams
          c.args.marker.now.bitmaps.previous c.args.marker.now.running c.args.limit (c.number-from.result + 1) xs) (sym p.items)
          (subst (λ (n : ℕ). AreCandidatesWithin c.args.table.now c.args.marker.now.tams c.args.marker.now.bitmaps.previous
          c.args.marker.now.running c.args.limit n (c.loop-row.rows.items ++ row ∷ [])) next written);
      known = omega (arith, found.known, at);
      room = p.capacity ∙ k.room;
      few = (let few = k.few in omega (arith, p.len, few, found.from, at));
      len = ap (λ (xs : List LiveRow). length xs) p.items ∙ length-push c.loop-row.rows.items row ∙ ap (λ (n : ℕ). n + 1) k.len
          ∙ sym p.len;
    }

pub returns-clause-candidates : goal.returns-clause-candidates
returns-clause-candidates c =
    let k = c.loop-row.invariant in
    let known = k.known in
    within_gap c.args.table.now c.args.marker.now.tams c.args.marker.now.bitmaps.previous c.args.marker.now.running c.args.limit
    c.loop-row.from (length c.args.table.now.regions - c.loop-row.from) (length c.args.table.now.regions) c.loop-row.rows.items
    (omega (arith, known)) (omega arith)
    (λ j low high. beyond_limit c.args.table.now c.args.marker.now.tams c.args.marker.now.bitmaps.previous c.args.marker.now.running
    c.args.limit c.words_per_region.result c.min-most.result j c.min-most.ensures c.words_per_region.ensures
    (c.in_default.ensures.none j low high)) k.candidates

pub returns-clause-few : goal.returns-clause-few
returns-clause-few c =
    let few = c.loop-row.invariant.few in
    let len = c.loop-row.invariant.len in
    let known = c.loop-row.invariant.known in
    omega arith
