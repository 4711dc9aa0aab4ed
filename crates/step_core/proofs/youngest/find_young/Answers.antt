use Rattle.std.proofs.Common.{◌≡◌, ◌∙◌, ◌+◌, ◌∷◌, ◌++◌, [], ℕ, List, length, sym, ap, subst, arith}
use Rattle.mark_bitmap.specs.Live.{live_bound_of}
use Rattle.region_choice.specs.declared.LiveRow.{LiveRow}
use Rattle.step_core.specs.Pause.{IsYoungCandidate}
use Rattle.step_core.proofs.Pauses.Rows.{length-push}
use Rattle.step_core.proofs.Pauses.Young.{AreYoungBelow, young_ended, young_passed, young_written}
use Rattle.step_core.proofs.youngest.find_young.Goals as goal
use Rattle.step_core.proofs.youngest.find_young.Goals.{in-Some, in_default}

pub loop-number-preserved : goal.loop-number-preserved
loop-number-preserved c =
    let t = c.args.table.now in
    let m = c.args.marker.now in
    let k = c.loop-number.invariant in
    let few = k.few in
    let at : c.new.result ≡ c.loop-number.number = c.new.ensures in
    elim c.match-young_row.branch [
      | in-Some w ↦
          let found = w.in-Some.ensures in
          let p = w.push_reserved.ensures in
          let row : LiveRow = w.in-Some.row in
          let written : AreYoungBelow t m.tams m.bitmaps.previous m.running c.args.ages.now (c.loop-number.number + 1)
          (c.loop-number.rows.items ++ row ∷ []) =
          young_written t m.tams m.bitmaps.previous m.running c.args.ages.now c.loop-number.number c.loop-number.rows.items row k.young
          (found.region ∙ at) (found.bound ∙ ap (λ (j : ℕ). live_bound_of t m.tams.previous m.bitmaps.previous j) at)
          (subst (λ (j : ℕ). IsYoungCandidate t m.tams m.running c.args.ages.now j) at found.some) in
          rw w.rows-is (record {
            young = subst (λ (xs : List LiveRow). AreYoungBelow t m.tams m.bitmaps.previous m.running c.args.ages.now
                (c.loop-number.number + 1) xs) (sym p.items) written;
            room = p.capacity ∙ k.room;
            few = omega (arith, p.len, few);
            len = ap (λ (xs : List LiveRow). length xs) p.items ∙ length-push c.loop-number.rows.items row
                ∙ ap (λ (n : ℕ). n + 1) k.len ∙ sym p.len;
          })
      | in_default w ↦
          rw w.rows-is (record {
            young = young_passed t m.tams m.bitmaps.previous m.running c.args.ages.now c.loop-number.number c.loop-number.rows.items
                k.young (subst (λ (j : ℕ). IsYoungCandidate t m.tams m.running c.args.ages.now j → ⊥) at w.in_default.ensures.none);
            room = k.room;
            few = omega (arith, few);
            len = k.len;
          })
    ]

pub returns-clause-young : goal.returns-clause-young
returns-clause-young c =
    let t = c.args.table.now in
    let m = c.args.marker.now in
    let k = c.loop-number.invariant in
    let all : c.loop-number.number ≡ length t.regions =
    (let past = c.loop-number-test.false in let end = c.loop-number.auto.number-end in
    omega (arith, past, end, c.region_count-number-end.ensures)) in
    young_ended t m.tams m.bitmaps.previous m.running c.args.ages.now c.loop-number.rows.items
    (subst (λ (n : ℕ). AreYoungBelow t m.tams m.bitmaps.previous m.running c.args.ages.now n c.loop-number.rows.items) all k.young)
