use Rattle.std.proofs.Common.{◌≡◌, ◌∙◌, ◌+◌, ◌*◌, ◌≤◌, ℕ, Bool, List, length, take, sym, ap, subst, arith, inl, inr, count_by}
use Rattle.std.proofs.lemmas.List.{take_all}
use Rattle.regions.specs.Table.{is_free}
use Rattle.region_choice.specs.declared.LiveRow.{LiveRow}
use Rattle.region_choice.specs.Choice.{copy_limit}
use Rattle.step_core.specs.Pause.{IsCompacted}
use Rattle.step_core.proofs.Pauses.Highest.{HasDescended, IsNext, at_top, one_further, stopped, ended}
use Rattle.step_core.proofs.Pauses.Rows.{length-push}
use Rattle.step_core.proofs.highest.choose_highest.Goals as goal
use Rattle.step_core.proofs.highest.choose_highest.Goals.{in-Some+then-len-from, then-len-from-via-then-len-from}
use Rattle.step_core.proofs.highest.choose_highest.Goals.{then-len-from-via-else-len-from+then-limit-sum, in_default}

pub loop-next-init : goal.loop-next-init
loop-next-init c = record {
  descended = rw (c.clear.ensures.items, c.region_count-number.ensures, c.free_count-free.ensures)
      (at_top c.args.table.now c.args.marker.now.tams.previous c.args.marker.now.bitmaps.previous c.limit_of-limit.result);
  known = omega (arith, c.region_count-number.ensures);
  room = c.clear.ensures.capacity;
  few = omega (arith, c.clear.ensures.len, c.region_count-number.ensures);
  len = ap (λ (xs : List LiveRow). length xs) c.clear.ensures.items ∙ sym c.clear.ensures.len;
}

pub loop-next-preserved : goal.loop-next-preserved
loop-next-preserved c =
    let k = c.loop-next.invariant in
    let found = c.in-Some.ensures in
    let p = c.push_reserved.ensures in
    let row : LiveRow = record { region = c.in-Some.next.region; live_bound = c.live_bound-live_bound.result } in
    let next : IsNext c.args.table.now c.args.marker.now.tams.previous c.args.marker.now.bitmaps.previous c.limit_of-limit.result
    c.loop-next.number c.in-Some.next.free_below row.region =
    record { below = found.below; ordinary = found.ordinary; free_is = found.free; highest = found.highest } in
    let room : 2 * length c.loop-next.rows.items + 1 ≤ c.in-Some.next.free_below =
    (let few = c.if-len-from.false in omega (arith, few, c.len.ensures, c.from-in-Some.ensures, k.len)) in
    let within : c.loop-next.sum + row.live_bound ≤ c.limit_of-limit.result =
    (let fits = c.if-limit-sum.false in
    let most : c.loop-next.sum ≤ c.limit_of-limit.result = (let d = k.descended.down.within in omega (arith, d, k.descended.sum_is)) in
    omega (arith, fits, most, c.from-live.ensures)) in
    record {
      descended = rw (p.items, c.number-number.ensures, c.from-live.ensures)
          (one_further c.args.table.now c.args.marker.now.tams.previous c.args.marker.now.bitmaps.previous c.limit_of-limit.result
          c.loop-next.number c.loop-next.free_below c.loop-next.sum c.in-Some.next.free_below c.loop-next.rows.items row k.descended next
          c.live_bound-live_bound.ensures room within);
      known = (let most = k.known in omega (arith, most, found.below, c.number-number.ensures));
      room = p.capacity ∙ k.room;
      few = (let few = k.few in omega (arith, few, p.len, found.below, c.number-number.ensures));
      len = ap (λ (xs : List LiveRow). length xs) p.items ∙ length-push c.loop-next.rows.items row ∙ ap (λ (n : ℕ). n + 1) k.len
          ∙ sym p.len;
    }

pub returns-clause-chosen : goal.returns-clause-chosen
returns-clause-chosen c =
    let k = c.loop-next.invariant in
    let t = c.args.table.now in
    let m = c.args.marker.now in
    let limit : c.limit_of-limit.result ≡ copy_limit t.words_per_region c.args.budget (count_by is_free t.regions) =
    c.limit_of-limit.ensures ∙ ap (λ (w : ℕ). copy_limit w c.from.result c.free_count-free.result) c.words_per_region.ensures
    ∙ ap (λ (b : ℕ). copy_limit t.words_per_region b c.free_count-free.result) c.from.ensures
    ∙ ap (λ (f : ℕ). copy_limit t.words_per_region c.args.budget f) c.free_count-free.ensures in
    let down : HasDescended t m.tams.previous m.bitmaps.previous
    (copy_limit t.words_per_region c.args.budget (count_by is_free t.regions)) c.loop-next.number c.loop-next.free_below c.loop-next.sum
    c.loop-next.rows.items =
    subst (λ (l : ℕ). HasDescended t m.tams.previous m.bitmaps.previous l c.loop-next.number c.loop-next.free_below c.loop-next.sum
    c.loop-next.rows.items) limit k.descended in
    let whole : take c.len-2.result c.loop-next.rows.items ≡ c.loop-next.rows.items =
    take_all c.len-2.result c.loop-next.rows.items (omega (arith, c.len-2.ensures, k.len)) in
    subst (λ (rows : List LiveRow). IsCompacted t m.tams m.bitmaps.previous m.running c.args.budget rows) (sym whole)
    (subst (λ (b : Bool). IsCompacted t m.tams m.bitmaps.previous b c.args.budget c.loop-next.rows.items) (sym c.if-marker.false)
    (elim c.match-highest_below.branch [
      | in-Some+then-len-from w ↦
          let found = w.in-Some.ensures in
          stopped t m.tams m.bitmaps.previous c.args.budget c.loop-next.number c.loop-next.free_below c.loop-next.sum
          w.in-Some.next.free_below c.loop-next.rows.items w.in-Some.next.region w.live_bound-live_bound.result down
          (record { below = found.below; ordinary = found.ordinary; free_is = found.free; highest = found.highest })
          w.live_bound-live_bound.ensures
          (elim w.then-len-from.branch [
            | then-len-from-via-then-len-from v ↦ inl (let few = v.if-len-from.true in
                omega (arith, few, w.len.ensures, w.from-in-Some.ensures, k.len))
            | then-len-from-via-else-len-from+then-limit-sum v ↦ inr (let many = v.if-limit-sum.true in
                omega (arith, many, limit, w.from-live.ensures))
          ])
      | in_default w ↦
          ended t m.tams m.bitmaps.previous c.args.budget c.loop-next.number c.loop-next.free_below c.loop-next.sum c.loop-next.rows.items
          down w.in_default.ensures.none
    ]))
