use Rattle.std.proofs.Common.{◌≡◌, ◌≢◌, ◌∙◌, ℕ, refl, sym, ap, subst, arith, ◌<◌, ◌+◌, ◌*◌, ◌/◌, length, take, Some, false, set}
use Rattle.std.specs.Prelude.{◌||◌, ◌==◌, if◌then◌else◌}
use Rattle.std.proofs.lemmas.Option.{slice_get-get_or}
use Rattle.regions.specs.Table.{free_count, kind_of}
use Rattle.regions.specs.declared.row.Kind.TheVariants as kinds
use Rattle.regions.proofs.Words.Sizes.{EachForwardedIn-imp}
use Rattle.mark_bitmap.specs.Marks.{is_marked}
use Rattle.mark_bitmap.specs.Tops.{Tops, is_in_region}
use Rattle.region_choice.specs.declared.LiveRow.{LiveRow}
use Rattle.evacuation.specs.Evacuates.{is_chosen}
use Rattle.object_copy.proofs.Frees.{released_free}
use Rattle.evacuation.proofs.WholePause.ChosenReleased.{chosen_more, not_before, none_moved, step_released}
use Rattle.evacuation.proofs.WholePause.ChosenReleased.{step_cleared, step_marks, kind_by, chosen_at}
use Rattle.evacuation.proofs.release.release_chosen.Goals as goal

pub release_region-requires-clause-ordinary : goal.release_region-requires-clause-ordinary
release_region-requires-clause-ordinary c =
    let v = c.loop-row.invariant in
    let here = slice_get-get_or c.args.rows.now c.loop-row.row-index c.row-item.result (omega arith) ∙ ap Some (sym c.row-item.is) in
    let not = not_before c.args.rows.now c.loop-row.row-index c.row-item.result c.requires.distinct here in
    let o = c.requires.ordinary c.loop-row.row-index c.row-item.result c.loop-row-test.true in
    kind_by c.args.table.now c.loop-row.table c.row-item.result.region (v.table.others c.row-item.result.region not)
    ∙ subst (λ (r : _). kind_of c.args.table.now r.region ≡ kinds.Ordinary) (sym c.row-item.is) o

pub release_region-requires-clause-unmoved : goal.release_region-requires-clause-unmoved
release_region-requires-clause-unmoved c =
    let v = c.loop-row.invariant in
    let here = slice_get-get_or c.args.rows.now c.loop-row.row-index c.row-item.result (omega arith) ∙ ap Some (sym c.row-item.is) in
    let in' = chosen_at c.args.rows.now c.loop-row.row-index c.row-item.result here in
    EachForwardedIn-imp (λ to. is_chosen c.args.rows.now (to / c.args.table.now.words_per_region) ≡ false)
    (λ to. c.row-item.result.region ≢ to / c.loop-row.table.words_per_region) c.loop-row.table.regions
    (λ to o e. let f = ap (λ (n : ℕ). to / n) v.table.size in let g = ap (is_chosen c.args.rows.now) (e ∙ f) in absurd cc) v.unmoved

pub loop-row-preserved : goal.loop-row-preserved
loop-row-preserved c =
    let v = c.loop-row.invariant in
    let row = c.row-item.result in
    let here = slice_get-get_or c.args.rows.now c.loop-row.row-index c.row-item.result (omega arith) ∙ ap Some (sym c.row-item.is) in
    let more : (k : ℕ) → is_chosen (take (c.loop-row.row-index + 1) c.args.rows.now) k
    ≡ (is_chosen (take c.loop-row.row-index c.args.rows.now) k || (row.region == k))
    = λ k. chosen_more c.args.rows.now c.loop-row.row-index c.row-item.result k c.loop-row-test.true (sym c.row-item.is) in
    let z : 0 < c.loop-row.table.words_per_region = (let p = c.law.ensures.positive in let e = v.table.size in omega arith) in
    let known' = c.requires.known c.loop-row.row-index c.row-item.result c.loop-row-test.true in
    let known : row.region < length c.args.table.now.regions =
    subst (λ (r : LiveRow). r.region < length c.args.table.now.regions) (sym c.row-item.is) known' in
    let not = not_before c.args.rows.now c.loop-row.row-index c.row-item.result c.requires.distinct here in
    let o' = c.requires.ordinary c.loop-row.row-index c.row-item.result c.loop-row-test.true in
    let o : kind_of c.loop-row.table row.region ≡ kinds.Ordinary =
    kind_by c.args.table.now c.loop-row.table row.region (v.table.others row.region not)
    ∙ subst (λ (r : LiveRow). kind_of c.args.table.now r.region ≡ kinds.Ordinary) (sym c.row-item.is) o' in
    let xs = is_chosen (take c.loop-row.row-index c.args.rows.now) in
    let ys = is_chosen (take (c.loop-row.row-index + 1) c.args.rows.now) in
    let w = ap (λ (n : ℕ). row.region * n) v.table.size in
    record {
      table = step_released xs ys row.region more c.args.table.now c.loop-row.table c.release_region.new.table z
          (let e = v.table.count in omega arith) o c.release_region.ensures.table v.table;
      count = (let e = released_free c.loop-row.table row.region (let e = v.table.count in omega arith) o in
          let f = ap free_count c.release_region.ensures.table in
          let g = v.count in
          omega arith);
      unmoved = none_moved c.args.rows.now c.args.table.now.words_per_region c.loop-row.table c.release_region.new.table row.region z
          (let e = v.table.count in omega arith) o c.release_region.ensures.table v.unmoved;
      previous = step_marks xs ys row.region more c.args.table.now.words_per_region c.args.tams.now.previous c.loop-row.tams.previous
          c.release_region.new.tams.previous c.args.bitmaps.now.previous c.loop-row.bitmaps.previous
          c.release_region.new.bitmaps.previous c.law.ensures.positive
          (let e = v.previous.count in let l = c.requires.layers.previous_tops in omega arith)
          (ap (λ (t : Tops). t.previous) c.release_region.ensures.tams ∙ ap (λ (n : ℕ). set c.loop-row.tams.previous row.region n) w)
          c.release_region.ensures.previous_len
          (subst (λ (n : ℕ). (a : ℕ) → is_marked c.release_region.new.bitmaps.previous a
          ≡ (if is_in_region n row.region a then false else is_marked c.loop-row.bitmaps.previous a)) v.table.size
          c.release_region.ensures.previous) v.previous;
      next = step_marks xs ys row.region more c.args.table.now.words_per_region c.args.tams.now.next
          c.loop-row.tams.next c.release_region.new.tams.next c.args.bitmaps.now.next c.loop-row.bitmaps.next
          c.release_region.new.bitmaps.next c.law.ensures.positive
          (let e = v.next.count in let l = c.requires.layers.next_tops in omega arith)
          (ap (λ (t : Tops). t.next) c.release_region.ensures.tams ∙ ap (λ (n : ℕ). set c.loop-row.tams.next row.region n) w)
          c.release_region.ensures.next_len
          (subst (λ (n : ℕ). (a : ℕ) → is_marked c.release_region.new.bitmaps.next a
          ≡ (if is_in_region n row.region a then false else is_marked c.loop-row.bitmaps.next a)) v.table.size
          c.release_region.ensures.next) v.next;
      sets = step_cleared xs ys row.region more c.args.sets.now c.loop-row.sets c.release_region.new.sets
          (let e = v.sets.count in let l = c.requires.layers.each_set in omega arith) c.release_region.ensures.sets v.sets;
    }

pub release_region-requires-clause-layers : goal.release_region-requires-clause-layers
release_region-requires-clause-layers c =
    let v = c.loop-row.invariant in
    let all = c.requires.layers in
    let words : length c.args.table.now.regions * c.args.table.now.words_per_region
    ≡ length c.loop-row.table.regions * c.loop-row.table.words_per_region =
    rw (v.table.count, v.table.size) refl in
    record {
      previous = v.previous.each_word ∙ all.previous ∙ words;
      next = v.next.each_word ∙ all.next ∙ words;
      previous_tops = v.previous.count ∙ all.previous_tops ∙ sym v.table.count;
      next_tops = v.next.count ∙ all.next_tops ∙ sym v.table.count;
      each_set = v.sets.count ∙ all.each_set ∙ sym v.table.count;
    }
