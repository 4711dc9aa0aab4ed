use Rattle.std.proofs.Common.{arith, ◌≡◌, ◌*◌, ℕ, List, Option, length, refl, sym, ap, ◌∙◌}
use Rattle.std.proofs.lemmas.Nat.{row_fits}
use Rattle.regions.specs.Table.{object_words, run_length, weaks_at}
use Rattle.regions.specs.Tiles.{Object, tile_size}
use Rattle.regions.specs.WeakStarts.{start_added}
use Rattle.regions.proofs.Cards.Entries.{flag_count, region_words}
use Rattle.regions.proofs.LongRuns.RunMoved.{CanMove, counted, run_is_here, moved_table, moved_is, moved_sound}
use Rattle.regions.proofs.Words.FieldAccess.{weaks_are}
use Rattle.regions.proofs.Tiles.WeakStarts.{clears}
use Rattle.regions.proofs.Tiles.Within.{object_within}
use Rattle.regions.proofs.table.RegionTable.move_run.Goals as goal

pub overflow_mul-number : goal.overflow_mul-number
overflow_mul-number c =
    let can : CanMove c.args.self.now c.args.first c.args.to = record {
      known = c.requires.known;
      run = c.requires.run;
      below = c.requires.below;
      free = c.requires.free;
      untargeted = c.requires.untargeted;
    } in
    let r = run_is_here _ _ _ _ _ _ c.self.invariant.table c.self.view_is can in
    rw c.number-number.ensures (omega (arith, r.stands.fits, c.self.invariant.table.small))

pub overflow_mul-place : goal.overflow_mul-place
overflow_mul-place c =
    let can : CanMove c.args.self.now c.args.first c.args.to = record {
      known = c.requires.known;
      run = c.requires.run;
      below = c.requires.below;
      free = c.requires.free;
      untargeted = c.requires.untargeted;
    } in
    let r = run_is_here _ _ _ _ _ _ c.self.invariant.table c.self.view_is can in
    let less = row_fits c.args.to c.self.inside.words_per_region c.args.first c.self.inside.words_per_region c.requires.below
    (omega arith) in
    rw c.number-place.ensures (omega (arith, less, r.stands.fits, c.self.invariant.table.small))

pub object_size-size-requires : goal.object_size-size-requires
object_size-size-requires c =
    let can : CanMove c.args.self.now c.args.first c.args.to = record {
      known = c.requires.known;
      run = c.requires.run;
      below = c.requires.below;
      free = c.requires.free;
      untargeted = c.requires.untargeted;
    } in
    let r = run_is_here _ _ _ _ _ _ c.self.invariant.table c.self.view_is can in
    let from : c.new-from.result ≡ c.args.first * c.self.inside.words_per_region =
    c.new-from.ensures ∙ ap (λ (n : ℕ). n * c.self.inside.words_per_region) c.number-number.ensures in
    rw (from, r.stands.is) refl

pub weak_count-weaks-requires : goal.weak_count-weaks-requires
weak_count-weaks-requires c =
    let can : CanMove c.args.self.now c.args.first c.args.to = record {
      known = c.requires.known;
      run = c.requires.run;
      below = c.requires.below;
      free = c.requires.free;
      untargeted = c.requires.untargeted;
    } in
    let r = run_is_here _ _ _ _ _ _ c.self.invariant.table c.self.view_is can in
    let from : c.new-from.result ≡ c.args.first * c.self.inside.words_per_region =
    c.new-from.ensures ∙ ap (λ (n : ℕ). n * c.self.inside.words_per_region) c.number-number.ensures in
    rw (from, r.stands.is) refl

pub copy_down-requires-clause-source : goal.copy_down-requires-clause-source
copy_down-requires-clause-source c =
    let can : CanMove c.args.self.now c.args.first c.args.to = record {
      known = c.requires.known;
      run = c.requires.run;
      below = c.requires.below;
      free = c.requires.free;
      untargeted = c.requires.untargeted;
    } in
    let r = run_is_here _ _ _ _ _ _ c.self.invariant.table c.self.view_is can in
    let from : c.new-from.result ≡ c.args.first * c.self.inside.words_per_region =
    c.new-from.ensures ∙ ap (λ (n : ℕ). n * c.self.inside.words_per_region) c.number-number.ensures in
    let size : c.object_size-size.result ≡ tile_size (Object r.object) =
    c.object_size-size.ensures ∙ ap (object_words c.args.self.now) from ∙ r.stands.words_are in
    let stands = object_within _ _ _ _ _ c.self.invariant.written c.self.view_is r.stands.is in
    omega (arith, stands, from, size)

pub copy_down-requires-clause-below : goal.copy_down-requires-clause-below
copy_down-requires-clause-below c =
    let can : CanMove c.args.self.now c.args.first c.args.to = record {
      known = c.requires.known;
      run = c.requires.run;
      below = c.requires.below;
      free = c.requires.free;
      untargeted = c.requires.untargeted;
    } in
    let r = run_is_here _ _ _ _ _ _ c.self.invariant.table c.self.view_is can in
    let from : c.new-from.result ≡ c.args.first * c.self.inside.words_per_region =
    c.new-from.ensures ∙ ap (λ (n : ℕ). n * c.self.inside.words_per_region) c.number-number.ensures in
    let at : c.new-at.result ≡ c.args.to * c.self.inside.words_per_region =
    c.new-at.ensures ∙ ap (λ (n : ℕ). n * c.self.inside.words_per_region) c.number-place.ensures in
    let less = row_fits c.args.to c.self.inside.words_per_region c.args.first c.self.inside.words_per_region c.requires.below
    (omega arith) in
    omega (arith, from, at, less, c.self.invariant.table.region_size.0)

pub move_rows-requires-clause-source : goal.move_rows-requires-clause-source
move_rows-requires-clause-source c =
    let can : CanMove c.args.self.now c.args.first c.args.to = record {
      known = c.requires.known;
      run = c.requires.run;
      below = c.requires.below;
      free = c.requires.free;
      untargeted = c.requires.untargeted;
    } in
    let r = run_is_here _ _ _ _ _ _ c.self.invariant.table c.self.view_is can in
    let from : c.new-from.result ≡ c.args.first * c.self.inside.words_per_region =
    c.new-from.ensures ∙ ap (λ (n : ℕ). n * c.self.inside.words_per_region) c.number-number.ensures in
    let size : c.object_size-size.result ≡ tile_size (Object r.object) =
    c.object_size-size.ensures ∙ ap (object_words c.args.self.now) from ∙ r.stands.words_are in
    let count : c.div_ceil-count.result ≡ run_length c.args.self.now c.args.first =
    c.div_ceil-count.ensures ∙ counted _ _ _ _ _ _ c.self.invariant.table r size in
    rw (c.deref_mut.ensures.value, c.number-number.ensures, count) r.room

pub move_rows-requires-clause-target : goal.move_rows-requires-clause-target
move_rows-requires-clause-target c =
    let can : CanMove c.args.self.now c.args.first c.args.to = record {
      known = c.requires.known;
      run = c.requires.run;
      below = c.requires.below;
      free = c.requires.free;
      untargeted = c.requires.untargeted;
    } in
    let r = run_is_here _ _ _ _ _ _ c.self.invariant.table c.self.view_is can in
    let from : c.new-from.result ≡ c.args.first * c.self.inside.words_per_region =
    c.new-from.ensures ∙ ap (λ (n : ℕ). n * c.self.inside.words_per_region) c.number-number.ensures in
    let size : c.object_size-size.result ≡ tile_size (Object r.object) =
    c.object_size-size.ensures ∙ ap (object_words c.args.self.now) from ∙ r.stands.words_are in
    let count : c.div_ceil-count.result ≡ run_length c.args.self.now c.args.first =
    c.div_ceil-count.ensures ∙ counted _ _ _ _ _ _ c.self.invariant.table r size in
    let room = r.room in
    rw (c.deref_mut.ensures.value, c.number-place.ensures, count) (omega (arith, room, c.requires.below))

pub move_rows-requires-clause-small : goal.move_rows-requires-clause-small
move_rows-requires-clause-small c =
    let can : CanMove c.args.self.now c.args.first c.args.to = record {
      known = c.requires.known;
      run = c.requires.run;
      below = c.requires.below;
      free = c.requires.free;
      untargeted = c.requires.untargeted;
    } in
    let r = run_is_here _ _ _ _ _ _ c.self.invariant.table c.self.view_is can in
    let from : c.new-from.result ≡ c.args.first * c.self.inside.words_per_region =
    c.new-from.ensures ∙ ap (λ (n : ℕ). n * c.self.inside.words_per_region) c.number-number.ensures in
    let size : c.object_size-size.result ≡ tile_size (Object r.object) =
    c.object_size-size.ensures ∙ ap (object_words c.args.self.now) from ∙ r.stands.words_are in
    let count : c.div_ceil-count.result ≡ run_length c.args.self.now c.args.first =
    c.div_ceil-count.ensures ∙ counted _ _ _ _ _ _ c.self.invariant.table r size in
    rw count (omega (arith, r.whole, c.self.invariant.table.small))

pub move_rows-requires-clause-tight : goal.move_rows-requires-clause-tight
move_rows-requires-clause-tight c =
    let can : CanMove c.args.self.now c.args.first c.args.to = record {
      known = c.requires.known;
      run = c.requires.run;
      below = c.requires.below;
      free = c.requires.free;
      untargeted = c.requires.untargeted;
    } in
    let r = run_is_here _ _ _ _ _ _ c.self.invariant.table c.self.view_is can in
    let from : c.new-from.result ≡ c.args.first * c.self.inside.words_per_region =
    c.new-from.ensures ∙ ap (λ (n : ℕ). n * c.self.inside.words_per_region) c.number-number.ensures in
    let size : c.object_size-size.result ≡ tile_size (Object r.object) =
    c.object_size-size.ensures ∙ ap (object_words c.args.self.now) from ∙ r.stands.words_are in
    let count : c.div_ceil-count.result ≡ run_length c.args.self.now c.args.first =
    c.div_ceil-count.ensures ∙ counted _ _ _ _ _ _ c.self.invariant.table r size in
    rw (count, size) r.tight

pub move_rows-requires-clause-some : goal.move_rows-requires-clause-some
move_rows-requires-clause-some c =
    let can : CanMove c.args.self.now c.args.first c.args.to = record {
      known = c.requires.known;
      run = c.requires.run;
      below = c.requires.below;
      free = c.requires.free;
      untargeted = c.requires.untargeted;
    } in
    let r = run_is_here _ _ _ _ _ _ c.self.invariant.table c.self.view_is can in
    let from : c.new-from.result ≡ c.args.first * c.self.inside.words_per_region =
    c.new-from.ensures ∙ ap (λ (n : ℕ). n * c.self.inside.words_per_region) c.number-number.ensures in
    let size : c.object_size-size.result ≡ tile_size (Object r.object) =
    c.object_size-size.ensures ∙ ap (object_words c.args.self.now) from ∙ r.stands.words_are in
    let count : c.div_ceil-count.result ≡ run_length c.args.self.now c.args.first =
    c.div_ceil-count.ensures ∙ counted _ _ _ _ _ _ c.self.invariant.table r size in
    rw count r.some

pub put_tile-requires-clause-within : goal.put_tile-requires-clause-within
put_tile-requires-clause-within c =
    let can : CanMove c.args.self.now c.args.first c.args.to = record {
      known = c.requires.known;
      run = c.requires.run;
      below = c.requires.below;
      free = c.requires.free;
      untargeted = c.requires.untargeted;
    } in
    let r = run_is_here _ _ _ _ _ _ c.self.invariant.table c.self.view_is can in
    let from : c.new-from.result ≡ c.args.first * c.self.inside.words_per_region =
    c.new-from.ensures ∙ ap (λ (n : ℕ). n * c.self.inside.words_per_region) c.number-number.ensures in
    let size : c.object_size-size.result ≡ tile_size (Object r.object) =
    c.object_size-size.ensures ∙ ap (object_words c.args.self.now) from ∙ r.stands.words_are in
    let at : c.new-at.result ≡ c.args.to * c.self.inside.words_per_region =
    c.new-at.ensures ∙ ap (λ (n : ℕ). n * c.self.inside.words_per_region) c.number-place.ensures in
    let less = row_fits c.args.to c.self.inside.words_per_region c.args.first c.self.inside.words_per_region c.requires.below
    (omega arith) in
    omega (arith, at, size, less, r.stands.fits, r.stands.words_are, c.word.ensures, c.self.invariant.each_card)

pub put_tile-requires-clause-small : goal.put_tile-requires-clause-small
put_tile-requires-clause-small c =
    let can : CanMove c.args.self.now c.args.first c.args.to = record {
      known = c.requires.known;
      run = c.requires.run;
      below = c.requires.below;
      free = c.requires.free;
      untargeted = c.requires.untargeted;
    } in
    let r = run_is_here _ _ _ _ _ _ c.self.invariant.table c.self.view_is can in
    let from : c.new-from.result ≡ c.args.first * c.self.inside.words_per_region =
    c.new-from.ensures ∙ ap (λ (n : ℕ). n * c.self.inside.words_per_region) c.number-number.ensures in
    let size : c.object_size-size.result ≡ tile_size (Object r.object) =
    c.object_size-size.ensures ∙ ap (object_words c.args.self.now) from ∙ r.stands.words_are in
    let at : c.new-at.result ≡ c.args.to * c.self.inside.words_per_region =
    c.new-at.ensures ∙ ap (λ (n : ℕ). n * c.self.inside.words_per_region) c.number-place.ensures in
    let less = row_fits c.args.to c.self.inside.words_per_region c.args.first c.self.inside.words_per_region c.requires.below
    (omega arith) in
    omega (arith, at, size, less, r.stands.fits, r.stands.words_are, c.word.ensures, c.self.invariant.table.small)

pub release-requires : goal.release-requires
release-requires c =
    let count = flag_count _ _ _ _ _ _ _ _ _ c.self.invariant c.self.view_is in
    let words = region_words _ _ _ _ _ _ _ _ _ c.self.invariant c.self.view_is in
    rw (c.number-number.ensures, words, count)
    (row_fits c.args.first c.args.self.now.words_per_region (length c.args.self.now.regions)
    c.args.self.now.words_per_region c.requires.known (omega arith))

pub add-requires : goal.add-requires
add-requires c =
    let can : CanMove c.args.self.now c.args.first c.args.to = record {
      known = c.requires.known;
      run = c.requires.run;
      below = c.requires.below;
      free = c.requires.free;
      untargeted = c.requires.untargeted;
    } in
    let r = run_is_here _ _ _ _ _ _ c.self.invariant.table c.self.view_is can in
    let from : c.new-from.result ≡ c.args.first * c.self.inside.words_per_region =
    c.new-from.ensures ∙ ap (λ (n : ℕ). n * c.self.inside.words_per_region) c.number-number.ensures in
    let size : c.object_size-size.result ≡ tile_size (Object r.object) =
    c.object_size-size.ensures ∙ ap (object_words c.args.self.now) from ∙ r.stands.words_are in
    let at : c.new-at.result ≡ c.args.to * c.self.inside.words_per_region =
    c.new-at.ensures ∙ ap (λ (n : ℕ). n * c.self.inside.words_per_region) c.number-place.ensures in
    let less = row_fits c.args.to c.self.inside.words_per_region c.args.first c.self.inside.words_per_region c.requires.below
    (omega arith) in
    omega (
      arith,
      at,
      size,
      less,
      r.stands.fits,
      r.stands.words_are,
      r.stands.large,
      c.word-2.ensures,
      c.release.ensures.len,
      c.self.invariant.weak_count,
    )

pub invariant_of-self : goal.invariant_of-self
invariant_of-self c =
    let can : CanMove c.args.self.now c.args.first c.args.to = record {
      known = c.requires.known;
      run = c.requires.run;
      below = c.requires.below;
      free = c.requires.free;
      untargeted = c.requires.untargeted;
    } in
    let r = run_is_here _ _ _ _ _ _ c.self.invariant.table c.self.view_is can in
    let from : c.new-from.result ≡ c.args.first * c.self.inside.words_per_region =
    c.new-from.ensures ∙ ap (λ (n : ℕ). n * c.self.inside.words_per_region) c.number-number.ensures in
    let size : c.object_size-size.result ≡ tile_size (Object r.object) =
    c.object_size-size.ensures ∙ ap (object_words c.args.self.now) from ∙ r.stands.words_are in
    let count : c.div_ceil-count.result ≡ run_length c.args.self.now c.args.first =
    c.div_ceil-count.ensures ∙ counted _ _ _ _ _ _ c.self.invariant.table r size in
    let at : c.new-at.result ≡ c.args.to * c.self.inside.words_per_region =
    c.new-at.ensures ∙ ap (λ (n : ℕ). n * c.self.inside.words_per_region) c.number-place.ensures in
    let words = rw (from, at) at c.copy_down.ensures.all in
    let rows = rw (c.deref_mut.ensures.value, c.number-number.ensures, c.number-place.ensures, count)
    at c.move_rows.ensures in
    let number : c.self.inside.rows.len ≡ length c.self.inside.rows.items = omega arith in
    let slots : c.weak_count-weaks.result ≡ length r.object.weaks =
    c.weak_count-weaks.ensures ∙ ap (λ (x : ℕ). length (weaks_at c.args.self.now x)) from
    ∙ ap (λ (l : List (Option ℕ)). length l)
    (weaks_are c.args.self.now (c.args.first * c.self.inside.words_per_region) r.object r.stands.is) in
    let clear = clears _ _ _ c.args.first _ c.number-number.ensures (region_words _ _ _ _ _ _ _ _ _ c.self.invariant c.self.view_is)
    c.release.ensures.region_words c.release.ensures.len c.release.ensures.pairs c.release.ensures.flags in
    let flags = c.add.ensures ∙ ap (λ (x : ℕ). start_added c.release.new.self x c.weak_count-weaks.result)
    (c.word-2.ensures ∙ sym c.word.ensures) in
    moved_sound _ _ _ _ _ _ _ _ _ c.self.invariant c.self.view_is c.args.first c.args.to can r _ _ _ _ _ _ _ _ _ number
    (c.word.ensures ∙ at) size slots c.put_tile.ensures clear flags
    words c.copy_down.ensures.written rows

pub returns : goal.returns
returns c =
    let can : CanMove c.args.self.now c.args.first c.args.to = record {
      known = c.requires.known;
      run = c.requires.run;
      below = c.requires.below;
      free = c.requires.free;
      untargeted = c.requires.untargeted;
    } in
    let r = run_is_here _ _ _ _ _ _ c.self.invariant.table c.self.view_is can in
    let from : c.new-from.result ≡ c.args.first * c.self.inside.words_per_region =
    c.new-from.ensures ∙ ap (λ (n : ℕ). n * c.self.inside.words_per_region) c.number-number.ensures in
    let size : c.object_size-size.result ≡ tile_size (Object r.object) =
    c.object_size-size.ensures ∙ ap (object_words c.args.self.now) from ∙ r.stands.words_are in
    let count : c.div_ceil-count.result ≡ run_length c.args.self.now c.args.first =
    c.div_ceil-count.ensures ∙ counted _ _ _ _ _ _ c.self.invariant.table r size in
    let at : c.new-at.result ≡ c.args.to * c.self.inside.words_per_region =
    c.new-at.ensures ∙ ap (λ (n : ℕ). n * c.self.inside.words_per_region) c.number-place.ensures in
    let words = rw (from, at) at c.copy_down.ensures.all in
    let rows = rw (c.deref_mut.ensures.value, c.number-number.ensures, c.number-place.ensures, count)
    at c.move_rows.ensures in
    let number : c.self.inside.rows.len ≡ length c.self.inside.rows.items = omega arith in
    (moved_table _ _ _ _ c.args.first c.args.to c.self.invariant.table c.self.view_is can r _ _ _ _ size number words rows).table_is
    ∙ moved_is _ _ _ _ c.args.first c.args.to c.self.invariant.table c.self.view_is can r
