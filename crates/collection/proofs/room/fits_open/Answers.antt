use Rattle.std.proofs.Common.{◌*◌, ◌<◌, ◌≤◌, ◌∙◌, Some, length, refl, sym, ap, arith, slice_get}
use Rattle.alloc_buffers.specs.Placement.{Buffers}
use Rattle.heap_words.specs.declared.config.Config.{Config}
use Rattle.collection.specs.Rooms.{has_rest}
use Rattle.collection.proofs.Inside.{IsOut, alone_in, buffer_is, full_open, in_new, in_open, none_open}
use Rattle.collection.proofs.room.fits_open.Goals as goal
use Rattle.collection.proofs.room.fits_open.Goals.{in-Some+else-size-open, in_default}

pub returns-then-size-open-clause-fits : goal.returns-then-size-open-clause-fits
returns-then-size-open-clause-fits c =
    let small : 2 * c.args.size ≤ c.args.core.now.table.words_per_region =
    (let e = c.law_remembers.ensures.core.layers.region_size in let s = c.requires.small in omega (arith, e, s)) in
    let lt : c.args.mutator < length c.args.core.now.buffers.open_buffers =
    (let e = c.law_remembers.ensures.core.layers.open_buffers in let s = c.requires.known in omega (arith, e, s)) in
    let got = sym (ap (λ (b : Buffers). slice_get b.open_buffers c.args.mutator) c.buffers.ensures) ∙ c.open_buffer.ensures
    ∙ ap Some c.in-Some.is in (
      λ t. in_open c.args.core.now c.args.mutator c.args.size small c.in-Some.open
          (buffer_is c.args.core.now c.args.mutator c.args.size small (Some c.in-Some.open) lt got) c.if-size-open.true,
      λ f. refl,
    )

pub returns-then-size-buffer : goal.returns-then-size-buffer
returns-then-size-buffer c =
    let small : 2 * c.args.size ≤ c.args.core.now.table.words_per_region =
    (let e = c.law_remembers.ensures.core.layers.region_size in let s = c.requires.small in omega (arith, e, s)) in
    let lt : c.args.mutator < length c.args.core.now.buffers.open_buffers =
    (let e = c.law_remembers.ensures.core.layers.open_buffers in let s = c.requires.known in omega (arith, e, s)) in
    let got = sym (ap (λ (b : Buffers). slice_get b.open_buffers c.args.mutator) c.buffers.ensures) ∙ c.open_buffer.ensures in
    let read = buffer_is c.args.core.now c.args.mutator c.args.size small c.open_buffer.result lt got in
    let out : IsOut c.args.core.now c.args.mutator c.args.size small = elim c.match-open_buffer.branch [
      | in-Some+else-size-open w ↦ full_open c.args.core.now c.args.mutator c.args.size small w.in-Some.open (read ∙ w.in-Some.is)
          w.if-size-open.false
      | in_default w ↦ none_open c.args.core.now c.args.mutator c.args.size small (read ∙ w.in_default.is)
    ] in
    let words = c.law_remembers.ensures.core.layers.buffer_size in
    let same = ap (λ (x : Config). x.buffer) c.config-buffer.ensures.config in
    let cond = c.if-size-buffer.true in
    let above : c.args.size ≤ c.args.core.now.buffers.words = omega (arith, words, same, cond) in
    let rest = c.has_rest.ensures ∙ ap (has_rest c.args.core.now.table c.args.core.now.buffers.current) (same ∙ sym words) in
    let d = in_new c.args.core.now c.args.mutator c.args.size small out above c.has_rest.result rest in
    record { fits = d.0; takes = d.1 }

pub returns-else-size-buffer : goal.returns-else-size-buffer
returns-else-size-buffer c =
    let small : 2 * c.args.size ≤ c.args.core.now.table.words_per_region =
    (let e = c.law_remembers.ensures.core.layers.region_size in let s = c.requires.small in omega (arith, e, s)) in
    let lt : c.args.mutator < length c.args.core.now.buffers.open_buffers =
    (let e = c.law_remembers.ensures.core.layers.open_buffers in let s = c.requires.known in omega (arith, e, s)) in
    let got = sym (ap (λ (b : Buffers). slice_get b.open_buffers c.args.mutator) c.buffers.ensures) ∙ c.open_buffer.ensures in
    let read = buffer_is c.args.core.now c.args.mutator c.args.size small c.open_buffer.result lt got in
    let out : IsOut c.args.core.now c.args.mutator c.args.size small = elim c.match-open_buffer.branch [
      | in-Some+else-size-open w ↦ full_open c.args.core.now c.args.mutator c.args.size small w.in-Some.open (read ∙ w.in-Some.is)
          w.if-size-open.false
      | in_default w ↦ none_open c.args.core.now c.args.mutator c.args.size small (read ∙ w.in_default.is)
    ] in
    let words = c.law_remembers.ensures.core.layers.buffer_size in
    let same = ap (λ (x : Config). x.buffer) c.config-buffer.ensures.config in
    let cond = c.if-size-buffer.false in
    let above : c.args.core.now.buffers.words < c.args.size = omega (arith, words, same, cond) in
    let d = alone_in c.args.core.now c.args.mutator c.args.size small out above c.has_rest-else-size-buffer.result
    c.has_rest-else-size-buffer.ensures in
    record { fits = d.0; takes = d.1 }
