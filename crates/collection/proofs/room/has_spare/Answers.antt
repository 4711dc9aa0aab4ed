use Rattle.std.proofs.Common.{◌≡◌, ◌*◌, ◌<◌, ◌≤◌, ◌∙◌, None, ap, arith, slice_index_or}
use Rattle.std.proofs.lemmas.Bool.{ltb-true}
use Rattle.alloc_buffers.specs.OpenBuffers.{rest_of}
use Rattle.alloc_buffers.specs.Placement.{Buffers}
use Rattle.collection.specs.Steps.{asked_words}
use Rattle.collection.proofs.Inside.{in_rest}
use Rattle.collection.proofs.Spared.{open_spared, small_spared}
use Rattle.collection.proofs.room.has_spare.Goals as goal

pub returns-then-size-from : goal.returns-then-size-from
returns-then-size-from c e =
    let a = c.is_large.ensures c.if-is_large.false in
    let f = c.law_remembers.ensures.core.layers.region_size in
    let h = c.requires.size in
    let small : 2 * asked_words c.args.op.now.action ≤ c.args.core.now.table.words_per_region = omega (arith, a, f, h) in
    let read : c.rest.result ≡ rest_of (slice_index_or c.args.core.now.buffers.open_buffers c.args.op.now.mutator None) =
    c.rest.ensures ∙ ap (λ (b : Buffers). rest_of (slice_index_or b.open_buffers c.args.op.now.mutator None)) c.buffers.ensures in
    let i = c.if-size-from.true in
    let j = c.from.ensures in
    let left : asked_words c.args.op.now.action < rest_of (slice_index_or c.args.core.now.buffers.open_buffers c.args.op.now.mutator None) =
    omega (arith, read, i, j, h) in
    open_spared c.args.core.now c.args.op.now c.requires.new
    (in_rest c.args.core.now c.args.op.now.mutator (asked_words c.args.op.now.action) small left)

pub returns : goal.returns
returns c e =
    let a = c.is_large.ensures c.if-is_large.false in
    let f = c.law_remembers.ensures.core.layers.region_size in
    let h = c.requires.size in
    let i = ltb-true 2 c.free_regions.result e in
    let j = c.free_regions.ensures in
    small_spared c.args.core.now c.args.op.now c.requires.new (omega (arith, a, f, h)) (omega (arith, i, j))
