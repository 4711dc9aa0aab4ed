use Rattle.std.proofs.Common.{◌<◌, ◌≤◌, ◌∙◌, length, subst, sym, arith}
use Rattle.alloc_buffers.specs.Placement.{Buffers}
use Rattle.alloc_buffers.proofs.Placed.{alone_placed, in_new_is, new_placed}
use Rattle.alloc_buffers.proofs.buffers.AllocBuffers.allocate_in_new.Goals as goal

pub returns-clause-placed : goal.returns-clause-placed
returns-clause-placed c =
    let fits : c.args.size ≤ c.self.inside.words = subst (λ (d : Buffers). c.args.size ≤ d.words) (sym c.self.view_is) c.requires.fits in
    let known : c.args.mutator < length c.self.inside.open_buffers.items =
    subst (λ (d : Buffers). c.args.mutator < length d.open_buffers) (sym c.self.view_is) c.requires.mutator in
    let first = alone_placed _ _ _ _ _ _ _ _ _ c.self.view_is c.requires.ready.stand c.requires.ready.unmoved c.in_ok-region.ensures.room
    c.new.ensures c.law.ensures.positive c.law.ensures.fitting (let some = c.requires.ready.positive in omega (arith, fits, some))
    c.push_filler-at.ensures.at c.push_filler-at.ensures.pushed in
    new_placed _ _ _ _ _ c.args.mutator _ _ _ _ _ first known c.law-2.ensures.positive c.law-2.ensures.fitting c.requires.ready.positive
    fits c.split_filler-next.ensures.split (c.word.ensures ∙ c.split_filler-next.ensures.rest) c.put.ensures

pub returns-clause-some : goal.returns-clause-some
returns-clause-some c = in_new_is c.args.table.now _ _ _ _ _ _ _ _ _ _ _ _ c.self.view_is c.new.ensures c.in_ok-region.ensures.some
    c.push_filler-at.ensures.at c.push_filler-at.ensures.pushed c.split_filler-next.ensures.split
    (c.word.ensures ∙ c.split_filler-next.ensures.rest) c.put.ensures

-- the buffer is one filler
pub split_filler-next-requires-clause-filler : goal.split_filler-next-requires-clause-filler
split_filler-next-requires-clause-filler c =
    let fits : c.args.size ≤ c.self.inside.words = subst (λ (d : Buffers). c.args.size ≤ d.words) (sym c.self.view_is) c.requires.fits in
    (alone_placed _ _ _ _ _ _ _ _ _ c.self.view_is c.requires.ready.stand c.requires.ready.unmoved c.in_ok-region.ensures.room
    c.new.ensures c.law.ensures.positive c.law.ensures.fitting (let some = c.requires.ready.positive in omega (arith, fits, some))
    c.push_filler-at.ensures.at c.push_filler-at.ensures.pushed).filler
