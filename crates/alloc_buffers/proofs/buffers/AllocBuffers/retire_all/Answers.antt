use Rattle.std.proofs.Common.{◌≡◌, Option, None, List, length, ◌∙◌, ap, arith}
use Rattle.std.proofs.lemmas.List.{length-replicate, with_items_is}
use Rattle.alloc_buffers.specs.declared.buffers.Buffer.{Buffer}
use Rattle.alloc_buffers.proofs.Placed.{retired_above}
use Rattle.alloc_buffers.proofs.buffers.AllocBuffers.retire_all.Goals as goal

pub returns-clause-above : goal.returns-clause-above
returns-clause-above c = λ t limit tops.
    let count : length c.forget.new.buffers ≡ length c.deref_mut.result.now =
    ap (λ (xs : List (Option Buffer)). length xs) c.forget.ensures
    ∙ length-replicate {A = Option Buffer} (length c.deref_mut.result.now) None in
    let len : length c.forget.new.buffers ≡ c.self.inside.open_buffers.len = omega (arith, count, c.deref_mut.ensures.len) in
    retired_above t _ _ limit (with_items_is c.self.inside.open_buffers c.forget.new.buffers len ∙ c.forget.ensures) tops
