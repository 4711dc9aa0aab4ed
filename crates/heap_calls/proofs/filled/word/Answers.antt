use Rattle.std.proofs.Common.{◌∙◌, refl, arith}
use Rattle.heap_steps.specs.declared.step.Reply.TheVariants as replies
use Rattle.heap_calls.proofs.Filling.{as_wording, filled_more, still_held}
use Rattle.heap_calls.proofs.filled.word.Goals as goal

pub write_behind_at-requires-clause-held : goal.write_behind_at-requires-clause-held
write_behind_at-requires-clause-held c = let h = c.loop-i.invariant.taken in
    still_held c.args.core.now c.loop-i.core _ _ _ _ h.config h.roots c.register.ensures c.requires.held

pub write_behind_at-requires-clause-field : goal.write_behind_at-requires-clause-field
write_behind_at-requires-clause-field c = let h = c.loop-i.invariant.values in omega (arith, h, c.requires.counts, c.loop-i.auto)

pub loop-i-preserved : goal.loop-i-preserved
loop-i-preserved c = let p = c.write_behind_at.ensures in
    filled_more _ _ _ _ _ c.loop-i.i _ replies.Done c.loop-i.invariant (as_wording _ _ _ _ _ _ c.register.ensures refl)
    p.takes p.config p.roots p.pointers p.weaks p.values

pub write_behind_at-requires-clause-pointers : goal.write_behind_at-requires-clause-pointers
write_behind_at-requires-clause-pointers c = c.loop-i.invariant.pointers ∙ c.requires.pointers

pub write_behind_at-requires-clause-weaks : goal.write_behind_at-requires-clause-weaks
write_behind_at-requires-clause-weaks c = c.loop-i.invariant.weaks ∙ c.requires.weaks
