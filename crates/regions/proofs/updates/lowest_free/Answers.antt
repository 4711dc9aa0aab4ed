use Rattle.std.proofs.Common.{sym, ◌∙◌}
use Rattle.regions.proofs.Rows.UsedBelow.{found_at, found_none}
use Rattle.regions.proofs.updates.lowest_free.Goals as goal

pub returns-then-is_free : goal.returns-then-is_free
returns-then-is_free c = found_at _ _ c.loop-i.invariant c.loop-i-test.true (sym c.is_free.ensures ∙ c.if-is_free.true)

pub returns : goal.returns
returns c = found_none _ _ c.loop-i.invariant c.loop-i-test.false
