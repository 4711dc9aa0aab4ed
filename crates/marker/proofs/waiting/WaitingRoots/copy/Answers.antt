use Rattle.std.proofs.Common.{◌≡◌, ◌∙◌, Some}
use Rattle.marker.proofs.Waits.{copied_none, copied_next, copied_all}
use Rattle.marker.proofs.waiting.WaitingRoots.copy.Goals as goal

pub loop-place-init : goal.loop-place-init
loop-place-init c = copied_none c.args.roots.now.words c.args.self.now c.requires.none

pub loop-place-preserved : goal.loop-place-preserved
loop-place-preserved c =
    let n = c.in-Some.ensures.lowest in
    let some : c.get.result ≡ Some n.address = c.get.ensures ∙ n.holds in
    copied_next c.args.roots.now.words c.loop-place.from c.in-Some.place c.args.self.now.room n.address c.get.result c.loop-place.self
    c.push.new.self n c.get.ensures some (rw some at c.push.ensures.named) c.loop-place.invariant

pub returns-clause-held : goal.returns-clause-held
returns-clause-held c =
    copied_all c.args.roots.now.words c.loop-place.from c.loop-place.self.addresses c.in_default.ensures.lowest c.loop-place.invariant.held
