use Rattle.std.proofs.Common.{◌≡◌, true}
use Rattle.step_core.proofs.Cycles.Cycling.{to_fields}
use Rattle.step_core.proofs.Cycles.Remarked.{remarked_shows, remarked_kept, remarked_from}
use Rattle.step_core.proofs.heap.Core.remark.Goals as goal

pub invariant_of-self : goal.invariant_of-self
invariant_of-self c = let b = c.finish-count.ensures in
    let run = to_fields _ _ c.self.view_is (λ d. d.marker.running ≡ true) c.requires in
    rw c.new.ensures (remarked_kept _ c.self.invariant run _ _ b.stands b.over b.exact b.tops b.mutators b.room)

pub returns-clause-shows : goal.returns-clause-shows
returns-clause-shows c = let b = c.finish-count.ensures in
    let run = to_fields _ _ c.self.view_is (λ d. d.marker.running ≡ true) c.requires in
    rw c.new.ensures (remarked_shows _ c.self.invariant run _ _ b.stands b.over b.exact b.tops b.mutators b.room _ c.self.view_is)

pub returns-clause-remarked : goal.returns-clause-remarked
returns-clause-remarked c = let b = c.finish-count.ensures in
    let run = to_fields _ _ c.self.view_is (λ d. d.marker.running ≡ true) c.requires in
    rw c.new.ensures (remarked_from _ c.self.invariant run _ _ b.stands b.over b.exact b.tops b.mutators b.room b.scans b.counted b.work
    b.scanned b.marks _ c.self.view_is)
