use Rattle.std.proofs.Common.{◌≡◌, true}
use Rattle.step_core.specs.Stands.{ShowsGraph, KeepsFrom}
use Rattle.step_core.proofs.Cycles.Cycling.{to_fields, marked_shows, marked_keeps, marked_kept, marked_from}
use Rattle.step_core.proofs.heap.Core.mark.Goals as goal

pub invariant_of-self : goal.invariant_of-self
invariant_of-self c = let b = c.mark.ensures in let run = to_fields _ _ c.self.view_is (λ d. d.marker.running ≡ true) c.requires in
    marked_kept _ c.self.invariant run _ b.stands b.same b.snapshots b.logs

pub returns-clause-shows : goal.returns-clause-shows
returns-clause-shows c = let b = c.mark.ensures in let run = to_fields _ _ c.self.view_is (λ d. d.marker.running ≡ true) c.requires in
    λ g s. marked_shows _ c.self.invariant run _ b.stands b.same b.snapshots b.logs g (to_fields _ _ c.self.view_is (λ d. ShowsGraph g d) s)

pub returns-clause-keeps : goal.returns-clause-keeps
returns-clause-keeps c = let b = c.mark.ensures in let run = to_fields _ _ c.self.view_is (λ d. d.marker.running ≡ true) c.requires in
    λ s f. marked_keeps _ c.self.invariant run _ b.stands b.same b.snapshots b.logs s (to_fields _ _ c.self.view_is (λ d. KeepsFrom s d) f)

pub returns-clause-marked : goal.returns-clause-marked
returns-clause-marked c = let b = c.mark.ensures in let run = to_fields _ _ c.self.view_is (λ d. d.marker.running ≡ true) c.requires in
    marked_from _ c.self.invariant run _ b.stands b.same b.snapshots b.logs _ c.self.view_is c.args.units _
    b.counted b.work b.grows
