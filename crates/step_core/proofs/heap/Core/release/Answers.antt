use Rattle.std.proofs.Common.{◌≡◌, ◌<◌, ◌∙◌, None, ap, sym, false, length, arith}
use Rattle.marker.specs.declared.marker.Marker.{Marker}
use Rattle.regions.proofs.Tiles.Released.{untargeted}
use Rattle.regions.specs.Table.{run_length}
use Rattle.step_core.specs.Stands.{ShowsGraph, KeepsFrom}
use Rattle.step_core.specs.Cleaning.{IsDeadHead}
use Rattle.step_core.proofs.Cycles.Cycling.{to_fields}
use Rattle.regions.proofs.LongRuns.Blocks.{block_within}
use Rattle.step_core.proofs.Cycles.Releasing.{release_shows, release_keeps, release_kept, released_from}
use Rattle.step_core.proofs.heap.Core.release.Goals as goal

pub forget-requires-clause-within : goal.forget-requires-clause-within
forget-requires-clause-within c =
    let known = to_fields _ _ c.self.view_is (λ d. c.args.region < length d.table.regions) c.requires.known in
    let together = to_fields _ _ c.self.view_is (λ d. c.args.count ≡ run_length d.table c.args.region) c.requires.together in
    let fits = block_within c.self.inside.table c.args.region known in
    omega (arith, fits, together)

pub forget-requires-clause-each_age : goal.forget-requires-clause-each_age
forget-requires-clause-each_age c = c.self.invariant.ages ∙ sym c.self.invariant.layers.region_count

pub release-requires-clause-untargeted : goal.release-requires-clause-untargeted
release-requires-clause-untargeted c = untargeted c.self.inside.table c.args.region c.self.invariant.layers.unmoved

pub invariant_of-self : goal.invariant_of-self
invariant_of-self c =
    let known = to_fields _ _ c.self.view_is (λ d. c.args.region < length d.table.regions) c.requires.known in
    let together = to_fields _ _ c.self.view_is (λ d. c.args.count ≡ run_length d.table c.args.region) c.requires.together in
    let dead = to_fields _ _ c.self.view_is (λ d. IsDeadHead d c.args.region) c.requires.dead in
    let idle = to_fields _ _ c.self.view_is (λ d. d.marker.running ≡ false) c.requires.idle in
    let f = c.forget.ensures in
    rw c.release.ensures
    (release_kept _ c.self.invariant c.law.ensures c.args.region c.args.count known dead together _
    (ap (λ (x : Marker). x.running) f.forgotten.same ∙ idle) f.stands f.forgotten _ f.cleared _ f.aged
    (to_fields _ _ c.self.view_is (λ d. d.clearing ≡ None) c.requires.settled))

pub returns : goal.returns
returns c =
    let known = to_fields _ _ c.self.view_is (λ d. c.args.region < length d.table.regions) c.requires.known in
    let together = to_fields _ _ c.self.view_is (λ d. c.args.count ≡ run_length d.table c.args.region) c.requires.together in
    let dead = to_fields _ _ c.self.view_is (λ d. IsDeadHead d c.args.region) c.requires.dead in
    let idle = to_fields _ _ c.self.view_is (λ d. d.marker.running ≡ false) c.requires.idle in
    let f = c.forget.ensures in
    let off = ap (λ (x : Marker). x.running) f.forgotten.same ∙ idle in
    record {
      shows = λ g s. rw c.release.ensures (release_shows _ c.self.invariant c.law.ensures c.args.region c.args.count known dead together _
          off f.stands f.forgotten _ f.cleared _ f.aged g (to_fields _ _ c.self.view_is (λ d. ShowsGraph g d) s));
      keeps = λ s k. rw c.release.ensures (release_keeps _ c.self.invariant c.law.ensures c.args.region c.args.count known dead together _
          off f.stands f.forgotten _ f.cleared _ f.aged s (to_fields _ _ c.self.view_is (λ d. KeepsFrom s d) k));
      released = rw c.release.ensures (released_from _ c.self.invariant c.law.ensures c.args.region c.args.count known dead together _
          off f.stands f.forgotten _ f.cleared _ f.aged _ c.self.view_is);
    }
