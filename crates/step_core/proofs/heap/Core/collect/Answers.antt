use Rattle.std.proofs.Common.{ap, inl, inr, refl, ◌∙◌}
use Rattle.heap_steps.specs.declared.step.CollectorStep.TheVariants as collector
use Rattle.marker.specs.declared.marker.Marker.{Marker}
use Rattle.step_core.specs.Stands.{CoreState}
use Rattle.step_core.proofs.Cores.Collected.{refused, running_is, table_stays, takes, takes_same}
use Rattle.step_core.proofs.Cores.Collecting.{begins, ends, compacted_reclaims, compacted_running, moved_reclaims, moved_running}
use Rattle.step_core.proofs.Cores.Settled.{looked_reclaims, settled_running, settled_idle, settled_none}
use Rattle.step_core.proofs.Cores.Settled.{settled_reclaimed, settled_reclaims}
use Rattle.step_core.proofs.Cores.Settled.{remark_by_format, remark_over, remark_reclaims, remark_shows}
use Rattle.step_core.proofs.heap.Core.collect.Goals as goal

pub returns-then-self : goal.returns-then-self
returns-then-self c = refused _ collector.Begin _ _ _ _ c.in-Begin.is refl (λ s. refl) (λ h. inr h) c.self.view_is c.if-self.true

pub returns-else-self : goal.returns-else-self
returns-else-self c = let b = c.begin.ensures in
    let z = c.settle.ensures in
    takes _ collector.Begin _ _ _ c.in-Begin.is tt
    (λ s st. begins s _ _ st b.begun.running (λ g x. b.shows g (z.shows g x)) (λ g x. b.keeps g (z.shows g x)))
    (inl (running_is _ _ _ c.self.view_is c.if-self.false, refl, (_, z, b.begun)))
    (λ i x. settled_reclaims _ _ z _ c.begin.new.self i (ap (λ (d : CoreState). d.table) b.begun.same) x)

pub begin-requires-clause-idle : goal.begin-requires-clause-idle
begin-requires-clause-idle c = settled_idle _ _ c.settle.ensures (running_is _ _ _ c.self.view_is c.if-self.false)

pub begin-requires-clause-settled : goal.begin-requires-clause-settled
begin-requires-clause-settled c = settled_none _ _ c.settle.ensures

pub returns-then-not-self : goal.returns-then-not-self
returns-then-not-self c =
    refused _ (collector.Mark c.in-Mark.units) _ _ _ _ c.in-Mark.is refl (λ s. refl) (λ h. inr h) c.self-in-Mark.view_is c.if-not-self.true

pub returns-else-not-self : goal.returns-else-not-self
returns-else-not-self c = let m = c.mark.ensures in
    takes_same _ (collector.Mark c.in-Mark.units) _ _ _ c.in-Mark.is tt (λ s. refl) m.marked.roles.running m.shows m.keeps
    (inl (running_is _ _ _ c.self-in-Mark.view_is c.if-not-self.false, refl, m.marked))
    (λ i x. table_stays _ _ _ i (ap (λ (d : CoreState). d.table) m.marked.same) x)

pub returns-then-not-self-2 : goal.returns-then-not-self-2
returns-then-not-self-2 c =
    refused _ collector.Remark _ _ _ _ c.in-Remark.is refl (λ s. refl) (λ h. inr h) c.self-in-Remark.view_is c.if-not-self-2.true

pub returns-else-not-self-2 : goal.returns-else-not-self-2
returns-else-not-self-2 c = let m = c.remark-marked.ensures in
    let z = c.clear_by_format.ensures in
    let run = running_is _ _ _ c.self-in-Remark.view_is c.if-not-self-2.false in
    takes _ collector.Remark _ _ _ c.in-Remark.is tt
    (λ s st. ends s _ _ _ st run (remark_over _ _ _ _ m.remarked z.cleared) (remark_shows _ _ _ _ m.remarked z.cleared m.shows z.shows))
    (inl (run, _, refl, _, m.remarked, remark_by_format _ _ _ _ m.remarked z.cleared))
    (λ i x. remark_reclaims _ _ _ _ m.remarked z.cleared _ i x)

pub returns-then-self-2 : goal.returns-then-self-2
returns-then-self-2 c =
    refused _ collector.Cleanup _ _ _ _ c.in-Cleanup.is refl (λ s. refl) (λ h. inr h) c.self-in-Cleanup.view_is c.if-self-2.true

pub returns-else-self-2 : goal.returns-else-self-2
returns-else-self-2 c = let m = c.cleanup.ensures in
    let z = c.settle-in-Cleanup.ensures in
    takes_same _ collector.Cleanup _ _ _ c.in-Cleanup.is tt (λ s. refl)
    (ap (λ (x : Marker). x.running) m.cleaned.changes.marker ∙ settled_running _ _ z)
    (λ g x. m.shows g (z.shows g x)) (λ g x. m.keeps g (z.keeps g x))
    (inl (running_is _ _ _ c.self-in-Cleanup.view_is c.if-self-2.false, _, refl, (_, z, m.cleaned)))
    (λ i x. (_, z, (m.cleaned.reclaimed i).0 (settled_reclaimed _ _ z c.cleanup.new.self i x)))

pub returns-in-Refine : goal.returns-in-Refine
returns-in-Refine c = let m = c.refine.ensures in
    takes_same _ (collector.Refine c.in-Refine.cards) _ _ _ c.in-Refine.is tt (λ s. refl)
    (ap (λ (d : CoreState). d.marker.running) m.refined.same) m.shows m.keeps (_, refl, m.refined)
    (λ i x. table_stays _ _ _ i (ap (λ (d : CoreState). d.table) m.refined.same) x)

pub returns-in-Pause : goal.returns-in-Pause
returns-in-Pause c = let m = c.pause-moved.ensures in
    let z = c.settle-in-Pause.ensures in
    takes_same _ (collector.Pause c.in-Pause.budget) _ _ _ c.in-Pause.is tt (λ s. refl)
    (moved_running _ _ _ _ _ _ m.paused ∙ settled_running _ _ z)
    (λ g x. m.shows g (z.shows g x)) (λ g x. m.keeps g (z.keeps g x)) (_, _, refl, (_, z, m.paused))
    (λ i x. (_, z, moved_reclaims _ _ _ _ _ _ m.paused i (settled_reclaimed _ _ z c.pause-moved.new.self i x)))

pub returns-in-PauseWithin : goal.returns-in-PauseWithin
returns-in-PauseWithin c = let m = c.pause_within-moved.ensures in
    let z = c.settle-in-PauseWithin.ensures in
    takes_same _ (collector.PauseWithin c.in-PauseWithin.limits) _ _ _ c.in-PauseWithin.is tt (λ s. refl)
    (moved_running _ _ _ _ _ _ m.paused ∙ settled_running _ _ z)
    (λ g x. m.shows g (z.shows g x)) (λ g x. m.keeps g (z.keeps g x)) (_, _, refl, (_, z, m.paused))
    (λ i x. (_, z, moved_reclaims _ _ _ _ _ _ m.paused i (settled_reclaimed _ _ z c.pause_within-moved.new.self i x)))

pub returns-in-Young : goal.returns-in-Young
returns-in-Young c = let m = c.young-moved.ensures in
    let z = c.settle-in-Young.ensures in
    takes_same _ (collector.Young c.in-Young.limits) _ _ _ c.in-Young.is tt (λ s. refl)
    (moved_running _ _ _ _ _ _ m.paused ∙ settled_running _ _ z)
    (λ g x. m.shows g (z.shows g x)) (λ g x. m.keeps g (z.keeps g x)) (_, _, refl, (_, z, m.paused))
    (λ i x. (_, z, moved_reclaims _ _ _ _ _ _ m.paused i (settled_reclaimed _ _ z c.young-moved.new.self i x)))

pub returns-in-Compact : goal.returns-in-Compact
returns-in-Compact c = let m = c.compact-moved.ensures in
    let z = c.settle-in-Compact.ensures in
    takes_same _ (collector.Compact c.in-Compact.budget) _ _ _ c.in-Compact.is tt (λ s. refl)
    (compacted_running _ _ _ _ _ m.compacted ∙ settled_running _ _ z)
    (λ g x. m.shows g (z.shows g x)) (λ g x. m.keeps g (z.keeps g x)) (_, _, refl, (_, z, m.compacted))
    (λ i x. (_, z, compacted_reclaims _ _ _ _ _ m.compacted i (settled_reclaimed _ _ z c.compact-moved.new.self i x)))

pub returns-in-Clear : goal.returns-in-Clear
returns-in-Clear c = let m = c.clear.ensures in
    takes_same _ (collector.Clear c.in-Clear.objects) _ _ _ c.in-Clear.is tt (λ s. refl)
    (ap (λ (d : CoreState). d.marker.running) m.looked.same) m.shows m.keeps (refl, _, m.looked)
    (λ i x. looked_reclaims _ _ _ _ _ m.looked i x)
