use Rattle.std.proofs.Common.{sym, ◌∙◌}
use Rattle.regions.proofs.Rows.Search.{scan_hit, scan_on, scan_past, scan_end}
use Rattle.regions.proofs.Rows.UsedBelow.{scan_from}
use Rattle.regions.proofs.runs.lowest_run.Goals.{then-is_free+else-i-start, else-is_free}
use Rattle.regions.proofs.runs.lowest_run.Goals as goal

pub loop-i-init : goal.loop-i-init
loop-i-init c = scan_from _ _ _ c.requires.some c.requires.used

pub returns-then-i-start : goal.returns-then-i-start
returns-then-i-start c =
    scan_hit _ _ _ _ c.requires.some c.loop-i.invariant c.loop-i-test.true (sym c.is_free.ensures ∙ c.if-is_free.true) c.if-i-start.true

pub loop-i-preserved : goal.loop-i-preserved
loop-i-preserved c =
    elim c.if-is_free.branch [
      | then-is_free+else-i-start w ↦ rw w.start-is (scan_on _ _ _ _ c.loop-i.invariant c.loop-i-test.true
          (sym c.is_free.ensures ∙ w.if-is_free.true) w.if-i-start.false)
      | else-is_free w ↦ rw w.start-is (scan_past _ _ _ _ c.requires.some c.loop-i.invariant c.loop-i-test.true
          (sym c.is_free.ensures ∙ w.if-is_free.false))
    ]

pub returns : goal.returns
returns c = scan_end _ _ _ _ c.loop-i.invariant c.loop-i-test.false
