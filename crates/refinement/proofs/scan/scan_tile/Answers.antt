use Rattle.std.proofs.Common.{rules}
use Rattle.mark_bitmap.specs.Kept.{kept_in}
use Rattle.remembered_sets.specs.Sets.{may_lead}
use Rattle.refinement.proofs.Entered.{adds_none}
use Rattle.refinement.proofs.Holders.{kept_object, not_kept, fields_inside, same_object}
use Rattle.refinement.proofs.Scanned.{covered_dead}
use Rattle.refinement.proofs.scan.scan_tile.Goals as goal

pub scan_object-requires-clause-inside : goal.scan_object-requires-clause-inside
scan_object-requires-clause-inside c =
    fields_inside c.args.table.now (kept_in c.args.table.now c.args.tams.now c.args.marks.now) c.args.at
    (kept_object c.args.table.now c.args.tams.now c.args.marks.now) c.requires.stands.inside (c.is_kept.ensures.0 c.if-is_kept.true)

pub returns-then-is_kept : goal.returns-then-is_kept
returns-then-is_kept c =
    let kept = kept_in c.args.table.now c.args.tams.now c.args.marks.now in
    let scanned = c.scan_object.ensures.scanned kept (same_object c.args.table.now kept c.args.at
    (kept_object c.args.table.now c.args.tams.now c.args.marks.now) (c.is_kept.ensures.0 c.if-is_kept.true)) in
    record { adds = scanned.adds; covered = scanned.covered; last = search rules; work = c.scan_object.ensures.work }

pub returns-clause-adds : goal.returns-clause-adds
returns-clause-adds c =
    adds_none c.args.table.now.words_per_region (kept_in c.args.table.now c.args.tams.now c.args.marks.now)
    c.args.card_words c.args.card c.args.sets.now

pub returns-clause-covered : goal.returns-clause-covered
returns-clause-covered c =
    let kept = kept_in c.args.table.now c.args.tams.now c.args.marks.now in
    covered_dead c.args.table.now.words_per_region kept c.args.card_words c.args.card c.args.at (may_lead c.args.sets.now)
    (not_kept kept c.args.at c.is_kept.result c.is_kept.ensures.1 c.if-is_kept.false)
