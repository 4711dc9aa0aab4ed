use Rattle.bit_sets.specs.Bits.{has}
use Rattle.mark_bitmap.proofs.Summaries.{leave_others}
use Rattle.mark_bitmap.proofs.summary.leave_levels.Goals as goal

pub leave_groups-requires-2-clause-others : goal.leave_groups-requires-2-clause-others
leave_groups-requires-2-clause-others c =
    leave_others (has c.args.groups.now) (has c.leave_groups.new.groups) c.args.blocks.now _ c.requires.block_summary
    c.leave_groups.ensures.others
