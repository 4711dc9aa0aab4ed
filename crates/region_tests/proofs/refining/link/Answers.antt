use Rattle.std.proofs.Common.{◌<◌, arith}
use Rattle.region_tests.proofs.Samples.{link_sample, is_object}
use Rattle.region_tests.proofs.refining.link.Goals as goal
use Rattle.regions.proofs.Tiles.Made.{tile_some}

pub field_count-requires : goal.field_count-requires
field_count-requires c = is_object c.args.table.now c.in-Some.at _ _ _ c.tile.result c.tile.ensures
    (tile_some c.args.table.now c.in-Some.at c.new.result c.in-Some.ensures.holder) c.in-Object.is

pub returns-then-field-field_count : goal.returns-then-field-field_count
returns-then-field-field_count c =
    let known = c.if-field-field_count.true in
    let small : c.new-then-field-field_count.result < 64 = omega (arith, c.new-then-field-field_count.ensures, c.requires.to) in
    record {
      sample = link_sample c.args.table.now c.set_field.new.self c.in-Some.at c.args.field c.new-then-field-field_count.result
          c.law.ensures.positive (omega (arith, known, c.field_count.ensures)) small c.set_field.ensures c.requires.sample;
    }
