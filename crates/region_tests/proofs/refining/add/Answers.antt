use Rattle.regions.proofs.Common.{◌≡◌, ◌+◌, ◌<◌, ◌≤◌, length, arith, rules, used_of, kind_of}
use Rattle.regions.specs.declared.row.Kind.TheVariants as kinds
use Rattle.region_tests.proofs.Samples.{add_sample}
use Rattle.region_tests.proofs.refining.add.Goals as goal
use Rattle.regions.proofs.Tiles.Made.{add_there}

pub make_object-requires-clause-there : goal.make_object-requires-clause-there
make_object-requires-clause-there c =
    let known : c.new-region.result < length c.args.table.now.regions = search rules in
    let ordinary : kind_of c.args.table.now c.new-region.result ≡ kinds.Ordinary = search rules in
    let room : used_of c.args.table.now c.new-region.result + c.new-size.result ≤ c.args.table.now.words_per_region = search rules in
    add_there c.args.table.now c.push_filler-at.new.self c.new-region.result _ c.new-size.result c.law.ensures known ordinary room
    (omega (arith, c.new-size.ensures)) c.push_filler-at.ensures.at c.push_filler-at.ensures.pushed

pub returns : goal.returns
returns c =
    let known : c.new-region.result < length c.args.table.now.regions = search rules in
    let ordinary : kind_of c.args.table.now c.new-region.result ≡ kinds.Ordinary = search rules in
    let room : used_of c.args.table.now c.new-region.result + c.new-size.result ≤ c.args.table.now.words_per_region = search rules in
    let e = rw (c.new.ensures, c.new-2.ensures) at c.make_object.ensures in
    record {
      sample = add_sample c.args.table.now c.push_filler-at.new.self c.make_object.new.self c.new-region.result c.push_filler-at.result
          c.new-size.result c.args.pointers c.args.weaks 7 c.law.ensures c.law-2.ensures known ordinary room
          (omega (arith, c.new-size.ensures)) c.push_filler-at.ensures.at c.push_filler-at.ensures.pushed e c.requires.sample;
    }
