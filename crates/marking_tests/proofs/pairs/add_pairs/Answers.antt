use Rattle.regions.proofs.Common.{◌≡◌, ◌+◌, ◌<◌, ◌≤◌, length, arith, rules, used_of, kind_of}
use Rattle.regions.specs.declared.row.Kind.TheVariants as kinds
use Rattle.regions.proofs.Tiles.Made.{add_there}
use Rattle.marking_tests.proofs.PairSamples.{pairs_keep, pairs_made}
use Rattle.marking_tests.proofs.pairs.add_pairs.Goals as goal

pub make_pairs-requires-clause-there : goal.make_pairs-requires-clause-there
make_pairs-requires-clause-there c =
    let known : c.args.region < length c.args.table.now.regions = search rules in
    let ordinary : kind_of c.args.table.now c.args.region ≡ kinds.Ordinary = search rules in
    let room : used_of c.args.table.now c.args.region + c.new-size.result ≤ c.args.table.now.words_per_region = search rules in
    add_there c.args.table.now c.push_filler-at.new.self c.args.region _ c.new-size.result c.law.ensures known ordinary room
    (omega (arith, c.new-size.ensures)) c.push_filler-at.ensures.at c.push_filler-at.ensures.pushed

pub returns-clause-keeps : goal.returns-clause-keeps
returns-clause-keeps c =
    let known : c.args.region < length c.args.table.now.regions = search rules in
    let ordinary : kind_of c.args.table.now c.args.region ≡ kinds.Ordinary = search rules in
    let room : used_of c.args.table.now c.args.region + c.new-size.result ≤ c.args.table.now.words_per_region = search rules in
    let e = rw (c.new.ensures, c.new-2.ensures) at c.make_pairs.ensures in
    pairs_keep c.args.table.now c.push_filler-at.new.self c.make_pairs.new.self c.args.region c.push_filler-at.result c.new-size.result
    c.args.pairs c.args.name c.law.ensures c.law-2.ensures known ordinary room (omega (arith, c.new-size.ensures))
    c.push_filler-at.ensures.at c.push_filler-at.ensures.pushed e

pub returns-clause-object : goal.returns-clause-object
returns-clause-object c =
    let known : c.args.region < length c.args.table.now.regions = search rules in
    let ordinary : kind_of c.args.table.now c.args.region ≡ kinds.Ordinary = search rules in
    let room : used_of c.args.table.now c.args.region + c.new-size.result ≤ c.args.table.now.words_per_region = search rules in
    let e = rw (c.new.ensures, c.new-2.ensures) at c.make_pairs.ensures in
    pairs_made c.args.table.now c.push_filler-at.new.self c.make_pairs.new.self c.args.region c.push_filler-at.result c.new-size.result
    c.args.pairs c.args.name c.law.ensures c.law-2.ensures known ordinary room (omega (arith, c.new-size.ensures))
    c.push_filler-at.ensures.at c.push_filler-at.ensures.pushed e
