use Rattle.std.proofs.Common.{arith, sym, ◌∙◌}
use Rattle.collection.proofs.Settled.{once_running, once_free, free_settled}
use Rattle.collection.proofs.Keeping.{same_length}
use Rattle.collection.proofs.Cycles.{begun, remarked, cleaned, begin_free, remark_free, clean_free, quiet_cycle}
use Rattle.collection.proofs.Took.{chain}
use Rattle.collection.proofs.whole.mark_all.Goals as goal

pub returns-clause-collects : goal.returns-clause-collects
returns-clause-collects g c =
    chain g.W.Watch.sees 2 1 3 c.args.core.now c.take-2.new.core c.take-3.new.core c.args.watch.now c.take-2.new.watch c.take-3.new.watch
    (omega arith)
    (chain g.W.Watch.sees 1 1 2 c.args.core.now c.take.new.core c.take-2.new.core c.args.watch.now c.take.new.watch c.take-2.new.watch
    (omega arith) c.take.ensures.collects c.take-2.ensures.collects) c.take-3.ensures.collects

pub returns-clause-quiet : goal.returns-clause-quiet
returns-clause-quiet g c s stands =
    let (after, quiet, reached) = quiet_cycle c.take.result c.take-2.result c.take-3.result s
    c.args.core.now c.take.new.core c.take-2.new.core c.take-3.new.core
    c.requires.idle stands c.take.ensures.does c.take.ensures.follows c.take-2.ensures.does c.take-2.ensures.follows c.take-3.ensures.does
    c.take-3.ensures.follows c.take-2.ensures.shaped_before in
    record { after = after; quiet = quiet; reached = reached }

pub returns-clause-free : goal.returns-clause-free
returns-clause-free g c =
    let (done, first) = begun c.take.result c.args.core.now c.take.new.core c.requires.idle c.take.ensures.does in
    let b = first.2 in
    let (n, counted, over, r, o) = remarked c.take-2.result c.take.new.core c.take-2.new.core b.running c.take-2.ensures.does in
    let (m, last) = cleaned c.take-3.result c.take-2.new.core c.take-3.new.core (once_running _ over c.take-2.new.core o ∙ r.over)
    c.take-3.ensures.does in
    let e = same_length c.take-2.new.core c.take-3.new.core c.take-3.ensures.before c.take-3.ensures.after c.take-3.ensures.config in
    let p = begin_free first.0 c.take.new.core b in
    let p2 = free_settled c.args.core.now first.0 first.1 in
    let q = remark_free n c.take.new.core over r in
    let q2 = once_free _ over c.take-2.new.core o in
    let z = clean_free m last.0 c.take-3.new.core last.2 (e ∙ sym last.1.cleared.count) in
    let z2 = free_settled c.take-2.new.core last.0 last.1 in
    omega (arith, p, p2, q, q2, z, z2)
