use Rattle.std.proofs.Common.{◌≡◌, ◌+◌, ℕ, subst, length, arith}
use Rattle.heap_walk.specs.Walks.{IsTelling}
use Rattle.heap_walk.specs.Holders.{holders_at}
use Rattle.heap_walk.proofs.finding.who_from_root.Goals as goal

pub returns : goal.returns
returns c =
    let core = c.args.core.now in
    let all : c.tell_roots-told.result.place ≡ length core.roots + 0 =
    omega (arith, c.tell_roots-told.ensures.within, c.if-told-from.false, c.from.ensures, c.root_count-roots.ensures.value) in
    c.tell_from-all.ensures c.args.cursor.now c.args.out.now (omega (arith, c.tell_roots-told.auto.out))
    (subst (λ (n : ℕ). IsTelling (holders_at core c.args.name) c.args.cursor.now n c.args.out.now c.tell_roots-told.new.out
    c.tell_roots-told.result.count) all c.tell_roots-told.ensures.telling)
