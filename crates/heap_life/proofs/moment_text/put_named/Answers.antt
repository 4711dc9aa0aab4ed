use Rattle.std.proofs.Common.{◌-◌, ℕ, Option, length, refl, subst, arith}
use Rattle.std.specs.Prelude.{MatchOption}
use Rattle.root_table.specs.Roots.{AreNil, IsNextNamed}
use Rattle.heap_life.proofs.NamedRoots.{told_next, told_none, told_enough}
use Rattle.heap_dump.proofs.Putting.{leads_first, leads_on, leads_all}
use Rattle.heap_life.proofs.moment_text.put_named.Goals as goal

pub loop-place-init : goal.loop-place-init
loop-place-init c =
    record { few = omega arith; leads = leads_first _ _ _ refl }

pub loop-place-preserved : goal.loop-place-preserved
loop-place-preserved c =
    record {
      few = omega arith;
      leads = leads_on _ _ _ _ _ _ _
          (told_next c.args.roots.now.words c.loop-place.from c.in-Some.place c.loop-place.count c.in-Some.ensures.within (omega arith)
          c.in-Some.ensures.lowest) c.loop-place.invariant.leads c.put_root.ensures;
    }

pub returns-then-count-ge-MOST_ROOTS : goal.returns-then-count-ge-MOST_ROOTS
returns-then-count-ge-MOST_ROOTS c =
    leads_all _ _ _ _ (told_enough c.args.roots.now.words c.loop-place.from (64 - c.loop-place.count) (omega arith))
    c.loop-place.invariant.leads

pub returns : goal.returns
returns c =
    let ws = c.args.roots.now.words in
    leads_all _ _ _ _ (told_none c.args.roots.now.words c.loop-place.from (64 - c.loop-place.count) (subst (λ (o : Option ℕ). MatchOption o
    (AreNil ws c.loop-place.from (length ws)) (IsNextNamed ws c.loop-place.from)) c.in_default.is
    c.next_named.ensures.lowest))
    c.loop-place.invariant.leads
