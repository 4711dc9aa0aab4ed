use Rattle.std.proofs.Common.{arith, refl}
use Rattle.regions.proofs.Tiles.Holders.{search_from}
use Rattle.regions.proofs.Cards.FirstTile.{counted_first, counted_found, counted_next, search_fits, found_below, found_holder, search_last}
use Rattle.regions.proofs.table.RegionTable.search_tile.Goals as goal

pub walk_from-at-items-requires : goal.walk_from-at-items-requires
walk_from-at-items-requires c =
    let (at, holder, leads) = c.requires.leads in
    leads.start

pub loop-at-init : goal.loop-at-init
loop-at-init c =
    let (at, holder, leads) = c.requires.leads in
    let first = search_from c.args.self.now c.args.start at c.args.word c.law.ensures holder leads in
    counted_first _ _ _ _ (rw (c.into_iter-at-iterator.ensures.into_iter_gives, c.walk_from-at-items.ensures) first)

pub overflow_add-word : goal.overflow_add-word
overflow_add-word c =
    let f = search_fits _ _ _ _ _ _ _ c.law.ensures c.loop-at.invariant.searching.search c.in-Some.ensures.steps in
    omega (arith, f, c.word-in-loop-at.ensures, c.size.ensures)

pub returns-then-word-size-clause-found : goal.returns-then-word-size-clause-found
returns-then-word-size-clause-found c = (
  λ _. found_below _ _ _ _ _ _ _ c.law.ensures c.loop-at.invariant.searching.start c.loop-at.invariant.searching.search
      c.in-Some.ensures.steps (omega (arith, c.word.ensures, c.word-in-loop-at.ensures, c.size.ensures, c.if-word-size.true)),
  λ _. refl,
)

pub returns-then-word-size-clause-holder : goal.returns-then-word-size-clause-holder
returns-then-word-size-clause-holder c =
    found_holder _ _ _ _ _ _ _ c.law.ensures c.loop-at.invariant.searching.search c.in-Some.ensures.steps
    (omega (arith, c.word.ensures, c.word-in-loop-at.ensures, c.size.ensures, c.if-word-size.true))

pub returns-then-word-size-clause-work : goal.returns-then-word-size-clause-work
returns-then-word-size-clause-work c =
    let found = counted_found _ _ _ _ _ _ _ _ c.law.ensures c.loop-at.invariant c.in-Some.ensures.steps
    (omega (arith, c.word.ensures, c.word-in-loop-at.ensures, c.size.ensures, c.if-word-size.true)) in
    omega (arith, found, c.tick.ensures)

pub loop-at-preserved : goal.loop-at-preserved
loop-at-preserved c =
    rw c.tick.ensures (counted_next _ _ _ _ _ _ _ _ c.law.ensures c.loop-at.invariant c.in-Some.ensures.steps
    (omega (arith, c.word.ensures, c.word-in-loop-at.ensures, c.size.ensures, c.if-word-size.false)))

pub returns-clause-found : goal.returns-clause-found
returns-clause-found c = (
  λ z. cc,
  λ h. absurd (search_last _ _ _ _ c.law.ensures c.loop-at.invariant.searching.start c.loop-at.invariant.searching.search
      c.in-None.ensures.steps.0 h),
)

pub returns-clause-work : goal.returns-clause-work
returns-clause-work c =
    absurd (search_last _ _ _ _ c.law.ensures c.loop-at.invariant.searching.start c.loop-at.invariant.searching.search
    c.in-None.ensures.steps.0 c.requires.below)
