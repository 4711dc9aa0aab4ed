use Rattle.std.proofs.Common.{◌≡◌, ◌⊎◌, ◌+◌, ◌*◌, ◌<◌, ◌≤◌, ◌∙◌, ℕ, inl, inr, sym, ap, subst, arith}
use Rattle.std.proofs.lemmas.Bool.{cases_lt}
use Rattle.heap_words.specs.declared.config.Config.{Config}
use Rattle.heap_steps.specs.Actors.{IsThird}
use Rattle.regions.specs.Table.{free_count}
use Rattle.alloc_buffers.specs.Placement as placement
use Rattle.collection.specs.Space.{IsCollected, IsCompact, IsPacked, IsPackedBut}
use Rattle.collection.specs.Steps.{AsksWithin, LeavesTwo, asked_words, regions_for}
use Rattle.collection.specs.Rooms.{HasRun}
use Rattle.collection.proofs.Compact.{few_free, packed_but}
use Rattle.collection.proofs.Leaving.{clash, leaves_not, leaves_still, takes_one, takes_run}
use Rattle.collection.proofs.Took.{chain, more}
use Rattle.collection.proofs.making.collect_all.Goals as goal

pub is_spared-requires : goal.is_spared-requires
is_spared-requires g c = record {
  asked = subst (λ (x : Config). AsksWithin x c.args.op.now c.args.size) (sym c.collect.ensures.collects.config) c.requires.asked;
}

pub returns-then-is_spared-clause-collects : goal.returns-then-is_spared-clause-collects
returns-then-is_spared-clause-collects g c =
    more g.W.Watch.sees _ _ c.args.core.now c.collect.new.core c.args.watch.now c.collect.new.watch (omega arith) c.collect.ensures.collects

pub returns-clause-collects : goal.returns-clause-collects
returns-clause-collects g c =
    more g.W.Watch.sees _ _ c.args.core.now c.collect.new.core c.args.watch.now c.collect.new.watch (omega arith) c.collect.ensures.collects

pub returns-then-is_spared-clause-room : goal.returns-then-is_spared-clause-room
returns-then-is_spared-clause-room g c e = inl (c.is_spared.ensures.spared c.if-is_spared.true)

pub returns-clause-room : goal.returns-clause-room
returns-clause-room g c e = inr (record {
  few = leaves_not c.config-2.result c.args.core.now.config c.args.op.now.action
      (c.config-2.ensures.config ∙ c.collect.ensures.collects.config) (c.is_last_resort.ensures.0 e);
  collected = c.collect.ensures.quiet;
})

pub returns-clause-leaves : goal.returns-clause-leaves
returns-clause-leaves g c e =
    leaves_still c.config-2.result c.args.core.now.config c.args.op.now.action
    (c.config-2.ensures.config ∙ c.collect.ensures.collects.config)
    (λ not. clash c.is_last_resort.result (c.is_last_resort.ensures.1 not) e)

pub returns-clause-filled : goal.returns-clause-filled
returns-clause-filled g c e s stands = record {
  collected = c.collect.ensures.quiet s stands;
  full = λ leaves two how. packed leaves two (small how);
  large = λ leaves large run. c.is_spared.ensures.large c.if-is_spared.false
      (let f = ap (λ (x : Config). x.words) c.collect.ensures.collects.config in let h = c.requires.asked.size in
      omega (arith, f, h, large))
      (subst (λ (n : ℕ). HasRun c.collect.new.core n) (sym c.requires.asked.size) run);
  dense = λ leaves large two. c.collect.ensures.packed s stands two;
  compact = λ third leaves large two. absurd (no_compaction third large);
}
  where
    no_compaction : IsThird c.args.core.now.config.format → c.args.core.now.config.words < 2 * asked_words c.args.op.now.action → ⊥
    no_compaction third large =
        let same = c.config.ensures.config ∙ c.collect.ensures.collects.config in
        let words = ap (λ (x : Config). x.words) same in
        let h = c.requires.asked.size in
        let can : (c.config.result.words < 2 * c.args.size) × IsThird c.config.result.format =
        (omega (arith, words, h, large), subst (λ (x : Config). IsThird x.format) (sym same) third) in
        clash c.may_compact.result (c.may_compact.ensures.1 can) c.if-may_compact.false

    small : (2 * asked_words c.args.op.now.action ≤ c.args.core.now.config.words) ⊎ IsThird c.args.core.now.config.format
        → 2 * asked_words c.args.op.now.action ≤ c.args.core.now.config.words
    small (inl few) = few
    small (inr third) = elim (cases_lt c.args.core.now.config.words (2 * asked_words c.args.op.now.action)) [
      | inl large ↦ absurd (no_compaction third large)
      | inr few ↦ few
    ]

    packed : LeavesTwo c.args.core.now.config c.args.op.now.action → 2 ≤ free_count c.args.core.now.table
        → 2 * asked_words c.args.op.now.action ≤ c.args.core.now.config.words
        → IsPackedBut s.graph c.collect.new.core (regions_for c.args.core.now.config.words (asked_words c.args.op.now.action))
    packed leaves two small =
        let f = ap (λ (x : Config). x.words) c.collect.ensures.collects.config in
        let l = ap (λ (x : Config). x.regions) c.collect.ensures.collects.config in
        let h = c.requires.asked.size in
        let few = c.is_spared.ensures.small c.if-is_spared.false (omega (arith, f, h, small)) in
        let one = takes_one c.args.core.now.config.words (asked_words c.args.op.now.action) small in
        let w = c.collect.ensures.quiet s stands in
        packed_but s.graph w.after c.collect.new.core (regions_for c.args.core.now.config.words (asked_words c.args.op.now.action))
        c.law_remembers.ensures.core w.quiet w.reached (c.collect.ensures.packed s stands two) (c.collect.ensures.collects.two two)
        (omega (arith, few, one)) (omega (arith, leaves, l))

-- ---- with compactions
pub compact_all-requires-clause-third : goal.compact_all-requires-clause-third
compact_all-requires-clause-third g c =
    subst (λ (x : Config). IsThird x.format) c.config.ensures.config (c.may_compact.ensures.0 c.if-may_compact.true).1

pub compact_all-requires-clause-asked : goal.compact_all-requires-clause-asked
compact_all-requires-clause-asked g c =
    subst (λ (x : Config). AsksWithin x c.args.op.now c.args.size) (sym c.collect.ensures.collects.config) c.requires.asked

pub compact_all-requires-clause-large : goal.compact_all-requires-clause-large
compact_all-requires-clause-large g c =
    let words = ap (λ (x : Config). x.words) c.config.ensures.config in
    let large = (c.may_compact.ensures.0 c.if-may_compact.true).0 in
    omega (arith, words, large)

pub returns-then-may_compact-clause-collects : goal.returns-then-may_compact-clause-collects
returns-then-may_compact-clause-collects g c =
    let regions = ap (λ (x : Config). x.regions) c.collect.ensures.collects.config in
    chain g.W.Watch.sees _ (2 * c.collect.new.core.config.regions + 1) _ c.args.core.now c.collect.new.core c.compact_all.new.core
    c.args.watch.now c.collect.new.watch c.compact_all.new.watch (omega (arith, regions)) c.collect.ensures.collects
    c.compact_all.ensures.collects

pub returns-then-may_compact-clause-room : goal.returns-then-may_compact-clause-room
returns-then-may_compact-clause-room g c e = elim (c.compact_all.ensures.room e) [
  | inl spared ↦ inl spared
  | inr few ↦ inr (record {
    few = leaves_not c.collect.new.core.config c.args.core.now.config c.args.op.now.action c.collect.ensures.collects.config few;
    collected = λ s stands. (let w = c.collect.ensures.quiet s stands in
        record { after = w.after; quiet = c.compact_all.ensures.quiet w.after w.quiet; reached = w.reached });
  })
]

pub returns-then-may_compact-clause-leaves : goal.returns-then-may_compact-clause-leaves
returns-then-may_compact-clause-leaves g c e =
    subst (λ (x : Config). LeavesTwo x c.args.op.now.action) c.collect.ensures.collects.config (c.compact_all.ensures.leaves e)

pub returns-then-may_compact-clause-filled : goal.returns-then-may_compact-clause-filled
returns-then-may_compact-clause-filled g c e s stands = record {
  collected = record { after = w.after; quiet = c.compact_all.ensures.quiet w.after w.quiet; reached = w.reached };
  full = λ leaves two how. packed leaves two;
  large = λ leaves large run. none run;
  dense = λ leaves large two. dense two;
  compact = λ third leaves large two. compact two;
}
  where
    w : IsCollected s.graph c.collect.new.core
    w = c.collect.ensures.quiet s stands

    none : HasRun c.compact_all.new.core (asked_words c.args.op.now.action) → ⊥
    none run = c.compact_all.ensures.none e (subst (λ (n : ℕ). HasRun c.compact_all.new.core n) (sym c.requires.asked.size) run)

    dense : 2 ≤ free_count c.args.core.now.table → IsPacked s.graph c.compact_all.new.core
    dense two = c.compact_all.ensures.packed w.after w.quiet (c.collect.ensures.collects.two two) s.graph
        (c.collect.ensures.packed s stands two)

    compact : 2 ≤ free_count c.args.core.now.table → IsCompact c.compact_all.new.core.table
    compact two = c.compact_all.ensures.compact e w.after w.quiet (c.collect.ensures.collects.two two)

    packed : LeavesTwo c.args.core.now.config c.args.op.now.action → 2 ≤ free_count c.args.core.now.table
        → IsPackedBut s.graph c.compact_all.new.core (regions_for c.args.core.now.config.words (asked_words c.args.op.now.action))
    packed leaves two =
        let same = c.compact_all.ensures.collects.config ∙ c.collect.ensures.collects.config in
        let words = ap (λ (x : Config). x.words) same in
        let regions = ap (λ (x : Config). x.regions) same in
        let over = (c.may_compact.ensures.0 c.if-may_compact.true).0 in
        let h = c.requires.asked.size in
        let f = ap (λ (x : Config). x.words) (c.config.ensures.config ∙ c.collect.ensures.collects.config) in
        let core = c.compact_all.ensures.core e in
        let at = core.layers.region_size in
        let size : c.compact_all.new.core.table.words_per_region ≡ c.args.core.now.config.words = omega (arith, at, words) in
        let takes = takes_run c.args.core.now.config.words (asked_words c.args.op.now.action) (omega (arith, over, h, f)) in
        let left = c.compact_all.ensures.collects.two (c.collect.ensures.collects.two two) in
        let run = ap (λ (n : ℕ). placement.run_count n (asked_words c.args.op.now.action)) size in
        let few = few_free c.compact_all.new.core (asked_words c.args.op.now.action)
        (regions_for c.args.core.now.config.words (asked_words c.args.op.now.action)) (takes ∙ sym run) (compact two) none left in
        packed_but s.graph w.after c.compact_all.new.core (regions_for c.args.core.now.config.words (asked_words c.args.op.now.action))
        core (c.compact_all.ensures.quiet w.after w.quiet) w.reached (dense two) left few
        (omega (arith, leaves, regions))
