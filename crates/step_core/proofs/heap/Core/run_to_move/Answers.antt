use Rattle.std.proofs.Common.{◌≡◌, ◌∙◌, ◌*◌, ◌<◌, ℕ, length, sym, ap, subst, arith}
use Rattle.regions.specs.Table.{kind_of}
use Rattle.regions.specs.declared.row.Kind.TheVariants as kinds
use Rattle.step_core.specs.Stands.{CoreState, kept_of}
use Rattle.step_core.specs.Sliding.{IsLowestMovable}
use Rattle.step_core.proofs.Cores.Sizes.{some_words}
use Rattle.step_core.proofs.Pauses.Lowest.{none_searched, lowest_found, free_searched, used_searched, none_left}
use Rattle.step_core.proofs.heap.Core.run_to_move.Goals as goal

pub loop-number-init : goal.loop-number-init
loop-number-init c = none_searched _ _

pub goes_down-requires-clause-low : goal.goes_down-requires-clause-low
goes_down-requires-clause-low c = (let low = c.loop-number.invariant.low in omega (arith, low, c.new-region.ensures))

pub returns-then-goes_down-clause-lowest : goal.returns-then-goes_down-clause-lowest
returns-then-goes_down-clause-lowest c =
    let (less, run, x, kept, small) = c.goes_down.ensures.yes c.if-goes_down.true in
    let region = c.new-region.ensures in
    let is = lowest_found c.args.self.now c.args.words c.loop-number.number c.loop-number.to c.loop-number.invariant x
    (omega (arith, less, region))
    (ap (kind_of c.args.self.now.table) (sym region) ∙ run)
    (ap (λ (n : ℕ). kept_of c.args.self.now (n * c.args.self.now.table.words_per_region)) (sym region) ∙ kept) small in
    subst (λ (n : ℕ). IsLowestMovable c.args.self.now c.args.words n c.new.result) (sym region)
    (subst (λ (n : ℕ). IsLowestMovable c.args.self.now c.args.words c.loop-number.number n) (sym c.new.ensures) is)

pub loop-number-preserved-then-not-is_free : goal.loop-number-preserved-then-not-is_free
loop-number-preserved-then-not-is_free c =
    let region = c.new-region.ensures in
    used_searched c.args.self.now c.args.words c.loop-number.number c.loop-number.to c.loop-number.invariant
    (λ free. (let inside = subst (λ (d : CoreState). kind_of d.table c.new-region.result ≡ kinds.Free) (sym c.self.view_is)
    (ap (kind_of c.args.self.now.table) region ∙ free) in
    let yes = c.is_free.ensures.1 inside in let no = c.if-not-is_free.true in cc))
    (λ less run x kept. c.goes_down.ensures.no c.if-goes_down.false (omega (arith, less, region))
    (ap (kind_of c.args.self.now.table) region ∙ run) x
    (ap (λ (n : ℕ). kept_of c.args.self.now (n * c.args.self.now.table.words_per_region)) region ∙ kept))

pub loop-number-preserved : goal.loop-number-preserved
loop-number-preserved c =
    let region = c.new-region.ensures in
    free_searched c.args.self.now c.args.words c.loop-number.number c.loop-number.to c.loop-number.invariant
    (ap (kind_of c.args.self.now.table) (sym region) ∙ subst (λ (d : CoreState). kind_of d.table c.new-region.result ≡ kinds.Free)
    c.self.view_is
    (c.is_free.ensures.0 c.if-not-is_free.false))

pub returns-clause-none : goal.returns-clause-none
returns-clause-none c =
    let z = subst (λ (d : CoreState). 0 < d.table.words_per_region) c.self.view_is (some_words _ c.self.invariant) in
    let past = c.loop-number-test.false in
    let count = subst (λ (d : CoreState). c.region_count.result ≡ length d.table.regions) c.self.view_is c.region_count.ensures in
    none_left c.args.self.now c.args.words c.loop-number.number c.loop-number.to z c.loop-number.invariant (omega (arith, past, count))
