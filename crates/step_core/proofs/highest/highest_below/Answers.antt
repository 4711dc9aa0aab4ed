use Rattle.std.proofs.Common.{◌≡◌, ◌+◌, ◌-◌, ◌∙◌, arith, ◌≢◌}
use Rattle.regions.specs.declared.row.Kind.{Kind}
use Rattle.regions.specs.declared.row.Kind.TheVariants as kinds
use Rattle.step_core.proofs.Pauses.Highest.{below_free, below_other, none_further}
use Rattle.step_core.proofs.highest.highest_below.Goals as goal

-- ordinary is not free
not_free : (k : Kind) → k ≡ kinds.Ordinary → k ≢ kinds.Free
not_free k e f = cc

pub returns-then-is_ordinary-clause-free : goal.returns-then-is_ordinary-clause-free
returns-then-is_ordinary-clause-free c =
    let known = c.loop-number.invariant in
    let within = known.within in
    let at : c.loop-number.number ≡ c.new-region.result + 1 = omega (arith, c.new-region.ensures, c.loop-number-test.true) in
    known.free ∙ below_other c.args.table.now c.loop-number.number c.new-region.result at (omega (arith, within, c.requires.start))
    (not_free _ (c.is_ordinary.ensures.0 c.if-is_ordinary.true))

pub overflow_sub-free_below : goal.overflow_sub-free_below
overflow_sub-free_below c =
    let known = c.loop-number.invariant in
    let within = known.within in
    let at : c.loop-number.number ≡ c.new-region.result + 1 = omega (arith, c.new-region.ensures, c.loop-number-test.true) in
    omega (
      arith,
      known.free,
      below_free c.args.table.now c.loop-number.number c.new-region.result at (omega (arith, within, c.requires.start))
          (c.is_free.ensures.0 c.if-is_free.true),
    )

pub loop-number-preserved-then-is_free : goal.loop-number-preserved-then-is_free
loop-number-preserved-then-is_free c =
    let known = c.loop-number.invariant in
    let within = known.within in
    let at : c.loop-number.number ≡ c.new-region.result + 1 = omega (arith, c.new-region.ensures, c.loop-number-test.true) in
    let down : c.new-region.result ≡ c.loop-number.number - 1 = c.new-region.ensures in
    let more = below_free c.args.table.now c.loop-number.number c.new-region.result at (omega (arith, within, c.requires.start))
    (c.is_free.ensures.0 c.if-is_free.true) in
    record {
      within = omega (arith, within);
      free = rw (← down) (omega (arith, known.free, more));
      none = rw (← down) (none_further c.args.table.now c.loop-number.number c.new-region.result c.args.from at
          (λ o. (let t = c.is_ordinary.ensures.1 o in let f = c.if-is_ordinary.false in cc)) known.none);
    }

pub loop-number-preserved : goal.loop-number-preserved
loop-number-preserved c =
    let known = c.loop-number.invariant in
    let within = known.within in
    let at : c.loop-number.number ≡ c.new-region.result + 1 = omega (arith, c.new-region.ensures, c.loop-number-test.true) in
    let down : c.new-region.result ≡ c.loop-number.number - 1 = c.new-region.ensures in
    let same = below_other c.args.table.now c.loop-number.number c.new-region.result at (omega (arith, within, c.requires.start))
    (λ f. (let t = c.is_free.ensures.1 f in let n = c.if-is_free.false in cc)) in
    record {
      within = omega (arith, within);
      free = rw (← down) (known.free ∙ same);
      none = rw (← down) (none_further c.args.table.now c.loop-number.number c.new-region.result c.args.from at
          (λ o. (let t = c.is_ordinary.ensures.1 o in let f = c.if-is_ordinary.false in cc)) known.none);
    }
