use Rattle.std.proofs.Common.{◌+◌, ◌<◌, ◌≡◌, ℕ, subst, sym, ap, arith, length, ◌∙◌}
use Rattle.regions.specs.Shaped.{IsShaped}
use Rattle.regions.specs.Table.{run_length}
use Rattle.step_core.specs.Stands.{CoreState, ShowsGraph, KeepsFrom}
use Rattle.step_core.specs.Cleaning.{IsDeadHead, HasReleased}
use Rattle.regions.proofs.LongRuns.Blocks.{block_within}
use Rattle.step_core.proofs.Cycles.Cleaning.{Cleans, none_cleaned, one_left, one_cleaned, all_cleaned}
use Rattle.step_core.proofs.heap.Core.cleanup.Goals.{then-is_dead, else-is_dead}
use Rattle.step_core.proofs.heap.Core.cleanup.Goals as goal

pub loop-number-init : goal.loop-number-init
loop-number-init c =
    let shaped : IsShaped c.args.self.now.table = subst (λ (d : CoreState). IsShaped d.table) c.self.view_is c.law.ensures in
    record { shows = λ g s. s; keeps = λ s f. f; cleans = none_cleaned c.args.self.now shaped c.requires.idle }

pub overflow_add-number : goal.overflow_add-number
overflow_add-number c =
    let at = c.new-region.ensures in
    let law = c.law-in-loop-number.ensures in
    let known : c.loop-number.number < length c.self-in-loop-number.inside.table.regions =
    omega (arith, c.loop-number-test.true, c.region_count.ensures) in
    let fits = block_within c.self-in-loop-number.inside.table c.loop-number.number known in
    let together : c.run_length-together.result ≡ run_length c.self-in-loop-number.inside.table c.loop-number.number =
    c.run_length-together.ensures ∙ ap (run_length c.self-in-loop-number.inside.table) at in
    omega (arith, fits, together, c.region_count.ensures, c.region_count.type_inv)

pub loop-number-preserved : goal.loop-number-preserved
loop-number-preserved c =
    let at = c.new-region.ensures in
    let view = c.self-in-loop-number.view_is in
    let shaped : IsShaped c.loop-number.self.table = subst (λ (d : CoreState). IsShaped d.table) view c.law-in-loop-number.ensures in
    let known : c.loop-number.number < length c.loop-number.self.table.regions =
    (let same = ap (λ (d : CoreState). length d.table.regions) view in
    omega (arith, c.loop-number-test.true, c.region_count.ensures, same)) in
    let together : c.run_length-together.result ≡ run_length c.loop-number.self.table c.loop-number.number =
    c.run_length-together.ensures ∙ ap (λ (d : CoreState). run_length d.table c.new-region.result) view
    ∙ ap (run_length c.loop-number.self.table) at in
    let p = c.loop-number.invariant in
    elim c.if-is_dead.branch [
      | then-is_dead w ↦
          let r = w.release.ensures in
          let dead : IsDeadHead c.loop-number.self c.loop-number.number = rw at at (c.is_dead.ensures.0 w.if-is_dead.true) in
          let released : HasReleased c.loop-number.number c.run_length-together.result c.loop-number.self w.release.new.self =
          rw at at r.released in
          record {
            shows = λ g s. subst (λ (d : CoreState). ShowsGraph g d) (sym w.self-is) (r.shows g (p.shows g s));
            keeps = λ s f. subst (λ (d : CoreState). KeepsFrom s d) (sym w.self-is) (r.keeps s (p.keeps s f));
            cleans = subst (λ (d : CoreState).
                Cleans (c.loop-number.number + c.run_length-together.result) c.if-is_dead.count c.args.self.now d) (sym w.self-is)
                (subst (λ (n : ℕ).
                Cleans (c.loop-number.number + c.run_length-together.result) n c.args.self.now w.release.new.self) (sym w.count-is)
                (one_cleaned c.loop-number.number c.loop-number.count c.run_length-together.result c.args.self.now c.loop-number.self
                w.release.new.self shaped p.cleans together dead released));
          }
      | else-is_dead w ↦
          record {
            shows = λ g s. subst (λ (d : CoreState). ShowsGraph g d) (sym w.self-is) (p.shows g s);
            keeps = λ s f. subst (λ (d : CoreState). KeepsFrom s d) (sym w.self-is) (p.keeps s f);
            cleans = subst (λ (d : CoreState).
                Cleans (c.loop-number.number + c.run_length-together.result) c.if-is_dead.count c.args.self.now d) (sym w.self-is)
                (subst (λ (n : ℕ).
                Cleans (c.loop-number.number + c.run_length-together.result) n c.args.self.now c.loop-number.self) (sym w.count-is)
                (one_left c.loop-number.number c.loop-number.count c.run_length-together.result c.args.self.now
                c.loop-number.self shaped p.cleans known together
                (λ dead. let yes = c.is_dead.ensures.1 (subst (λ (n : ℕ). IsDeadHead c.loop-number.self n) (sym at) dead) in
                let no = w.if-is_dead.false in
                cc)));
          }
    ]

pub returns-clause-cleaned : goal.returns-clause-cleaned
returns-clause-cleaned c =
    let shaped : IsShaped c.args.self.now.table = subst (λ (d : CoreState). IsShaped d.table) c.self.view_is c.law.ensures in
    let same = ap (λ (d : CoreState). length d.table.regions) c.self-in-loop-number.view_is in
    let p = c.loop-number.invariant.cleans in
    all_cleaned c.loop-number.number c.loop-number.count c.args.self.now c.loop-number.self shaped p
    (omega (arith, c.loop-number-test.false, c.region_count.ensures, same, p.size))

pub release-requires-clause-settled : goal.release-requires-clause-settled
release-requires-clause-settled c =
    ap (λ (d : CoreState). d.clearing) c.loop-number.invariant.cleans.changes.same ∙ c.requires.settled
