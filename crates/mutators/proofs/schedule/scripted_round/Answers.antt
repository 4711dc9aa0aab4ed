use Rattle.std.proofs.Common.{◌≡◌, ◌<◌, ap, subst, sym, refl, arith, rules, ℕ, ◌%◌, length, List}
use Rattle.heap_steps.specs.declared.step.Step.{Step}
use Rattle.mutators.specs.Draws.{lefts_of, one_less}
use Rattle.mutators.proofs.Rounds.{picked, picked_turn, kept, few_open}
use Rattle.mutators.proofs.Drops.{left_here, lefts_len}
use Rattle.mutators.proofs.Rows.{place_is}
use Rattle.mutators.proofs.schedule.scripted_round.Goals as goal

pub overflow_cast-n : goal.overflow_cast-n
overflow_cast-n c =
    let few = few_open c.args.journal.now c.args.unfinished.now.items c.mutators-mutators.ensures.keeps c.requires.unfinished in
    let count : c.len.result ≡ length c.args.unfinished.now.items = search rules in
    omega (arith, count, few)

pub scripted_at-requires-clause-place : goal.scripted_at-requires-clause-place
scripted_at-requires-clause-place c =
    let at = picked c.args.journal.now c.args.word c.len.result c.index-place.result.now c.args.unfinished.now.items
    c.mutators-mutators.ensures.keeps c.requires.unfinished c.requires.some (search rules) c.index-place.ensures in
    omega (arith, at.1, c.mutators-mutators.ensures.value)

pub is_left-requires : goal.is_left-requires
is_left-requires c =
    let at = picked c.args.journal.now c.args.word c.len.result c.index-place.result.now c.args.unfinished.now.items
    c.mutators-mutators.ensures.keeps c.requires.unfinished c.requires.some (search rules) c.index-place.ensures in
    omega (arith, at.1, ap (λ x. x.mutators) c.in_ok-turn_at.ensures.plan.0)

pub returns : goal.returns
returns c =
    let at = picked c.args.journal.now c.args.word c.len.result c.index-place.result.now c.args.unfinished.now.items
    c.mutators-mutators.ensures.keeps c.requires.unfinished c.requires.some (search rules) c.index-place.ensures in
    let turn = picked_turn c.args.journal.now c.turn_at.new.self c.in_ok-turn_at.field-0 c.scripted_at.result c.args.word
    c.index-place.result.now c.mutators-mutators.result c.mutators-mutators.ensures.keeps
    c.mutators-mutators.ensures.value at c.scripted_at.ensures.is c.in_ok-turn_at.ensures.turn
    c.in_ok-turn_at.ensures.plan in
    let d = c.args.journal.now in
    let e = c.turn_at.new.self in
    let p = c.index-place.result.now in
    let n = c.args.word % c.len.result in
    let count : c.len.result ≡ length c.args.unfinished.now.items = search rules in
    let below : n < length c.args.unfinished.now.items = omega (arith, count, c.requires.some) in
    let len = lefts_len d d refl c.mutators-mutators.ensures.keeps in
    let row : p < length e.scripts = omega (arith, at.1, len, ap (λ (l : List (List Step)). length l) c.in_ok-turn_at.ensures.plan.1) in
    let here = left_here e p row in
    record {
      plan = c.in_ok-turn_at.ensures.plan;
      picks = turn.0;
      takes = turn.1;
      unfinished = kept (lefts_of d) (lefts_of e) c.args.unfinished.now.items n p c.is_left.result c.keep_if.new.places.items
          c.requires.unfinished below (place_is c.args.unfinished.now.items n p below c.index-place.ensures)
          (subst (λ (k : ℕ). lefts_of e ≡ one_less (lefts_of d) k) (sym at.0) turn.0.left) at.2 (omega (arith, at.1, len))
          (λ h. here.0 (c.is_left.ensures.left h)) (λ h. here.1 (c.is_left.ensures.over h)) c.keep_if.ensures;
      asked = turn.2;
    }
