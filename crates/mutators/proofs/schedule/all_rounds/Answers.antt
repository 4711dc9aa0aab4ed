use Rattle.std.proofs.Common.{◌≡◌, ◌∙◌, ◌++◌, ap, sym, refl, List, ℕ, length, append-nil, rules, arith}
use Rattle.rand_pcg.specs.Pcg.{pcg32}
use Rattle.heap_steps.specs.declared.step.Actor.{Actor}
use Rattle.mutators.specs.Draws.{lefts_of, open_places, has_background, scripted_actors}
use Rattle.mutators.proofs.Rounds.{round_keeps, round_less, rest_none, goes_on, all_gone}
use Rattle.mutators.proofs.schedule.all_rounds.Goals as goal

pub rounds-init : goal.rounds-init
rounds-init c = record {
  plan = (refl, refl);
  asked = λ was. was;
  drawn = refl;
  gone = (0, omega arith, (refl, refl));
  left = c.in_ok-unfinished.ensures;
}

pub rounds-preserved : goal.rounds-preserved
rounds-preserved c =
    let was = c.rounds.invariant in
    let plan = c.in_ok-one_round.ensures.plan in
    record {
      plan = (plan.0 ∙ was.plan.0, plan.1 ∙ was.plan.1);
      asked = λ first. c.in_ok-one_round.ensures.asked (was.asked first);
      drawn = round_keeps pcg32 (has_background c.args.markers c.args.refiners) c.rounds.journal c.one_round.new.journal c.rounds.words
          c.one_round.new.words _ c.in_ok-one_round.ensures.round plan was.drawn;
      gone = goes_on pcg32 c.args.markers c.args.refiners c.args.journal.now c.rounds.journal c.one_round.new.journal
          c.args.words c.rounds.words c.one_round.new.words was.gone c.in_ok-one_round.ensures.round
          c.in_ok-one_round.ensures.turns;
      left = c.in_ok-one_round.ensures.unfinished;
    }

pub rounds-smaller : goal.rounds-smaller
rounds-smaller c =
    round_less pcg32 (has_background c.args.markers c.args.refiners) c.rounds.journal c.one_round.new.journal c.rounds.words
    c.one_round.new.words c.in_ok-one_round.ensures.round

pub returns-clause-over : goal.returns-clause-over
returns-clause-over c = ap (λ (l : List ℕ). length l) (sym c.rounds.invariant.left) ∙ search rules

pub returns-clause-drawn : goal.returns-clause-drawn
returns-clause-drawn c =
    let d = c.rounds.journal in
    let b = has_background c.args.markers c.args.refiners in
    let over : length (open_places (lefts_of d)) ≡ 0 = ap (λ (l : List ℕ). length l) (sym c.rounds.invariant.left) ∙ search rules in
    let none = rest_none pcg32 b d c.rounds.words over in
    sym (append-nil (scripted_actors d.events))
    ∙ ap (λ (l : List Actor). scripted_actors d.events ++ l) (sym none) ∙ c.rounds.invariant.drawn

pub returns-clause-rounds : goal.returns-clause-rounds
returns-clause-rounds c =
    let over : length (open_places (lefts_of c.rounds.journal)) ≡ 0 =
    ap (λ (l : List ℕ). length l) (sym c.rounds.invariant.left) ∙ search rules in (
      c.rounds.words,
      all_gone pcg32 c.args.markers c.args.refiners c.args.journal.now c.rounds.journal c.args.words c.rounds.words
          c.rounds.invariant.gone over,
    )
