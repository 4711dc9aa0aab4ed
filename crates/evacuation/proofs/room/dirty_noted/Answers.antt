use Rattle.std.proofs.Common.{rules, arith, ◌+◌, ◌∷◌, [], ◌++◌, ℕ, List, subst, sym, ap, ◌∙◌}
use Rattle.std.proofs.lemmas.Grind.{common_steps}
use Rattle.cards.specs.Cards.{Cards}
use Rattle.evacuation.proofs.WholePause.RisingQueue.{RiseBelow, none_rise, none_queued, rise_push, rise_to}
use Rattle.evacuation.proofs.room.dirty_noted.Goals as goal

pub loop-card-init : goal.loop-card-init
loop-card-init c = record {
  below = search rules;
  above = λ k h. c.requires.clean k;
  rise = subst (RiseBelow 0) (sym (none_queued c.args.cards.now c.law.ensures.listed c.requires.clean)) none_rise;
  inside = omega arith;
  logs = search rules;
  len = search rules;
}

pub loop-card-preserved : goal.loop-card-preserved
loop-card-preserved c = record {
  below = grind (arith, common_steps);
  above = grind (arith, common_steps);
  rise =
      subst (λ (q : List ℕ). RiseBelow (c.in-Some.card + 1) q)
      (sym (ap (λ (t : Cards). t.queue) c.append.ensures ∙ ap (λ (n : ℕ). c.loop-card.cards.queue ++ n ∷ []) c.new.ensures))
      (rise_push c.in-Some.card c.loop-card.cards.queue
      (rise_to c.loop-card.start c.in-Some.card c.loop-card.cards.queue c.in-Some.ensures.lowest.at_least c.loop-card.invariant.rise));
  inside = omega (arith, c.in-Some.ensures.within);
  logs = grind (arith, common_steps);
  len = grind (arith, common_steps);
}
