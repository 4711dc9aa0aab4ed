use Rattle.std.proofs.Common.{◌≡◌, ◌+◌, ◌*◌, ◌≤◌, ◌∙◌, ℕ, ap, arith, sym}
use Rattle.heap_words.specs.Configs.{card_words}
use Rattle.refinement.specs.Turns.{card_turns}
use Rattle.step_core.specs.Stands.{CoreState}
use Rattle.step_core.proofs.Pauses.Refined.{one_more, queue_ended, all_refined}
use Rattle.step_core.proofs.heap.Core.refine_counted.Goals as goal

-- a card more
more_spent : (done turns before spent now : ℕ) → spent ≤ before + done * turns → now ≤ spent + turns → now ≤ before + (done + 1) * turns
more_spent done turns before spent now was more = omega (arith, was, more)

-- all cards
all_spent : (done cards turns before spent : ℕ) → done ≡ cards → spent ≤ before + done * turns → spent ≤ before + cards * turns + 1
all_spent done cards turns before spent all was = let is = ap (λ (n : ℕ). n * turns) all in omega (arith, was, is)

pub refine_card-requires : goal.refine_card-requires
refine_card-requires c =
    c.card_words-words.ensures ∙ ap (λ (d : CoreState). card_words d.config) c.self.view_is
    ∙ sym (ap (λ (d : CoreState). card_words d.config) c.loop-done.invariant.refines.same)

pub returns-then-not-refine_card-clause-refined : goal.returns-then-not-refine_card-clause-refined
returns-then-not-refine_card-clause-refined c =
    queue_ended c.args.cards c.loop-done.done c.args.self.now c.loop-done.self c.refine_card.new.self c.loop-done.invariant.refines
    c.loop-done.auto.done-end c.if-not-refine_card.ensures.refined

pub loop-done-preserved : goal.loop-done-preserved
loop-done-preserved c = record {
  shows = λ g s. c.refine_card.ensures.shows g (c.loop-done.invariant.shows g s);
  keeps = λ s f. c.refine_card.ensures.keeps s (c.loop-done.invariant.keeps s f);
  refines = one_more c.loop-done.done c.args.self.now c.loop-done.self c.refine_card.new.self
      c.loop-done.invariant.refines c.if-not-refine_card.ensures.refined;
  spent =
      let same : card_turns c.loop-done.self.table.words_per_region (card_words c.loop-done.self.config)
      ≡ card_turns c.args.self.now.table.words_per_region (card_words c.args.self.now.config) =
      ap (λ (d : CoreState). card_turns d.table.words_per_region (card_words d.config)) c.loop-done.invariant.refines.same in
      more_spent _ _ _ _ _ c.loop-done.invariant.spent (omega (arith, c.tick.ensures, c.if-not-refine_card.ensures.work, same));
}

pub returns-then-not-refine_card-clause-work : goal.returns-then-not-refine_card-clause-work
returns-then-not-refine_card-clause-work c =
    omega (arith, c.loop-done.invariant.spent, c.tick.ensures, c.if-not-refine_card.ensures.work)

pub returns-clause-work : goal.returns-clause-work
returns-clause-work c =
    let all : c.loop-done.done ≡ c.args.cards = omega (arith, c.loop-done.auto.done-end, c.loop-done-test.false) in
    all_spent _ _ _ _ _ all c.loop-done.invariant.spent

pub returns-clause-refined : goal.returns-clause-refined
returns-clause-refined c = all_refined _ _ _ _ c.loop-done.invariant.refines c.loop-done.auto.done-end c.loop-done-test.false
