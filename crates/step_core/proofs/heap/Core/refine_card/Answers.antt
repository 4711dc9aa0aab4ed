use Rattle.std.proofs.Common.{◌≡◌, ◌∙◌, ◌+◌, ◌≤◌, if◌then◌else◌, ap, subst, sym}
use Rattle.heap_words.specs.Configs.{card_words}
use Rattle.remembered_sets.specs.Owed.{owed}
use Rattle.refinement.specs.Turns.{card_turns}
use Rattle.step_core.specs.Stands.{CoreState, ShowsGraph, KeepsFrom}
use Rattle.step_core.proofs.Cycles.Cycling.{to_fields}
use Rattle.step_core.proofs.Pauses.Refined.{can_scan, cards_show, cards_keep, refined_kept, refined_from}
use Rattle.step_core.proofs.heap.Core.refine_card.Goals as goal

pub refine_one_counted-requires-clause-stands : goal.refine_one_counted-requires-clause-stands
refine_one_counted-requires-clause-stands c =
    let words : c.args.words ≡ card_words c.self.inside.config =
    c.requires ∙ ap (λ (d : CoreState). card_words d.config) (sym c.self.view_is) in
    rw words (can_scan _ c.self.invariant c.law.ensures)

pub refine_one_counted-requires-clause-cards : goal.refine_one_counted-requires-clause-cards
refine_one_counted-requires-clause-cards c = c.self.invariant.cards.each_card

pub invariant_of-self : goal.invariant_of-self
invariant_of-self c =
    let words : c.args.words ≡ card_words c.self.inside.config =
    c.requires ∙ ap (λ (d : CoreState). card_words d.config) (sym c.self.view_is) in
    let r = rw words at c.refine_one_counted.ensures in
    refined_kept _ c.self.invariant _ _ _ r.stands r.cards r.refines r.remembers

pub returns : goal.returns
returns c =
    let words : c.args.words ≡ card_words c.self.inside.config =
    c.requires ∙ ap (λ (d : CoreState). card_words d.config) (sym c.self.view_is) in
    let r = rw words at c.refine_one_counted.ensures in
    record {
      shows = λ g s. cards_show _ c.self.invariant _ _ _ r.stands r.cards r.refines r.remembers g
          (to_fields _ _ c.self.view_is (λ d. ShowsGraph g d) s);
      keeps = λ s f. cards_keep _ c.self.invariant _ _ _ r.stands r.cards r.refines r.remembers s
          (to_fields _ _ c.self.view_is (λ d. KeepsFrom s d) f);
      refined = refined_from _ c.self.invariant _ _ _ r.stands r.cards r.refines r.remembers _ c.self.view_is;
      work = subst (λ (d : CoreState). c.refine_one_counted.new.work + owed c.refine_one_counted.new.sets ≤ c.args.work.now + owed d.sets
          + (if c.refine_one_counted.result then card_turns d.table.words_per_region (card_words d.config) else 0)) c.self.view_is r.work;
    }
