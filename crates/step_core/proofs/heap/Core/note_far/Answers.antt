use Rattle.std.proofs.Common.{◌≡◌, ◌/◌, ◌∙◌, ℕ, true, ap, arith, subst}
use Rattle.heap_words.specs.Configs.{card_words}
use Rattle.cards.specs.Cards.{dirtied, is_dirty}
use Rattle.refinement.specs.Remembering.{field_word}
use Rattle.step_core.specs.Stands.{CoreState}
use Rattle.step_core.proofs.Mutating.Noting.{card_known, dirtied_kept, field_inside, now_dirty}
use Rattle.step_core.proofs.heap.Core.note_far.Goals as goal

pub overflow_cast-word : goal.overflow_cast-word
overflow_cast-word c =
    let inside = field_inside _ _ c.args.object c.args.field c.self.view_is c.self.invariant c.law.ensures c.requires.rooted
    c.requires.field in
    omega (arith, inside, c.law.ensures.in_all, c.field-word.ensures)

pub dirty-requires-clause-card : goal.dirty-requires-clause-card
dirty-requires-clause-card c = card_known _ _ c.args.object c.args.field _ _ c.self.view_is c.self.invariant c.law.ensures
    c.requires.rooted c.requires.field c.field-word.ensures
    (c.new.ensures ∙ c.quotient-card.ensures ∙ ap (λ (n : ℕ). c.field-word.result / n) c.card_words.ensures)

pub invariant_of-self : goal.invariant_of-self
invariant_of-self c =
    let d = c.dirty.ensures in
    dirtied_kept _ c.self.invariant c.args.mutator c.new.result _ (card_known _ _ c.args.object c.args.field _ _ c.self.view_is
    c.self.invariant c.law.ensures c.requires.rooted c.requires.field c.field-word.ensures
    (c.new.ensures ∙ c.quotient-card.ensures ∙ ap (λ (n : ℕ). c.field-word.result / n) c.card_words.ensures)) d.after d.cards d.mutators

pub returns-clause-dirty : goal.returns-clause-dirty
returns-clause-dirty c =
    let d = c.dirty.ensures in
    let card = c.new.ensures ∙ c.quotient-card.ensures ∙ ap (λ (n : ℕ). c.field-word.result / n) c.card_words.ensures in
    subst (λ (n : ℕ). is_dirty c.dirty.new.self n ≡ true)
    (card ∙ ap (λ (n : ℕ). n / card_words c.self.inside.config) c.field-word.ensures
    ∙ ap (λ (x : CoreState). field_word c.args.object c.args.field / card_words x.config) c.self.view_is)
    (now_dirty _ c.self.invariant c.args.mutator c.new.result _ (card_known _ _ c.args.object c.args.field _ _ c.self.view_is
    c.self.invariant c.law.ensures c.requires.rooted c.requires.field c.field-word.ensures card) d.after d.cards d.mutators)

pub returns-clause-cards : goal.returns-clause-cards
returns-clause-cards c =
    c.dirty.ensures.after ∙ ap (λ (n : ℕ). dirtied c.self.inside.cards c.args.mutator n)
    (c.new.ensures ∙ c.quotient-card.ensures ∙ ap (λ (n : ℕ). c.field-word.result / n) c.card_words.ensures
    ∙ ap (λ (n : ℕ). n / card_words c.self.inside.config) c.field-word.ensures)
    ∙ ap (λ (x : CoreState). dirtied x.cards c.args.mutator (field_word c.args.object c.args.field / card_words x.config)) c.self.view_is
