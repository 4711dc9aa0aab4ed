use Rattle.std.proofs.Common.{◌∙◌, ℕ, sym, ap, subst, length, ◌/◌, ◌<◌}
use Rattle.evacuation.proofs.Slides.Noted.{notes_card, notes_none}
use Rattle.evacuation.proofs.Slides.Cards.{has_words, word_card}
use Rattle.evacuation.proofs.slide.note_word.Goals as goal

pub quotient-requires : goal.quotient-requires
quotient-requires g c =
    let (stands, (words, within)) = c.requires in
    subst (λ (n : ℕ). 0 < n) (sym words) (has_words g.slide c.args.table.now c.args.noted.now stands c.law.ensures 0)

pub set-requires : goal.set-requires
set-requires g c =
    let (stands, (words, within)) = c.requires in
    subst (λ (n : ℕ). n < length c.args.noted.now) (sym (c.quotient.ensures ∙ ap (λ (n : ℕ). c.args.word / n) words))
    (word_card g.slide c.args.table.now c.args.noted.now stands c.law.ensures c.args.word within)

pub returns-then-leads_out : goal.returns-then-leads_out
returns-then-leads_out g c =
    let (stands, (words, within)) = c.requires in
    record {
      notes = notes_card g.slide c.args.noted.now c.set.new.self c.args.word c.args.target c.quotient.result
          (subst (λ (n : ℕ). n < length c.args.noted.now) (sym (c.quotient.ensures ∙ ap (λ (n : ℕ). c.args.word / n) words))
          (word_card g.slide c.args.table.now c.args.noted.now stands c.law.ensures c.args.word within))
          (c.quotient.ensures ∙ ap (λ (n : ℕ). c.args.word / n) words)
          (λ same. c.leads_out.ensures.out c.if-leads_out.true
          (ap (λ (n : ℕ). c.args.target / n) stands.size ∙ same ∙ sym (ap (λ (n : ℕ). c.args.word / n) stands.size))) c.set.ensures;
    }

pub returns-else-leads_out : goal.returns-else-leads_out
returns-else-leads_out g c =
    let (stands, (words, within)) = c.requires in
    record {
      notes = notes_none g.slide c.args.noted.now c.args.word c.args.target
          (sym (ap (λ (n : ℕ). c.args.target / n) stands.size)
          ∙ c.leads_out.ensures.within c.if-leads_out.false ∙ ap (λ (n : ℕ). c.args.word / n) stands.size);
    }
