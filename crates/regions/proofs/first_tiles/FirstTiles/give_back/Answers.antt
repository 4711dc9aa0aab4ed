use Rattle.regions.proofs.Common.{◌≡◌, ◌*◌, ◌<◌, ◌^◌, ◌∙◌, ℕ, List, get_or, sym, ap, subst, pow_pos, Entries}
use Rattle.heap_words.specs.Memory.{memory}
use Rattle.regions.proofs.Cards.Given.{entry_stays}
use Rattle.regions.proofs.first_tiles.FirstTiles.give_back.Goals as goal

pub returns-clause-below : goal.returns-clause-below
returns-clause-below c k h =
    let width : c.args.self.now.card_words ≡ 2 ^ c.self.inside.shift =
    sym (ap (λ (e : Entries). e.card_words) c.self.view_is) ∙ c.self.invariant.0.is in
    let low : k * 2 ^ c.self.inside.shift < c.args.end = subst (λ (n : ℕ). k * n < c.args.end) width h in
    ap (λ (l : List ℕ). get_or (memory l c.self.inside.cards).all k 0) (c.give_back.ensures.items ∙ c.truncate.ensures.items)
    ∙ entry_stays c.self.inside.starts.items c.self.inside.cards c.card_from-past.result (2 ^ c.self.inside.shift) c.args.end k
    (pow_pos c.self.inside.shift) c.card_from-past.ensures low
    ∙ ap (λ (e : Entries). get_or e.starts k 0) c.self.view_is
