use Rattle.regions.proofs.Common.{◌≡◌, ◌+◌, ◌^◌, ◌≤◌, ◌∙◌, refl, sym, ap, arith, max_words, Entries, IsCutOff}
use Rattle.regions.proofs.Cards.Written.{cards_reached, end_written, length_all, entries_all}
use Rattle.regions.proofs.Cards.FirstTiles.{none_cut, cut_none}
use Rattle.regions.proofs.first_tiles.FirstTiles.cut_front.Goals as goal

pub zero_below-requires-clause-within : goal.zero_below-requires-clause-within
zero_below-requires-clause-within c = cards_reached (c.args.at + c.args.filler) c.self.inside.shift c.self.inside.cards _
    c.card_from.ensures
    (rw (← c.self.view_is, length_all c.self.inside.starts.items c.self.inside.cards c.self.invariant.1, c.self.invariant.0.is)
    at c.requires.within)

pub write_cut-requires-clause-within : goal.write_cut-requires-clause-within
write_cut-requires-clause-within c = end_written (c.args.at + c.args.filler) c.self.inside.shift _ c.card_from.result c.card_from.ensures
    (omega (arith, c.zero_below.ensures.written, c.deref_mut.ensures.len))

pub returns-then-at-middle : goal.returns-then-at-middle
returns-then-at-middle c =
    rw (← c.self.view_is, c.self.invariant.0.is)
    (entries_all (2 ^ c.self.inside.shift)
    (IsCutOff (2 ^ c.self.inside.shift) c.args.at (c.args.at + c.args.size) (c.args.at + c.args.filler))
    _ c.zero_below.new.entries.items _ c.write_cut.new.entries _ c.zero_below.new.entries.len c.self.inside.cards
    (omega (arith, c.write_cut.ensures.len, c.deref_mut.ensures.len)) c.deref_mut.ensures.value c.self.invariant.1
    c.zero_below.ensures.within c.zero_below.ensures.all c.write_cut.ensures.entries)

pub returns-else-at-middle : goal.returns-else-at-middle
returns-else-at-middle c =
    let same : c.args.self.now.card_words ≡ c.self.inside.card_words = ap (λ (f : Entries). f.card_words) (sym c.self.view_is) in
    let near = c.if-at-middle.false in
    let small : c.args.at + c.args.size ≤ max_words = omega (arith, c.requires.room, c.requires.small) in
    record {
      card_words = refl;
      len = refl;
      entries = λ n. cut_none c.args.self.now.card_words c.args.at (c.args.at + c.args.size) (c.args.at + c.args.filler) n _
          (none_cut c.args.self.now.card_words c.self.inside.shift c.args.at (c.args.at + c.args.size)
          (same ∙ c.self.invariant.0.is) c.self.invariant.0.narrow small (rw same near));
    }
