use Rattle.std.proofs.Common.{refl, ◌∙◌, length}
use Rattle.evacuation.specs.Turns.{PauseGoesOn, PauseStands, in_set, space}
use Rattle.evacuation.proofs.Turns.Following.{goes_further, turned}
use Rattle.evacuation.proofs.Loops.OutsideCards.{clean_on}
use Rattle.evacuation.proofs.Turns.AllCopied.{all_copied}
use Rattle.evacuation.proofs.Loops.RootWords.{roots_grow}
use Rattle.evacuation.proofs.pause.copy_reached.Goals as goal

pub update_roots-requires : goal.update_roots-requires
update_roots-requires g c =
    let (stands, (kept, (visited, (start, (roots, none))))) = c.requires in
    (stands.premises, (stands.turn, (c.deref.ensures.value ∙ stands.flags, (roots, none))))

pub update_cards-requires : goal.update_cards-requires
update_cards-requires g c =
    let (stands, (kept, (visited, (start, (roots, none))))) = c.requires in
    let now : PauseStands g.pause c.update_roots.new.table (record c.args.context.now { destinations = c.update_roots.new.destinations }) =
    turned stands refl refl c.update_roots.ensures.turn stands.notes in
    (now, (kept, visited.each_card))

pub settle_copies-requires : goal.settle_copies-requires
settle_copies-requires g c = c.update_cards.ensures.goes_on.stands

pub returns : goal.returns
returns g c =
    let (stands, (kept, (visited, (start, (roots, none))))) = c.requires in
    let rooted : PauseGoesOn g.pause c.args.table.now c.update_roots.new.table c.args.context.now
    (record c.args.context.now { destinations = c.update_roots.new.destinations }) =
    record {
      stands = turned stands refl refl c.update_roots.ensures.turn stands.notes;
      after = c.update_roots.ensures.after c.args.context.now.noted;
    } in
    let cards = c.update_cards.ensures.goes_on in
    let copies = c.settle_copies.ensures.goes_on in
    let on = goes_further rooted (goes_further cards copies) in
    let moved = roots_grow (in_set g.pause) (space g.pause c.update_roots.new.table).forward
    (space g.pause c.settle_copies.new.table).forward
    (λ a b e. copies.after.forward_grows a b (cards.after.forward_grows a b e)) g.pause.roots
    c.update_roots.new.roots.words c.update_roots.ensures.moved in
    let clean = clean_on g.pause c.update_cards.new.table c.settle_copies.new.table c.update_cards.new.context
    c.settle_copies.new.context c.args.visited.now (length c.args.visited.now) cards.stands copies c.update_cards.ensures.clean in
    record {
      goes_on = on;
      copied = all_copied g.pause c.args.visited.now c.args.table.now c.settle_copies.new.table c.args.context.now
          c.settle_copies.new.context c.update_roots.new.roots.words on start moved c.settle_copies.ensures.settled visited clean;
      places = c.update_roots.ensures.places;
    }
