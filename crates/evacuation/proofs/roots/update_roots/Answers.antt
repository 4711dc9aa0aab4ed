use Rattle.std.proofs.Common.{◌+◌, ◌∙◌, ℕ, List, Option, sym, ap, subst, length, Some, [], arith, false}
use Rattle.std.specs.List.{AllZip}
use Rattle.heap_model.specs.Relocation.{IsMoved}
use Rattle.root_table.specs.Roots.{RootTable}
use Rattle.evacuation.specs.Space.{AreRootsMoved}
use Rattle.heap_model.specs.Evacuation.{place_after}
use Rattle.evacuation.specs.Turns.{in_set, layout, plan, space}
use Rattle.evacuation.proofs.Turns.Following.{after_after}
use Rattle.evacuation.proofs.Loops.RootWords.{roots_all, roots_more, roots_past, roots_rest, roots_stay, root_named, word_at}
use Rattle.remembered_sets.specs.Sets.{empty_sets}
use Rattle.evacuation.specs.declared.room.Notes.{Notes}
use Rattle.evacuation.proofs.roots.update_roots.Goals as goal

pub returns-then-regions-eq0-clause-moved : goal.returns-then-regions-eq0-clause-moved
returns-then-regions-eq0-clause-moved g c =
    let (premises, (turn, (flags, (start, none)))) = c.requires in
    subst (λ (ws : List (Option ℕ)).
    AllZip (IsMoved (place_after (in_set g.pause) (space g.pause c.args.table.now).forward)) ws c.args.roots.now.words) start
    (roots_stay (in_set g.pause) (space g.pause c.args.table.now).forward (none c.if-regions-eq0.true) c.args.roots.now.words)

pub returns-in_default-next_named-clause-moved : goal.returns-in_default-next_named-clause-moved
returns-in_default-next_named-clause-moved g c =
    roots_rest (place_after (in_set g.pause) (space g.pause c.loop-place.table).forward) g.pause.roots c.loop-place.roots.words
    c.loop-place.place c.loop-place.invariant.roots c.in_default-next_named.ensures.lowest

pub loop-place-preserved-in_default : goal.loop-place-preserved-in_default
loop-place-preserved-in_default g c =
    let next = c.in-Some-next_named.ensures.lowest in
    record {
      turn = c.loop-place.invariant.turn;
      after = c.loop-place.invariant.after;
      roots = roots_past (place_after (in_set g.pause) (space g.pause c.loop-place.table).forward) g.pause.roots c.loop-place.roots.words
          c.loop-place.place c.in-Some-next_named.next next.nil_before c.loop-place.invariant.roots next.from_on;
      places = c.loop-place.invariant.places;
    }

pub new_word-new-requires : goal.new_word-new-requires
new_word-new-requires g c =
    let (premises, (turn, (flags, (start, none)))) = c.requires in
    let here = word_at c.loop-place.roots.words c.loop-place.place c.in-Some.target c.in-Some.ensures in (
      premises,
      (
        c.loop-place.invariant.turn,
        (
          flags,
          λ a e inside.
              root_named (layout g.pause) (plan g.pause) (place_after (in_set g.pause) (space g.pause c.loop-place.table).forward)
              c.loop-place.roots.words c.loop-place.place a premises.plan_is c.loop-place.invariant.roots (here ∙ ap Some e) inside,
        ),
      ),
    )

-- what is noted doesn't matter for where copies are
no_notes : Notes
no_notes = record { at_once = false; cards = []; sets = empty_sets 0 1 0 }

pub loop-place-preserved : goal.loop-place-preserved
loop-place-preserved g c =
    let here = word_at c.loop-place.roots.words c.loop-place.place c.in-Some.target c.in-Some.ensures in
    let after = c.new_word-new.ensures.after no_notes in
    record {
      turn = c.new_word-new.ensures.turn;
      after = λ noted. after_after (layout g.pause) noted noted noted _ _ _ _ _ _
          (c.loop-place.invariant.after noted) (c.new_word-new.ensures.after noted);
      roots = subst (λ (u : RootTable). AreRootsMoved (place_after (in_set g.pause) (space g.pause c.new_word-new.new.table).forward)
          g.pause.roots u.words (c.loop-place.place + 1)) (sym c.update.ensures)
          (roots_more (in_set g.pause) (space g.pause c.loop-place.table).forward
          (space g.pause c.new_word-new.new.table).forward after.forward_grows
          g.pause.roots c.loop-place.roots.words c.loop-place.place _ c.new_word-new.result c.loop-place.invariant.roots here
          c.new_word-new.ensures.word.moved);
      places = ap (λ (u : RootTable). u.places) c.update.ensures ∙ c.loop-place.invariant.places;
    }

pub returns-clause-moved : goal.returns-clause-moved
returns-clause-moved g c =
    let (premises, (turn, (flags, (start, none)))) = c.requires in
    roots_all (place_after (in_set g.pause) (space g.pause c.loop-place.table).forward) g.pause.roots c.loop-place.roots.words
    c.loop-place.place c.loop-place.invariant.roots
    (omega (arith, c.loop-place-test.false, c.loop-place.invariant.roots.count, ap length start, c.len-end.ensures))
