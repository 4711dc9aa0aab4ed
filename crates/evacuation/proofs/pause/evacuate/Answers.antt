use Rattle.std.proofs.Common.{◌≡◌, ◌∙◌, ◌+◌, ◌*◌, ◌/◌, ◌∷◌, ℕ, sym, ap, refl, subst, length, false, zero, suc, true, List, []}
use Rattle.std.proofs.Common.{Bool, replicate, arith, Vec, vec_len}
use Rattle.std.specs.Vec.{with_items}
use Rattle.std.proofs.lemmas.List.{length-replicate, with_items_is}
use Rattle.regions.proofs.Words.Sizes.{EachForwardedIn-imp}
use Rattle.region_choice.specs.declared.LiveRow.{LiveRow}
use Rattle.evacuation.specs.Evacuates.{HasEvacuated, Layers, MarksAfter, all_layers, is_chosen}
use Rattle.remembered_sets.specs.Sets.{Sets}
use Rattle.evacuation.specs.Releasing.{AreCleared}
use Rattle.evacuation.specs.Rooms.{RoomSizes}
use Rattle.evacuation.specs.Space.{flag}
use Rattle.evacuation.specs.Turns.{Pause, PauseStands, in_set}
use Rattle.evacuation.specs.declared.room.Context.{Context}
use Rattle.regions.specs.Table.{Table}
use Rattle.evacuation.proofs.WholePause.Asked as asked
use Rattle.evacuation.proofs.WholePause.HeapAfter as final
use Rattle.evacuation.proofs.pause.evacuate.Goals as goal

none_chosen : (rows : List LiveRow) (k : ℕ) → length rows ≡ 0 → is_chosen rows k ≡ false
none_chosen [] k e = refl
none_chosen (row ∷ rows) k e = absurd (omega arith)

none_noted : (n k : ℕ) → flag (replicate n false) k ≡ true → ⊥
none_noted zero k e = absurd cc
none_noted (suc n) zero e = absurd cc
none_noted (suc n) (suc k) e = none_noted n k e

-- a room's flags, once they are the set's
set_flags : {Z : Type 0} (v : Vec Bool Z) (set : List Bool) (rows : List LiveRow) (n : ℕ) → length set ≡ v.len → v.len ≡ n
    → ((k : ℕ) → flag set k ≡ is_chosen rows k)
    → ((k : ℕ) → flag (with_items v set).items k ≡ is_chosen rows k) × (length (with_items v set).items ≡ n)
set_flags v set rows n each known are =
    let same = with_items_is v set each in
    (λ k. ap (λ (m : List Bool). flag m k) same ∙ are k, ap length same ∙ each ∙ known)

pub copy_reached-requires : goal.copy_reached-requires
copy_reached-requires c =
    let h : Layers =
    all_layers c.args.table.now c.args.tams.now c.args.bitmaps.now c.args.cards.now c.args.sets.now c.args.roots.now.words in
    let room = c.room.inside.context in
    let regions = ap (λ (s : RoomSizes). s.regions) c.room.view_is ∙ c.requires.each_region in
    let cards = ap (λ (s : RoomSizes). s.cards) c.room.view_is ∙ c.requires.each_card in
    let (are, len) = set_flags room.chosen c.flag_chosen.new.set c.args.chosen.now (length c.args.table.now.regions)
    (c.flag_chosen.ensures.len ∙ c.deref_mut.ensures.len) regions c.flag_chosen.ensures.flags in
    let flags = (with_items room.chosen c.flag_chosen.new.set).items in
    let stands = asked.stands h c.args.chosen.now c.args.card_words c.requires.can c.law.ensures flags are len
    (length room.destinations.regions + room.destinations.room) _ c.close.ensures (c.room.invariant.each_region ∙ regions) refl refl
    (ap length c.clear.ensures ∙ length-replicate (length room.noted.cards) false ∙ cards) c.swap.ensures.y_after in
    let visited = asked.visits_all h c.args.chosen.now c.args.card_words c.requires.can c.law.ensures flags are len
    c.flag_visited.new.visited c.flag_visited.ensures.flags (c.flag_visited.ensures.len ∙ c.room.invariant.each_card ∙ cards) in (
      stands,
      (
        record { tams = refl; marks = refl },
        (
          visited,
          (
            refl,
            (
              refl,
              λ e a. are (a / c.args.table.now.words_per_region)
                  ∙ none_chosen c.args.chosen.now (a / c.args.table.now.words_per_region) e,
            ),
          ),
        ),
      ),
    )

pub release_chosen-requires-clause-unmoved : goal.release_chosen-requires-clause-unmoved
release_chosen-requires-clause-unmoved c =
    let h : Layers =
    all_layers c.args.table.now c.args.tams.now c.args.bitmaps.now c.args.cards.now c.args.sets.now c.args.roots.now.words in
    let room = c.room.inside.context in
    let regions = ap (λ (s : RoomSizes). s.regions) c.room.view_is ∙ c.requires.each_region in
    let (are, len) = set_flags room.chosen c.flag_chosen.new.set c.args.chosen.now (length c.args.table.now.regions)
    (c.flag_chosen.ensures.len ∙ c.deref_mut.ensures.len) regions c.flag_chosen.ensures.flags in
    let flags = (with_items room.chosen c.flag_chosen.new.set).items in
    let s = c.copy_reached.ensures.goes_on.stands.turn.table in
    EachForwardedIn-imp
    (λ to. in_set (asked.pause h c.args.chosen.now c.args.card_words c.requires.can c.law.ensures flags are len) to ≡ false)
    (λ to. is_chosen c.args.chosen.now (to / c.copy_reached.new.table.words_per_region) ≡ false) c.copy_reached.new.table.regions
    (λ to o. ap (λ (n : ℕ). is_chosen c.args.chosen.now (to / n)) s.size ∙ sym (are (to / c.args.table.now.words_per_region)) ∙ o) s.targets

pub release_chosen-requires-clause-layers : goal.release_chosen-requires-clause-layers
release_chosen-requires-clause-layers c =
    let can = c.requires.can in
    let s = c.copy_reached.ensures.goes_on.stands.turn.table in
    let words : length c.args.table.now.regions * c.args.table.now.words_per_region
    ≡ length c.copy_reached.new.table.regions * c.copy_reached.new.table.words_per_region =
    rw (s.count, s.size) refl in
    record {
      previous = can.previous.each_word ∙ words;
      next = can.next.each_word ∙ words;
      previous_tops = can.previous.each_region ∙ sym s.count;
      next_tops = can.next.each_region ∙ sym s.count;
      each_set = ap (λ (x : Sets). length x.sets) c.swap-2.ensures.x_after ∙ c.copy_reached.ensures.goes_on.stands.notes.each_set
          ∙ sym s.count;
    }

pub returns-clause-evacuated : goal.returns-clause-evacuated
returns-clause-evacuated c =
    let h : Layers =
    all_layers c.args.table.now c.args.tams.now c.args.bitmaps.now c.args.cards.now c.args.sets.now c.args.roots.now.words in
    let room = c.room.inside.context in
    let regions = ap (λ (s : RoomSizes). s.regions) c.room.view_is ∙ c.requires.each_region in
    let (are, len) = set_flags room.chosen c.flag_chosen.new.set c.args.chosen.now (length c.args.table.now.regions)
    (c.flag_chosen.ensures.len ∙ c.deref_mut.ensures.len) regions c.flag_chosen.ensures.flags in
    let flags = (with_items room.chosen c.flag_chosen.new.set).items in
    let on = c.copy_reached.ensures.goes_on in
    let gone = c.release_chosen.ensures in
    let z = on.stands.turn.table.size in
    let previous = subst (λ (n : ℕ). MarksAfter n (is_chosen c.args.chosen.now) c.args.tams.now.previous c.release_chosen.new.tams.previous
    c.args.bitmaps.now.previous c.release_chosen.new.bitmaps.previous) z gone.previous in
    let next = subst (λ (n : ℕ). MarksAfter n (is_chosen c.args.chosen.now) c.args.tams.now.next c.release_chosen.new.tams.next
    c.args.bitmaps.now.next c.release_chosen.new.bitmaps.next) z gone.next in
    let dirty = c.dirty_noted.ensures in
    let all = final.evacuated h c.args.chosen.now c.args.card_words c.requires.can c.law.ensures flags are len c.copy_reached.new.table
    c.copy_reached.new.context on.stands.turn c.release_chosen.new.table gone.table gone.count
    c.release_chosen.new.tams c.release_chosen.new.bitmaps.previous c.release_chosen.new.bitmaps.next c.dirty_noted.new.cards
    c.release_chosen.new.sets c.copy_reached.new.roots.words c.law-2.ensures previous next
    (subst (λ (x : Sets). AreCleared (is_chosen c.args.chosen.now) x c.release_chosen.new.sets) c.swap-2.ensures.x_after gone.sets)
    dirty.dirty dirty.logs
    dirty.queue dirty.len c.copy_reached.ensures.copied _ c.swap.ensures.y_after
    (λ k e. none_noted (length room.noted.cards) k (ap (λ (m : List Bool). flag m k) (sym c.clear.ensures) ∙ e))
    on.after.noted_grows on.after.noted_for in
    subst (λ (n : ℕ). HasEvacuated c.args.chosen.now c.args.at_once c.args.card_words n h
    (all_layers c.release_chosen.new.table c.release_chosen.new.tams c.release_chosen.new.bitmaps c.dirty_noted.new.cards
    c.release_chosen.new.sets c.copy_reached.new.roots.words)) (sym c.words.ensures) all

-- the room is as large as before
each_flag : (p : Pause) (t : Table) (x : Context) → PauseStands p t x → vec_len x.chosen ≡ length p.start.regions
each_flag p t x stands =
    let all = ap length stands.flags in
    let each = stands.premises.each_region in
    let items = x.chosen.ok.0 in
    omega (arith, all, each, items)

abbrev sizes : ℕ → ℕ → RoomSizes
sizes regions cards = record { regions = regions; cards = cards }

same_sizes : (a b m n : ℕ) → a ≡ m → b ≡ n → sizes a b ≡ sizes m n
same_sizes a b m n e f = cc

pub returns-clause-room : goal.returns-clause-room
returns-clause-room c =
    let on = c.copy_reached.ensures.goes_on in
    let room = c.room.inside.context in
    let regions = ap (λ (s : RoomSizes). s.regions) c.room.view_is ∙ c.requires.each_region in
    let cards = on.after.noted_grows.count ∙ ap length c.clear.ensures ∙ length-replicate (length room.noted.cards) false in
    same_sizes _ _ _ _ (each_flag _ _ _ on.stands ∙ sym regions) cards ∙ c.room.view_is

pub invariant_of-room : goal.invariant_of-room
invariant_of-room c =
    let on = c.copy_reached.ensures.goes_on in
    let room = c.room.inside.context in
    let cards = on.after.noted_grows.count ∙ ap length c.clear.ensures ∙ length-replicate (length room.noted.cards) false in
    record {
      each_card = c.flag_visited.ensures.len ∙ c.room.invariant.each_card ∙ sym cards;
      each_region = on.stands.turn.copying.places ∙ sym (each_flag _ _ _ on.stands);
    }
