use Rattle.regions.proofs.Common.{arith, sym, subst, ◌≡◌, ◌*◌, ◌/◌, replicate, length, ℕ, Bool, false, List, refl, ap, ◌∙◌}
use Rattle.regions.proofs.Common.{length-replicate, Memory, AreTilesWritten, Table, HasNoForwarded, Entries, AreEntries, Starts, AreStarts}
use Rattle.regions.proofs.Common.{AreBare}
use Rattle.heap_words.specs.Configs.{card_words}
use Rattle.heap_words.proofs.Limits.{small_region, small_heap, card_power, region_cards, card_between}
use Rattle.regions.proofs.Cards.Entries.{free_entries}
use Rattle.regions.proofs.Tiles.WeakStarts.{starts_free}
use Rattle.regions.proofs.Tiles.Bare.{bare_free}
use Rattle.regions.proofs.Tiles.Within.{free_within}
use Rattle.regions.proofs.Tiles.Making.{new_table, free_table-unmoved}
use Rattle.regions.proofs.Rows.Sound.{power_is, whole_starts}
use Rattle.regions.proofs.Rows.Counting.{frees}
use Rattle.regions.proofs.Rows.UsedBelow.{used_none}
use Rattle.regions.proofs.table.RegionTable.new.Goals as goal

pub ilog2-requires : goal.ilog2-requires
ilog2-requires c =
    let s = c.in_ok-check.ensures.suits.0 refl in
    omega (arith, s.words.at_least)

pub new-requires-2-clause-power : goal.new-requires-2-clause-power
new-requires-2-clause-power c =
    let s = c.in_ok-check.ensures.suits.0 refl in
    rw c.card_words.ensures (card_power c.args.config.now s)

pub invariant_of-result : goal.invariant_of-result
invariant_of-result c =
    let s = c.in_ok-check.ensures.suits.0 refl in
    let long : length c.in-Ok.words.all ≡ c.args.config.now.regions * c.args.config.now.words =
    ap (λ (m : Memory). length m.all) c.in-Ok.ensures ∙ length-replicate {A = ℕ} _ 0 ∙ omega arith in
    let made = new_table c.args.config.now.words c.args.config.now.regions _ _ (omega (arith, s.words.at_least))
    (small_region c.args.config.now s) long (small_heap c.args.config.now s) c.in-Ok-free_rows.ensures in
    let power = power_is c.args.config.now.words c.ilog2.result s.words.power c.ilog2.ensures.power_le c.ilog2.ensures.next_power_gt in
    let whole = region_cards c.args.config.now s in
    let tiles : c.in-Ok-new.first_tiles ≡
    record {
      card_words = c.card_words.result;
      starts = replicate (c.args.config.now.regions * c.args.config.now.words / c.card_words.result) 0;
    } =
    c.in-Ok-new.ensures in
    let card = card_words c.args.config.now in
    let some = card_between c.args.config.now s in
    let len : c.in-Ok-new.first_tiles.card_words ≡ card = ap (λ (f : Entries). f.card_words) tiles ∙ c.card_words.ensures in
    let count : length c.in-Ok-new.first_tiles.starts ≡ c.args.config.now.regions * c.args.config.now.words / card =
    ap (λ (f : Entries). length f.starts) tiles ∙ length-replicate {A = ℕ} _ 0
    ∙ ap (λ (n : ℕ). c.args.config.now.regions * c.args.config.now.words / n) c.card_words.ensures in
    let flags : c.in-Ok-new-2.weak_starts.flags ≡ replicate (c.args.config.now.regions * c.args.config.now.words) false =
    ap (λ (s : Starts). s.flags) c.in-Ok-new-2.ensures in
    record {
      table = made.is_table;
      written = subst (λ (t : Table). AreTilesWritten t c.in-Ok.words.written) (sym made.table_is) (free_within _ _ _);
      power = power;
      narrow = c.ilog2.ensures.bound;
      used_below = used_none _;
      free_is = sym (rw c.in-Ok-free_rows.ensures (frees c.args.config.now.regions));
      whole_cards = rw len (c.args.config.now.words / card, whole);
      each_card =
          rw (len, count) (long ∙ sym (whole_starts c.args.config.now.regions c.args.config.now.words card (omega (arith, some.0)) whole));
      first_tiles = subst (λ (t : Table). AreEntries t c.in-Ok-new.first_tiles) (sym made.table_is) (free_entries _ _ _);
      weak_regions = ap (λ (s : Starts). s.region_words) c.in-Ok-new-2.ensures;
      weak_count = ap (λ (f : List Bool). length f) flags ∙ length-replicate {A = Bool} _ false ∙ sym long;
      weak_starts = subst (λ (t : Table). AreStarts t c.in-Ok-new-2.weak_starts.flags) (sym made.table_is) (starts_free _ _ _ _ flags);
      bare = λ _. subst (λ (t : Table). AreBare t) (sym made.table_is) (bare_free _ _);
    }

pub returns-clause-made : goal.returns-clause-made
returns-clause-made c =
    let s = c.in_ok-check.ensures.suits.0 refl in
    let long : length c.in-Ok.words.all ≡ c.args.config.now.regions * c.args.config.now.words =
    ap (λ (m : Memory). length m.all) c.in-Ok.ensures ∙ length-replicate {A = ℕ} _ 0 ∙ omega arith in
    (new_table c.args.config.now.words c.args.config.now.regions _ _ (omega (arith, s.words.at_least)) (small_region c.args.config.now s)
    long (small_heap c.args.config.now s) c.in-Ok-free_rows.ensures).table_is

pub returns-clause-unmoved : goal.returns-clause-unmoved
returns-clause-unmoved c =
    let s = c.in_ok-check.ensures.suits.0 refl in
    let long : length c.in-Ok.words.all ≡ c.args.config.now.regions * c.args.config.now.words =
    ap (λ (m : Memory). length m.all) c.in-Ok.ensures ∙ length-replicate {A = ℕ} _ 0 ∙ omega arith in
    let made = (new_table c.args.config.now.words c.args.config.now.regions _ _ (omega (arith, s.words.at_least))
    (small_region c.args.config.now s) long (small_heap c.args.config.now s) c.in-Ok-free_rows.ensures).table_is in
    subst HasNoForwarded (sym made) (free_table-unmoved c.args.config.now.regions c.args.config.now.words)
