-- Where the search for a word's tile begins.
use Rattle.regions.proofs.Common.{◌≡◌, ℕ, ◌*◌, ◌/◌, ◌<◌, List, get_or, sym, ap, ◌∙◌, subst, arith, Table, top_of, Starts, Memory}
use Rattle.regions.proofs.Common.{table_of, IsRegionTable, Entries, AreEntries, LeadsTo, IsHolder, Row}
use Rattle.regions.proofs.Tiles.ShapedMade.{shaped_of}
use Rattle.regions.proofs.Words.Divides.{card_region, div_low}
use Rattle.regions.proofs.Tiles.Holders.{holder_of, holder_start, starts_agree}

-- an entry leads to the tile of a word
pub record IsLed (t : Table) (entry word : ℕ) : Type 0 where
  pub at : ℕ
  pub holder : IsHolder t at word
  pub leads : LeadsTo t entry at word

pub card_start : (size shift lowest free : ℕ) (entries : Entries) (starts : Starts) (memory : Memory) (rows : List Row) (t : Table)
    (word card : ℕ) → IsRegionTable size shift lowest free entries starts memory rows → table_of size memory.all rows ≡ t
    → word < top_of t (word / t.words_per_region) → 0 < entries.card_words → card ≡ word / entries.card_words
    → IsLed t (get_or entries.starts card 0) word
card_start size shift lowest free entries starts memory rows t word card s e h z c =
    let g = shaped_of size memory.all rows t s.table e in
    let size_is : size ≡ t.words_per_region = ap (λ (u : Table). u.words_per_region) e in
    let cards = s.whole_cards in
    let whole : t.words_per_region ≡ cards.0 * entries.card_words = sym size_is ∙ cards.1 in
    let from : ℕ = card * entries.card_words in
    let region = card_region word entries.card_words t.words_per_region cards.0 card g.positive whole (sym c) in
    let low = div_low word entries.card_words card z (sym c) in
    let below : from < top_of t (from / t.words_per_region) = subst (λ (k : ℕ). from < top_of t k) region (omega arith) in
    let of_card = holder_of t from g below in
    let of_word = holder_of t word g h in
    let same = starts_agree t of_word.0 of_card.0 word from (holder_start t of_word.0 word g of_word.1)
    (holder_start t of_card.0 from g of_card.1) region in
    let l = subst (λ (u : Table). AreEntries u entries) e s.first_tiles of_card.0 card of_card.1 in
    record {
      at = of_word.0;
      holder = of_word.1;
      leads = record { start = l.start; low = omega (arith, l.low, low); region = l.region ∙ sym same };
    }

-- the same of what a function read
pub led : (size shift lowest free : ℕ) (entries : Entries) (starts : Starts) (memory : Memory) (rows : List Row) (t : Table)
    (word top region w v card start : ℕ) → IsRegionTable size shift lowest free entries starts memory rows
    → table_of size memory.all rows ≡ t → top ≡ top_of t region → region ≡ word / t.words_per_region → w ≡ word → w < top
    → v ≡ word → card ≡ v / entries.card_words → 0 < entries.card_words → start ≡ get_or entries.starts card 0 → IsLed t start word
led size shift lowest free entries starts memory rows t word top region w v card start s e top_is region_is w_is below v_is card_is z is =
    let place : top ≡ top_of t (word / t.words_per_region) = top_is ∙ ap (top_of t) region_is in
    subst (λ (n : ℕ). IsLed t n word) (sym is)
    (card_start size shift lowest free entries starts memory rows t word card s e (omega (arith, place, w_is, below)) z
    (card_is ∙ ap (λ (n : ℕ). n / entries.card_words) v_is))
