-- What refinement by steps does to a core.
use Rattle.std.specs.Prelude.{◌≡◌, ◌⊎◌, ℕ, ◌/◌, Bool, true, false, List, [], ◌∷◌, Contains, length, drop, take, min}
use Rattle.heap_words.specs.Configs.{card_words}
use Rattle.remembered_sets.specs.Sets.{covers}
use Rattle.refinement.specs.Remembering.{LeadsInto}
use Rattle.step_core.specs.Stands.{CoreState, kept_of}

-- what is covered stays so, and what is newly covered are cards of refined cards' regions, in regions that their fields lead into
pub record GainsCards (cards : List ℕ) (c c' : CoreState) : Type 0 where
  pub stays : (region card : ℕ) → covers c.sets region card ≡ true → covers c'.sets region card ≡ true
  pub only : (region card : ℕ) → covers c'.sets region card ≡ true → (covers c.sets region card ≡ true)
      ⊎ ((x : ℕ) × Contains cards x × LeadsInto c.table.words_per_region (kept_of c) (card_words c.config) x region
      × (card / c.sets.cards_per_region ≡ x / c.sets.cards_per_region))

-- the card was the queue's front, and isn't in it now
pub record HasTaken (card : ℕ) (c c' : CoreState) : Type 0 where
  pub same : c' ≡ record c { cards = c'.cards; sets = c'.sets }
  pub queue : c.cards.queue ≡ card ∷ c'.cards.queue
  pub logs : c'.cards.logs ≡ c.cards.logs
  pub sets : GainsCards (card ∷ []) c c'
  pub cards_per_region : c'.sets.cards_per_region ≡ c.sets.cards_per_region

-- the front of the queue was refined, and nothing else of the core changed but what sets cover; or the queue is empty, and
-- nothing changed
abbrev pub RefinesCard : Bool → CoreState → CoreState → Type 0
RefinesCard true c c' = (card : ℕ) × HasTaken card c c'
RefinesCard false c c' = (c.cards.queue ≡ []) × (c' ≡ c)

-- the first n cards of the queue were refined, k at most, and fewer only if there are no more; the rest of the queue stays, and
-- what stands in the logs
pub record HasRefined (k n : ℕ) (c c' : CoreState) : Type 0 where
  pub same : c' ≡ record c { cards = c'.cards; sets = c'.sets }
  pub count : n ≡ min k (length c.cards.queue)
  pub queue : c'.cards.queue ≡ drop n c.cards.queue
  pub logs : c'.cards.logs ≡ c.cards.logs
  pub sets : GainsCards (take n c.cards.queue) c c'
