-- How many turns refinement takes.
use Rattle.std.specs.Prelude.{ℕ, ◌+◌, ◌-◌, ◌*◌, min}

-- how many fields of the object at an address are in the card, where the object has so many
abbrev pub card_fields : ℕ → ℕ → ℕ → ℕ → ℕ
card_fields card_words card at count =
    min (card * card_words + card_words - (at + 2)) count - (card * card_words - (at + 2))

-- a scan's turns: one for each tile in the card, and at most two for each field in it
abbrev pub scan_turns : ℕ → ℕ
scan_turns card_words = 2 * card_words + 1

-- a card's turns, where a region has so many words: before the scan the tiles of the region up to the one that holds the card's first word
abbrev pub card_turns : ℕ → ℕ → ℕ
card_turns words card_words = words + scan_turns card_words
