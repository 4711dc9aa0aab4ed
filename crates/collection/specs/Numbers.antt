-- A policy's numbers, as far as anything is said of them.
use Rattle.std.specs.Prelude.{◌≡◌, ◌-◌, ◌*◌, ◌/◌, ◌≤◌, ◌^◌, min, max}
use Rattle.heap_words.specs.declared.config.Config.{Config}
use Rattle.collection.specs.declared.numbers.Policy.{Policy}

-- a policy that begins: a look comes before its first object, no cycle and no evacuation is under way, nothing was counted, a pause may
-- copy four regions and 98,304 words at least, as far as a number of 32 bits says so, and regions of 16,777,216 words are in play, at least
-- 64
pub record IsStarted (config : Config) (p : Policy) : Type 0 where
  pub reserve : p.reserve ≡ max (config.regions / 24) 3
  pub pause_regions : min (config.words * 4) (2 ^ 32 - 1) ≤ p.pause_words
  pub pause_words : 98304 ≤ p.pause_words
  pub mark_regions : min (config.words * 4) (2 ^ 32 - 1) ≤ p.mark_words
  pub young_words : p.young_words ≡ 131072
  pub cards_left : p.cards_left ≡ 4096
  pub clear_objects : p.clear_objects ≡ 16384
  pub least : p.least ≡ min (max (16777216 / max config.words 1) 64) config.regions
  pub held : p.held ≡ config.regions - p.least
  pub visit_cards : p.visit_cards ≡ min (max config.words 16384) 65536
  pub left : p.left ≡ 0
  pub wanted : p.wanted ≡ 0
  pub young : p.young ≡ 0
  pub asked : p.asked ≡ 0
  pub cycles : p.cycles ≡ 0
  pub scanned : p.scanned ≡ 0
  pub pauses : p.pauses ≡ 0
  pub copied : p.copied ≡ 0
  pub compactions : p.compactions ≡ 0
  pub compacted : p.compacted ≡ 0
