-- The sizes that a heap can have.
use Rattle.std.specs.Prelude.{ℕ, ◌+◌, ◌*◌, ◌^◌, ◌≤◌, min, IsTrue}
use Rattle.std.specs.Int.{is_power_of_two}
use Rattle.heap_words.specs.declared.config.Config.{Config}
use Rattle.heap_words.specs.declared.config.Format.{Format}
use Rattle.heap_words.specs.declared.config.Format.TheVariants.{V1, V2, V3}
use Rattle.heap_words.specs.declared.config.NewFault.{NewFault}
use Rattle.heap_words.specs.declared.config.NewFault.TheVariants.{BadRegions, BadWords, BadBuffer, BadMutators}
use Rattle.heap_words.specs.declared.config.NewFault.TheVariants.{NoMemory, BadCard, BadGlobals, BadRegisters, BadRoots}

-- the most regions of any format, the most words of a region, and of a heap
abbrev pub max_regions : ℕ
max_regions = 2 ^ 14

abbrev pub max_region_words : ℕ
max_region_words = 2 ^ 22

abbrev pub max_words : ℕ
max_words = 2 ^ 31

-- the most words of an object: so its header can say its counts
abbrev pub max_object_words : ℕ
max_object_words = 2 ^ 24

-- the most mutators of any format
abbrev pub max_mutators : ℕ
max_mutators = 64

-- the most globals, and the most registers of a mutator; the most roots in all
abbrev pub max_globals : ℕ
max_globals = 2 ^ 16

abbrev pub max_registers : ℕ
max_registers = 2 ^ 16

abbrev pub max_roots : ℕ
max_roots = 2 ^ 20

-- the most words of a region, and of a heap, the most regions and the most mutators that a heap line of the format may ask for
abbrev pub region_limit : Format → ℕ
region_limit V1 = 2 ^ 12
region_limit (V2 card) = 2 ^ 14
region_limit (V3 card globals registers) = max_region_words

abbrev pub heap_limit : Format → ℕ
heap_limit V1 = 2 ^ 20
heap_limit (V2 card) = 2 ^ 24
heap_limit (V3 card globals registers) = max_words

abbrev pub count_limit : Format → ℕ
count_limit V1 = 1024
count_limit (V2 card) = 1024
count_limit (V3 card globals registers) = max_regions

abbrev pub mutator_limit : Format → ℕ
mutator_limit V1 = 16
mutator_limit (V2 card) = 16
mutator_limit (V3 card globals registers) = max_mutators

pub record HasRegions (c : Config) : Type 0 where
  pub at_least : 2 ≤ c.regions
  pub at_most : c.regions ≤ count_limit c.format

pub record HasWords (c : Config) : Type 0 where
  pub power : IsTrue (is_power_of_two c.words)
  pub at_least : 16 ≤ c.words
  pub at_most : c.words ≤ region_limit c.format
  pub in_all : c.regions * c.words ≤ heap_limit c.format

-- a buffer is at most half a region
pub record HasBuffer (c : Config) : Type 0 where
  pub at_least : 4 ≤ c.buffer
  pub at_most : 2 * c.buffer ≤ c.words

pub record HasMutators (c : Config) : Type 0 where
  pub at_least : 1 ≤ c.mutators
  pub at_most : c.mutators ≤ mutator_limit c.format

-- how many words a card has
abbrev pub card_length : Format → ℕ
card_length V1 = 8
card_length (V2 card) = card
card_length (V3 card globals registers) = card

abbrev pub card_words : Config → ℕ
card_words c = card_length c.format

-- the longest card of the format
abbrev pub card_limit : Format → ℕ
card_limit V1 = 8
card_limit (V2 card) = 64
card_limit (V3 card globals registers) = 512

-- a card has a power of two of words, 8 or more, and at most a region
pub record HasCard (c : Config) : Type 0 where
  pub power : IsTrue (is_power_of_two (card_words c))
  pub at_least : 8 ≤ card_words c
  pub longest : card_words c ≤ card_limit c.format
  pub at_most : card_words c ≤ c.words

-- the most words of an object
abbrev pub object_limit : Config → ℕ
object_limit c = min (c.regions * c.words) max_object_words

-- how many globals there are, and how many registers each mutator has
abbrev pub globals_in : Format → ℕ
globals_in V1 = 16
globals_in (V2 card) = 16
globals_in (V3 card globals registers) = globals

abbrev pub registers_in : Format → ℕ
registers_in V1 = 8
registers_in (V2 card) = 8
registers_in (V3 card globals registers) = registers

abbrev pub globals_of : Config → ℕ
globals_of c = globals_in c.format

abbrev pub registers_of : Config → ℕ
registers_of c = registers_in c.format

abbrev pub HasGlobals : Config → Type 0
HasGlobals c = globals_of c ≤ max_globals

pub record HasRegisters (c : Config) : Type 0 where
  pub at_least : 1 ≤ registers_of c
  pub at_most : registers_of c ≤ max_registers

-- globals and registers together
abbrev pub HasRoots : Config → Type 0
HasRoots c = globals_of c + registers_of c * c.mutators ≤ max_roots

-- a heap can have these sizes
pub record Suits (c : Config) : Type 0 where
  pub regions : HasRegions c
  pub words : HasWords c
  pub buffer : HasBuffer c
  pub mutators : HasMutators c
  pub card : HasCard c
  pub globals : HasGlobals c
  pub registers : HasRegisters c
  pub roots : HasRoots c

-- all but the numbers of roots suits
abbrev pub SuitsButRoots : Config → Type 0
SuitsButRoots c = HasRegions c × HasWords c × HasBuffer c × HasMutators c × HasCard c

-- the fault holds, and none before it
abbrev pub IsFirstFault : Config → NewFault → Type 0
IsFirstFault c BadRegions = ¬ HasRegions c
IsFirstFault c BadWords = HasRegions c × ¬ HasWords c
IsFirstFault c BadBuffer = HasRegions c × HasWords c × ¬ HasBuffer c
IsFirstFault c BadMutators = HasRegions c × HasWords c × HasBuffer c × ¬ HasMutators c
IsFirstFault c BadCard = HasRegions c × HasWords c × HasBuffer c × HasMutators c × ¬ HasCard c
IsFirstFault c BadGlobals = SuitsButRoots c × ¬ HasGlobals c
IsFirstFault c BadRegisters = SuitsButRoots c × HasGlobals c × ¬ HasRegisters c
IsFirstFault c BadRoots = SuitsButRoots c × HasGlobals c × HasRegisters c × ¬ HasRoots c
IsFirstFault c NoMemory = ⊥

-- why no heap of these sizes was made: its first fault, or want of memory where they suit
abbrev pub IsNewFault : Config → NewFault → Type 0
IsNewFault c BadRegions = IsFirstFault c BadRegions
IsNewFault c BadWords = IsFirstFault c BadWords
IsNewFault c BadBuffer = IsFirstFault c BadBuffer
IsNewFault c BadMutators = IsFirstFault c BadMutators
IsNewFault c BadCard = IsFirstFault c BadCard
IsNewFault c BadGlobals = IsFirstFault c BadGlobals
IsNewFault c BadRegisters = IsFirstFault c BadRegisters
IsNewFault c BadRoots = IsFirstFault c BadRoots
IsNewFault c NoMemory = Suits c
