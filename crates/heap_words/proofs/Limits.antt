-- What is known of sizes that suit: the limits of all formats, and that a region is a whole number of cards.
use Rattle.std.proofs.Common.{◌≡◌, ℕ, ◌*◌, ◌/◌, ◌≤◌, ◌<◌, ◌+◌, zero, suc, refl, subst, ◌∙◌, arith, inl, inr, ◌%◌, IsTrue, count_ones}
use Rattle.std.specs.Int.{is_power_of_two}
use Rattle.std.proofs.lemmas.Nat.{zero_from_ones}
use Rattle.std.proofs.lemmas.Bool.{cases_eq}
use Rattle.std.proofs.lemmas.Grind.{common_steps}
use Rattle.std.proofs.lemmas.Bool.Decides.{nat_tests}
use Rattle.std.proofs.Math.Arith.{mod-mul}
use lib.Count.{ones_step}
use Rattle.heap_words.specs.declared.config.Config.{Config}
use Rattle.heap_words.specs.declared.config.Format.{Format}
use Rattle.heap_words.specs.declared.config.Format.TheVariants.{V1, V2, V3}
use Rattle.heap_words.specs.Configs.{max_region_words, max_words, max_mutators, region_limit, heap_limit, mutator_limit, card_words}
use Rattle.heap_words.specs.Configs.{card_limit, Suits}

below_limits : (f : Format) → (region_limit f ≤ max_region_words) × (heap_limit f ≤ max_words)
below_limits V1 = (omega arith, omega arith)
below_limits (V2 card) = (omega arith, omega arith)
below_limits (V3 card globals registers) = (omega arith, omega arith)

few_in : (f : Format) → mutator_limit f ≤ max_mutators
few_in V1 = omega arith
few_in (V2 card) = omega arith
few_in (V3 card globals registers) = omega arith

pub few_mutators : (c : Config) → Suits c → c.mutators ≤ max_mutators
few_mutators c suits = let limit = few_in c.format in let most = suits.mutators.at_most in omega (arith, limit, most)

pub small_region : (c : Config) → Suits c → c.words ≤ max_region_words
small_region c suits = let limit = (below_limits c.format).0 in let most = suits.words.at_most in omega arith

pub small_heap : (c : Config) → Suits c → c.regions * c.words ≤ max_words
small_heap c suits = let limit = (below_limits c.format).1 in let most = suits.words.in_all in omega arith

-- a number of two or more with one bit is even, and so is its half's case
half : (n : ℕ) → count_ones n ≡ 1 → 2 ≤ n → (n % 2 ≡ 0) × (count_ones (n / 2) ≡ 1)
half n one le =
    let step = ones_step n in
    let none : count_ones (n / 2) ≡ 0 → n / 2 ≡ 0 = zero_from_ones (n / 2) in
    elim (cases_eq (count_ones (n / 2)) 0) [
      | inl q ↦ absurd (let z = none q in omega arith)
      | inr ne ↦ (omega arith, omega arith)
    ]

one_bit : (n : ℕ) → IsTrue (is_power_of_two n) → count_ones n ≡ 1
one_bit n p = grind (arith, common_steps, nat_tests)

-- of two powers of two the smaller divides the larger
divides : (f n m : ℕ) → 0 < m → m ≤ f → count_ones n ≡ 1 → count_ones m ≡ 1 → m ≤ n → n % m ≡ 0
divides zero n m some le a b within = absurd (omega arith)
divides (suc f) n m some le a b within =
    elim (cases_eq m 1) [
      | inl e ↦ rw e (omega arith)
      | inr ne ↦ (
          let two : 2 ≤ m = omega arith in
          let hm = half m b two in
          let hn = half n a (omega arith) in
          let less = divides f (n / 2) (m / 2) (omega arith) (omega arith) hn.1 hm.1 (omega arith) in
          let whole : m / 2 * 2 ≡ m = omega (arith, hm.0) in
          let split = mod-mul n {m = m / 2} {c = 2} (omega arith) (omega arith) in
          let none : n / 2 % (m / 2) * 2 + n % 2 ≡ 0 = rw (less, hn.0) refl in
          subst (λ (k : ℕ). n % k ≡ 0) whole (split ∙ none))
    ]

-- a power of two of words is a whole number of cards that are no longer
whole_cards : (n card : ℕ) → IsTrue (is_power_of_two n) → IsTrue (is_power_of_two card) → 0 < card → card ≤ n → n ≡ n / card * card
whole_cards n card p q some le =
    let none = divides card n card some (omega arith) (one_bit n p) (one_bit card q) le in omega (arith, none, some)

pub card_power : (c : Config) → Suits c → IsTrue (is_power_of_two (card_words c))
card_power c suits = suits.card.power

pub region_cards : (c : Config) → Suits c → c.words ≡ c.words / card_words c * card_words c
region_cards c suits =
    let least = suits.card.at_least in
    whole_cards c.words (card_words c) suits.words.power suits.card.power (omega arith) suits.card.at_most

longest_card : (f : Format) → card_limit f ≤ 512
longest_card V1 = omega arith
longest_card (V2 card) = omega arith
longest_card (V3 card globals registers) = omega arith

pub card_between : (c : Config) → Suits c → (8 ≤ card_words c) × (card_words c ≤ 512)
card_between c suits = let longest = longest_card c.format in let most = suits.card.longest in (suits.card.at_least, omega arith)
