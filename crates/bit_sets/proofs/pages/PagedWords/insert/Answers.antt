use Rattle.std.proofs.Common.{◌≡◌, ℕ, ◌*◌, ◌/◌, ◌%◌, ◌^◌, ◌∙◌, ap, sym, length-set, set, refl, bit_or, bit_and, eqb, not, ne_eqb}
use Rattle.std.specs.Int.{bit_at}
use Rattle.std.proofs.lemmas.List.{get_or_read}
use Rattle.std.proofs.lemmas.Nat.Bits.{shr_and_one}
use Rattle.bit_sets.proofs.PageWords.{group_known, words_same, pages_kept, word_at}
use Rattle.bit_sets.proofs.pages.PagedWords.insert.Goals as goal

bit_read : (word bit : ℕ) → bit_and (word / 2 ^ bit) 1 ≡ bit_at word bit
bit_read word bit = rw shr_and_one refl

pub find_or_take-place-requires-clause-known : goal.find_or_take-place-requires-clause-known
find_or_take-place-requires-clause-known c = group_known _ _ _ _ c.args.group c.self.view_is c.requires.known

pub returns-then-word-bit-eq1-clause-came : goal.returns-then-word-bit-eq1-clause-came
returns-then-word-bit-eq1-clause-came c =
    let pool = c.find_or_take-place.new.pool in
    let view = words_same _ _ _ pool.items _ (λ g _. c.find_or_take-place.ensures.same g) ∙ c.self.view_is in
    let w = word_at _ _ pool.items _ c.args.group _ c.find_or_take-place.ensures.pages view c.requires.known
    c.find_or_take-place.ensures.taken
    c.find_or_take-place.ensures.place in
    let word = get_or_read pool.items _ _ w.inside c.index-word.ensures 0 ∙ w.read in
    sym (ap not (ap (λ (x : ℕ). eqb (bit_at x c.args.bit) 1) (sym word)
    ∙ ap (λ (v : ℕ). eqb v 1) (sym (bit_read c.index-word.result.now c.args.bit) ∙ c.if-word-bit-eq1.true)))

pub returns-then-word-bit-eq1-clause-same : goal.returns-then-word-bit-eq1-clause-same
returns-then-word-bit-eq1-clause-same c =
    λ _. words_same _ _ c.find_or_take-place.new.places.items c.find_or_take-place.new.pool.items _
    (λ g _. c.find_or_take-place.ensures.same g) ∙ c.self.view_is

pub invariant_of-self-2 : goal.invariant_of-self-2
invariant_of-self-2 c = (
  pages_kept _ c.find_or_take-place.new.pool.items _ _ c.find_or_take-place.ensures.pages
      (length-set {A = ℕ} c.find_or_take-place.new.pool.items c.find_or_take-place.result _),
  c.find_or_take-place.ensures.room,
)

pub returns-clause-came : goal.returns-clause-came
returns-clause-came c =
    let pool = c.find_or_take-place.new.pool in
    let view = words_same _ _ _ pool.items _ (λ g _. c.find_or_take-place.ensures.same g) ∙ c.self.view_is in
    let w = word_at _ _ pool.items _ c.args.group _ c.find_or_take-place.ensures.pages view c.requires.known
    c.find_or_take-place.ensures.taken
    c.find_or_take-place.ensures.place in
    let word = get_or_read pool.items _ _ w.inside c.index-word.ensures 0 ∙ w.read in
    sym (ap not (ap (λ (x : ℕ). eqb (bit_at x c.args.bit) 1) (sym word)
    ∙ ne_eqb (bit_at c.index-word.result.now c.args.bit) 1
    (λ q. c.if-word-bit-eq1.false (bit_read c.index-word.result.now c.args.bit ∙ q))))

pub returns-clause-set : goal.returns-clause-set
returns-clause-set c = λ _.
    let pool = c.find_or_take-place.new.pool in
    let view = words_same _ _ _ pool.items _ (λ g _. c.find_or_take-place.ensures.same g) ∙ c.self.view_is in
    let w = word_at _ _ pool.items _ c.args.group _ c.find_or_take-place.ensures.pages view c.requires.known
    c.find_or_take-place.ensures.taken
    c.find_or_take-place.ensures.place in
    w.written _ ∙ ap (λ (x : ℕ). set c.args.self.now c.args.group (bit_or x (1 * 2 ^ c.args.bit % 2 ^ 64)))
    (get_or_read pool.items _ _ w.inside c.index-word.ensures 0 ∙ w.read)
