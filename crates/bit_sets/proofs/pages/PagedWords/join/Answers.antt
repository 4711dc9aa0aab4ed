use Rattle.std.proofs.Common.{ℕ, ◌∙◌, ap, length-set, set, bit_or}
use Rattle.std.proofs.lemmas.List.{get_or_read}
use Rattle.bit_sets.proofs.PageWords.{group_known, words_same, pages_kept, word_at}
use Rattle.bit_sets.proofs.pages.PagedWords.join.Goals as goal

pub find_or_take-place-requires-clause-known : goal.find_or_take-place-requires-clause-known
find_or_take-place-requires-clause-known c = group_known _ _ _ _ c.args.group c.self.view_is c.requires

pub returns : goal.returns
returns c =
    let pool = c.find_or_take-place.new.pool in
    let view = words_same _ _ _ pool.items _ (λ g _. c.find_or_take-place.ensures.same g) ∙ c.self.view_is in
    let w = word_at _ _ pool.items _ c.args.group _ c.find_or_take-place.ensures.pages view c.requires c.find_or_take-place.ensures.taken
    c.find_or_take-place.ensures.place in
    w.written _ ∙ ap (λ (x : ℕ). set c.args.self.now c.args.group (bit_or x c.args.more))
    (get_or_read pool.items _ _ w.inside c.index_mut.ensures.value 0 ∙ w.read)

pub invariant_of-self : goal.invariant_of-self
invariant_of-self c = (
  pages_kept _ c.find_or_take-place.new.pool.items _ _ c.find_or_take-place.ensures.pages
      (length-set {A = ℕ} c.find_or_take-place.new.pool.items c.find_or_take-place.result (bit_or c.index_mut.result.now c.args.more)),
  c.find_or_take-place.ensures.room,
)
