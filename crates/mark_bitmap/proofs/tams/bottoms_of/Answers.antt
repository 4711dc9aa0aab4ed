use Rattle.std.proofs.Common.{ℕ, ◌*◌, ◌∷◌, [], ◌++◌, ap, sym, ◌∙◌, arith}
use Rattle.std.proofs.lemmas.List.FromFn.{map-range_with_len_more}
use Rattle.mark_bitmap.proofs.tams.bottoms_of.Goals as goal

pub loop-region-preserved : goal.loop-region-preserved
loop-region-preserved c =
    let k : ℕ = c.loop-region.region in
    c.in_ok-push.ensures.items ∙ ap (λ xs. xs ++ k * c.args.words ∷ []) c.loop-region.invariant
    ∙ sym (map-range_with_len_more (λ n. n * c.args.words) 0 k k (omega arith))
