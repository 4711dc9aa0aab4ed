use Rattle.std.proofs.Common.{◌≤◌, ◌∙◌, ◌&&◌, Bool, List, ap, arith, count_by}
use Rattle.std.specs.List.{range_with_len}
use Rattle.bit_sets.specs.Bits.{is_between, has}
use Rattle.bit_sets.proofs.BitWords.{len_is}
use Rattle.bit_sets.proofs.Counts.{flags_counted}
use Rattle.bit_sets.proofs.bits.Bits.count_between.Goals as goal

pub count_bits-requires : goal.count_bits-requires
count_bits-requires c = omega (arith, c.requires, c.self.invariant, len_is _ _ _ c.self.view_is)

pub returns : goal.returns
returns c =
    let short : c.args.to ≤ c.self.inside.len = omega (arith, c.requires, len_is _ _ _ c.self.view_is) in
    c.count_bits.ensures ∙ flags_counted c.self.inside.words c.self.inside.len c.args.from c.args.to short
    ∙ ap (λ (v : List Bool). count_by (λ a. is_between c.args.from c.args.to a && has v a) (range_with_len 0 c.args.to)) c.self.view_is
