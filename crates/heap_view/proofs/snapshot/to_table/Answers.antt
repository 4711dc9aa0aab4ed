use Rattle.std.proofs.Common.{◌≡◌, ap, is_lt, rules}
use Rattle.std.proofs.lemmas.Fn.{always_returns_same, dedup_same}
use Rattle.heap_view.specs.Census.{class_cmp, is_same}
use Rattle.heap_view.specs.declared.classes.Class.{Class}
use Rattle.heap_view.proofs.Counting.{class_ranks}
use Rattle.heap_view.proofs.Ranks.{class_table}
use Rattle.heap_view.proofs.snapshot.to_table.Goals as goal

pub returns-clause-table : goal.returns-clause-table
returns-clause-table c =
    class_table c.args.classes.now.items c.sort_unstable_by.new.self.items c.dedup_by.new.self.items
    c.sort_unstable_by.ensures.permutation
    (c.sort_unstable_by.ensures.sorted (λ (a b : Class). is_lt (class_cmp a b)) class_ranks
    (always_returns_same _ _ _ (λ a r q k.
    let is : r ≡ class_cmp a.0.now a.1.0.now = search rules in
    (ap is_lt is, search rules))))
    (dedup_same _ is_same _ (λ x y b f' x' y' k. search rules) _ _ c.dedup_by.ensures.filtered)
