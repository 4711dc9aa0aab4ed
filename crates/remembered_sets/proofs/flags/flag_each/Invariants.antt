use Rattle.std.proofs.Common.{◌≡◌, ℕ, false, length, take, get_or, eqb, ◌||◌, ◌&&◌}
use Rattle.std.specs.List.{list_any}
use Rattle.remembered_sets.specs.Sets.{lets_through}
use Rattle.remembered_sets.specs.Sharing.{filter_at}
use Rattle.remembered_sets.proofs.flags.flag_each.Given as goal

abbrev pub invariant-loop-card : goal.invariant-loop-card
invariant-loop-card l = record {
  flags : (k : ℕ) → get_or l.flags k false
      ≡ (get_or l.initial.flags k false || (list_any (λ x. eqb x k) (take l.card-index l.cards)
      && (get_or l.entered k false && lets_through (filter_at l.filter l.part) l.cards_per_region k)));
  len : length l.flags ≡ length l.initial.flags;
}
