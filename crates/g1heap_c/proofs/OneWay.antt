-- A search for a way tells one count.
use Rattle.std.proofs.Common.{◌≡◌, ℕ, zero, suc, List, Option, Some, None, take, refl, ap, arith}
use Rattle.std.specs.Prelude.{is_some}
use Rattle.std.proofs.lemmas.List.{length-take-le}
use Rattle.step_core.specs.Stands.{CoreState}
use Rattle.heap_walk.specs.Paths.{TellsCount, TellsWay}
use Rattle.heap_walk.specs.declared.holders.Holder.{Holder}

one_count : (c : CoreState) (n : ℕ) (after : List Holder) (j k : ℕ) → TellsCount c n after j → TellsCount c n after k → j ≡ k
one_count c n after zero zero h w = refl
one_count c n after zero (suc k) h (room, w) = absurd (h (take (suc k) after) w.way)
one_count c n after (suc j) zero (room, h) w = absurd (w (take (suc j) after) h.way)
one_count c n after (suc j) (suc k) (room, h) (space, w) =
    let low = h.least (take (suc k) after) w.way in
    let high = w.least (take (suc j) after) h.way in
    let one = length-take-le (suc j) after room in
    let other = length-take-le (suc k) after space in
    omega (arith, low, high, one, other)

pub one_way : (c : CoreState) (n : ℕ) (before after : List Holder) (a b : Option ℕ) → is_some a ≡ is_some b → TellsWay c n before after a
    → TellsWay c n before after b → a ≡ b
one_way c n before after None None e h w = refl
one_way c n before after None (Some k) e h w = absurd (cc)
one_way c n before after (Some j) None e h w = absurd (cc)
one_way c n before after (Some j) (Some k) e h w = ap Some (one_count c n after j k h w)
