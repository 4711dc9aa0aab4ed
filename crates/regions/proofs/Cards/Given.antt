-- The entries of the cards below an end stay, as the others are no longer written.
use Rattle.regions.proofs.Common.{◌≡◌, ◌*◌, ◌<◌, ◌≤◌, ◌∙◌, ℕ, List, get_or, take, sym, arith, inl, inr, cases_lt, div_ceil}
use Rattle.regions.proofs.Common.{div_ceil_times, mul-le, get_or-take}
use Rattle.heap_words.specs.Memory.{memory}
use Rattle.regions.proofs.Cards.Written.{entry_is}

pub entry_stays : (xs : List ℕ) (n past cw end c : ℕ) → 0 < cw → past ≡ div_ceil end cw → c * cw < end
    → get_or (memory (take past xs) n).all c 0 ≡ get_or (memory xs n).all c 0
entry_stays xs n past cw end c z e h =
    let reached : end ≤ div_ceil end cw * cw = (div_ceil_times end cw z).0 in
    let below : c < past = elim (cases_lt c past) [
      | inl b ↦ b
      | inr b ↦ absurd (let all = mul-le past cw c cw b (omega arith) in omega (arith, rw (sym e) at reached, all, h))
    ] in
    entry_is (take past xs) n c ∙ get_or-take past xs c 0 below ∙ sym (entry_is xs n c)
