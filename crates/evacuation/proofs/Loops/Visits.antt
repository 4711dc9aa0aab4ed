-- How many cards a pause visits: as many as are flagged below the next one.
use Rattle.std.proofs.Common.{◌≡◌, ◌+◌, ◌-◌, ◌<◌, ◌≤◌, ℕ, zero, suc, Bool, true, false, List}
use Rattle.std.proofs.Common.{length, take, get_or, count_by, refl, ap, arith}
use Rattle.std.proofs.lemmas.List.{take_all}
use Rattle.std.proofs.lemmas.List.Sums.{count_by_more_no, count_by_more_yes}

abbrev pub flagged_below : List Bool → ℕ → ℕ
flagged_below flags n = count_by (λ (b : Bool). b) (take n flags)

-- of more cards as many are flagged, or more
one_flagged : (flags : List Bool) (n : ℕ) → n < length flags → flagged_below flags n ≤ flagged_below flags (n + 1)
one_flagged flags n h = go (get_or flags n false) refl
  where
    go : (b : Bool) → get_or flags n false ≡ b → flagged_below flags n ≤ flagged_below flags (n + 1)
    go true e = let more = count_by_more_yes (λ (b : Bool). b) flags n false h e in omega (arith, more)
    go false e = let more = count_by_more_no (λ (b : Bool). b) flags n false h e in omega (arith, more)

more_flagged : (flags : List Bool) (start gap : ℕ) → start + gap ≤ length flags
    → flagged_below flags start ≤ flagged_below flags (start + gap)
more_flagged flags start zero h = let e : start ≡ start + 0 = omega arith in let same = ap (flagged_below flags) e in omega (arith, same)
more_flagged flags start (suc k) h =
    let before = more_flagged flags start k (omega arith) in
    let more = one_flagged flags (start + k) (omega arith) in
    let e : start + k + 1 ≡ start + suc k = omega arith in
    let place = ap (flagged_below flags) e in
    omega (arith, before, more, place)

-- one more is visited
pub visited_more : (flags : List Bool) (start card before was now : ℕ) → was ≤ before + flagged_below flags start → now ≡ was + 1
    → start ≤ card → card < length flags → get_or flags card false ≡ true → now ≤ before + flagged_below flags (card + 1)
visited_more flags start card before was now h one low inside is =
    let here : start + (card - start) ≡ card = omega arith in
    let up = more_flagged flags start (card - start) (omega arith) in
    let same = ap (flagged_below flags) here in
    let more = count_by_more_yes (λ (b : Bool). b) flags card false inside is in
    omega (arith, h, one, up, same, more)

-- none is left
pub visited_all : (flags : List Bool) (start before now : ℕ) → now ≤ before + flagged_below flags start → start ≤ length flags
    → now ≤ before + count_by (λ (b : Bool). b) flags
visited_all flags start before now h inside =
    let here : start + (length flags - start) ≡ length flags = omega arith in
    let up = more_flagged flags start (length flags - start) (omega arith) in
    let same = ap (flagged_below flags) here in
    let all = ap (λ (l : List Bool). count_by (λ (b : Bool). b) l) (take_all (length flags) flags (omega arith)) in
    omega (arith, h, up, same, all)
