-- An object just made, with so many of each: plain, or of pairs.
use Rattle.regions.proofs.Common.{◌≡◌, ◌+◌, ◌-◌, ◌∷◌, ◌∙◌, ℕ, zero, suc, None, Option, take, drop, map, refl, ap, arith, replicate}
use Rattle.regions.proofs.Common.{length-replicate, pointer_of, Stored, Object, stored_of, tile_size}
use Rattle.std.proofs.lemmas.List.{take-replicate, drop-replicate}

-- with p nil pointers, so many nil weak slots and nil held slots, and d zeros
abbrev pub fresh : ℕ → ℕ → ℕ → ℕ → ℕ → Stored
fresh name p weak held d = record {
  name = name;
  pointers = replicate p None;
  weaks = replicate weak None;
  held = replicate held None;
  values = replicate d 0;
}

map_nil : (n : ℕ) → map pointer_of (replicate n 0) ≡ replicate n None
map_nil zero = refl
map_nil (suc n) = ap (λ ps. None ∷ ps) (map_nil n)

-- so many zeros from one on, of z
part_zeros : (from n z : ℕ) → from + n + (z - (from + n)) ≡ z → take n (drop from (replicate {A = ℕ} z 0)) ≡ replicate n 0
part_zeros from n z e =
    ap (take n) (drop-replicate from z 0) ∙ take-replicate n (z - from) 0 (omega (arith, e))

-- its words behind the header are its name and zeros
pub stored_fresh : (name p weak held d z : ℕ) → z ≡ p + (weak + held) + d
    → stored_of p weak held d (name ∷ replicate z 0) ≡ fresh name p weak held d
stored_fresh name p weak held d z e =
    let a : take p (replicate {A = ℕ} z 0) ≡ replicate p 0 = take-replicate p z 0 (omega (arith, e)) in
    let b : take weak (drop p (replicate {A = ℕ} z 0)) ≡ replicate weak 0 = part_zeros p weak z (omega (arith, e)) in
    let c : take held (drop (p + weak) (replicate {A = ℕ} z 0)) ≡ replicate held 0 = part_zeros (p + weak) held z (omega (arith, e)) in
    let f : take d (drop (p + (weak + held)) (replicate {A = ℕ} z 0)) ≡ replicate d 0 =
    part_zeros (p + (weak + held)) d z (omega (arith, e)) in
    rw (a, b, c, f, map_nil, map_nil, map_nil) refl

pub fresh_size : (name p weak held d : ℕ) → tile_size (Object (fresh name p weak held d)) ≡ 2 + p + (weak + held) + d
fresh_size name p weak held d =
    omega (
      arith,
      length-replicate {A = Option ℕ} p None,
      length-replicate {A = Option ℕ} weak None,
      length-replicate {A = Option ℕ} held None,
      length-replicate {A = ℕ} d 0,
    )
