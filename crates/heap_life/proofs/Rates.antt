-- How large a part is.
use Rattle.std.proofs.Common.{◌<◌, ◌≤◌, ◌+◌, ◌*◌, ◌/◌, ℕ, arith, mul-le-mul_left}
use Rattle.std.proofs.Math.Nat.{div-mul-le_self, lt-mul-div-succ, lt_of_mul-lt-mul_left}

-- a whole in m parts, or few more: they are below twice the least that leaves no more than m
pub near_least : (whole m other : ℕ) → 1 ≤ m → 0 < other → whole / other ≤ m → whole / m < 2 * other
near_least whole m other least some few =
    let below : whole / m * m ≤ whole = div-mul-le_self whole m in
    let less : whole < other * (whole / other + 1) = lt-mul-div-succ whole {b = other} some in
    let wide : other * (whole / other) ≤ other * m = mul-le-mul_left other few in
    let once : other * 1 ≤ other * m = mul-le-mul_left other least in
    lt_of_mul-lt-mul_left m {m = whole / m} {n = 2 * other} (omega arith)
