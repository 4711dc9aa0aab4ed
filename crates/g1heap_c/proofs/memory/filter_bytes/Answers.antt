use Rattle.std.proofs.Common.{◌+◌, ◌≤◌, arith}
use Rattle.std.proofs.lemmas.Nat.{mul-le}
use Rattle.g1heap_c.proofs.memory.filter_bytes.Goals as goal

pub returns-clause-small : goal.returns-clause-small
returns-clause-small c =
    let flags = mul-le c.args.rows c.args.cards 336 524288 c.requires.rows c.requires.cards in
    let set = c.set_bytes.ensures.small in
    let tables : c.div_ceil.result ≤ 4096 = omega (arith, c.div_ceil.ensures) in
    let all = mul-le c.div_ceil.result (80 + c.set_bytes.result) 4096 4294967296 tables (omega (arith, flags, set)) in
    omega (arith, all)

pub overflow_mul-result : goal.overflow_mul-result
overflow_mul-result c =
    let flags = mul-le c.args.rows c.args.cards 336 524288 c.requires.rows c.requires.cards in
    let set = c.set_bytes.ensures.small in
    let tables : c.div_ceil.result ≤ 4096 = omega (arith, c.div_ceil.ensures) in
    let all = mul-le c.div_ceil.result (80 + c.set_bytes.result) 4096 4294967296 tables (omega (arith, flags, set)) in
    omega (arith, all)
