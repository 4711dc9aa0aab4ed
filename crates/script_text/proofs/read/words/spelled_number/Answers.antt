use Rattle.std.proofs.Common.{◌≡◌, ◌+◌, ◌*◌, ◌<◌, sym, length, get_or, drop, arith, rules}
use Rattle.script_text.proofs.Parts.Numbers.{no_empty, no_leading_zero, after_more, digit_is, after_at_least}
use Rattle.script_text.proofs.Parts.Numbers.{value_of_decimal, digit_of_decimal, spells, all_read, none_left}
use Rattle.std.specs.Char.{digit_value}
use Rattle.script_text.proofs.read.words.spelled_number.Goals as goal
use Rattle.script_text.proofs.read.words.spelled_number.Goals.{then-byte-lt48-via-then-byte-lt48}
use Rattle.script_text.proofs.read.words.spelled_number.Goals.{then-byte-lt48-via-else-byte-lt48+then-byte-gt57}
use Rattle.script_text.proofs.read.words.spelled_number.Goals.{else-word-gt1-via-then-word-gt1+else-word-eq48}
use Rattle.script_text.proofs.read.words.spelled_number.Goals.{else-word-gt1-via-else-word-gt1}

pub returns-then-is_empty-clause-none : goal.returns-then-is_empty-clause-none
returns-then-is_empty-clause-none c = λ n le e. no_empty c.args.word.now n (omega arith) (search rules) e

pub returns-then-word-eq48-clause-none : goal.returns-then-word-eq48-clause-none
returns-then-word-eq48-clause-none c = λ n le e. let lone = no_leading_zero c.args.word.now n (omega arith) e c.if-word-eq48.true in
    omega arith

pub returns-then-byte-lt48-clause-none : goal.returns-then-byte-lt48-clause-none
returns-then-byte-lt48-clause-none c = λ n le e.
    let digit = digit_of_decimal c.args.word.now n c.loop-at.at (omega arith) e c.loop-at-test.true in
    elim c.then-byte-lt48.branch [
      | then-byte-lt48-via-then-byte-lt48 w ↦ omega arith
      | then-byte-lt48-via-else-byte-lt48+then-byte-gt57 w ↦ omega arith
    ]

pub returns-in_default-clause-none : goal.returns-in_default-clause-none
returns-in_default-clause-none c = λ n le e.
    let all = value_of_decimal c.args.word.now n (omega arith) e in
    let more = after_more c.loop-at.value c.args.word.now c.loop-at.at c.loop-at-test.true in
    let least =
    after_at_least (c.loop-at.value * 10 + digit_value (get_or c.args.word.now c.loop-at.at 0)) (drop (c.loop-at.at + 1) c.args.word.now) in
    c.in_default.ensures (omega (arith, c.loop-at.invariant.value))

pub returns-in_default-checked_add-clause-none : goal.returns-in_default-checked_add-clause-none
returns-in_default-checked_add-clause-none c = λ n le e.
    let all = value_of_decimal c.args.word.now n (omega arith) e in
    let more = after_more c.loop-at.value c.args.word.now c.loop-at.at c.loop-at-test.true in
    let least =
    after_at_least (c.loop-at.value * 10 + digit_value (get_or c.args.word.now c.loop-at.at 0)) (drop (c.loop-at.at + 1) c.args.word.now) in
    let digit = digit_is (get_or c.args.word.now c.loop-at.at 0) c.if-byte-lt48.false c.if-byte-gt57.false in
    c.in_default-checked_add.ensures (omega (arith, c.loop-at.invariant.value, c.in-Some.ensures))

pub returns-then-value-limit-clause-none : goal.returns-then-value-limit-clause-none
returns-then-value-limit-clause-none c = λ n le e.
    let all = value_of_decimal c.args.word.now n (omega arith) e in
    let end =
    all_read c.loop-at.value c.args.word.now c.loop-at.at c.loop-at.invariant.within c.loop-at-test.false c.loop-at.invariant.value in
    omega arith

pub returns-clause-some : goal.returns-clause-some
returns-clause-some c =
    let some : 0 < length c.args.word.now = grind (arith, c.is_empty.ensures) in
    let end =
    all_read c.loop-at.value c.args.word.now c.loop-at.at c.loop-at.invariant.within c.loop-at-test.false c.loop-at.invariant.value in
    let digits = c.loop-at.invariant.digits (none_left c.args.word.now c.loop-at.at c.loop-at-test.false) in
    let lone : get_or c.args.word.now 0 0 ≡ 48 → length c.args.word.now ≡ 1 = λ zero.
    elim c.else-word-gt1.branch [
      | else-word-gt1-via-then-word-gt1+else-word-eq48 w ↦ absurd (omega arith)
      | else-word-gt1-via-else-word-gt1 w ↦ omega arith
    ] in
    (spells c.args.word.now c.loop-at.value digits (sym end) (omega arith) some lone, omega arith)
