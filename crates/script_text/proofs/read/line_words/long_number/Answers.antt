use Rattle.std.proofs.Common.{◌≡◌, ◌∙◌, ◌+◌, ◌*◌, ◌<◌, ◌++◌, ◌∷◌, [], ℕ, List, sym, ap, get_or, subst, length, arith}
use Rattle.std.specs.Char.{digit_value}
use Rattle.std.specs.Str.Parse.{AllDigits, digits_value}
use Rattle.script_text.specs.Fronts.{part, IsClear}
use Rattle.script_text.proofs.Parts.Numbers.{spells, digit_is}
use Rattle.script_text.proofs.Parts.Fronts.{clear_more, clear_none, part_more, value_more, digits_more, part_front, two_digits, not_zero}
use Rattle.script_text.proofs.read.line_words.long_number.Goals as goal

pub returns-then-next-ge10-clause-number : goal.returns-then-next-ge10-clause-number
returns-then-next-ge10-clause-number c = λ some front.
    let text = c.args.text.now in
    let word = part text c.args.at c.digits.past in
    let inside : c.args.at < length text = omega (arith, c.requires.within, c.requires.ended) in
    let front_is = part_front text c.args.at c.digits.past some inside in
    let first : get_or word 0 0 ≡ get_or text c.args.at 0 = ap (λ (w : List ℕ). get_or w 0 0) front_is in
    let long : 0 < length word = omega (arith, ap length front_is) in (
      spells word c.digits.number c.digits.invariant.digits c.digits.invariant.value (omega (arith, c.digits.invariant.small)) long
          (λ zero. absurd (front (sym first ∙ zero))),
      omega (arith, c.digits.invariant.small),
    )

pub digits-preserved : goal.digits-preserved
digits-preserved c =
    let text = c.args.text.now in
    let word = part text c.args.at c.digits.past in
    let byte = get_or text c.digits.past 0 in
    let is : byte ≡ 48 + c.digit-next.result = c.digit-next.ensures.value c.if-next-ge10.false in
    let digit : digit_value byte ≡ c.digit-next.result = digit_is byte (omega arith) (omega arith) ∙ omega arith in
    let clear = c.digits.invariant.clear in
    let more : part text c.args.at (c.digits.past + 1) ≡ word ++ byte ∷ [] =
    part_more text c.args.at c.digits.past clear.order (omega (arith, clear.within, c.requires.ended)) in
    record {
      clear = clear_more text c.args.at c.digits.past c.requires.ended clear (omega arith);
      digits = subst (AllDigits 10) (sym more) (digits_more word byte c.digits.invariant.digits (omega arith));
      value = ap (digits_value 10) more ∙ value_more word byte
          ∙ ap (λ (n : ℕ). n * 10 + digit_value byte) c.digits.invariant.value
          ∙ ap (λ (d : ℕ). c.digits.number * 10 + d) digit;
      small = omega arith;
    }

pub returns-then-digit-ge10-clause-number : goal.returns-then-digit-ge10-clause-number
returns-then-digit-ge10-clause-number c = λ some front.
    let first = c.digit-first.ensures.value c.if-first-lt10.true in
    let one = clear_more c.args.text.now c.args.at c.args.at c.requires.ended (clear_none c.args.text.now c.args.at c.requires.within)
    (omega (arith, first)) in
    two_digits c.args.text.now c.args.at c.digit-first.result c.digit-second.result (omega (arith, one.within, c.requires.ended))
    (not_zero _ _ front first) c.if-first-lt10.true c.if-second-lt10.true first (c.digit-second.ensures.value c.if-second-lt10.true)

pub returns-then-digit-ge10-clause-clear : goal.returns-then-digit-ge10-clause-clear
returns-then-digit-ge10-clause-clear c =
    let text = c.args.text.now in
    let one = clear_more text c.args.at c.args.at c.requires.ended (clear_none text c.args.at c.requires.within)
    (omega (arith, c.digit-first.ensures.value c.if-first-lt10.true)) in
    subst (IsClear text c.args.at) (let e : c.args.at + 1 + 1 ≡ c.args.at + 2 = omega arith in e)
    (clear_more text c.args.at (c.args.at + 1) c.requires.ended one (omega (arith, c.digit-second.ensures.value c.if-second-lt10.true)))
