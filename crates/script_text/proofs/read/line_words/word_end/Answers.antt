use Rattle.std.proofs.Common.{◌≡◌, ◌≤◌, ◌<◌, ◌+◌, ℕ, get_or, refl, sym, List, length, arith, inl, inr, subst}
use Rattle.std.proofs.lemmas.Bool.{cases_lt}
use Rattle.script_text.specs.Feeds.{end_of}
use Rattle.script_text.proofs.Parts.Splitting.{not_yet}
use Rattle.script_text.proofs.Parts.Fronts.{StandsAt, part_is, clear_word}
use Rattle.script_text.proofs.read.line_words.word_end.Goals as goal

pub bytes-preserved : goal.bytes-preserved
bytes-preserved c =
    let text = c.args.text.now in
    let word = c.args.word.now in
    let letter : 32 < get_or word c.bytes.index 0 = c.requires.letters c.bytes.index 0 c.bytes-test.true in
    let no_feed : get_or text (c.args.at + c.bytes.index) 0 ≡ 10 → ⊥ = λ feed. omega (arith, c.if-text-at.false) in
    let next : c.args.at + c.bytes.index + 1 ≤ end_of text =
    not_yet text (c.args.at + c.bytes.index) c.bytes.invariant.within (omega (arith, c.bytes.invariant.within, c.requires.ended)) no_feed in
    record {
      within = omega arith;
      same = λ k lt. elim (cases_lt k c.bytes.index) [
        | inl old ↦ c.bytes.invariant.same k old
        | inr new ↦ (let here : k ≡ c.bytes.index = omega arith in
            subst (λ (i : ℕ). get_or text (c.args.at + i) 0 ≡ get_or word i 0) (sym here) c.if-text-at.false)
      ];
    }

-- all bytes were looked at
abbrev all : (text word : List ℕ) (at index : ℕ) → index ≡ length word → StandsAt text at word index → StandsAt text at word (length word)
all text word at index e same = subst (StandsAt text at word) e same

pub returns-clause-word : goal.returns-clause-word
returns-clause-word c =
    let text = c.args.text.now in
    let word = c.args.word.now in
    let e : c.bytes.index ≡ length word = omega (arith, c.bytes.auto.index-end, c.bytes-test.false) in
    part_is text c.args.at word (length word) refl (omega (arith, c.bytes.invariant.within, c.requires.ended))
    (all text word c.args.at c.bytes.index e c.bytes.invariant.same)

pub returns-clause-clear : goal.returns-clause-clear
returns-clause-clear c =
    let text = c.args.text.now in
    let word = c.args.word.now in
    let e : c.bytes.index ≡ length word = omega (arith, c.bytes.auto.index-end, c.bytes-test.false) in
    clear_word text c.args.at word (length word) (omega arith) (omega (arith, c.bytes.invariant.within))
    c.requires.letters (all text word c.args.at c.bytes.index e c.bytes.invariant.same)
