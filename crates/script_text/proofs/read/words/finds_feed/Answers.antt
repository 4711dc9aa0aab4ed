use Rattle.std.proofs.Common.{◌≡◌, ◌<◌, ◌∷◌, ◌∙◌, [], ℕ, List, Option, None, Some, is_some, true, false, eqb, get_or, length}
use Rattle.std.proofs.Common.{sym, ap, arith}
use Rattle.std.proofs.lemmas.Bool.{eq-eqb, eqb-true, ne_eqb}
use Rattle.std.proofs.lemmas.Grind.{get_or_default_zero}
use Rattle.std.proofs.lemmas.List.Splits.{slice_split_none}
use Rattle.memchr.specs.Find.{IsFirstByte, is_byte}
use Rattle.script_text.specs.Feeds.{end_of}
use Rattle.script_text.specs.Lines.{pieces_of}
use Rattle.script_text.proofs.Parts.Splitting.{ended_by}
use Rattle.script_text.proofs.read.words.finds_feed.Goals as goal

found : (text : List ℕ) (r : Option ℕ) → IsFirstByte (is_byte 10) text r → is_some r ≡ true → end_of text < length text
found text None nowhere some = absurd cc
found text (Some k) (bounds, feed) some = ended_by text k bounds.high (eqb-true _ _ feed)

not_found : (text : List ℕ) (r : Option ℕ) → IsFirstByte (is_byte 10) text r → is_some r ≡ false → pieces_of text ≡ text ∷ []
not_found text None nowhere none =
    slice_split_none (λ b. eqb b 10) text (λ k d lt.
    ap (λ (b : ℕ). eqb b 10) (get_or_default_zero text k d lt)
    ∙ ne_eqb (get_or text k 0) 10 (λ feed. nowhere k (omega arith) lt (eq-eqb _ _ feed)))
not_found text (Some k) first none = absurd cc

pub returns-clause-found : goal.returns-clause-found
returns-clause-found c told = found c.args.text.now c.memchr.result c.memchr.ensures (sym c.is_some.ensures ∙ told)

pub returns-clause-none : goal.returns-clause-none
returns-clause-none c told = not_found c.args.text.now c.memchr.result c.memchr.ensures (sym c.is_some.ensures ∙ told)
