use Rattle.std.proofs.Common.{◌≡◌, ◌∙◌, Bool, true, false, List, ℕ, ap, refl, sym}
use Rattle.std.specs.Prelude.{◌&&◌}
use Rattle.std.specs.Str.{IsUtf8, is_utf8}
use Rattle.std.proofs.lemmas.Str.{IsUtf8-from_is_utf8, is_utf8-from_IsUtf8}
use Rattle.type_names.specs.NamedLines.{is_plain}
use Rattle.type_names.proofs.lines.is_text.Goals as goal

no_utf8 : (line : List ℕ) → (IsUtf8 line → ⊥) → is_utf8 line ≡ false
no_utf8 line other = go (is_utf8 line) refl
  where
    go : (b : Bool) → is_utf8 line ≡ b → is_utf8 line ≡ false
    go true e = absurd (other (IsUtf8-from_is_utf8 line e))
    go false e = e

pub returns-in-Ok : goal.returns-in-Ok
returns-in-Ok c =
    c.is_plain.ensures
    ∙ ap (λ (b : Bool). b && is_plain 0 c.args.line.now) (sym (is_utf8-from_IsUtf8 c.args.line.now c.in-Ok.ensures.cases.1))

pub returns-in-Err : goal.returns-in-Err
returns-in-Err c =
    ap (λ (b : Bool). b && is_plain 0 c.args.line.now) (sym (no_utf8 c.args.line.now c.in-Err.ensures.cases.0))
