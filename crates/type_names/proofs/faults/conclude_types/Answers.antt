use Rattle.std.proofs.Common.{◌≡◌, ◌∙◌, List, ℕ, ap, inl, inr, subst}
use Rattle.std.specs.Prelude.{Err, Ok, OnErr, OnOk, Result, ◌⊎◌}
use Rattle.script_text.specs.Watched.{TakesPart, TookBytes, Writer}
use Rattle.type_names.specs.FaultTexts.{types_text}
use Rattle.type_names.proofs.faults.conclude_types.Goals as goal

-- a text that was written as a whole or in part
written : {T E : Type 0} (r : Result T E) (old new : Writer) (text whole : List ℕ) → text ≡ whole → OnOk r (TookBytes old new text)
    → OnErr r (TakesPart old new text) → TookBytes old new whole ⊎ TakesPart old new whole
written (Ok x) old new text whole same p q = inl (subst (TookBytes old new) same p)
written (Err e) old new text whole same p q = inr (subst (TakesPart old new) same q)

pub returns-clause-tells : goal.returns-clause-tells
returns-clause-tells g c =
    written c.write_bytes.result _ _ _ _
    (c.put_types-at.ensures.put ∙ ap (types_text c.args.line c.args.mistake) c.as_bytes.ensures.value)
    c.write_bytes.ensures.ok c.write_bytes.ensures.err
