-- What is told of a line with a fault.
use Rattle.std.proofs.Common.{◌≡◌, ◌⊎◌, ℕ, List, Result, Ok, Err, inl, inr, subst}
use Rattle.std.specs.Prelude.{OnOk, OnErr}
use Rattle.script_text.specs.Watched.{Writer, TookBytes, TakesPart}

-- a text that was written as a whole or in part
pub written : {T E : Type 0} (r : Result T E) (old new : Writer) (text whole : List ℕ) → text ≡ whole → OnOk r (TookBytes old new text)
    → OnErr r (TakesPart old new text) → TookBytes old new whole ⊎ TakesPart old new whole
written (Ok x) old new text whole same p q = inl (subst (TookBytes old new) same p)
written (Err e) old new text whole same p q = inr (subst (TakesPart old new) same q)
