use Rattle.std.proofs.Common.{◌≡◌, ◌∙◌, Option, None, Some, Bool, true, false, ap, refl, sym}
use Rattle.std.specs.Prelude.{is_some}
use Rattle.type_names.specs.Tables.{type_of}
use Rattle.type_names.proofs.Naming.{firsts_more, firsts_same}
use Rattle.type_names.proofs.types.add_first.Goals as goal

none_of : {X : Type 0} (o : Option X) → is_some o ≡ false → o ≡ None
none_of None e = refl
none_of (Some x) e = absurd cc

pub returns-then-contains_key : goal.returns-then-contains_key
returns-then-contains_key c = λ ts are.
    firsts_same ts (type_of c.args.named) c.args.firsts.now
    (ap is_some (sym (are c.args.named.name.now)) ∙ sym c.contains_key.ensures ∙ c.if-contains_key.true) are

pub returns : goal.returns
returns c = λ ts are.
    firsts_more ts (type_of c.args.named) c.args.firsts.now c.insert.new.self
    (sym (are c.args.named.name.now) ∙ none_of _ (sym c.contains_key.ensures ∙ c.if-contains_key.false))
    c.in_ok-insert.ensures.updates are
