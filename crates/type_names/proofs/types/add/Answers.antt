use Rattle.std.proofs.Common.{List, None}
use Rattle.std.specs.Prelude.{Err, Ok, OnOk, Result}
use Rattle.type_names.specs.NamedLines.{TypeName}
use Rattle.type_names.specs.Tables.{AreFirsts, AreNames, AreWords}
use Rattle.type_names.specs.declared.types.Names.{Names}
use Rattle.type_names.proofs.types.add.Goals as goal

both : {T E : Type 0} (r : Result T E) (ts : List TypeName) (new : Names) → AreWords ts new.words → OnOk r (AreFirsts ts new.firsts)
    → OnOk r (AreNames ts new)
both (Ok done) ts new words firsts = record { words = words; firsts = firsts }
both (Err error) ts new words firsts = tt

pub returns : goal.returns
returns c = λ ts are. both c.add_first.result _ _ (c.in_ok-add_word.ensures ts are.words) (c.add_first.ensures ts are.firsts)
