use Rattle.std.proofs.Common.{refl}
use Rattle.type_names.specs.Tables.{type_of}
use Rattle.type_names.proofs.Naming.{words_more}
use Rattle.type_names.proofs.types.add_word.Goals as goal

pub returns : goal.returns
returns c = λ ts are.
    words_more ts (type_of c.args.named) c.args.words.now c.insert.new.self c.args.named.name refl c.requires
    c.in_ok-insert.ensures.updates are
