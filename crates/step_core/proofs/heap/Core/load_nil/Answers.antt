use Rattle.std.proofs.Common.{None, refl}
use Rattle.step_core.proofs.Cores.Filling.{names_at}
use Rattle.step_core.proofs.Cores.Keeping.{field_can_be_stored}
use Rattle.step_core.proofs.Cores.Loads.{loads}
use Rattle.step_core.proofs.Mutating.Acting.{field_word}
use Rattle.step_core.proofs.heap.Core.load_nil.Goals as goal

pub set_register-requires-clause-word : goal.set_register-requires-clause-word
set_register-requires-clause-word c =
    let names = names_at _ c.args.mutator c.args.object c.args.at c.law_remembers.ensures.core c.requires.mutator c.requires.object
    c.requires.held in
    field_word c.args.self.now _ c.args.at c.args.field None c.law_remembers.ensures.core names.leads c.requires.there

pub set_register-requires-clause-held : goal.set_register-requires-clause-held
set_register-requires-clause-held c =
    let names = names_at _ c.args.mutator c.args.object c.args.at c.law_remembers.ensures.core c.requires.mutator c.requires.object
    c.requires.held in
    field_can_be_stored c.args.self.now c.args.self.now _ c.args.at c.args.field None refl c.law_remembers.ensures.core names.leads
    names.rooted c.requires.there

pub returns : goal.returns
returns c = loads c.args.self.now c.set_register.new.self c.args.mutator c.args.to c.args.object c.args.at c.args.field None
    c.law_remembers.ensures.core c.requires.mutator c.requires.to c.requires.object c.requires.held c.requires.there
    c.set_register.ensures.shows c.set_register.ensures.sets
