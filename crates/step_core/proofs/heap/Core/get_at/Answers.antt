use Rattle.std.proofs.Common.{◌∙◌, ap, refl, sym, slice_get}
use Rattle.heap_steps.specs.declared.step.Action.TheVariants as actions
use Rattle.heap_steps.specs.declared.step.Reply.TheVariants as replies
use Rattle.regions.specs.Table.{pointers_at}
use Rattle.step_core.specs.Stands.{CoreState}
use Rattle.step_core.proofs.Cores.Acted.{acted_plain}
use Rattle.step_core.proofs.Cores.Filling.{names_at}
use Rattle.step_core.proofs.Cores.Keeping.{field_can_be_stored, field_of}
use Rattle.step_core.proofs.Cores.Rows.{get_op}
use Rattle.step_core.proofs.Mutating.Acting.{get_done}
use Rattle.step_core.proofs.Mutating.Done.{got}
use Rattle.step_core.proofs.heap.Core.get_at.Goals as goal

pub take_named-requires-clause-word : goal.take_named-requires-clause-word
take_named-requires-clause-word c =
    let names = names_at _ c.args.mutator c.args.object c.args.at c.law_remembers.ensures.core c.requires.mutator c.requires.object
    c.requires.held in
    field_of _ _ _ _ _ _ c.self.view_is c.self.invariant names.leads c.get_ptr-value.ensures

pub take_named-requires-clause-held : goal.take_named-requires-clause-held
take_named-requires-clause-held c =
    let names = names_at _ c.args.mutator c.args.object c.args.at c.law_remembers.ensures.core c.requires.mutator c.requires.object
    c.requires.held in
    field_can_be_stored _ _ _ _ _ _ c.self.view_is c.self.invariant names.leads names.rooted c.get_ptr-value.ensures

pub returns : goal.returns
returns c =
    let names = names_at _ c.args.mutator c.args.object c.args.at c.law_remembers.ensures.core c.requires.mutator c.requires.object
    c.requires.held in
    let l = names.leads in
    let there = ap (λ (d : CoreState). slice_get (pointers_at d.table c.args.at) c.args.field) (sym c.self.view_is)
    ∙ c.get_ptr-value.ensures in
    let taken = c.take_named.ensures in
    record {
      name = c.take_named.result;
      takes = acted_plain (get_op c.args.mutator c.args.to c.args.object c.args.field)
          (actions.Get c.args.to c.args.object c.args.field) (replies.Named c.take_named.result) c.args.self.now c.take_named.new.self refl
          refl (λ g f. f) (record {
            acts = λ g s. get_done g _ s c.args.mutator c.args.object _ l c.args.to c.args.field c.get_ptr-value.result
                c.take_named.result _ there taken.name taken.shows;
            keeps = taken.sets.keeps;
            after = got _ _ c.args.mutator c.args.to c.args.object c.args.field c.args.at c.get_ptr-value.result c.requires.held there
                taken.sets.after;
            leaves = taken.sets.leaves;
          });
      word = c.get_ptr-value.result;
      after = taken.sets.after;
    }
