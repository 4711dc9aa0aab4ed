use Rattle.std.proofs.Common.{◌∙◌, ap, arith, length, refl, sym}
use Rattle.heap_steps.specs.declared.step.Reply.TheVariants as replies
use Rattle.heap_steps.specs.declared.step.Refusal.TheVariants as refusals
use Rattle.regions.specs.Table.{pointers_at}
use Rattle.step_core.specs.Stands.{CoreState}
use Rattle.step_core.proofs.Cores.Bare.{fields_bare}
use Rattle.step_core.proofs.Cores.Keeping.{object_led}
use Rattle.step_core.proofs.Cores.Rows.{get_op}
use Rattle.step_core.proofs.Cores.Words.{refused_takes}
use Rattle.step_core.proofs.Mutating.Acting.{get_nil, get_past}
use Rattle.step_core.proofs.heap.Core.get_word.Goals as goal

pub plain_pointer_count-requires : goal.plain_pointer_count-requires
plain_pointer_count-requires c = record {
  there = object_led _ _ _ _ c.self.view_is c.self.invariant c.in-Some.ensures.leads;
  bare = fields_bare _ _ _ _ c.self.view_is c.self.invariant c.in-Some.ensures.leads;
}

pub returns-in_default : goal.returns-in_default
returns-in_default c = record {
  loaded = replies.Refused refusals.Nil;
  loads = refused_takes (get_op c.args.mutator c.args.to c.args.object c.args.field) refusals.Nil c.args.self.now refl (λ g f. f)
      (λ g s. get_nil g _ s c.args.mutator c.args.to c.args.object c.args.field c.in_default.ensures.leads);
  reads = refl;
}

pub returns-then-field-plain_pointer_count : goal.returns-then-field-plain_pointer_count
returns-then-field-plain_pointer_count c = record {
  loaded = replies.Refused refusals.NoField;
  loads = refused_takes (get_op c.args.mutator c.args.to c.args.object c.args.field) refusals.NoField c.args.self.now refl (λ g f. f)
      (λ g s. get_past g _ s c.args.mutator c.args.object _ c.in-Some.ensures.leads c.args.to c.args.field
      (let count = c.plain_pointer_count.ensures ∙ ap (λ (d : CoreState). length (pointers_at d.table c.in-Some.at)) c.self.view_is in
      omega arith));
  reads = refl;
}

pub load_word-requires-clause-held : goal.load_word-requires-clause-held
load_word-requires-clause-held c = sym c.register.ensures.value ∙ c.in-Some.is
