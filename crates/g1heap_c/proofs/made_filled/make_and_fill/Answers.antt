use Rattle.std.proofs.Common.{◌≡◌, ◌∙◌, ℕ, List, ap, refl, subst}
use Rattle.heap_steps.specs.declared.step.Op.{Op}
use Rattle.heap_steps.specs.declared.step.Refusal.TheVariants as refusals
use Rattle.heap_steps.specs.declared.step.Reply.{Reply}
use Rattle.heap_steps.specs.declared.step.Reply.TheVariants as replies
use Rattle.step_core.specs.Making.{HasMade}
use Rattle.step_core.specs.Stands.{CoreState}
use Rattle.heap_calls.specs.Filled.{FillsIt}
use Rattle.heap_calls.specs.Steps.{IsUpTo}
use Rattle.g1heap_c.specs.Policies.{AnswersMake}
use Rattle.g1heap_c.proofs.Named.{has_register}
use Rattle.std.specs.Prelude.{Some}
use Rattle.g1heap_c.proofs.made_filled.make_and_fill.Goals as goal

pub fill_made-requires-clause-made : goal.fill_made-requires-clause-made
fill_made-requires-clause-made g c =
    subst (λ (op : Op). HasMade op.mutator op.action c.make-reply.result c.make-reply.new.core) c.plain-op.ensures.op
    c.make-reply.ensures.made

pub nil_where_full-requires : goal.nil_where_full-requires
nil_where_full-requires g c full =
    let same : c.fill_made.new.core ≡ c.make-reply.new.core = not_filled c.make-reply.result c.make-reply.new.core c.fill_made.new.core
    c.args.mutator c.args.to c.args.from.now c.args.words.now full c.fill_made.ensures in
    let sizes : c.fill_made.new.core.config ≡ c.args.core.now.config =
    ap (λ (x : CoreState). x.config) same ∙ c.make-reply.ensures.config in
    let known =
    (subst (λ (op : Op). IsUpTo c.args.to op) c.plain-op.ensures.op c.plain-op.ensures.known c.args.core.now.config).0 c.requires.makes in
    has_register c.args.core.now c.fill_made.new.core c.args.mutator c.args.to sizes known
  where
    not_filled : (reply : Reply) (d e : CoreState) (m to : ℕ) (from words : List ℕ) → reply ≡ replies.Refused refusals.Full
        → FillsIt reply d m to from words e → e ≡ d
    not_filled reply d e m to from words full h = subst (λ (r : Reply). FillsIt r d m to from words e) full h

pub returns : goal.returns
returns g c = record {
  made = c.make-reply.new.core;
  asks = subst (λ (op : Op). AnswersMake g.W.Watch.sees c.args.core.now c.args.watch.now op (c.answer_of.result)
      (Some c.make-reply.new.core) c.make-reply.new.watch) c.plain-op.ensures.op
      (record {
        reply = c.make-reply.result;
        core = c.make-reply.new.core;
        tells = c.answer_of.ensures;
        held = refl;
        makes = c.make-reply.ensures.makes;
        full = c.make-reply.ensures.full;
        two = c.make-reply.ensures.two;
      });
  filled = c.fill_made.new.core;
  fills = c.fill_made.ensures;
  last = c.nil_where_full.new.core;
  nils = c.nil_where_full.ensures;
  held = refl;
}
