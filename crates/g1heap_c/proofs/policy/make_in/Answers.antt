use Rattle.std.proofs.Common.{refl}
use Rattle.g1heap_c.proofs.Named.{has_register}
use Rattle.g1heap_c.proofs.policy.make_in.Goals as goal

pub nil_where_full-requires : goal.nil_where_full-requires
nil_where_full-requires g c full =
    has_register c.args.core.now c.make-reply.new.core c.args.op.mutator c.args.to c.make-reply.ensures.config
    (c.requires.to.mutator, c.requires.to.register)

pub returns : goal.returns
returns g c = record {
  made = c.make-reply.new.core;
  asks = record {
    reply = c.make-reply.result;
    core = c.make-reply.new.core;
    tells = c.answer_of.ensures;
    held = refl;
    makes = c.make-reply.ensures.makes;
    full = c.make-reply.ensures.full;
    two = c.make-reply.ensures.two;
  };
  last = c.nil_where_full.new.core;
  nils = c.nil_where_full.ensures;
  held = refl;
}
