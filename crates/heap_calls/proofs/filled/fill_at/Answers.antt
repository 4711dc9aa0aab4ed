use Rattle.std.proofs.Common.{◌∙◌, arith, refl, sym}
use Rattle.heap_calls.proofs.Filling.{can_make, counts_here, put_runs, sources_there, still_held}
use Rattle.heap_calls.proofs.filled.fill_at.Goals as goal

pub put_all_at-requires-clause-mutator : goal.put_all_at-requires-clause-mutator
put_all_at-requires-clause-mutator c = (can_make _ _ _ _ _ _ c.register.ensures c.requires.fields.makes).mutator

pub put_all_at-requires-clause-object : goal.put_all_at-requires-clause-object
put_all_at-requires-clause-object c = (can_make _ _ _ _ _ _ c.register.ensures c.requires.fields.makes).to

pub put_all_at-requires-clause-values : goal.put_all_at-requires-clause-values
put_all_at-requires-clause-values c = sources_there _ c.args.mutator c.args.to _ c.requires.fields.points

pub put_all_at-requires-clause-fields : goal.put_all_at-requires-clause-fields
put_all_at-requires-clause-fields c =
    let count = (counts_here _ _ _ _ c.args.at _ _ _ c.requires.made refl (sym c.requires.held)).pointers in omega (arith, count)

pub word-requires-clause-held : goal.word-requires-clause-held
word-requires-clause-held c =
    let p = c.put_all_at.ensures in
    still_held c.args.core.now c.put_all_at.new.self _ _ _ _ p.config p.roots refl c.requires.held

pub word-requires-clause-pointers : goal.word-requires-clause-pointers
word-requires-clause-pointers c =
    let count = (counts_here _ _ _ _ c.args.at _ _ _ c.requires.made refl (sym c.requires.held)).pointers in
    let same = c.put_all_at.ensures.pointers in
    omega (arith, count, same)

pub word-requires-clause-weaks : goal.word-requires-clause-weaks
word-requires-clause-weaks c =
    c.put_all_at.ensures.weaks ∙ (counts_here _ _ _ _ c.args.at _ _ _ c.requires.made refl (sym c.requires.held)).weaks

pub word-requires-clause-counts : goal.word-requires-clause-counts
word-requires-clause-counts c =
    c.put_all_at.ensures.values ∙ (counts_here _ _ _ _ c.args.at _ _ _ c.requires.made refl (sym c.requires.held)).values

pub returns : goal.returns
returns c = (
  c.put_all_at.new.self,
  (put_runs _ c.args.mutator c.args.to _ _ _ _ c.register.ensures c.put_all_at.ensures.put, c.word.ensures),
)
