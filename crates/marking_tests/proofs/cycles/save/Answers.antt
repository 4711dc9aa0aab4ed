use Rattle.regions.proofs.Common.{◌≡◌, ◌∙◌, ℕ, subst, HasObject}
use Rattle.marking_tests.proofs.Samples.{object_read}
use Rattle.marking_tests.proofs.cycles.save.Goals as goal

pub save-requires-clause-kept : goal.save-requires-clause-kept
save-requires-clause-kept c = λ a e.
    let h = object_read c.args.made.now.table c.args.made.now.objects.items c.len.result c.args.object c.index-at.result.now
    (c.len.ensures ∙ c.args.made.now.objects.ok.0) c.if-object-len.false c.index-at.ensures c.requires.objects in
    let same : c.index-at.result.now ≡ a = cc in
    c.requires.kept a (subst (λ (x : ℕ). HasObject c.args.made.now.table x) same h)
