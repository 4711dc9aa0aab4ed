use Rattle.std.proofs.Common.{◌∙◌, List, ap, map, sym, subst}
use Rattle.heap_walk.specs.Walks.{entries_at}
use Rattle.heap_walk.proofs.Telling.{between_nothing}
use Rattle.heap_view.specs.Census.{AreSmall, class_of}
use Rattle.heap_view.specs.declared.classes.Class.{Class}
use Rattle.heap_view.proofs.KeptClasses.{all_classes, classes_small, more_classes}
use Rattle.heap_view.proofs.classes.kept_classes.Goals as goal

pub objects-init : goal.objects-init
objects-init c = c.new-classes.ensures.items ∙ ap (map class_of) (sym (between_nothing (entries_at c.args.core.now) 0))

pub objects-preserved : goal.objects-preserved
objects-preserved c =
    more_classes c.args.core.now c.law_shaped.ensures _ _ _ _ _ c.in_ok-add_next.ensures c.objects.invariant

pub returns-then-not-branch-clause-value : goal.returns-then-not-branch-clause-value
returns-then-not-branch-clause-value c =
    all_classes c.args.core.now c.law_shaped.ensures _ _ (c.in_ok-add_next.ensures.over c.if-not-branch.true)
    (more_classes c.args.core.now c.law_shaped.ensures _ _ _ _ _ c.in_ok-add_next.ensures c.objects.invariant)

pub returns-then-not-branch-clause-small : goal.returns-then-not-branch-clause-small
returns-then-not-branch-clause-small c =
    subst (λ (l : List Class). AreSmall l)
    (sym (all_classes c.args.core.now c.law_shaped.ensures _ _ (c.in_ok-add_next.ensures.over c.if-not-branch.true)
    (more_classes c.args.core.now c.law_shaped.ensures _ _ _ _ _ c.in_ok-add_next.ensures c.objects.invariant)))
    (classes_small c.args.core.now c.law_shaped.ensures)
