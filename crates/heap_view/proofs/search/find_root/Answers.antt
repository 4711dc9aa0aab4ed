use Rattle.std.proofs.Common.{◌≡◌, ◌∙◌, Some, ap, arith, refl, sym}
use Rattle.std.proofs.lemmas.Result.{IfOk-weaker}
use Rattle.step_core.specs.Mutators.{root_of}
use Rattle.heap_walk.proofs.Linking.{root_kept}
use Rattle.heap_view.proofs.Searched.{root_found, within_set}
use Rattle.heap_view.proofs.search.find_root.Goals as goal

pub find-requires : goal.find-requires
find-requires c =
    let leads : root_of c.args.core.now c.args.place ≡ Some c.in-Some.at = sym c.root_at.ensures ∙ c.in-Some.is in
    let kept = root_kept c.args.core.now c.args.place c.in-Some.at c.law_remembers.ensures.core leads in
    let within = within_set c.args.core.now c.args.stages.now.items c.args.seen.now c.in-Some.at c.law_shaped.ensures c.requires.roots.are
    kept in
    omega (arith, c.word.ensures, within)

pub returns : goal.returns
returns c =
    let leads = sym c.root_at.ensures ∙ c.in-Some.is ∙ ap Some (sym c.word.ensures) in
    IfOk-weaker c.find.result _ _
    (λ v found. root_found c.args.core.now _ _ _ _ c.args.place _ c.law_shaped.ensures c.law_remembers.ensures.core c.requires.place
    c.requires.roots leads refl refl found)
    c.find.ensures
