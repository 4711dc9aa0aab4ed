use Rattle.std.proofs.Common.{◌≡◌, ◌∙◌, ℕ, None, Some, ap, arith, false, refl, sym}
use Rattle.std.specs.Prelude.{length, slice_get}
use Rattle.std.proofs.lemmas.Option.{slice_get_read}
use Rattle.std.proofs.lemmas.Result.{IfOk-weaker}
use Rattle.regions.specs.Table.{pointers_at}
use Rattle.heap_walk.proofs.Linking.{link_kept}
use Rattle.heap_view.proofs.Searched.{keeps_places, link_found, link_nil, within_set}
use Rattle.heap_view.proofs.search.follow_link.Goals as goal

pub find-requires : goal.find-requires
find-requires c =
    let q = c.args.stages.now.items in
    let stage = c.index-stage.result.now in
    let there : slice_get q c.args.place ≡ Some stage =
    slice_get_read q (length q) c.args.place stage refl c.requires.place c.index-stage.ensures in
    let leads : slice_get (pointers_at c.args.core.now.table stage.at) c.args.index ≡ Some (Some c.in-Some.at) =
    ap (λ (x : ℕ). slice_get (pointers_at c.args.core.now.table x) c.args.index) (sym c.new.ensures) ∙ c.link_at.ensures
    ∙ ap Some c.in-Some.is in
    let from = c.requires.searched.are.kept c.args.place stage there in
    let kept = link_kept c.args.core.now false stage.at c.args.index c.in-Some.at c.law_remembers.ensures.core from leads in
    let within = within_set c.args.core.now q c.args.seen.now c.in-Some.at c.law_shaped.ensures c.requires.searched.are kept in
    omega (arith, c.word.ensures, within)

pub returns-in_default : goal.returns-in_default
returns-in_default c =
    let q = c.args.stages.now.items in
    let stage = c.index-stage.result.now in
    let there : slice_get q c.args.place ≡ Some stage =
    slice_get_read q (length q) c.args.place stage refl c.requires.place c.index-stage.ensures in
    let nil : slice_get (pointers_at c.args.core.now.table stage.at) c.args.index ≡ Some None =
    ap (λ (x : ℕ). slice_get (pointers_at c.args.core.now.table x) c.args.index) (sym c.new.ensures) ∙ c.link_at.ensures
    ∙ ap Some c.in_default.is in
    (link_nil c.args.core.now q c.args.seen.now c.args.place c.args.index stage c.requires.searched there nil, λ i s e. e)

pub returns : goal.returns
returns c =
    let q = c.args.stages.now.items in
    let stage = c.index-stage.result.now in
    let there : slice_get q c.args.place ≡ Some stage =
    slice_get_read q (length q) c.args.place stage refl c.requires.place c.index-stage.ensures in
    let leads = ap (λ (x : ℕ). slice_get (pointers_at c.args.core.now.table x) c.args.index) (sym c.new.ensures) ∙ c.link_at.ensures
    ∙ ap Some c.in-Some.is ∙ ap (λ (n : ℕ). Some (Some n)) (sym c.word.ensures) in
    IfOk-weaker c.find.result _ _
    (λ v found. (
      link_found c.args.core.now q _ c.args.seen.now _ c.args.place c.args.index stage _ c.law_shaped.ensures c.law_remembers.ensures.core
          c.requires.searched there leads refl refl found,
      keeps_places q _ _ _ _ found,
    ))
    c.find.ensures
