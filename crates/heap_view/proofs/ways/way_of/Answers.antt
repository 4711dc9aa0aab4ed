use Rattle.std.proofs.Common.{◌≡◌, ◌∙◌, ℕ, List, Option, Some, ap, subst, sym}
use Rattle.std.specs.Prelude.{slice_get}
use Rattle.step_core.specs.Stands.{kept_of, name_of}
use Rattle.heap_view.specs.Search.{IsPlaceOf}
use Rattle.heap_view.specs.declared.search.Stage.{Stage}
use Rattle.heap_view.proofs.Shortest.{no_way, shortest}
use Rattle.heap_view.proofs.ways.way_of.Goals as goal

pub returns-in-Some : goal.returns-in-Some
returns-in-Some c = λ n named.
    let core = c.args.core.now in
    let q = c.in_ok-stages.stages.items in
    let (s, there, at) = subst (λ (o : Option ℕ). IsPlaceOf q c.args.object o) c.in-Some.is
    (subst (λ (l : List Stage). IsPlaceOf l c.args.object c.place_of.result) c.deref.ensures.value c.place_of.ensures) in
    let way = c.in_ok-way_to-in-Some.ensures s
    (ap (λ (l : List Stage). slice_get l c.in-Some.place) c.deref-in-Some.ensures.value ∙ there) in
    shortest core c.law_remembers.ensures.core q c.in_ok-stages.ensures c.in-Some.place s n _ there
    (subst (λ (x : ℕ). name_of (kept_of core x) ≡ Some n) (sym at) named) way

pub returns : goal.returns
returns c = λ n named.
    let core = c.args.core.now in
    let q = c.in_ok-stages.stages.items in
    let none = subst (λ (o : Option ℕ). IsPlaceOf q c.args.object o) c.in-None.is
    (subst (λ (l : List Stage). IsPlaceOf l c.args.object c.place_of.result) c.deref.ensures.value c.place_of.ensures) in
    no_way core c.law_remembers.ensures.core q c.in_ok-stages.ensures c.args.object n named none
