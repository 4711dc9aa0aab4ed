use Rattle.std.proofs.Common.{◌≡◌, ◌<◌, ◌∙◌, Option, Some, None, length, ap, sym, subst, refl, ℕ, true, false, not, slice_get}
use Rattle.std.specs.Option.{is_some}
use Rattle.regions.specs.Table.{weaks_at}
use Rattle.step_core.specs.Stands.{CoreState}
use Rattle.step_core.specs.Mutators.{weaks_shown}
use Rattle.step_core.proofs.Cycles.Cycling.{to_fields}
use Rattle.step_core.proofs.Mutating.WeaksShown.{shown_raw, shown_kept}
use Rattle.step_core.proofs.heap.Core.weak_shown.Goals as goal

pub get_weak-word-requires : goal.get_weak-word-requires
get_weak-word-requires c = to_fields _ _ c.self.view_is (λ d. c.args.slot < length (weaks_at d.table c.args.object)) c.requires

none_of : (o : Option ℕ) → is_some o ≡ false → o ≡ None
none_of None e = refl
none_of (Some x) e = cc

some_of : (o : Option ℕ) → is_some o ≡ true → (v : ℕ) × (o ≡ Some v)
some_of None e = cc
some_of (Some x) e = (x, refl)

pub returns-then-is_none : goal.returns-then-is_none
returns-then-is_none c =
    subst (λ (d : CoreState). slice_get (weaks_shown d c.args.object) c.args.slot ≡ Some c.get_weak-word.result) c.self.view_is
    (shown_raw _ c.self.invariant c.args.object c.args.slot _ c.get_weak-word.ensures
    (sym c.lasting.ensures ∙ none_of _ (c.is_none.ensures ∙ ap not c.if-is_none.true)))

pub returns : goal.returns
returns c =
    let (v, is) = some_of _ (c.is_none.ensures ∙ ap not c.if-is_none.false) in
    subst (λ (d : CoreState). slice_get (weaks_shown d c.args.object) c.args.slot ≡ Some c.lasting-2.result) c.self.view_is
    (shown_kept _ c.self.invariant c.args.object c.args.slot _ c.get_weak-word.ensures v (sym c.lasting.ensures ∙ is)
    ∙ ap Some (sym c.lasting-2.ensures))
