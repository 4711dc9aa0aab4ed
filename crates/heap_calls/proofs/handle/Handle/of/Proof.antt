-- `of` keeps what the loose box owns.
use Rattle.std.proofs.Common.{◌≡◌, List, [], ◌∷◌, ◌++◌, refl, sym, subst, Some}
use mir.Val.{Val, vptr}
use base.Logic.{SProp, ent, emp, id⊢}
use types.Kit.{‵, raw, ◌⊛◌, ◌$◌, ◌∵◌, !, qed, by, keep, split, fsplit, fjoin, drop, suffices, use0}
use types.Run.{enter, stop, fld, of_opd, and_then, no_more, returns}
use types.ByLocal.{alloc_all, pass_all, free_all, look_at, get, get_in, sets}
use types.Part.{agg, sub, whole}
use contract.Monad.{fact, fact_i}
use contract.Running.{tables}
use prog.Wp.{WpFn}
use base.Fml.{ftrue}
use denote.Exit.{yes}
use denote.RattleType.{RattleType, owns}
use denote.RawPtr.{block_ptr}
use denote.Signature.{plain}
use denote.Steps.{nothing}
use denote.Triple.Walked.{Stays, stay_dropped, walk_of}
use Rattle.core.proofs.alloc.Calls.{Goes-blank}
use Rattle.std.proofs.raw_atomic.Walks.{proved_at, leaves}
use Rattle.std_heap.specs.contracts.Global.{the_row as Z}
use Rattle.std_heap.specs.contracts.GlobalAllocator.TheImpl.{ghosts}
use Rattle.std_heap.proofs.Global.TheLaws.{the_row_laws as global_laws}
use Rattle.step_core.specs.contracts.heap.Core.{the_row as R}
use Rattle.heap_calls.specs.contracts.loose.Loose as loose
use Rattle.heap_calls.proofs.Values.{both, loose_good, loose_out}
use Rattle.heap_calls.proofs.Handles.{handle_in}
use Rattle.heap_calls.specs.contracts.handle.Handle.of as f
use Rattle.heap_calls.proofs.handle.Handle.of.Statement.{statement}
use Rattle.heap_calls.proofs.handle.Handle.of.Code as code

abbrev L : RattleType
L = loose.the_row R Z ghosts

abbrev stayed : Stays f.ended.signature.params f.ended.kept
stayed = (stay_dropped (plain (λ _. L)) yes, tt)

pub of_spec : {M : Type 1} → statement M
of_spec 𝓤 𝓛 𝓜 𝓡 wired =
    let c = f.clauses 𝓛 𝓜.mem 𝓡.returns in let W = walk_of 𝓛 f.ended stayed c in let 𝓣 = tables 𝓤 𝓛.H 𝓜 𝓡 𝓡.env in
    proved_at 𝓛 f.ended stayed c 𝓜 𝓡 (Goes-blank 𝓛 0 (plain (λ _. L)) yes (λ κs x w. tt), tt) f.Key.name code.function
    (code.unfolded 𝓤 𝓛.H 𝓜 𝓡 wired) (λ z are.
    let v = z.0.3.0 in let Post : Val → SProp 𝓤 = W.post z in let Run : List Val
    → SProp 𝓤 = λ ws. WpFn 𝓤 𝓛.H 𝓣.C 𝓣.Λ code.function ws Post in
    qed 𝓛 ((‵ ftrue ⊛ ‵ (owns (L ∷ []) z.0.3 z.0.4)) ∷ ‵ ftrue ∷ []) ∵ split ! $ drop ! $ fsplit ! $
    loose_out R Z global_laws ghosts ! v z.0.4.0 (λ b o h e ws fits.
    let w : Val = both (vptr b o) h in let typed = loose_good R Z global_laws ghosts b o h fits in
    suffices ! (Run (w ∷ [])) (subst (λ (us : List Val). ent 𝓤 (Run (w ∷ [])) (Run us)) (sym (λ i. ws i ++ [])) (id⊢ 𝓤 (Run (w ∷ [])))) $
    enter ! 𝓣.C 𝓣.Λ code.function (w ∷ []) Post $ alloc_all ! (λ l. pass_all ! refl (typed, tt) $
    sets ! (of_opd ! (get_in ! (fld ! refl (stop !)) (sub ! 0 refl (whole !)))) refl (tt, tt) $ sets !
    (of_opd ! (get_in ! (fld ! refl (stop !)) (sub ! 1 refl (whole !)))) refl fits $
    sets ! (of_opd ! (get ! refl)) refl (tt, tt) $ sets !
    (agg ! (and_then ! (get ! refl) (and_then ! (get ! refl) (no_more !)))) refl typed $
    handle_in ! b o h v.alloc v.value $
    use0 𝓛 (raw (fact 𝓤 (Some v.value ≡ Some v.value)))
    (fact_i 𝓤 (Some v.value ≡ Some v.value) (emp 𝓤) refl) $ nothing ! $ nothing ! $ fjoin ! $ nothing ! $
    returns ! (look_at ! 0 refl) $ free_all ! refl $ keep ! (0 ∷ 1 ∷ 3 ∷ 2 ∷ []) $
    by ! (leaves 𝓛 f.ended stayed c z w (record { at = block_ptr b o; alloc = v.alloc; core = Some v.value }) (tt, tt) (tt, tt)))))
