-- `core_mut` lends the core, and the handle follows it.
use Rattle.std.proofs.Common.{◌≡◌, ℕ, List, [], ◌∷◌, refl, sym, Some}
use base.Fraction.{full_share}
use mir.Syntax.{named}
use mir.Val.{Val, vptr}
use mir.Raw.{raw as bare}
use base.Logic.{SProp, ent, sep}
use base.Fml.{GName, Lft, Share, Fml, fsep, flft, ftrue}
use seplogic.Ra.Ura.{Ura}
use prog.Wp.{Env}
use types.Logic.{Logic, sem}
use types.Kit.{‵, raw, ◌⊛◌, some, later, at_ret, ◌$◌, ◌∵◌, !, qed, by, move, keep, use1, drop, split, join, pick, group, rewrite}
use types.Kit.{fsplit, fsplit3, fjoin, fpack, suffices, frame, done, await}
use types.Part.{whole, sub, look_in}
use types.Run.{stop, fld, load, of_opd, first, blocks, exec, returns, enter, addr}
use types.ByLocal.{alloc_all, pass_all, free_all, look_at, get, through, sets, env, sets_last}
use contract.Monad.{fact}
use contract.Running.{tables}
use mathlib.Core.Bool.{true}
use denote.Exit.{no}
use denote.Follow.{follows, Part, lends_Part}
use denote.Memory.{part_at, mem, cell_at, part_of, lone}
use denote.RattleType.{RattleType, owns}
use denote.RawPtr.{Ptr, block_ptr}
use denote.Ref.{MutBor, MutRef, mut_vals, mut_Tells}
use denote.Signature.{plain, mut_ref_to}
use denote.Steps.{nothing, opens, heard}
use denote.Triple.Walked.{says, Stays, stay_dropped, walk_of, ends_at, Goes-spent_ref}
use Rattle.std.proofs.raw_atomic.Walks.{proved}
use Rattle.std_alloc.proofs.VecSteps.Shapes.{after}
use Rattle.std_heap.specs.contracts.Global.{the_row as Z}
use Rattle.std_heap.specs.contracts.GlobalAllocator.TheImpl.{ghosts}
use Rattle.step_core.specs.contracts.heap.Core.{the_row as R}
use Rattle.heap_calls.specs.Held.{is_held}
use Rattle.heap_calls.specs.Lending.{with_core}
use Rattle.heap_calls.specs.contracts.handle.Handle as handle
use Rattle.heap_calls.proofs.Values.{both}
use Rattle.heap_calls.proofs.Handles.{handle_out, handle_in, something}
use Rattle.heap_calls.specs.contracts.handle.Handle.core_mut as f
use Rattle.heap_calls.proofs.handle.Handle.core_mut.Statement.{statement}
use Rattle.heap_calls.proofs.handle.Handle.core_mut.Code as code

abbrev L : RattleType
L = handle.the_row

abbrev stayed : Stays f.ended.signature.params f.ended.kept
stayed = (stay_dropped (mut_ref_to (0 ∷ []) tt (plain (λ _. L))) no, tt)

-- all of the handle but its core
abbrev Rest : L.Denot → ℕ → ℕ → Val → ℕ → ℕ → Fml
Rest d b o h rb ro =
    fsep (fsep (ghosts.dealloc_token d.alloc (bare (lone R.mir)) (block_ptr b o)) (Z.own_val d.alloc (h ∷ [])))
    (cell_at full_share L.mir (both (vptr b o) h ∷ []) rb ro)

module _ {M : Type 1} {𝓤 : Ura M} (𝓛 : Logic 𝓤) (d : L.Denot) (b o : ℕ) (h : Val) (rb ro : ℕ) where
  -- with any core there the rest makes the handle of that core
  back : d.at ≡ block_ptr b o → (w : R.Denot)
      → ent 𝓤 (sep 𝓤 (sem 𝓛 ((mem R).own_at w b o)) (sem 𝓛 (Rest d b o h rb ro))) (sem 𝓛 ((mem L).own_at (with_core d w) rb ro))
  unfolding part_of
  back at w =
      qed 𝓛 (‵ (part_at R full_share w b o) ∷ ‵ (Rest d b o h rb ro) ∷ []) ∵ move ! (1 ∷ []) $ fsplit ! $ fsplit ! $ move ! (3 ∷ []) $
      fjoin ! $ handle_in ! b o h d.alloc w $
      rewrite ! 0 (λ (p : Ptr). ‵ (L.own_val (record { at = p; alloc = d.alloc; core = Some w }) (both (vptr b o) h ∷ []))) (sym at) refl $
      move ! (1 ∷ 0 ∷ []) $ fjoin ! $
      fpack ! (List Val) (λ us. fsep (cell_at full_share L.mir us rb ro) (L.own_val (with_core d w) us)) (both (vptr b o) h ∷ []) $ done !

pub core_mut_spec : {M : Type 1} → statement M
core_mut_spec 𝓤 𝓛 𝓜 𝓡 wired =
    let c = f.clauses 𝓛 𝓜.mem 𝓡.returns in let 𝓣 = tables 𝓤 𝓛.H 𝓜 𝓡 𝓡.env in let fn = code.function in
    proved 𝓛 f.ended stayed c 𝓜 𝓡 (Goes-spent_ref 𝓛 1 (0 ∷ []) tt (plain (λ _. L)), tt) f.Key.name fn
    (code.unfolded 𝓤 𝓛.H 𝓜 𝓡 wired) (λ κs. (mut_vals, tt)) (λ κs. (mut_Tells (named 0) κs.0 L, tt)) (λ κs qs bounds a gh are.
    let κ : Lft = κs.0 in let q : Share = qs.0 in let rb : ℕ = a.0.ref_ptr.0 in let ro : ℕ = a.0.ref_ptr.1 in
    let γ : GName = a.0.ghost_name in let d : L.Denot = a.0.now in
    let y : (walk_of 𝓛 f.ended stayed c).Ghost = ((κs, qs, bounds, a, (vptr rb ro ∷ [], tt)), gh) in
    let Post : Val → SProp 𝓤 = (walk_of 𝓛 f.ended stayed c).post y in
    qed 𝓛 (((‵ (flft κ q) ⊛ ‵ ftrue) ⊛ ‵ (owns (MutRef (named 0) κ L ∷ []) a (vptr rb ro ∷ [], tt)))
    ∷ raw (fact 𝓤 (is_held d.core ≡ true)) ∷ []) ∵ move ! (1 ∷ []) $ heard !
    (is_held d.core ≡ true) (λ ne. let kept = something d.core ne in let x = kept.0 in
    split ! $ enter ! 𝓣.C 𝓣.Λ fn (vptr rb ro ∷ []) Post $ alloc_all ! (λ l. pass_all ! refl ((tt, tt), tt) $
    let En : Env 𝓤 𝓛.H = env fn.locals l in
    move ! (1 ∷ []) $ fsplit ! $ fsplit3 ! $ drop ! $ move ! (3 ∷ []) $ split ! $ move ! (2 ∷ 3 ∷ 0 ∷ []) $
    opens ! tt L {h = d} rb ro (λ vs. move ! (1 ∷ []) $ handle_out ! d vs x kept.1 (λ b o h at ws fits.
    fsplit ! $ move ! (1 ∷ 2 ∷ []) $ fjoin ! $ move ! (1 ∷ []) $
    rewrite ! 2 (λ (us : List Val). ‵ (cell_at full_share L.mir us rb ro)) ws refl $
    first ! $ blocks ! $
    sets ! (of_opd ! (load ! (through ! refl (fld ! refl (stop !))) (look_in ! 2 (sub ! 0 refl (whole !))))) refl (tt, tt) $
    sets ! (of_opd ! (get ! refl)) refl (tt, tt) $
    sets_last ! (addr ! (through ! refl (stop !))) refl (tt, tt) $
    exec ! 𝓣.C 𝓣.Λ En (after 1 fn.body) (at_ret En Post) $
    sets ! (of_opd ! (get ! refl)) refl (tt, tt) $
    move ! (1 ∷ 2 ∷ []) $ fjoin ! $ move ! (2 ∷ 3 ∷ 4 ∷ 1 ∷ 0 ∷ []) $ group ! 5 $
    use1 𝓛 (later (some (λ (γ' : GName). raw (Part 𝓛 L R (with_core d) (named 0) κ q rb ro b o γ (sem 𝓛 (Rest d b o h rb ro))
    (back 𝓛 d b o h rb ro at) x γ'))))
    (lends_Part 𝓛 L R (with_core d) (named 0) κ q rb ro b o γ (sem 𝓛 (Rest d b o h rb ro)) (back 𝓛 d b o h rb ro at)
    (L.coded.code d) (L.coded.code d) x) $ await ! tt $ pick ! (λ γ'.
    let r : MutBor R.Denot = record { ref_ptr = (b, o); ghost_name = γ'; now = x } in
    returns ! (look_at ! 0 refl) $ free_all ! refl $ keep ! (0 ∷ []) $
    by ! (qed 𝓛 (‵ ((MutRef (named 0) κ R).own_val r (vptr b o ∷ [])) ∷ ‵ (flft κ q) ∷ ‵ (follows L R γ γ' (with_core d)) ∷ []) ∵
    suffices ! _ (ends_at 𝓛 f.ended stayed c y (vptr b o) r (tt, tt) (tt, tt)) $
    nothing ! $ nothing ! $ fjoin ! $ join ! $ nothing ! $ move ! (2 ∷ 0 ∷ []) $ join ! $ join ! $ frame ! $ says ! kept.1 $ done !)))))))
