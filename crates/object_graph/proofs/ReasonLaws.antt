-- What the graph gives for a step, and what a judge tells of an event.
use Rattle.std.proofs.Common.{◌≡◌, ◌↔◌, ◌⊎◌, ◌+◌, ◌-◌, ◌<◌, ◌≤◌, ◌++◌, ◌∷◌, ◌∙◌}
use Rattle.std.proofs.Common.{ℕ, Option, Some, None, List, [], take, length, get_or, slice_get, Result, Ok, Err, refl, sym, ap, subst, inl}
use Rattle.std.proofs.Common.{inr, arith}
use Rattle.std.specs.Prelude.{IfOk}
use Rattle.std.proofs.lemmas.List.{take_all, take_more}
use Rattle.std.proofs.lemmas.Option.{slice_get-get_or, slice_get_within}
use Rattle.heap_words.specs.declared.config.Config.{Config}
use Rattle.heap_model.specs.Graph.{Graph, RootCounts, next_name}
use Rattle.heap_model.specs.Weak.{cleared_graph}
use Rattle.heap_steps.specs.Actors.{IsStepOf, IsEvent}
use Rattle.heap_steps.specs.Roots.{IsOpAt}
use Rattle.graph_runs.specs.State.{State, IsSoundState, ForSnapshot, IsEarlier, first_state, root_counts_of}
use Rattle.object_graph.specs.Reached.{started, all_found, searched, flag_of}
use Rattle.graph_runs.specs.Machine.{Outcome, outcome_of, reply_of}
use Rattle.graph_runs.specs.Run.{ForMutator, ClearsBy, ChangesState, Happens, EventHappens, IsRun, snapshot_after}
use Rattle.object_graph.specs.Judged.{Judged}
use Rattle.object_graph.specs.Reasons.{IsGiven, MayStand, Refuses, Finds, verdict_of, Judging, HasJudged, JudgesNext, SparingJudges}
use Rattle.heap_steps.specs.declared.step.Actor.{Actor}
use Rattle.heap_steps.specs.declared.step.Actor.TheVariants as actors
use Rattle.heap_steps.specs.declared.step.CollectorStep.{CollectorStep}
use Rattle.heap_steps.specs.declared.step.Op.{Op}
use Rattle.heap_steps.specs.declared.step.Event.{Event}
use Rattle.heap_steps.specs.declared.step.Step.{Step}
use Rattle.heap_steps.specs.declared.step.Step.TheVariants as steps
use Rattle.heap_steps.specs.declared.step.Reply.{Reply}
use Rattle.heap_steps.specs.declared.step.Reply.TheVariants as replies
use Rattle.heap_steps.specs.declared.step.Refusal.TheVariants as refusals
use Rattle.object_graph.specs.declared.given.Given.{Given}
use Rattle.object_graph.specs.declared.given.Given.TheVariants as givens
use Rattle.object_graph.specs.declared.judge.Finding.{Finding}
use Rattle.object_graph.specs.declared.judge.Finding.TheVariants as findings
use Rattle.graph_runs.proofs.Collected.{kind}
use Rattle.object_graph.proofs.Reaching.{view_reached, cleared_by_flags}
use Rattle.graph_runs.proofs.RunLaws.{IsRun-more}
use Rattle.graph_runs.proofs.Sound.{first_sound, run_sound, run_places}
use Rattle.graph_runs.proofs.SinceLaws.{run_since}
use Rattle.object_graph.proofs.SparingLaws.{follows, allowed, stands_sound}

-- the judge's state took the event, or tells why not: so of the machine that it stands for
pub judges_next : (old new : Judging) (es : List Event) (e : Event) (told : Option Given) → new.config ≡ old.config → HasJudged old es
    → SparingJudges old.state e.step e.reply new.state told → JudgesNext old new es e told
judges_next old new es e None same taken h =
    let st = taken.0 in
    let first = first_state old.config in
    let sound = run_sound es first st (first_sound old.config) taken.1 in
    let since = run_since es first st (first_sound old.config) tt taken.1 in
    let next = follows old.state st new.state e.step e.reply sound since taken.2 h in
    let run : IsRun first (es ++ e ∷ []) next.new = IsRun-more first es st e next.new taken.1 next.happens in
    (next.new, subst (λ c. IsRun (first_state c) (es ++ e ∷ []) next.new) (sym same) run, next.stands)
judges_next old new es e (Some given) same taken h =
    let st = taken.0 in
    record {
      before = st;
      run = taken.1;
      stops = λ after happens. (let next = allowed old.state st after e.step e.reply taken.2 happens in h.0 next.0 next.1);
      gives = subst (λ (x : Graph). IsGiven x e.step given) taken.2.graph h.1;
    }

-- the state of a judge that took some events is sound
pub judged_sound : (j : Judging) (es : List Event) → HasJudged j es → IsSoundState j.state
judged_sound j es taken = stands_sound j.state taken.0 (run_sound es (first_state j.config) taken.0 (first_sound j.config) taken.1) taken.2

-- a finding holds its verdict
pub found_judged : (first : State) (es : List Event) (found : Finding) → Finds first es found → Judged first es (verdict_of found)
found_judged first es (findings.Allowed n) h = h
found_judged first es (findings.Refused n e given) h =
    let inside = slice_get_within es (n - 1) e h.1 in
    let positive = h.0 in
    record {
      positive = positive;
      within = omega arith;
      before = h.2.before;
      run = h.2.run;
      stops = λ f at after happens. (let there = h.1 in let q : f ≡ e = cc in
          h.2.stops after (subst (λ (x : Event). EventHappens h.2.before x after) q happens));
    }

-- weak slots can be cleared by any snapshot
cleared_there : (st : State) (o : Option Graph) → st.snapshot ≡ o → IsSoundState st → (h : Graph) × ClearsBy st.snapshot st.graph h
cleared_there st None is sound = (st.graph, subst (λ (o : Option Graph). ClearsBy o st.graph st.graph) (sym is) refl)
cleared_there st (Some s) is sound =
    let earlier : ForSnapshot (Some s) (λ t. IsEarlier t st.graph) =
    subst (λ (o : Option Graph). ForSnapshot o (λ t. IsEarlier t st.graph)) is sound.snapshot in
    let flags = (searched (all_found (all_found (started s) []) s.roots) s.objects (length s.objects)).flags in
    let reached = view_reached s s [] flags refl earlier.holds earlier.pairs refl in (
      cleared_graph (flag_of st.graph.first_name flags) (next_name s) st.graph,
      cleared_by_flags st s st.graph _ flags (next_name s) sound is refl reached refl refl,
    )

-- some state follows a step of the collector
collected : (old : State) (k : CollectorStep) (r : Reply) → IsSoundState old → (new : State) × ChangesState old k r new
collected old k r sound = elim (kind k r) [
  | inl t ↦ (
    record { graph = old.graph; snapshot = Some old.graph },
    (t.0 old (record { graph = old.graph; snapshot = Some old.graph })).1 refl,
  )
  | inr u ↦ elim u [
    | inl g ↦ (let h = cleared_there old old.snapshot refl sound in
        let next : State = record { graph = h.0; snapshot = None } in
        (next, (g.0 old next).1 (refl, h.1)))
    | inr n ↦ (old, (n.0 old old).1 refl)
  ]
]

-- some state follows a mutator's step with the graph's reply
served : (old : State) (o : Op) (r : Reply) → r ≡ reply_of old.graph o → (new : State) × Happens old (steps.Mutator o) r new
served old o r is = (
  record { graph = (outcome_of old.graph o).1; snapshot = snapshot_after old.snapshot o.action r },
  inl (ap (λ (x : Reply). (x, (outcome_of old.graph o).1)) is, refl),
)

-- the replies that may be given are those with which some state may follow
pub may_stand : (old : State) (k : Step) (given : Given) (r : Reply) → IsSoundState old → IsGiven old.graph k given
    → ((new : State) × Happens old k r new) ↔ MayStand given r
may_stand old (steps.Mutator o) (givens.Reply g) r sound is = (λ n. here n.0 n.1, λ e. served old o r (e ∙ is.0))
  where
    here : (new : State) → Happens old (steps.Mutator o) r new → r ≡ g
    here new (inl h) = ap (λ (out : Outcome). out.0) h.0 ∙ sym is.0
    here new (inr h) = absurd (is.1 h.0)
may_stand old (steps.Mutator o) (givens.Object n) r sound is = (λ m. here m.0 m.1, there)
  where
    here : (new : State) → Happens old (steps.Mutator o) r new → (r ≡ replies.Named (Some n)) ⊎ (r ≡ replies.Refused refusals.Full)
    here new (inl h) = inl (ap (λ (out : Outcome). out.0) h.0 ∙ is.1.1 ∙ ap (λ (k : ℕ). replies.Named (Some k)) (sym is.0))
    here new (inr h) = inr h.1

    there : (r ≡ replies.Named (Some n)) ⊎ (r ≡ replies.Refused refusals.Full) → (new : State) × Happens old (steps.Mutator o) r new
    there (inl e) = served old o r (e ∙ ap (λ (k : ℕ). replies.Named (Some k)) is.0 ∙ sym is.1.1)
    there (inr e) = (old, inr (is.1, e, refl))
may_stand old (steps.Collector k) (givens.Form j) r sound is = (
  λ n. subst (λ (c : CollectorStep). MayStand (givens.Form c) r) (sym is) n.1.0,
  λ form. (let next = collected old k r sound in (next.0, (subst (λ (c : CollectorStep). MayStand (givens.Form c) r) is form, next.1))),
)
may_stand old _ _ r sound is = absurd is

-- a step of an actor, where it is a mutator's, names roots that there are
op_of : (c : Config) (a : Actor) (s : Step) → IsStepOf c a s → ForMutator s (IsOpAt (root_counts_of c))
op_of c (actors.Mutator m) (steps.Mutator o) h = h.1.at
op_of c a (steps.Collector k) h = tt
op_of c _ (steps.Mutator o) h = absurd h

-- so in a judge's state
pub op_judged : (j : Judging) (es : List Event) (e : Event) → HasJudged j es → IsEvent j.config e
    → ForMutator e.step (IsOpAt j.state.graph.places)
op_judged j es e taken known =
    let same : j.state.graph.places ≡ root_counts_of j.config =
    ap (λ (g : Graph). g.places) taken.2.graph ∙ run_places es (first_state j.config) taken.0 taken.1 in
    subst (λ (p : RootCounts). ForMutator e.step (IsOpAt p)) (sym same) (op_of j.config e.actor e.step known)

-- a judge that took the first i events and one more took the first i + 1
pub judged_more : (j : Judging) (es seen : List Event) (i : ℕ) (e : Event) → seen ≡ es → i < length seen → e ≡ get_or seen i e
    → HasJudged j (take i es ++ e ∷ []) → HasJudged j (take (i + 1) es)
judged_more j es seen i e same lt is taken =
    let inside : i < length es = rw (← same) lt in
    let there : e ≡ get_or es i e = rw (← same) is in
    let more : take (i + 1) es ≡ take i es ++ e ∷ [] = take_more es i e inside ∙ ap (λ (x : Event). take i es ++ x ∷ []) (sym there) in
    subst (λ (xs : List Event). HasJudged j xs) (sym more) taken

-- what is found where the judge took all events
pub all_judged : (j : Judging) (config : Config) (es seen : List Event) (i : ℕ) → seen ≡ es → length seen ≤ i → j.config ≡ config
    → HasJudged j (take i es) → Finds (first_state config) es (findings.Allowed (length seen))
all_judged j config es seen i same past is taken =
    let whole : take i es ≡ es = take_all i es (rw (← same) past) in (
      ap length same,
      taken.0,
      subst (λ (k : Config). IsRun (first_state k) es taken.0) is
          (subst (λ (xs : List Event). IsRun (first_state j.config) xs taken.0) whole taken.1),
    )

-- what is found where the judge tells of the event after the first i
pub found_there : (first : State) (es seen : List Event) (i : ℕ) (e : Event) (given : Given) → seen ≡ es → i < length seen
    → e ≡ get_or seen i e → Refuses first (take i es) e given
    → Finds first es (findings.Refused (i + 1) e given)
found_there first es seen i e given same lt is refuses =
    let back : i + 1 - 1 ≡ i = omega arith in
    let there : slice_get es i ≡ Some e = slice_get-get_or es i e (rw (← same) lt) ∙ ap Some (sym (rw (← same) is)) in
    (omega arith, ap (slice_get es) back ∙ there, subst (λ (k : ℕ). Refuses first (take k es) e given) (sym back) refuses)

-- so of what a call answered
pub judges_told : {E : Type 0} (r : Result (Option Given) E) (old new : Judging) (e : Event) (before : State) → new.config ≡ old.config
    → before ≡ old.state
    → IfOk r (SparingJudges before e.step e.reply new.state)
    → IfOk r (λ told. (es : List Event) → HasJudged old es → JudgesNext old new es e told)
judges_told (Ok told) old new e before same is h =
    λ es taken. judges_next old new es e told same taken (subst (λ (st : State). SparingJudges st e.step e.reply new.state told) is h)
judges_told (Err f) old new e before same is h = tt
