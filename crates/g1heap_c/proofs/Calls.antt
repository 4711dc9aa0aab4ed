-- Calls one after another are a run of the graph.
use Rattle.std.proofs.Common.{◌≡◌, ◌⊎◌, ◌∙◌, ◌+◌, ◌*◌, ◌<◌, ℕ, zero, suc, List, [], ◌∷◌, ◌++◌, length, Some, inl, inr}
use Rattle.std.proofs.Common.{refl, sym, ap, subst, map, None, Option, arith}
use Rattle.std.proofs.lemmas.List.{map-append}
use Rattle.std.proofs.lemmas.List.Elements.{All-append, All-cons, All-nil}
use Rattle.std.specs.Prelude.{slice_index, All}
use Rattle.heap_words.specs.declared.config.Config.{Config}
use Rattle.heap_steps.specs.Actors.{IsOp, IsStep, step_in}
use Rattle.heap_steps.specs.declared.step.CollectorStep.TheVariants as collector
use Rattle.heap_steps.specs.declared.step.Event.{Event}
use Rattle.heap_steps.specs.declared.step.Op.{Op}
use Rattle.heap_steps.specs.declared.step.Refusal.{Refusal}
use Rattle.heap_steps.specs.declared.step.Register.{Register}
use Rattle.heap_steps.specs.declared.step.Reply.{Reply}
use Rattle.heap_steps.specs.declared.step.Reply.TheVariants as replies
use Rattle.heap_steps.specs.declared.step.Step.{Step}
use Rattle.heap_steps.specs.declared.step.Step.TheVariants as steps
use Rattle.graph_runs.specs.Run.{IsRun}
use Rattle.graph_runs.specs.State.{State, first_state}
use Rattle.step_core.specs.Answers.{Follows}
use Rattle.step_core.specs.Cycle.{Does, IsRefused}
use Rattle.step_core.specs.Fresh.{fresh_core}
use Rattle.step_core.specs.Passages.{actor_in, actor_of}
use Rattle.step_core.specs.Rows.{AreDone}
use Rattle.step_core.specs.Stands.{CoreState, Stands}
use Rattle.step_core.specs.Words.{AreWritten, reading, writing}
use Rattle.step_core.specs.Words as words
use Rattle.step_core.proofs.Cores.Following.{passage_is_run}
use Rattle.collection.specs.Markings.{CountsMarking}
use Rattle.collection.specs.Steps.{CollectsWithin, HoldsBack, IsCollectors, TakesOwn}
use Rattle.heap_calls.specs.Filled.{AreFields, FillsIt, StepsTo, Fills, making, pointing, wording}
use Rattle.heap_calls.specs.Loads.{Loads, ReadsLoaded, loading}
use Rattle.heap_calls.specs.Loads as loads
use Rattle.heap_calls.specs.Numbers.{no_step, numbers, refused, register, told}
use Rattle.heap_calls.specs.Rows.{AreSteps, DoesAll, DoesNone, Many, count_of, last_step, step_of}
use Rattle.heap_calls.specs.Steps.{HasRegister, MakesHeap, StaysSame, Steps, given_back}
use Rattle.heap_calls.specs.Words.{ReadsAll, ReadsNone, WritesAll, WritesNone}
use Rattle.heap_calls.specs.declared.answer.Answer.{Answer}
use Rattle.g1heap_c.specs.Calls.{AreCalls, Call, Called, IsCallOn, telling}
use Rattle.g1heap_c.specs.Calls.{NewCall, StepCall, NewFilledCall, MakeCall, MakeFilledCall, CollectCall, CollectAllCall, ReadWordsCall}
use Rattle.g1heap_c.specs.Calls.{GetWordCall, ManyCall, WriteWordsCall, WalkCall, WhoCall, AskCall, GiveBackCall, ShrinkCall, NoStepCall}
use Rattle.g1heap_c.specs.Calls.{FreeCall, MarkingsCall, PathCall}
use Rattle.g1heap_c.specs.MadeFilled.{AsksToFill}
use Rattle.g1heap_c.specs.Policies.{AnswersMake, AsksOrNils, asked, nil_steps, nilling}
use Rattle.g1heap_c.specs.Runs.{AreEventsOf, AreRun, CallRuns, HasCollected, HasEvents, HasFilling, HasLoaded, HasMaking}
use Rattle.g1heap_c.specs.Runs.{HasDone, HasMakingAndFilling, HasMany, IsReadLoaded}
use Rattle.g1heap_c.specs.Runs.{HasNoEvent, HasNotRead, HasRead, HasRefused, HasStep, HasWritten, IfElse, KeepsIfRefused, event_of, filling}
use Rattle.g1heap_c.specs.Runs.{first_steps, last_read, last_write, reads_of, writes_of}
use Rattle.g1heap_c.proofs.Named.{are_fields, are_steps, is_op, is_register, is_step}

run_then : (es fs : List Event) (s mid last : State) → IsRun s es mid → IsRun mid fs last → IsRun s (es ++ fs) last
run_then [] fs s mid last h k = subst (λ (x : State). IsRun x fs last) h k
run_then (e ∷ es) fs s mid last h k = (h.0, h.1, run_then es fs h.0 mid last h.2 k)

-- events that are a run from a state on, up to one that a core stands for
record From (s : State) (es : List Event) (c : CoreState) : Type 0 where
  last : State
  run : IsRun s es last
  stands : Stands last c

none_from : (s : State) (c : CoreState) → Stands s c → From s [] c
none_from s c st = record { last = s; run = refl; stands = st }

same_from : (s : State) (c d : CoreState) → Stands s c → d ≡ c → From s [] d
same_from s c d st same = none_from s d (subst (λ (x : CoreState). Stands s x) (sym same) st)

one_from : (s : State) (step : Step) (reply : Reply) (c : CoreState) → Follows s step reply c → From s (event_of step reply ∷ []) c
one_from s step reply c f = record { last = f.after; run = (f.after, f.happens, refl); stands = f.stands }

then_from : (s : State) (es fs : List Event) (c c' : CoreState) (x : From s es c) → From x.last fs c' → From s (es ++ fs) c'
then_from s es fs c c' x y = record { last = y.last; run = run_then es fs s x.last y.last x.run y.run; stands = y.stands }

-- events of which something holds, and that are a run up to a core
record Found (s : State) (c' : CoreState) (P : List Event → Type 0) : Type 0 where
  events : List Event
  from : From s events c'
  has : P events

-- events of the one sort or of the other, as a fact holds or not
choose : (s : State) (c' : CoreState) (F : Type 0) (A B : List Event → Type 0) → F ⊎ (F → ⊥) → (F → Found s c' A)
    → ((F → ⊥) → Found s c' B) → Found s c' (λ es. IfElse F (A es) (B es))
choose s c' F A B (inl is) here away = let f = here is in record { events = f.events; from = f.from; has = inl (is, f.has) }
choose s c' F A B (inr isnt) here away = let f = away isnt in record { events = f.events; from = f.from; has = inr (isnt, f.has) }

-- what one call is
abbrev Done : State → CoreState → Call → Answer → CoreState → Type 0
Done s c call answer c' = Found s c' (λ es. HasEvents c es call answer c')

held_is : (c d : CoreState) → Some c ≡ Some d → c ≡ d
held_is c d e = let f = e in cc

-- ---- a step that is refused
kept : {A B : Type 0} (why : Refusal) (reply : Reply) (c d : CoreState) → (A → ⊥) → A ⊎ (B × IsRefused why reply c d) → d ≡ c
kept why reply c d never (inl h) = absurd (never h)
kept why reply c d never (inr h) = h.1.same

stays : (step : Step) (why : Refusal) (c d : CoreState) → Does step (replies.Refused why) c d → d ≡ c
stays (steps.Mutator o) why c d h = h
stays (steps.Collector collector.Begin) why c d h = kept _ _ c d (λ x. cc) h
stays (steps.Collector (collector.Mark k)) why c d h = kept _ _ c d (λ x. cc) h
stays (steps.Collector collector.Remark) why c d h = kept _ _ c d (λ x. cc) h
stays (steps.Collector collector.Cleanup) why c d h = kept _ _ c d (λ x. cc) h
stays _ why c d h = absurd cc

keeps : (step : Step) (reply : Reply) (c d : CoreState) → Does step reply c d → KeepsIfRefused reply c d
keeps step reply c d h why e = stays step why c d (subst (λ (r : Reply). Does step r c d) e h)

refused_done : (step : Step) (why : Refusal) (s : State) (c c' : CoreState) (answer : Answer) → Stands s c → c' ≡ c
    → words.Takes c step (replies.Refused why) c → answer ≡ refused why → Found s c' (λ es. HasRefused c es step answer c')
refused_done step why s c c' answer st same h tells = record {
  events = event_of step (replies.Refused why) ∷ [];
  from = subst (λ (d : CoreState). From s (event_of step (replies.Refused why) ∷ []) d) (sym same)
      (one_from s step (replies.Refused why) c (h.follows s st));
  has = record { why = why; events = refl; tells = tells; same = same };
}

-- ---- no step, and one
none_done : (code : Answer) (s : State) (c c' : CoreState) (answer : Answer) → Stands s c → StaysSame (Some c) code answer (Some c')
    → Found s c' (λ es. HasNoEvent c es code answer c')
none_done code s c c' answer st h =
    let same : c' ≡ c = held_is c' c h.same in
    record { events = []; from = same_from s c c' st same; has = record { events = refl; tells = h.answer_is; same = same } }

step_done : (step : Step) (s : State) (c c' : CoreState) (answer : Answer) → Stands s c → Steps (telling step) c step answer (Some c')
    → Found s c' (λ es. HasStep c es step answer c')
step_done step s c c' answer st h =
    let same : c' ≡ h.core = held_is c' h.core h.held in
    record {
      events = event_of step h.reply ∷ [];
      from = subst (λ (d : CoreState). From s (event_of step h.reply ∷ []) d) (sym same) (one_from s step h.reply h.core (h.follows s st));
      has = record {
        reply = h.reply;
        events = refl;
        tells = h.tells ∙ ap (λ (d : CoreState). telling step c d h.reply) (sym same);
        kept = λ why e. same ∙ keeps step h.reply c h.core h.does why e;
      };
    }

-- ---- steps of the collector, and an object that is asked for
collected_from : {W : Type 0} (sees : W → Event → W → Type 0) (most : ℕ) (s : State) (c d : CoreState) (x y : W) → Stands s c
    → (h : CollectsWithin sees most c x d y) → From s h.events d
collected_from sees most s c d x y st h =
    let r = h.runs s st in
    record { last = r.last; run = passage_is_run s c h.events r.last d r.passage; stands = r.stands }

collect_done : {W : Type 0} (sees : W → Event → W → Type 0) (most : ℕ) (s : State) (c d c' : CoreState) (x y : W) (code answer : Answer)
    → Stands s c → c' ≡ d → CollectsWithin sees most c x d y → answer ≡ code → Found s c' (λ es. HasCollected es code answer)
collect_done sees most s c d c' x y code answer st same h tells = record {
  events = h.events;
  from = subst (λ (e : CoreState). From s h.events e) (sym same) (collected_from sees most s c d x y st h);
  has = record { collectors = h.collectors; tells = tells };
}

own_from : (op : Op) (reply : Reply) (s : State) (c c' : CoreState) (W : Type 0) (sees : W → Event → W → Type 0) (x x' : W) → Stands s c
    → TakesOwn sees op reply c x c' x' ⊎ HoldsBack op reply c x c' x' → From s (event_of (steps.Mutator op) reply ∷ []) c'
own_from op reply s c c' W sees x x' st (inl h) =
    let p = h.passes s st in
    record { last = p.follows.after; run = (p.follows.after, p.follows.happens, refl); stands = p.follows.stands }
own_from op reply s c c' W sees x x' st (inr h) =
    record {
      last = s;
      run = (s, inr (h.creates s st, h.reply_is, refl), refl);
      stands = subst (λ (d : CoreState). Stands s d) (sym h.core) st;
    }

-- an object that was asked for: the steps of the collector, and its own
record Asked (s : State) (op : Op) (reply : Reply) (d : CoreState) : Type 0 where
  before : List Event
  collectors : All IsCollectors before
  core : CoreState
  first : From s before core
  own : From first.last (event_of (steps.Mutator op) reply ∷ []) d

asks_from : (op : Op) (s : State) (c : CoreState) (n n' : ℕ) (answer : Answer) (after : Option CoreState) → Stands s c
    → (h : AnswersMake CountsMarking c n op answer after n') → Asked s op h.reply h.core
asks_from op s c n n' answer after st h =
    let before = h.makes.collects in
    let first = collected_from CountsMarking (5 * c.config.regions + 12) s c h.makes.core n h.makes.watch st before in
    record {
      before = before.events;
      collectors = before.collectors;
      core = h.makes.core;
      first = first;
      own = own_from op h.reply first.last h.makes.core h.core _ _ _ _ first.stands h.makes.own;
    }

-- ---- the steps that fill an object
join : (xs ys : List Step) (es fs : List Event) → AreEventsOf xs es → AreEventsOf ys fs → AreEventsOf (xs ++ ys) (es ++ fs)
join xs ys es fs h k = record {
  steps = map-append step_in es fs ∙ ap (λ (zs : List Step). zs ++ map step_in fs) h.steps ∙ ap (λ (zs : List Step). xs ++ zs) k.steps;
  actors = map-append actor_in es fs ∙ (cc (h.actors, k.actors)) ∙ sym (map-append actor_of xs ys);
}

-- events of the steps, one after another, that lead from one core to another
record Led (s : State) (step : ℕ → Step) (n : ℕ) (d : CoreState) : Type 0 where
  events : List Event
  from : From s events d
  are : AreEventsOf (first_steps step n) events

leads : (step : ℕ → Step) (n : ℕ) (s : State) (c d : CoreState) → Stands s c → StepsTo c step n d → Led s step n d
leads step zero s c d st h = record { events = []; from = same_from s c d st h; are = record { steps = refl; actors = refl } }
leads step (suc n) s c d st h =
    let before = leads step n s c h.0 st h.2.0 in
    let own = event_of (step n) h.1 ∷ [] in
    let one = one_from before.from.last (step n) h.1 d (h.2.1.follows before.from.last before.from.stands) in
    record {
      events = before.events ++ own;
      from = then_from s before.events own h.0 d before.from one;
      are = join (first_steps step n) (step n ∷ []) before.events own before.are (record { steps = refl; actors = refl });
    }

make_done : (number to : ℕ) (op : Op) (s : State) (c c' : CoreState) (n n' : ℕ) (answer : Answer) → Stands s c
    → AsksOrNils CountsMarking number to c n op answer (Some c') n' → Found s c' (λ es. HasMaking es number to op answer)
make_done number to op s c c' n n' answer st h =
    let same : c' ≡ h.last = held_is c' h.last h.held in
    let at : h.asks.core ≡ h.made = sym (held_is h.made h.asks.core h.asks.held) in
    let a = asks_from op s c n n' answer (Some h.made) st h.asks in
    let own = event_of (steps.Mutator op) h.asks.reply in
    let made : Stands a.own.last h.made = subst (λ (d : CoreState). Stands a.own.last d) at a.own.stands in
    let rest = leads (nilling op.mutator to) (nil_steps number h.asks.reply) a.own.last h.made h.last made h.nils in
    let from_own = then_from a.first.last (own ∷ []) rest.events h.asks.core h.last a.own rest.from in
    let events = a.before ++ own ∷ rest.events in
    record {
      events = events;
      from = subst (λ (d : CoreState). From s events d) (sym same)
          (then_from s a.before (own ∷ rest.events) a.core h.last a.first from_own);
      has = record {
        reply = h.asks.reply;
        before = a.before;
        nils = rest.events;
        collectors = a.collectors;
        events = refl;
        nilled = rest.are;
        tells = h.asks.tells;
      };
    }

-- the same of steps that are all done
record LedDone (s : State) (step : ℕ → Step) (n : ℕ) (d : CoreState) : Type 0 where
  events : List Event
  from : From s events d
  are : AreEventsOf (first_steps step n) events
  done : All HasDone events

done_leads : (step : ℕ → Step) (n : ℕ) (s : State) (c d : CoreState) → Stands s c → AreDone c step n d → LedDone s step n d
done_leads step zero s c d st h =
    record { events = []; from = same_from s c d st h; are = record { steps = refl; actors = refl }; done = All-nil HasDone }
done_leads step (suc n) s c d st h =
    let before = done_leads step n s c h.0 st h.2.0 in
    let own = event_of (step n) h.1 ∷ [] in
    let one = one_from before.from.last (step n) h.1 d (h.2.1.1.follows before.from.last before.from.stands) in
    record {
      events = before.events ++ own;
      from = then_from s before.events own h.0 d before.from one;
      are = join (first_steps step n) (step n ∷ []) before.events own before.are (record { steps = refl; actors = refl });
      done = All-append HasDone before.events own before.done (All-cons HasDone (event_of (step n) h.1) [] h.2.1.0 (All-nil HasDone));
    }

record Filling (s : State) (reply : Reply) (m to : ℕ) (from words : List ℕ) (d : CoreState) : Type 0 where
  events : List Event
  run : From s events d
  are : AreEventsOf (filling reply m to from words) events

module _ (m to : ℕ) (from words : List ℕ) (s : State) (c d : CoreState) where
  no_filling : (reply : Reply) → filling reply m to from words ≡ [] → Stands s c → d ≡ c → Filling s reply m to from words d
  no_filling reply none st same =
      let is : AreEventsOf [] [] = record { steps = refl; actors = refl } in
      record { events = []; run = same_from s c d st same; are = subst (λ (xs : List Step). AreEventsOf xs []) (sym none) is }

  fills_from : (reply : Reply) → Stands s c → FillsIt reply c m to from words d → Filling s reply m to from words d
  fills_from (replies.Named (Some name)) st h =
      let one = leads (pointing m to from) (length from) s c h.0 st h.1.0 in
      let two = leads (wording m to words) (length words) one.from.last h.0 d one.from.stands h.1.1 in
      record {
        events = one.events ++ two.events;
        run = then_from s one.events two.events h.0 d one.from two.from;
        are = join (first_steps (pointing m to from) (length from)) (first_steps (wording m to words) (length words)) one.events two.events
            one.are two.are;
      }
  fills_from (replies.Named None) st h = no_filling (replies.Named None) refl st h
  fills_from replies.Done st h = no_filling replies.Done refl st h
  fills_from (replies.Word v) st h = no_filling (replies.Word v) refl st h
  fills_from (replies.Shape p v) st h = no_filling (replies.Shape p v) refl st h
  fills_from (replies.Marked v) st h = no_filling (replies.Marked v) refl st h
  fills_from (replies.Reclaimed v) st h = no_filling (replies.Reclaimed v) refl st h
  fills_from (replies.Refined v) st h = no_filling (replies.Refined v) refl st h
  fills_from (replies.Moved p v) st h = no_filling (replies.Moved p v) refl st h
  fills_from (replies.Refused why) st h = no_filling (replies.Refused why) refl st h

-- nothing fills an object that was refused
unfilled : (why : Refusal) (reply : Reply) (m to : ℕ) (from words : List ℕ) (c d : CoreState) → reply ≡ replies.Refused why
    → FillsIt reply c m to from words d → d ≡ c
unfilled why reply m to from words c d e h = subst (λ (r : Reply). FillsIt r c m to from words d) e h

filled_done : (m to : ℕ) (from words : List ℕ) (s : State) (c c' : CoreState) (answer : Answer) → Stands s c
    → Fills c m to from words answer (Some c') → Found s c' (λ es. HasFilling c es m to from words answer c')
filled_done m to from words s c c' answer st h =
    let same : c' ≡ h.filled = held_is c' h.filled h.held in
    let step = making m to from words in
    let one = one_from s step h.reply h.made (h.makes.follows s st) in
    let rest = fills_from m to from words one.last h.made h.filled h.reply one.stands h.fills in
    record {
      events = event_of step h.reply ∷ rest.events;
      from = subst (λ (d : CoreState). From s (event_of step h.reply ∷ rest.events) d) (sym same)
          (then_from s (event_of step h.reply ∷ []) rest.events h.made h.filled one rest.run);
      has = record {
        reply = h.reply;
        fills = rest.events;
        events = refl;
        filled = rest.are;
        tells = h.tells;
        kept = λ why e. same ∙ unfilled why h.reply m to from words h.made h.filled e h.fills
            ∙ keeps step h.reply c h.made h.makes.does why e;
      };
    }

make_filled_done : (number m to : ℕ) (from words : List ℕ) (s : State) (c c' : CoreState) (n n' : ℕ) (answer : Answer) → Stands s c
    → AsksToFill CountsMarking number c n m to from words answer (Some c') n'
    → Found s c' (λ es. HasMakingAndFilling es number m to from words answer)
make_filled_done number m to from words s c c' n n' answer st h =
    let op = asked m to (length from) 0 (length words) in
    let same : c' ≡ h.last = held_is c' h.last h.held in
    let at : h.made ≡ h.asks.core = held_is h.made h.asks.core h.asks.held in
    let a = asks_from op s c n n' answer (Some h.made) st h.asks in
    let fills : FillsIt h.asks.reply h.asks.core m to from words h.filled =
    subst (λ (d : CoreState). FillsIt h.asks.reply d m to from words h.filled) at h.fills in
    let filled = fills_from m to from words a.own.last h.asks.core h.filled h.asks.reply a.own.stands fills in
    let count = nil_steps number h.asks.reply in
    let nils = leads (nilling m to) count filled.run.last h.filled h.last filled.run.stands h.nils in
    let after = filled.events ++ nils.events in
    let own = event_of (steps.Mutator op) h.asks.reply in
    let from_after = then_from a.own.last filled.events nils.events h.filled h.last filled.run nils.from in
    let from_own = then_from a.first.last (own ∷ []) after h.asks.core h.last a.own from_after in
    let events = a.before ++ own ∷ after in
    record {
      events = events;
      from = subst (λ (d : CoreState). From s events d) (sym same) (then_from s a.before (own ∷ after) a.core h.last a.first from_own);
      has = record {
        reply = h.asks.reply;
        before = a.before;
        fills = after;
        collectors = a.collectors;
        events = refl;
        filled = join (filling h.asks.reply m to from words) (first_steps (nilling m to) count) filled.events nils.events filled.are
            nils.are;
        tells = h.asks.tells;
      };
    }

-- ---- a pointer that is loaded, and a word that is read
record Reading (s : State) (reply : Reply) (m to word : ℕ) (answer : Answer) (d : CoreState) : Type 0 where
  events : List Event
  run : From s events d
  read : IsReadLoaded reply events m to word answer

module _ (m to word : ℕ) (s : State) (c d : CoreState) (answer : Answer) where
  no_reading : (reply : Reply) → ((answer ≡ numbers reply) → IsReadLoaded reply [] m to word answer) → Stands s c
      → (answer ≡ numbers reply) × (d ≡ c) → Reading s reply m to word answer d
  no_reading reply none st h = record { events = []; run = same_from s c d st h.1; read = none h.0 }

  reads_loaded : (reply : Reply) → Stands s c → ReadsLoaded reply c m to word answer d → Reading s reply m to word answer d
  reads_loaded (replies.Named (Some name)) st h = record {
    events = event_of (loads.reading m to word) h.0 ∷ [];
    run = one_from s (loads.reading m to word) h.0 d (h.1.follows s st);
    read = (h.0, refl, h.2);
  }
  reads_loaded (replies.Named None) st h = no_reading (replies.Named None) (λ e. (refl, e)) st h
  reads_loaded replies.Done st h = no_reading replies.Done (λ e. (refl, e)) st h
  reads_loaded (replies.Word v) st h = no_reading (replies.Word v) (λ e. (refl, e)) st h
  reads_loaded (replies.Shape p v) st h = no_reading (replies.Shape p v) (λ e. (refl, e)) st h
  reads_loaded (replies.Marked v) st h = no_reading (replies.Marked v) (λ e. (refl, e)) st h
  reads_loaded (replies.Reclaimed v) st h = no_reading (replies.Reclaimed v) (λ e. (refl, e)) st h
  reads_loaded (replies.Refined v) st h = no_reading (replies.Refined v) (λ e. (refl, e)) st h
  reads_loaded (replies.Moved p v) st h = no_reading (replies.Moved p v) (λ e. (refl, e)) st h
  reads_loaded (replies.Refused why) st h = no_reading (replies.Refused why) (λ e. (refl, e)) st h

-- nothing is read after a load that was refused
unread : (why : Refusal) (reply : Reply) (m to word : ℕ) (c d : CoreState) (answer : Answer) → reply ≡ replies.Refused why
    → ReadsLoaded reply c m to word answer d → d ≡ c
unread why reply m to word c d answer e h = (subst (λ (r : Reply). ReadsLoaded r c m to word answer d) e h).1

load_done : (m to object field word : ℕ) (s : State) (c c' : CoreState) (answer : Answer) → Stands s c
    → Loads c m to object field word answer (Some c') → Found s c' (λ es. HasLoaded c es m to object field word answer c')
load_done m to object field word s c c' answer st h =
    let same : c' ≡ h.core = held_is c' h.core h.held in
    let step = loading m to object field in
    let one = one_from s step h.reply h.loaded (h.loads.follows s st) in
    let rest = reads_loaded m to word one.last h.loaded h.core answer h.reply one.stands h.reads in
    record {
      events = event_of step h.reply ∷ rest.events;
      from = subst (λ (d : CoreState). From s (event_of step h.reply ∷ rest.events) d) (sym same)
          (then_from s (event_of step h.reply ∷ []) rest.events h.loaded h.core one rest.run);
      has = record {
        reply = h.reply;
        reads = rest.events;
        events = refl;
        read = rest.read;
        kept = λ why e. same ∙ unread why h.reply m to word h.loaded h.core answer e h.reads
            ∙ keeps step h.reply c h.loaded h.loads.does why e;
      };
    }

-- ---- several fields
many_done : (x : Many) (s : State) (c c' : CoreState) (answer : Answer) → Stands s c
    → DoesAll c x answer (Some c') ⊎ DoesNone c x answer (Some c')
    → Found s c' (λ es. HasMany es x answer ⊎ HasRefused c es (last_step x) answer c')
many_done x s c c' answer st (inl a) =
    let same : c' ≡ a.core = held_is c' a.core a.held in
    let l = done_leads (step_of x) (count_of x) s c a.core st a.led in
    record {
      events = l.events;
      from = subst (λ (d : CoreState). From s l.events d) (sym same) l.from;
      has = inl (record { events = l.are; done = l.done; tells = a.done });
    }
many_done x s c c' answer st (inr n) =
    let f = refused_done (last_step x) n.why s c c' answer st (held_is c' c n.same) n.last n.tells in
    record { events = f.events; from = f.from; has = inr f.has }

-- ---- words in bulk
reads_from : (m : ℕ) (object : Register) (c : CoreState) (ws : List ℕ) (from : ℕ) (s : State) → Stands s c
    → ((i : ℕ) → i < length ws → words.Takes c (reading m object (from + i)) (replies.Word (slice_index ws i)) c)
    → From s (reads_of m object from ws) c
reads_from m object c [] from s st h = none_from s c st
reads_from m object c (w ∷ ws) from s st h =
    let first = h 0 (omega arith) in
    let at : from + 0 ≡ from = omega arith in
    let f : Follows s (reading m object from) (replies.Word w) c =
    subst (λ (n : ℕ). Follows s (reading m object n) (replies.Word w) c) at (first.follows s st) in
    let x = one_from s (reading m object from) (replies.Word w) c f in
    let rest = reads_from m object c ws (suc from) x.last x.stands (λ i lt.
    subst (λ (n : ℕ). words.Takes c (reading m object n) (replies.Word (slice_index ws i)) c) (moved from i) (h (suc i) (omega arith))) in
    then_from s (event_of (reading m object from) (replies.Word w) ∷ []) (reads_of m object (suc from) ws) c c x rest
  where
    moved : (from i : ℕ) → from + suc i ≡ suc from + i
    moved from i = omega arith

writes_from : (m : ℕ) (object : Register) (ws : List ℕ) (from : ℕ) (s : State) (c d : CoreState) → Stands s c
    → AreWritten c m object from ws d → From s (writes_of m object from ws) d
writes_from m object [] from s c d st h = same_from s c d st h
writes_from m object (w ∷ ws) from s c d st h =
    let x = one_from s (writing m object from w) replies.Done h.0 (h.1.0.follows s st) in
    then_from s (event_of (writing m object from w) replies.Done ∷ []) (writes_of m object (suc from) ws) h.0 d x
    (writes_from m object ws (suc from) x.last h.0 d x.stands h.1.1)

read_done : (m object from : ℕ) (before after : List ℕ) (s : State) (c c' : CoreState) (answer : Answer) → Stands s c → c' ≡ c
    → ReadsAll c m object from before after answer ⊎ ReadsNone c m object from before after answer
    → Found s c' (λ es. HasRead c es m object from before after answer c' ⊎ HasNotRead c es m object from before after answer c')
read_done m object from before after s c c' answer st same (inl a) = record {
  events = reads_of m (register object) from after;
  from = subst (λ (x : CoreState). From s (reads_of m (register object) from after) x) (sym same)
      (reads_from m (register object) c after from s st a.read);
  has = inl (record { events = refl; count = a.room; tells = a.done; same = same });
}
read_done m object from before after s c c' answer st same (inr n) =
    let f = refused_done (last_read m (register object) from (length before)) n.why s c c' answer st same n.unread n.tells in
    record { events = f.events; from = f.from; has = inr (record { refused = f.has; buffer = n.same }) }

unread_done : (before after : List ℕ) (s : State) (c c' : CoreState) (answer : Answer) → Stands s c → c' ≡ c
    → (answer ≡ no_step) × (after ≡ before) → Found s c' (λ es. HasNoEvent c es no_step answer c' × (after ≡ before))
unread_done before after s c c' answer st same h =
    record { events = []; from = same_from s c c' st same; has = (record { events = refl; tells = h.0; same = same }, h.1) }

write_done : (m object from : ℕ) (ws : List ℕ) (s : State) (c c' : CoreState) (answer : Answer) → Stands s c
    → WritesAll c m object from ws answer (Some c') ⊎ WritesNone c m object from ws answer (Some c')
    → Found s c' (λ es. HasWritten es m object from ws answer ⊎ HasRefused c es (last_write m (register object) from ws) answer c')
write_done m object from ws s c c' answer st (inl a) =
    let same : c' ≡ a.core = held_is c' a.core a.held in
    record {
      events = writes_of m (register object) from ws;
      from = subst (λ (x : CoreState). From s (writes_of m (register object) from ws) x) (sym same)
          (writes_from m (register object) ws from s c a.core st a.written);
      has = inl (record { events = refl; tells = a.done });
    }
write_done m object from ws s c c' answer st (inr n) =
    let f = refused_done (last_write m (register object) from ws) n.why s c c' answer st (held_is c' c n.same) n.unwritten n.tells in
    record { events = f.events; from = f.from; has = inr f.has }

-- ---- calls
live_done : (config : Config) (s : State) (c c' : CoreState) (n n' : ℕ) (answer : Answer) → Stands s c
    → IsCallOn (Some c) n (NewCall config) answer (Some c') n' → Found s c' (λ es. HasNoEvent c es (told 34 0 0) answer c')
live_done config s c c' n n' answer st (h, counted) =
    let is : answer ≡ told 34 0 0 = h.0 ∙ ap (λ (n : ℕ). told n 0 0) h.1.0 in
    none_done (told 34 0 0) s c c' answer st (record { answer_is = is; same = h.1.1 })

call_done : (call : Call) (s : State) (c c' : CoreState) (n n' : ℕ) (answer : Answer) → Stands s c
    → IsCallOn (Some c) n call answer (Some c') n' → Done s c call answer c'
call_done (NewCall config) s c c' n n' answer st (h, counted) = live_done config s c c' n n' answer st (h, counted)
call_done (StepCall step) s c c' n n' answer st (h, counted) =
    choose s c' (IsStep c.config step) (λ es. HasStep c es step answer c') (λ es. HasNoEvent c es no_step answer c') (is_step c.config step)
    (λ is. step_done step s c c' answer st (h.takes is)) (λ isnt. none_done no_step s c c' answer st (h.not isnt))
call_done (NewFilledCall m to from words) s c c' n n' answer st (h, counted) =
    choose s c' (AreFields c.config m to from words) (λ es. HasFilling c es m to from words answer c')
    (λ es. HasNoEvent c es no_step answer c') (are_fields c.config m to from words)
    (λ is. filled_done m to from words s c c' answer st (h.takes is)) (λ isnt. none_done no_step s c c' answer st (h.not isnt))
call_done (MakeCall number m to pointers weaks values) s c c' n n' answer st h =
    let op = asked m to pointers weaks values in
    choose s c' (IsOp c.config op) (λ es. HasMaking es number to op answer) (λ es. HasNoEvent c es no_step answer c') (is_op c.config op)
    (λ is. make_done number to op s c c' n n' answer st (h.asks is)) (λ isnt. none_done no_step s c c' answer st (h.not isnt).0)
call_done (MakeFilledCall number m to from words) s c c' n n' answer st h =
    choose s c' (AreFields c.config m to from words) (λ es. HasMakingAndFilling es number m to from words answer)
    (λ es. HasNoEvent c es no_step answer c') (are_fields c.config m to from words)
    (λ is. make_filled_done number m to from words s c c' n n' answer st (h.asks is))
    (λ isnt. none_done no_step s c c' answer st (h.not isnt).0)
call_done CollectCall s c c' n n' answer st h =
    collect_done CountsMarking (c.config.regions + 5) s c h.core c' n n' _ answer st (held_is c' h.core h.held) h.collects h.tells
call_done CollectAllCall s c c' n n' answer st h =
    collect_done CountsMarking _ s c h.core c' n n' _ answer st (held_is c' h.core h.held) h.collects h.tells
call_done (GetWordCall m to object field word) s c c' n n' answer st (h, counted) =
    choose s c' (IsStep c.config (loading m to object field)) (λ es. HasLoaded c es m to object field word answer c')
    (λ es. HasNoEvent c es no_step answer c') (is_step c.config (loading m to object field))
    (λ is. load_done m to object field word s c c' answer st (h.takes is)) (λ isnt. none_done no_step s c c' answer st (h.not isnt))
call_done (ManyCall x) s c c' n n' answer st (h, counted) =
    choose s c' (AreSteps c.config x) (λ es. HasMany es x answer ⊎ HasRefused c es (last_step x) answer c')
    (λ es. HasNoEvent c es no_step answer c') (are_steps c.config x)
    (λ is. many_done x s c c' answer st (h.takes is)) (λ isnt. none_done no_step s c c' answer st (h.not isnt))
call_done (ReadWordsCall m object from before after) s c c' n n' answer st (h, counted) =
    let same : c' ≡ c = held_is c' c h.1 in
    choose s c' (HasRegister c m object)
    (λ es. HasRead c es m object from before after answer c' ⊎ HasNotRead c es m object from before after answer c')
    (λ es. HasNoEvent c es no_step answer c' × (after ≡ before)) (is_register c m object)
    (λ is. read_done m object from before after s c c' answer st same (h.0.takes is))
    (λ isnt. unread_done before after s c c' answer st same (h.0.not isnt))
call_done (WriteWordsCall m object from ws) s c c' n n' answer st (h, counted) =
    choose s c' (HasRegister c m object)
    (λ es. HasWritten es m object from ws answer ⊎ HasRefused c es (last_write m (register object) from ws) answer c')
    (λ es. HasNoEvent c es no_step answer c') (is_register c m object)
    (λ is. write_done m object from ws s c c' answer st (h.takes is)) (λ isnt. none_done no_step s c c' answer st (h.not isnt))
call_done (WalkCall from to before after) s c c' n n' answer st (h, counted) =
    let same : c' ≡ c = held_is c' c h.1 in
    record { events = []; from = same_from s c c' st same; has = record { events = refl; answers = h.0; same = same } }
call_done (WhoCall name from to before after) s c c' n n' answer st (h, counted) =
    let same : c' ≡ c = held_is c' c h.1 in
    record { events = []; from = same_from s c c' st same; has = record { events = refl; answers = h.0; same = same } }
call_done (PathCall name ended before after) s c c' n n' answer st (h, counted) =
    let same : c' ≡ c = held_is c' c h.1 in
    record { events = []; from = same_from s c c' st same; has = record { events = refl; answers = h.0; same = same } }
call_done (AskCall question) s c c' n n' answer st (h, counted) =
    let same : c' ≡ c = held_is c' c h.1 in
    record { events = []; from = same_from s c c' st same; has = record { events = refl; answers = h.0; same = same } }
call_done (MarkingsCall count) s c c' n n' answer st (h, counted) =
    let same : c' ≡ c = held_is c' c h.1 in
    record { events = []; from = same_from s c c' st same; has = record { events = refl; answers = h.0; same = same } }
call_done (GiveBackCall granted) s c c' n n' answer st (h, counted) =
    none_done (given_back granted) s c c' answer st (record { answer_is = h.0; same = h.1 })
call_done (ShrinkCall granted) s c c' n n' answer st h =
    collect_done CountsMarking _ s c h.core c' n n' (given_back granted) answer st (held_is c' h.core h.held) h.collects h.tells
call_done NoStepCall s c c' n n' answer st (h, counted) = none_done no_step s c c' answer st h
call_done FreeCall s c c' n n' answer st (h, counted) = let e : Some c' ≡ None = h.1 in cc

calls_from : (calls : List Called) (s : State) (c : CoreState) (n : ℕ) → Stands s c → AreCalls c n calls → AreRun s c calls
calls_from [] s c n st h = record { events = []; last = s; run = refl; each = (refl, refl) }
calls_from (x ∷ xs) s c n st h =
    let first = call_done x.call s c x.after n x.markings x.answer st h.0 in
    let rest = calls_from xs first.from.last x.after x.markings first.from.stands h.1 in
    let runs : CallRuns s c first.events x first.from.last =
    record { before = st; run = first.from.run; after = first.from.stands; has = first.has } in
    record {
      events = first.events ++ rest.events;
      last = rest.last;
      run = run_then first.events rest.events s first.from.last rest.last first.from.run rest.run;
      each = (first.from.last, first.events, rest.events, refl, runs, rest.each);
    }

-- a heap that was made stands for the state with no objects
made_stands : (config : Config) (code : ℕ) (c : CoreState) → MakesHeap None config code (Some c) → Stands (first_state config) c
made_stands config code c (inl made) =
    subst (λ (x : CoreState). Stands (first_state config) x) (sym (held_is c (fresh_core config) made.held)) made.stands
made_stands config code c (inr failed) = let e : Some c ≡ None = failed.none in cc

pub calls_run : (config : Config) (answer : Answer) (c : CoreState) (calls : List Called) (n : ℕ)
    → IsCallOn None n (NewCall config) answer (Some c) 0 → AreCalls c 0 calls → AreRun (first_state config) c calls
calls_run config answer c calls n made h =
    calls_from calls (first_state config) c 0 (made_stands config answer.code c made.0.1) h
