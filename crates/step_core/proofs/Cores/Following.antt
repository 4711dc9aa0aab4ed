-- A step as one of the state's, and histories of them.
use Rattle.std.proofs.Common.{◌≡◌, ◌+◌, ◌<◌, ◌⊎◌, ◌∷◌, ◌++◌, ◌∙◌, ℕ, Option, Some, None, List, [], length, take, map, get_or, refl, sym}
use Rattle.std.proofs.Common.{ap, subst, arith, inl, inr, ◌↔◌}
use Rattle.std.proofs.lemmas.List.{take_more, length-map, get_or-map}
use Rattle.heap_model.specs.Graph.{Graph, next_name}
use Rattle.heap_model.specs.Weak.{KeepsUnreached}
use Rattle.step_core.specs.Steps.{Action, Event, Reply, Step}
use Rattle.graph_runs.specs.State.{State, ForSnapshot, IsEarlier}
use Rattle.graph_runs.specs.Since.{IsSince}
use Rattle.graph_runs.specs.Machine.{act}
use Rattle.graph_runs.specs.Run.{Happens, IsNew, IsRun, snapshot_after}
use Rattle.heap_steps.specs.declared.step.Step.TheVariants as steps
use Rattle.heap_steps.specs.declared.step.Reply.TheVariants as replies
use Rattle.heap_steps.specs.declared.step.Refusal.TheVariants as refusals
use Rattle.graph_runs.proofs.Sound.{happens_sound}
use Rattle.graph_runs.proofs.SinceLaws.{happens_since, since_unreached}
use Rattle.step_core.specs.Stands.{CoreState, ShowsGraph, KeepsFor, Stands, IsCore, IsWhole}
use Rattle.cards.specs.Cards.{ListsDirtyOnce}
use Rattle.step_core.specs.Cycle.{Does}
use Rattle.step_core.specs.Answers.{Acts, Follows, IsFull, IsFullStep, RepliesFull}
use Rattle.step_core.specs.Passages.{IsPassage, Passes, Runs}

-- a step that happens, and what the core shows and keeps after it
pub follows_by : (s after : State) (step : Step) (reply : Reply) (c c' : CoreState) → Stands s c → Happens s step reply after
    → ShowsGraph after.graph c' → KeepsFor after.snapshot c' → Follows s step reply c'
follows_by s after step reply c c' st happens shows keeps = record {
  after = after;
  happens = happens;
  stands = record {
    shows = shows;
    keeps = keeps;
    sound = happens_sound s after step reply st.sound happens;
    since = happens_since s after step reply st.sound st.since happens;
  };
}

-- a mutator's step as the graph's own, and what is kept of the snapshot
pub acted : (s : State) (m : ℕ) (a : Action) (reply : Reply) (c c' : CoreState) → Stands s c → Acts s.graph m a reply c'
    → KeepsFor (snapshot_after s.snapshot a reply) c' → Follows s (steps.Mutator (record { mutator = m; action = a })) reply c'
acted s m a reply c c' st h keeps =
    let after : State = record { graph = (act s.graph m a).1; snapshot = snapshot_after s.snapshot a reply } in
    let is : (reply, after.graph) ≡ act s.graph m a = ap (λ (r : Reply). (r, after.graph)) h.reply_is in
    follows_by s after (steps.Mutator (record { mutator = m; action = a })) reply c c' st (inl (is, refl)) h.shows keeps

-- a new object, or no place for it: then nothing changed
pub created : (s : State) (m : ℕ) (a : Action) (reply : Reply) (c c' : CoreState) → IsNew a → Stands s c
    → Acts s.graph m a reply c' ⊎ RepliesFull s.graph m a c reply c' → (IsFull s.graph m a c → (act s.graph m a).0
    ≡ replies.Named (Some (next_name s.graph))) → KeepsFor (snapshot_after s.snapshot a reply) c'
    → Follows s (steps.Mutator (record { mutator = m; action = a })) reply c'
created s m a reply c c' new st (inl h) named keeps = acted s m a reply c c' st h keeps
created s m a reply c c' new st (inr h) named keeps =
    follows_by s s (steps.Mutator (record { mutator = m; action = a })) reply c c' st (inr ((new, named h.full), h.reply_is, refl))
    (subst (λ (d : CoreState). ShowsGraph s.graph d) (sym h.same) st.shows)
    (subst (λ (d : CoreState). KeepsFor s.snapshot d) (sym h.same) st.keeps)

-- what the snapshot doesn't reach has the pointers that it had
pub unreached_of : (s : State) (x : Graph) (c : CoreState) → Stands s c → s.snapshot ≡ Some x → KeepsUnreached x s.graph
unreached_of s x c st is = go s.snapshot st.sound.snapshot st.since is
  where
    go : (sn : Option Graph) → ForSnapshot sn (λ t. IsEarlier t s.graph) → ForSnapshot sn (λ t. IsSince t s.graph)
        → sn ≡ Some x → KeepsUnreached x s.graph
    go None earlier since e = cc
    go (Some y) earlier since e =
        let same : y ≡ x = cc in
        subst (λ (t : Graph). KeepsUnreached t s.graph) same (since_unreached y s.graph earlier since)

-- a passage goes on by one event
pub goes_on : (s : State) (c : CoreState) (es : List Event) (e : Event) (mid c' : CoreState) → Runs s c es mid
    → ((r : State) → Stands r mid → Follows r e.step e.reply c')
    → Does e.step e.reply mid c' → ((r : State) → Stands r mid → (e.reply ≡ replies.Refused refusals.Full) ↔ IsFullStep r.graph e.step mid)
    → IsCore c' → ListsDirtyOnce c'.cards → ((r : State) → Stands r c' → IsWhole r.graph c') → Runs s c (es ++ e ∷ []) c'
goes_on s c es e mid c' r f does full core listed whole =
    let n = f r.last r.stands in
    record { last = n.after; stands = n.stands; passage = more s c es r.last r.passage (full r.last r.stands) n }
  where
    more : (s : State) (c : CoreState) (es : List Event) (last : State) → IsPassage s c es last mid
        → (e.reply ≡ replies.Refused refusals.Full) ↔ IsFullStep last.graph e.step mid
        → (n : Follows last e.step e.reply c') → IsPassage s c (es ++ e ∷ []) n.after c'
    more s c [] last h there n = (c', passes, (refl, refl))
      where
        passes : Passes s c e c'
        passes = record {
          follows = record {
            after = n.after;
            happens = subst (λ (u : State). Happens u e.step e.reply n.after) h.0 n.happens;
            stands = n.stands;
          };
          does = subst (λ (d : CoreState). Does e.step e.reply d c') h.1 does;
          full = subst (λ (d : CoreState). (e.reply ≡ replies.Refused refusals.Full) ↔ IsFullStep s.graph e.step d) h.1
              (subst (λ (u : State). (e.reply ≡ replies.Refused refusals.Full) ↔ IsFullStep u.graph e.step mid) h.0 there);
          core = core;
          listed = listed;
          whole = whole n.after n.stands;
        }
    more s c (x ∷ es) last h there n = (h.0, h.1, more h.1.follows.after h.0 es last h.2 there n)

pub none_yet : (s : State) (c : CoreState) → Stands s c → Runs s c [] c
none_yet s c st = record { last = s; stands = st; passage = (refl, refl) }

one_more : {A : Type 0} (f : Event → A) (es : List Event) (e : Event) → map f (es ++ e ∷ []) ≡ map f es ++ f e ∷ []
one_more f [] e = refl
one_more f (y ∷ es) e = ap (λ xs. f y ∷ xs) (one_more f es e)

-- what the events have of the first i steps, and of one step more
pub grown : {A : Type 0} (f : Event → A) (es : List Event) (e : Event) (xs : List A) (i : ℕ) (x : A) → map f es ≡ take i xs → i < length xs
    → f e ≡ get_or xs i x → map f (es ++ e ∷ []) ≡ take (i + 1) xs
grown f es e xs i x h lt is = one_more f es e ∙ ap (λ ys. ys ++ f e ∷ []) h ∙ ap (λ y. take i xs ++ y ∷ []) is ∙ sym (take_more xs i x lt)

pub grown_by : {A : Type 0} (f : Event → A) (h : Step → A) (es : List Event) (e : Event) (ss : List Step) (i : ℕ) (s : Step)
    → map f es ≡ take i (map h ss) → i < length ss → f e ≡ h (get_or ss i s)
    → map f (es ++ e ∷ []) ≡ take (i + 1) (map h ss)
grown_by {A} f h es e ss i s same lt is = grown f es e (map h ss) i (h s) same
    (let same_length : length (map h ss) ≡ length ss = length-map ss h in omega arith) (is ∙ sym (get_or-map h ss i s (h s) lt))

-- the events of a passage are a run of the graph
pub passage_is_run : (s : State) (c : CoreState) (es : List Event) (last : State) (c' : CoreState)
    → IsPassage s c es last c' → IsRun s es last
passage_is_run s c [] last c' h = h.0
passage_is_run s c (e ∷ es) last c' h = (h.1.follows.after, h.1.follows.happens, passage_is_run h.1.follows.after h.0 es last c' h.2)
