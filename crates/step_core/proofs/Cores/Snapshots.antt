-- What a step keeps of the snapshot: marking runs on as it did, and what is needed is kept.
use Rattle.std.proofs.Common.{◌≡◌, ◌⊎◌, ℕ, Bool, true, false, Option, Some, None, inl, inr, refl, sym, ◌∙◌, ap, subst}
use Rattle.std.specs.Prelude.{◌==◌, length, if◌then◌else◌, slice_set, ◌++◌, ◌∷◌, []}
use Rattle.heap_model.specs.Graph.{Graph}
use Rattle.regions.specs.Table.{Table}
use Rattle.mark_bitmap.specs.Tops.{below_next}
use Rattle.satb_log.specs.Logs.{log_of}
use Rattle.marker.specs.Steps.{TakesFull, Overwrites, saved}
use Rattle.marker.specs.declared.marker.Marker.{Marker}
use Rattle.graph_runs.specs.State.{ForSnapshot}
use Rattle.graph_runs.specs.Run.{snapshot_after}
use Rattle.step_core.specs.Steps.{Action, Refusal, Register, Reply}
use Rattle.heap_steps.specs.declared.step.Action.TheVariants as actions
use Rattle.heap_steps.specs.declared.step.Reply.TheVariants as replies
use Rattle.step_core.specs.Stands.{CoreState, KeepsFrom, KeepsFor}
use Rattle.step_core.specs.Cycle.{IsRefused}
use Rattle.step_core.specs.Mutators.{ActsOn, HasActed, MarkerAfter}

-- marking runs on, or doesn't run, as before
saved_running : (t : Table) (m : Marker) (mutator : ℕ) (w : Option ℕ) → (saved t m mutator w).running ≡ m.running
saved_running t m mutator None = refl
saved_running t m mutator (Some a) = go (below_next t m.tams a)
  where
    go : (b : Bool)
        → (if b then (record m { logs = slice_set m.logs mutator (log_of m.logs mutator ++ a ∷ []) }) else m).running ≡ m.running
    go true = refl
    go false = refl

taken_running : (full : Bool) (t : Table) (mutator : ℕ) (m m' : Marker) → TakesFull full t mutator m m' → m'.running ≡ m.running
taken_running true t mutator m m' h = h.same.running
taken_running false t mutator m m' h = ap (λ (x : Marker). x.running) h

overwrites_running : (running : Bool) (t : Table) (mutator : ℕ) (w : Option ℕ) (m m' : Marker)
    → Overwrites running t mutator w m m' → m'.running ≡ m.running
overwrites_running false t mutator w m m' h = ap (λ (x : Marker). x.running) h
overwrites_running true t mutator w m m' h =
    taken_running (length (log_of (saved t m mutator w).logs mutator) == 8) t mutator (saved t m mutator w) m' h
    ∙ saved_running t m mutator w

marker_running : (c : CoreState) (m : ℕ) (a : Action) (m' : Marker) → MarkerAfter c m a m' → m'.running ≡ c.marker.running
marker_running c m (actions.Put object i v) m' h = overwrites_running c.marker.running c.table m _ c.marker m' h
marker_running c m (actions.GetWeak to object i) m' h = overwrites_running c.marker.running c.table m _ c.marker m' h
marker_running c m _ m' h = ap (λ (x : Marker). x.running) h

-- a mutator's step is refused and nothing changes, or it is done
pub acts_cases : (m : ℕ) (a : Action) (r : Reply) (c c' : CoreState) → ActsOn m a r c c'
    → ((why : Refusal) × IsRefused why r c c') ⊎ HasActed m a c c'
acts_cases m a (replies.Refused why) c c' h = inl (why, record { reply_is = refl; same = h })
acts_cases m a _ c c' h = inr h

pub acts_running : (m : ℕ) (a : Action) (r : Reply) (c c' : CoreState) → ActsOn m a r c c' → c'.marker.running ≡ c.marker.running
acts_running m a r c c' h = elim (acts_cases m a r c c' h) [
  | inl refused ↦ ap (λ (d : CoreState). d.marker.running) refused.1.same
  | inr acted ↦ marker_running c m a c'.marker acted.marker
]

-- the same snapshot
pub keeps_for : (sn : Option Graph) (c c' : CoreState) → c'.marker.running ≡ c.marker.running
    → ((s : Graph) → KeepsFrom s c → KeepsFrom s c') → KeepsFor sn c → KeepsFor sn c'
keeps_for None c c' same each k = same ∙ k
keeps_for (Some s) c c' same each k = (same ∙ k.0, each s k.1)

-- a weak slot is read
abbrev pub touches : Action → Bool
touches (actions.GetWeak to object i) = true
touches _ = false

same_after : (sn : Option Graph) (a : Action) (r : Reply) → touches a ≡ false → snapshot_after sn a r ≡ sn
same_after (Some s) (actions.GetWeak to object i) r e = absurd (let apart : true ≡ false = e in cc)
same_after _ _ r e = refl

-- after a step that reads no weak slot
pub keeps_after : (sn : Option Graph) (m : ℕ) (a : Action) (r : Reply) (c c' : CoreState) → touches a ≡ false → ActsOn m a r c c'
    → ((s : Graph) → KeepsFrom s c → KeepsFrom s c') → KeepsFor sn c → KeepsFor (snapshot_after sn a r) c'
keeps_after sn m a r c c' plain acts each k =
    subst (λ (o : Option Graph). KeepsFor o c') (sym (same_after sn a r plain)) (keeps_for sn c c' (acts_running m a r c c' acts) each k)

-- after one that does
running_too : (s : Graph) (to object : Register) (i : ℕ) (r : Reply) (c : CoreState) → c.marker.running ≡ true
    → ForSnapshot (snapshot_after (Some s) (actions.GetWeak to object i) r) (λ t. KeepsFrom t c)
    → KeepsFor (snapshot_after (Some s) (actions.GetWeak to object i) r) c
running_too s to object i replies.Done c run k = (run, k)
running_too s to object i _ c run k = (run, k)

pub keeps_touched : (sn : Option Graph) (m : ℕ) (to object : Register) (i : ℕ) (r : Reply) (c c' : CoreState)
    → ActsOn m (actions.GetWeak to object i) r c c'
    → ((s : Graph) → sn ≡ Some s → KeepsFrom s c
    → ForSnapshot (snapshot_after (Some s) (actions.GetWeak to object i) r) (λ t. KeepsFrom t c')) → KeepsFor sn c
    → KeepsFor (snapshot_after sn (actions.GetWeak to object i) r) c'
keeps_touched None m to object i r c c' acts each k = acts_running m (actions.GetWeak to object i) r c c' acts ∙ k
keeps_touched (Some s) m to object i r c c' acts each k =
    running_too s to object i r c' (acts_running m (actions.GetWeak to object i) r c c' acts ∙ k.0) (each s refl k.1)
