-- A step of the collector as one of the state's.
use Rattle.std.proofs.Common.{◌≡◌, ◌≢◌, ◌⊎◌, ℕ, true, false, Option, Some, None, inl, inr, refl, sym, ◌∙◌, ap, subst}
use Rattle.heap_model.specs.Graph.{Graph}
use Rattle.graph_runs.specs.State.{State}
use Rattle.graph_runs.specs.Run.{IsCollectorReply, ChangesState, ClearsBy}
use Rattle.step_core.specs.Steps.{CollectorStep, Reply}
use Rattle.heap_steps.specs.declared.step.CollectorStep.TheVariants as collector
use Rattle.heap_steps.specs.declared.step.Step.TheVariants as steps
use Rattle.heap_steps.specs.declared.step.Reply.TheVariants as replies
use Rattle.marker.specs.declared.marker.Marker.{Marker}
use Rattle.step_core.specs.Stands.{CoreState, ShowsGraph, KeepsFrom, KeepsFor, Stands}
use Rattle.step_core.specs.Reclaimed.{IsReclaimed}
use Rattle.step_core.specs.Cycle.{IsInSet, ShowsCleared}
use Rattle.step_core.specs.declared.candidates.Choice.{Choice}
use Rattle.step_core.specs.declared.candidates.Choice.TheVariants as choices
use Rattle.step_core.specs.Pause.{HasMoved}
use Rattle.step_core.specs.Sliding.{HasCompacted, IsLeft, MayLeave, Slides}
use Rattle.step_core.proofs.Pauses.Empty.{still_used}
use Rattle.regions.specs.Table.{kind_of}
use Rattle.regions.specs.declared.row.Kind.TheVariants as kinds
use Rattle.step_core.specs.Answers.{Follows}
use Rattle.step_core.proofs.Cores.Following.{follows_by}
use Rattle.step_core.proofs.Cores.Snapshots.{keeps_for}

-- the state stays
pub stays : (s : State) (k : CollectorStep) (r : Reply) (c c' : CoreState) → Stands s c → IsCollectorReply k r → ChangesState s k r s
    → c'.marker.running ≡ c.marker.running → ((g : Graph) → ShowsGraph g c → ShowsGraph g c')
    → ((g : Graph) → KeepsFrom g c → KeepsFrom g c') → Follows s (steps.Collector k) r c'
stays s k r c c' st reply collects run shows keeps =
    follows_by s s (steps.Collector k) r c c' st (reply, collects) (shows s.graph st.shows) (keeps_for s.snapshot c c' run keeps st.keeps)

-- marking begins: the graph is the snapshot
pub begins : (s : State) (c c' : CoreState) → Stands s c → c'.marker.running ≡ true → ((g : Graph) → ShowsGraph g c → ShowsGraph g c')
    → ((g : Graph) → ShowsGraph g c → KeepsFrom g c') → Follows s (steps.Collector collector.Begin) replies.Done c'
begins s c c' st run shows keeps =
    follows_by s (record { graph = s.graph; snapshot = Some s.graph }) (steps.Collector collector.Begin) replies.Done c c' st (tt, refl)
    (shows s.graph st.shows) (run, keeps s.graph st.shows)

-- marking ends: weak slots are cleared by the snapshot, and it is given up
pub ends : (s : State) (n : ℕ) (c c' : CoreState) → Stands s c → c.marker.running ≡ true → c'.marker.running ≡ false
    → ((x g : Graph) → ShowsGraph g c → KeepsFrom x c → ShowsCleared x g c')
    → Follows s (steps.Collector collector.Remark) (replies.Marked n) c'
ends s n c c' st run over cleared = go s.snapshot refl st.keeps
  where
    by_graph : (after : Graph) → ClearsBy s.snapshot s.graph after → ShowsGraph after c'
        → Follows s (steps.Collector collector.Remark) (replies.Marked n) c'
    by_graph after clears shows = follows_by s (record { graph = after; snapshot = None }) (steps.Collector collector.Remark)
        (replies.Marked n) c c' st (tt, (refl, clears)) shows over

    go : (sn : Option Graph) → s.snapshot ≡ sn → KeepsFor sn c → Follows s (steps.Collector collector.Remark) (replies.Marked n) c'
    go None e k = absurd (let idle = k in cc)
    go (Some x) e k =
        let end = cleared x s.graph st.shows k.1 in
        by_graph end.after (subst (λ (o : Option Graph). ClearsBy o s.graph end.after) (sym e) end.clears) end.shows

-- regions of a set are evacuated: marking runs on as before, and they alone are reclaimed
module _ (which : Choice) (budget n w : ℕ) (c c' : CoreState) (h : HasMoved which budget n w c c') where
  pub moved_running : c'.marker.running ≡ c.marker.running
  moved_running = ap (λ (m : Marker). m.running) h.evacuates.marker ∙ ap (λ (d : CoreState). d.marker.running) h.is_ready.same

  pub moved_reclaims : (i : ℕ) → IsReclaimed c.table c'.table i → IsInSet which budget c i
  moved_reclaims i x = record {
    ready = h.ready;
    is_ready = h.is_ready;
    chosen = h.evacuates.chosen;
    choice = h.evacuates.choice;
    inside = (h.evacuates.reclaimed i).0 x;
  }

-- a run moves, or none does: marking runs on as before, and what the run leaves alone is reclaimed
slides_running : (budget n w : ℕ) (c c' : CoreState) → Slides budget n w c c' → c'.marker.running ≡ c.marker.running
slides_running budget n w c c' (inl still) = ap (λ (d : CoreState). d.marker.running) still.same
slides_running budget n w c c' (inr (first, to, idle, lowest, moves)) = ap (λ (m : Marker). m.running) moves.forgotten.same

module _ (budget n w : ℕ) (c c' : CoreState) where
  pub compacted_running : HasCompacted budget n w c c' → c'.marker.running ≡ c.marker.running
  compacted_running (inl h) = moved_running choices.Highest budget n w c c' h.1
  compacted_running (inr q) = slides_running budget n w q.after c' q.slides ∙ moved_running choices.Highest budget 0 0 c q.after q.empty

  pub compacted_reclaims : HasCompacted budget n w c c' → (i : ℕ) → IsReclaimed c.table c'.table i
      → IsInSet choices.Highest budget c i ⊎ MayLeave budget c i
  compacted_reclaims (inl h) i x = inl (moved_reclaims choices.Highest budget n w c c' h.1 i x)
  compacted_reclaims (inr q) i x = go q.slides
    where
      used : kind_of q.after.table i ≢ kinds.Free
      used = still_used choices.Highest budget 0 c q.after q.empty i x.used

      go : Slides budget n w q.after c' → IsInSet choices.Highest budget c i ⊎ MayLeave budget c i
      go (inl still) = absurd (used (ap (λ (k : CoreState). kind_of k.table i) (sym still.same) ∙ x.free))
      go (inr (first, to, idle, lowest, moves)) =
          let left = (moves.reclaimed i).0 (record { used = used; free = x.free }) in
          inr (record {
            after = q.after;
            empty = q.empty;
            idle = idle;
            first = first;
            to = to;
            lowest = lowest;
            left = subst (λ (k : ℕ). IsLeft first to k i) moves.regions left;
          })
