-- What each step of the collector ensures.
use Rattle.std.proofs.Common.{◌≡◌, ℕ, Bool, refl, sym, ◌∙◌, ap, subst}
use Rattle.heap_model.specs.Graph.{Graph}
use Rattle.graph_runs.specs.State.{State}
use Rattle.graph_runs.specs.Run.{IsCollectorReply, ChangesState}
use Rattle.step_core.specs.Steps.{CollectorStep, Refusal, Reply}
use Rattle.heap_steps.specs.declared.step.CollectorStep.TheVariants as collector
use Rattle.heap_steps.specs.declared.step.Step.TheVariants as steps
use Rattle.heap_steps.specs.declared.step.Reply.TheVariants as replies
use Rattle.heap_steps.specs.declared.step.Refusal.TheVariants as refusals
use Rattle.regions.specs.Table.{Table, kind_of}
use Rattle.step_core.specs.Stands.{CoreState, ShowsGraph, KeepsFrom, Stands}
use Rattle.step_core.specs.Answers.{Follows}
use Rattle.step_core.specs.Reclaimed.{IsReclaimed}
use Rattle.step_core.specs.Cycle.{Collects, MayReclaim, IsRefused}
use Rattle.step_core.specs.Words.{Takes}
use Rattle.step_core.proofs.Cores.Collecting.{stays}

-- whether marking runs, read of the core's fields
pub running_is : (d c : CoreState) (b : Bool) → d ≡ c → d.marker.running ≡ b → c.marker.running ≡ b
running_is d c b e r = ap (λ (x : CoreState). x.marker.running) (sym e) ∙ r

-- nothing is reclaimed where regions keep their kinds
pub kinds_stay : (A : Type 0) (t t' : Table) (i : ℕ) → kind_of t' i ≡ kind_of t i → IsReclaimed t t' i → A
kinds_stay A t t' i e r = absurd (r.used (sym e ∙ r.free))

pub table_stays : (A : Type 0) (t t' : Table) (i : ℕ) → t' ≡ t → IsReclaimed t t' i → A
table_stays A t t' i e r = kinds_stay A t t' i (ap (λ (x : Table). kind_of x i) e) r

-- the collector's reply is never Full
never_full : (k : CollectorStep) → IsCollectorReply k (replies.Refused refusals.Full) → ⊥
never_full collector.Begin h = cc
never_full _ h = cc

-- the step of a plan is this one
pub takes : (k k' : CollectorStep) (r : Reply) (c c' : CoreState) → k ≡ k' → IsCollectorReply k' r
    → ((s : State) → Stands s c → Follows s (steps.Collector k') r c') → Collects k' r c c'
    → ((i : ℕ) → IsReclaimed c.table c'.table i → MayReclaim (steps.Collector k') c i) → Takes c (steps.Collector k) r c'
takes k k' r c c' e reply follows does reclaims = subst (λ (j : CollectorStep). Takes c (steps.Collector j) r c') (sym e) (record {
  follows = follows;
  does = does;
  reclaims = reclaims;
  full = λ s st. (λ f. absurd (never_full k' (subst (λ (x : Reply). IsCollectorReply k' x) f reply)), λ f. absurd f);
})

-- it leaves the state as it was
pub takes_same : (k k' : CollectorStep) (r : Reply) (c c' : CoreState) → k ≡ k' → IsCollectorReply k' r
    → ((s : State) → ChangesState s k' r s) → c'.marker.running ≡ c.marker.running → ((g : Graph) → ShowsGraph g c → ShowsGraph g c')
    → ((s : Graph) → KeepsFrom s c → KeepsFrom s c') → Collects k' r c c'
    → ((i : ℕ) → IsReclaimed c.table c'.table i → MayReclaim (steps.Collector k') c i) → Takes c (steps.Collector k) r c'
takes_same k k' r c c' e reply same run shows keeps does reclaims =
    takes k k' r c c' e reply (λ s st. stays s k' r c c' st reply (same s) run shows keeps) does reclaims

-- it leaves the core as it was
pub takes_nothing : (k k' : CollectorStep) (r : Reply) (c : CoreState) → k ≡ k' → IsCollectorReply k' r
    → ((s : State) → ChangesState s k' r s) → Collects k' r c c → Takes c (steps.Collector k) r c
takes_nothing k k' r c e reply same does =
    takes_same k k' r c c e reply same refl (λ g x. x) (λ g x. x) does (λ i x. table_stays _ c.table c.table i refl x)

-- it is refused: d is the core by its fields
pub refused : (k k' : CollectorStep) (why : Refusal) (b : Bool) (d c : CoreState) → k ≡ k' → IsCollectorReply k' (replies.Refused why)
    → ((s : State) → ChangesState s k' (replies.Refused why) s)
    → ((c.marker.running ≡ b) × IsRefused why (replies.Refused why) c c → Collects k' (replies.Refused why) c c)
    → d ≡ c → d.marker.running ≡ b → Takes c (steps.Collector k) (replies.Refused why) c
refused k k' why b d c e reply same does same_core is =
    takes_nothing k k' (replies.Refused why) c e reply same
    (does (running_is d c b same_core is, record { reply_is = refl; same = refl }))
