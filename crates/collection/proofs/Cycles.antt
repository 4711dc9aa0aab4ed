-- Steps of a full collection.
use Rattle.std.proofs.Common.{◌≡◌, ◌≤◌, ◌∙◌, ℕ, Bool, true, false, Some, length, inl, inr, refl, sym, ap, subst, arith}
use Rattle.heap_model.specs.Graph.{Graph}
use Rattle.heap_model.specs.Weak.{Clears}
use Rattle.heap_model.proofs.Cleared.{reach_on}
use Rattle.regions.specs.Table.{Table, kind_of, free_count}
use Rattle.regions.specs.Shaped.{IsShaped}
use Rattle.regions.specs.declared.row.Kind.{Kind}
use Rattle.regions.specs.declared.row.Kind.TheVariants as kinds
use Rattle.heap_steps.specs.declared.step.Step.TheVariants as steps
use Rattle.heap_steps.specs.declared.step.CollectorStep.TheVariants as collector
use Rattle.heap_steps.specs.declared.step.Reply.{Reply}
use Rattle.heap_steps.specs.declared.step.Reply.TheVariants as replies
use Rattle.graph_runs.specs.State.{State}
use Rattle.graph_runs.specs.Run.{Happens}
use Rattle.step_core.specs.Stands.{CoreState, Stands, kept_of}
use Rattle.step_core.specs.Answers.{Follows}
use Rattle.step_core.specs.Cycle.{Collects, HasBegun, HasRemarked, HasCleaned, HasSettled, Settles, ClearsAtOnce}
use Rattle.heap_model.specs.Graph.{IsReachable}
use Rattle.collection.proofs.Settled.{exact_settled, kept_named, once_running, once_exact, once_named}
use Rattle.collection.specs.Space.{HasReached, IsQuiet}
use Rattle.collection.proofs.Reached.{cleared_reached}
use Rattle.collection.proofs.Counts.{more_free}
use Rattle.collection.proofs.Runs.{cleaned_runs}
use Rattle.collection.proofs.Exact.{remarked_exact, cleaned_exact, kind_by, kind_free}

yes_no : (b : Bool) → b ≡ true → b ≡ false → ⊥
yes_no b t f = cc

pub begun : (r : Reply) (c d : CoreState) → c.marker.running ≡ false → Collects collector.Begin r c d
    → (r ≡ replies.Done) × Settles HasBegun c d
begun r c d idle (inl (_, is, h)) = (is, h)
begun r c d idle (inr h) = absurd (yes_no c.marker.running h.0 idle)

begun_stands : (r : Reply) (s : State) (d : CoreState) → r ≡ replies.Done → Follows s (steps.Collector collector.Begin) r d
    → Stands (record { graph = s.graph; snapshot = Some s.graph }) d
begun_stands r s d is f =
    let happens : Happens s (steps.Collector collector.Begin) replies.Done f.after =
    subst (λ (x : Reply). Happens s (steps.Collector collector.Begin) x f.after) is f.happens in
    subst (λ (x : State). Stands x d) happens.1 f.stands

pub remarked : (r : Reply) (c d : CoreState) → c.marker.running ≡ true → Collects collector.Remark r c d
    → (n : ℕ) × (r ≡ replies.Marked n) × (e : CoreState) × HasRemarked n c e × ClearsAtOnce c.config.format e d
remarked r c d runs (inl (_, n, is, e, h, o)) = (n, is, e, h, o)
remarked r c d runs (inr h) = absurd (yes_no c.marker.running runs h.0)

remark_clears : (r : Reply) (n : ℕ) (g : Graph) (d : CoreState) → r ≡ replies.Marked n
    → (f : Follows (record { graph = g; snapshot = Some g }) (steps.Collector collector.Remark) r d) → Clears g g f.after.graph
remark_clears r n g d is f =
    let happens : Happens (record { graph = g; snapshot = Some g }) (steps.Collector collector.Remark) (replies.Marked n) f.after =
    subst (λ (x : Reply). Happens (record { graph = g; snapshot = Some g }) (steps.Collector collector.Remark) x f.after) is f.happens in
    happens.1.1

pub cleaned : (r : Reply) (c d : CoreState) → c.marker.running ≡ false → Collects collector.Cleanup r c d
    → (n : ℕ) × Settles (HasCleaned n) c d
cleaned r c d idle (inl (_, n, is, h)) = (n, h)
cleaned r c d idle (inr h) = absurd (yes_no c.marker.running h.0 idle)

pub cleaned_stands : (r : Reply) (s : State) (d : CoreState) → Follows s (steps.Collector collector.Cleanup) r d → Stands s d
cleaned_stands r s d f = subst (λ (x : State). Stands x d) f.happens.1 f.stands

pub paused_stands : (b : ℕ) (r : Reply) (s : State) (d : CoreState) → Follows s (steps.Collector (collector.Pause b)) r d → Stands s d
paused_stands b r s d f = subst (λ (x : State). Stands x d) f.happens.1 f.stands

pub compacted_stands : (b : ℕ) (r : Reply) (s : State) (d : CoreState) → Follows s (steps.Collector (collector.Compact b)) r d → Stands s d
compacted_stands b r s d f = subst (λ (x : State). Stands x d) f.happens.1 f.stands

-- ---- how many regions are free
free_same : (t u : Table) → length u.regions ≡ length t.regions → ((k : ℕ) → kind_of u k ≡ kind_of t k) → free_count t ≤ free_count u
free_same t u e kinds_are = more_free t u e (λ k f. kinds_are k ∙ f)

pub remark_free : (n : ℕ) (c d : CoreState) → HasRemarked n c d → free_count c.table ≤ free_count d.table
remark_free n c d r = let e = ap (λ (x : CoreState). free_count x.table) r.same in omega (arith, e)

pub begin_free : (c d : CoreState) → HasBegun c d → free_count d.table ≡ free_count c.table
begin_free c d b = ap (λ (x : CoreState). free_count x.table) b.same

pub clean_free : (n : ℕ) (c d : CoreState) → HasCleaned n c d → length d.table.regions ≡ length c.table.regions
    → free_count c.table ≤ free_count d.table
clean_free n c d w e = more_free c.table d.table e (λ k f. stays k f (kind_of d.table k) refl)
  where
    same : (k : ℕ) → (kind_of d.table k ≡ kinds.Free → ⊥) → kind_of d.table k ≡ kind_of c.table k
    same k used = kind_by c.table d.table k (w.others k (λ dead. used (kind_free d.table k (w.dead k dead).free))).region

    stays : (k : ℕ) → kind_of c.table k ≡ kinds.Free → (o : Kind) → kind_of d.table k ≡ o → kind_of d.table k ≡ kinds.Free
    stays k f kinds.Free q = q
    stays k f kinds.Ordinary q = same k (λ z. let y : kinds.Free ≡ kinds.Ordinary = sym z ∙ q in absurd {A = ⊥} cc) ∙ f
    stays k f kinds.First q = same k (λ z. let y : kinds.Free ≡ kinds.First = sym z ∙ q in absurd {A = ⊥} cc) ∙ f
    stays k f kinds.Rest q = same k (λ z. let y : kinds.Free ≡ kinds.Rest = sym z ∙ q in absurd {A = ⊥} cc) ∙ f

-- ---- a marking with no mutator's step in it, and a cleanup
pub quiet_cycle : (q r u : Reply) (s : State) (a b d e : CoreState) → a.marker.running ≡ false → Stands s a
    → Collects collector.Begin q a b → ((x : State) → Stands x a → Follows x (steps.Collector collector.Begin) q b)
    → Collects collector.Remark r b d → ((x : State) → Stands x b → Follows x (steps.Collector collector.Remark) r d)
    → Collects collector.Cleanup u d e → ((x : State) → Stands x d → Follows x (steps.Collector collector.Cleanup) u e)
    → IsShaped b.table → (after : State) × IsQuiet after e × HasReached s.graph after.graph
quiet_cycle q r u s a b d e idle stands does_q follows_q does_r follows_r does_u follows_u shape =
    let (done, settled_a) = begun q a b idle does_q in
    let begun_is : HasBegun settled_a.0 b = settled_a.2 in
    let stands_b = begun_stands q s b done (follows_q s stands) in
    let (n, counted, over, rem, once) = remarked r b d begun_is.running does_r in
    let f = follows_r (record { graph = s.graph; snapshot = Some s.graph }) stands_b in
    let clears = remark_clears r n s.graph d counted f in
    let shape_over : IsShaped over.table = subst IsShaped (sym (ap (λ (x : CoreState). x.table) rem.same)) shape in
    let exact = once_exact b.config.format over d once (remarked_exact n settled_a.0 b over begun_is rem shape_over) in
    let (m, settled_d) = cleaned u d e (once_running b.config.format over d once ∙ rem.over) does_u in
    let z : HasSettled d settled_d.0 = settled_d.1 in
    let clean : HasCleaned m settled_d.0 e = settled_d.2 in
    let stands_e = cleaned_stands u f.after e (follows_u f.after f.stands) in (
      f.after,
      record {
        stands = stands_e;
        exact = cleaned_exact m settled_d.0 e z.core z.shaped clean (exact_settled d settled_d.0 z exact);
        reached = λ x y k.
            (let here : kept_of settled_d.0 x ≡ Some y = sym (clean.changes.kept x) ∙ k in
            let (y1, at1, name1) = kept_named d settled_d.0 z x y here in
            let (y2, at2, name2) = once_named b.config.format over d once x y1 at1 in
            reach_on s.graph s.graph f.after.graph clears (λ i r. inl r) y.name
            (subst (λ (i : ℕ). IsReachable s.graph i) (name2 ∙ name1) (rem.quiet s.graph stands_b x y2 at2)));
        runs = cleaned_runs m settled_d.0 e z.shaped clean;
      },
      cleared_reached s.graph s.graph f.after.graph clears,
    )
