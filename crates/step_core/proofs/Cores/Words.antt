-- Several data words at once: each as by a step of its own.
use Rattle.std.proofs.Common.{◌≡◌, ◌+◌, ◌-◌, ◌<◌, ◌≤◌, ◌∷◌, ◌∙◌, ℕ, false, suc, Option, Some, List, [], length, take, drop, refl, sym, ap}
use Rattle.std.proofs.Common.{subst, arith, slice_get, slice_index}
use Rattle.std.proofs.lemmas.List.{get_or-drop, get_or-take}
use Rattle.std.proofs.lemmas.Option.{slice_get-get_or}
use Rattle.regions.specs.Table.{Table, values_at, set_value, set_values}
use Rattle.regions.proofs.Cards.ValueRuns.{values_stay}
use Rattle.heap_words.specs.Configs.{registers_of}
use Rattle.heap_model.specs.Graph.{Graph}
use Rattle.graph_runs.specs.State.{register_place, root_counts_of}
use Rattle.step_core.specs.Steps.{Op, Refusal, Register}
use Rattle.heap_steps.specs.declared.step.Action.TheVariants as actions
use Rattle.heap_steps.specs.declared.step.Reply.TheVariants as replies
use Rattle.heap_steps.specs.declared.step.Refusal.TheVariants as refusals
use Rattle.heap_steps.specs.declared.step.Step.TheVariants as steps
use Rattle.step_core.specs.Stands.{CoreState, IsCore, Leads, ShowsGraph}
use Rattle.step_core.specs.Answers.{Acts, IsFull}
use Rattle.step_core.specs.Parts.{NamesAt}
use Rattle.step_core.specs.Mutators.{register_of}
use Rattle.step_core.specs.Words.{Takes, AreRead, AreWritten, IsUnread, IsUnwritten}
use Rattle.step_core.proofs.Cores.Acted.{acted_plain, still}
use Rattle.step_core.proofs.Cores.Snapshots.{touches}
use Rattle.step_core.proofs.Cores.Sizes.{some_words}
use Rattle.step_core.proofs.Cores.Keeping.{core_of, register_inside, write_does, write_kept}
use Rattle.step_core.proofs.Mutating.Reading.{leads, root_rooted}
use Rattle.step_core.proofs.Mutating.Acting.{read_done, read_past, refused_does, write_past}

abbrev pub read_op : ℕ → Register → ℕ → Op
read_op m object i = record { mutator = m; action = actions.Read object i }

abbrev pub write_op : ℕ → Register → ℕ → ℕ → Op
write_op m object i v = record { mutator = m; action = actions.Write object i v }

abbrev pub put_op : ℕ → Register → ℕ → Option Register → Op
put_op m object i value = record { mutator = m; action = actions.Put object i value }

-- a step that makes no object and touches no name is refused
pub refused_takes : (o : Op) (why : Refusal) (c : CoreState) → touches o.action ≡ false → ((g : Graph) → IsFull g o.mutator o.action c → ⊥)
    → ((g : Graph) → ShowsGraph g c → Acts g o.mutator o.action (replies.Refused why) c) → Takes c (steps.Mutator o) (replies.Refused why) c
refused_takes o why c plain never acts =
    acted_plain o o.action (replies.Refused why) c c refl plain never (refused_does o.mutator o.action why c acts)

-- ---- reads
pub unread_past : (c : CoreState) (m : ℕ) (object : Register) (a from count : ℕ)
    → Leads c (register_place (root_counts_of c.config) m object.number) (Some a) → length (values_at c.table a) < from + count
    → IsUnread c m object from count refusals.NoField
unread_past c m object a from count l h =
    refused_takes (read_op m object (from + (count - 1))) refusals.NoField c refl (λ g f. f)
    (λ g s. read_past g c s m object a l (from + (count - 1)) (omega arith))

-- the i-th of so many from one on
part_at : (values : List ℕ) (from n i : ℕ) → i < n → from + n ≤ length values
    → slice_get values (from + i) ≡ Some (slice_index (take n (drop from values)) i)
part_at values from n i h k =
    slice_get-get_or values (from + i) 0 (omega arith)
    ∙ ap Some (sym (get_or-take n (drop from values) i 0 h ∙ get_or-drop from values i 0))

pub all_read : (c : CoreState) (m : ℕ) (object : Register) (a from : ℕ) (words : List ℕ)
    → Leads c (register_place (root_counts_of c.config) m object.number) (Some a) → from + length words ≤ length (values_at c.table a)
    → words ≡ take (length words) (drop from (values_at c.table a)) → AreRead c m object from words
all_read c m object a from words l h is i k =
    let word : ℕ = slice_index words i in
    let there : slice_get (values_at c.table a) (from + i) ≡ Some word =
    part_at (values_at c.table a) from (length words) i k h ∙ ap (λ (ws : List ℕ). Some (slice_index ws i)) (sym is) in
    acted_plain (read_op m object (from + i)) (actions.Read object (from + i)) (replies.Word word) c c refl refl (λ g f. f) (record {
      acts = λ g s. read_done g c s m object a l (from + i) word there;
      keeps = λ s f. f;
      after = record { core = refl; marker = refl };
      leaves = still c;
    })

-- ---- writes
pub unwritten_past : (c : CoreState) (m : ℕ) (object : Register) (a from : ℕ) (words : List ℕ)
    → Leads c (register_place (root_counts_of c.config) m object.number) (Some a) → length (values_at c.table a) < from + length words
    → IsUnwritten c m object from words refusals.NoField
unwritten_past c m object a from words l h =
    refused_takes (write_op m object (from + (length words - 1)) (slice_index words (length words - 1))) refusals.NoField c refl (λ g f. f)
    (λ g s. write_past g c s m object a l (from + (length words - 1)) _ (omega arith))

-- the core with such words, and the steps that lead there
pub record HasRun (c : CoreState) (m : ℕ) (object : Register) (from : ℕ) (words : List ℕ) (d : CoreState) : Type 0 where
  pub core : IsCore d
  pub written : AreWritten c m object from words d

pub all_written : (c : CoreState) (m : ℕ) (object : Register) (a from : ℕ) (words : List ℕ) → IsCore c
    → register_place (root_counts_of c.config) m object.number < length c.roots → register_of c m object ≡ Some a
    → from + length words ≤ length (values_at c.table a)
    → HasRun c m object from words (record c { table = set_values c.table a from words })
all_written c m object a from [] core inside named h = record { core = core; written = refl }
all_written c m object a from (w ∷ ws) core inside named h =
    let t : Table = set_value c.table a from w in
    let b : CoreState = record c { table = t } in
    let first : from < length (values_at c.table a) = omega arith in
    let place : ℕ = register_place (root_counts_of c.config) m object.number in
    let names : NamesAt c m object a = record {
      held = named;
      rooted = root_rooted c place (Some a) inside (sym named);
      leads = leads c place (Some a) inside (sym named);
    } in
    let one = acted_plain (write_op m object from w) (actions.Write object from w) replies.Done c b refl refl (λ g f. f)
    (write_does c c refl core m object a from w t names first refl) in
    let many = values_stay c.table a from w (some_words c core) first in
    let rest = all_written b m object a (suc from) ws (write_kept c c refl core m object a from w t names first refl) inside named
    (omega (arith, many, h)) in
    record { core = rest.core; written = (b, (one, rest.written)) }

-- the same, where k is the core by its fields
pub run_of : (k c : CoreState) (m : ℕ) (object : Register) (a from : ℕ) (words : List ℕ) (t : Table) → k ≡ c → IsCore k
    → m < c.config.mutators → object.number < registers_of c.config → Some a ≡ register_of c m object
    → from + length words ≤ length (values_at k.table a) → t ≡ set_values k.table a from words
    → HasRun c m object from words (record k { table = t })
run_of k c m object a from words t e core known inside named h is =
    let all = (core_of k c e core).places in
    let within : register_place (root_counts_of c.config) m object.number < length c.roots =
    omega (arith, register_inside c.config m object.number known inside, all) in
    let run = all_written k m object a from words core
    (subst (λ (d : CoreState). register_place (root_counts_of d.config) m object.number < length d.roots) (sym e) within)
    (subst (λ (d : CoreState). register_of d m object ≡ Some a) (sym e) (sym named)) h in
    subst (λ (d : CoreState). HasRun d m object from words (record k { table = t })) e
    (subst (λ (u : Table). HasRun k m object from words (record k { table = u })) (sym is) run)
