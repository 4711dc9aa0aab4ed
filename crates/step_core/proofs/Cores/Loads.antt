-- A pointer that is loaded, and a data word of the object that it leads to.
use Rattle.std.proofs.Common.{◌≡◌, ◌<◌, ◌≤◌, ◌∙◌, ℕ, Option, Some, None, IsSome, length, refl, sym, ap, arith, slice_get}
use Rattle.std.proofs.lemmas.List.{get_or-set_same}
use Rattle.heap_words.specs.Configs.{registers_of}
use Rattle.heap_steps.specs.declared.step.Action.TheVariants as actions
use Rattle.heap_steps.specs.declared.step.Reply.TheVariants as replies
use Rattle.heap_steps.specs.declared.step.Refusal.TheVariants as refusals
use Rattle.graph_runs.specs.State.{register_place, root_counts_of, with_root}
use Rattle.heap_model.specs.Graph.{Graph}
use Rattle.heap_model.specs.Heap.{IsShown}
use Rattle.regions.specs.Table.{object_at, pointers_at, values_at}
use Rattle.step_core.specs.Steps.{Register, Reply}
use Rattle.step_core.specs.Stands.{CoreState, IsCore, IsWordOf, Leads, ShowsGraph, heap_of, name_in, name_of}
use Rattle.step_core.specs.Mutators.{register_of, with_root_word}
use Rattle.step_core.specs.Loads.{LoadsHeld, ReadsLoaded, word_or_name}
use Rattle.step_core.specs.Parts.{SetsRoot}
use Rattle.step_core.specs.Words.{Takes, reading}
use Rattle.step_core.proofs.Cores.Acted.{acted_plain, still}
use Rattle.step_core.proofs.Cores.Filling.{names_at}
use Rattle.step_core.proofs.Cores.Keeping.{register_inside}
use Rattle.step_core.proofs.Cores.Rows.{get_op}
use Rattle.step_core.proofs.Cores.Words.{read_op, refused_takes}
use Rattle.step_core.proofs.Mutating.Acting.{get_done, read_done, read_past}
use Rattle.step_core.proofs.Mutating.Done.{got}
use Rattle.step_core.proofs.Mutating.Reading.{root_word, word_object}

-- a register holds the word that it took
pub word_taken : (c d : CoreState) (m : ℕ) (to : Register) (w : Option ℕ) → IsCore c → m < c.config.mutators
    → to.number < registers_of c.config → d ≡ with_root_word c (register_place (root_counts_of c.config) m to.number) w
    → register_of d m to ≡ w
word_taken c d m to w core known inside e =
    let place : ℕ = register_place (root_counts_of c.config) m to.number in
    let all = core.places in
    ap (λ (x : CoreState). register_of x m to) e
    ∙ get_or-set_same c.roots place w None (omega (arith, register_inside c.config m to.number known inside, all))

-- what a register holds is a word of the heap
pub word_held : (c : CoreState) (m : ℕ) (r : Register) (a : ℕ) → IsCore c → m < c.config.mutators → r.number < registers_of c.config
    → register_of c m r ≡ Some a → IsWordOf (heap_of c) (Some a)
word_held c m r a core known inside held =
    let place : ℕ = register_place (root_counts_of c.config) m r.number in
    let all = core.places in
    root_word c place (Some a) core (omega (arith, register_inside c.config m r.number known inside, all)) (sym held)

-- a register takes what a pointer holds
pub loads : (c d : CoreState) (m : ℕ) (to object : Register) (a i : ℕ) (w : Option ℕ) → IsCore c → m < c.config.mutators
    → to.number < registers_of c.config → object.number < registers_of c.config → register_of c m object ≡ Some a
    → slice_get (pointers_at c.table a) i ≡ Some w
    → ((g : Graph) (v : Option ℕ) → ShowsGraph g c → IsShown (heap_of c) w v
    → ShowsGraph (with_root g (register_place g.places m to.number) v) d)
    → SetsRoot (register_place (root_counts_of c.config) m to.number) w c d → LoadsHeld c m to object i w d
loads c d m to object a i w core known inside within held there shows set =
    let names = names_at c m object a core known within held in
    record {
      takes = acted_plain (get_op m to object i) (actions.Get to object i) (replies.Named (name_in d.table w)) c d refl refl (λ g f. f)
          (record {
            acts = λ g s. get_done g c s m object a names.leads to i w (name_in d.table w) d there
                (ap (λ (x : CoreState). name_in x.table w) set.after) shows;
            keeps = set.keeps;
            after = got c d m to object i a w held there set.after;
            leaves = set.leaves;
          });
      held = word_taken c d m to w core known inside set.after;
      config = ap (λ (x : CoreState). x.config) set.after;
    }

-- ---- a read of the object at an address
pub read_at_past : (c : CoreState) (m : ℕ) (object : Register) (a i : ℕ)
    → Leads c (register_place (root_counts_of c.config) m object.number) (Some a) → length (values_at c.table a) ≤ i
    → Takes c (reading m object i) (replies.Refused refusals.NoField) c
read_at_past c m object a i l past =
    refused_takes (read_op m object i) refusals.NoField c refl (λ g f. f) (λ g s. read_past g c s m object a l i past)

pub read_at_done : (c : CoreState) (m : ℕ) (object : Register) (a i w : ℕ)
    → Leads c (register_place (root_counts_of c.config) m object.number) (Some a) → slice_get (values_at c.table a) i ≡ Some w
    → Takes c (reading m object i) (replies.Word w) c
read_at_done c m object a i w l there =
    acted_plain (read_op m object i) (actions.Read object i) (replies.Word w) c c refl refl (λ g f. f) (record {
      acts = λ g s. read_done g c s m object a l i w there;
      keeps = λ s f. f;
      after = record { core = refl; marker = refl };
      leaves = still c;
    })

-- ---- the reply, by the name of what was loaded
by_name : (d : CoreState) (m : ℕ) (to : Register) (word : ℕ) (name : Option ℕ) (read : Reply) → IsSome name
    → Takes d (reading m to word) read d → ReadsLoaded (replies.Named name) d m to word (word_or_name name read)
by_name d m to word (Some n) read some t = (read, t, refl)
by_name d m to word None read some t = absurd cc

some_name : (c : CoreState) (a : ℕ) → IsSome (object_at c.table a) → IsSome (name_in c.table (Some a))
some_name c a is = go (object_at c.table a) is
  where
    go : (o : Option _) → IsSome o → IsSome (name_of o)
    go (Some x) s = refl
    go None s = absurd cc

pub read_loaded : (d : CoreState) (m : ℕ) (to : Register) (a word : ℕ) (read : Reply) → IsWordOf (heap_of d) (Some a)
    → Takes d (reading m to word) read d
    → ReadsLoaded (replies.Named (name_in d.table (Some a))) d m to word (word_or_name (name_in d.table (Some a)) read)
read_loaded d m to a word read held t = by_name d m to word (name_in d.table (Some a)) read (some_name d a (word_object d a held)) t
