-- A pointer whose value is near or far, and stores into an object whose address is known.
use Rattle.std.proofs.Common.{◌≡◌, ◌≢◌, ◌+◌, ◌<◌, ◌/◌, ◌∙◌, ℕ, Bool, true, false, Option, Some, None, length, refl, sym, ap, subst, arith}
use Rattle.std.proofs.Common.{inl, ◌==◌, if◌then◌else◌, unwrap_or}
use Rattle.std.proofs.lemmas.Grind.{common_steps}
use Rattle.std.proofs.lemmas.Bool.Decides.{nat_tests}
use Rattle.heap_words.specs.Configs.{globals_of, registers_of, card_words}
use Rattle.heap_model.specs.Graph.{RootCounts}
use Rattle.graph_runs.specs.State.{root_counts_of, register_place}
use Rattle.cards.specs.Cards.{Cards, dirtied}
use Rattle.regions.specs.Table.{pointers_at, values_at, set_pointer, set_value}
use Rattle.refinement.specs.Remembering.{field_word}
use Rattle.marker.specs.Steps.{Overwrites}
use Rattle.heap_steps.specs.declared.step.Action.TheVariants as actions
use Rattle.heap_steps.specs.declared.step.Reply.TheVariants as replies
use Rattle.heap_steps.specs.declared.step.Register.{Register}
use Rattle.step_core.specs.Stands.{CoreState, IsCore}
use Rattle.step_core.specs.Cycle.{LeavesRegions}
use Rattle.step_core.specs.Mutators.{noted, object_of, pointer_of, with_pointer}
use Rattle.step_core.specs.Near.{LeadsFar, LeadsNear}
use Rattle.step_core.specs.Parts.{DoesAction, FillsField, HoldsValue, NamesAt}
use Rattle.step_core.specs.Storing.{HasNoted, StoresPointer, StoresWith}
use Rattle.step_core.specs.Words.{putting, writing}
use Rattle.step_core.proofs.Cores.Acted.{acted_plain}
use Rattle.step_core.proofs.Cores.Filling.{roots_stay}
use Rattle.step_core.proofs.Cores.Words.{put_op, write_op}
use Rattle.step_core.proofs.Cores.Keeping.{placed_in, register_inside, root_within}
use Rattle.step_core.proofs.Cores.Sizes.{some_words}
use Rattle.step_core.proofs.Mutating.Acting.{put_done}
use Rattle.step_core.proofs.Mutating.Made.{put_counts, write_counts}
use Rattle.step_core.proofs.Mutating.Noting.{keeps_noted, kept_noted, shown_noted, shows_noted}

-- ---- a register's place, by where its mutator's registers begin
pub row_place : (k c : CoreState) (m r row : ℕ) → k ≡ c → IsCore k
    → globals_of c.config + row ≡ register_place (root_counts_of c.config) m 0 → k.places.globals + (row + r) ≡ register_place k.places m r
row_place k c m r row e core is =
    subst (λ (p : RootCounts). p.globals + (row + r) ≡ register_place p m r) (sym (placed_in k c e core)) (omega (arith, is))

pub row_inside : (k c : CoreState) (m r row : ℕ) → k ≡ c → IsCore k → m < c.config.mutators → r < registers_of c.config
    → globals_of c.config + row ≡ register_place (root_counts_of c.config) m 0 → k.places.globals + (row + r) < length k.roots
row_inside k c m r row e core known inside is =
    let there = root_within k c (register_place (root_counts_of c.config) m r) e core (register_inside c.config m r known inside) in
    let same : register_place k.places m r ≡ register_place (root_counts_of c.config) m r =
    ap (λ (p : RootCounts). register_place p m r) (placed_in k c e core) in
    omega (arith, there, same, row_place k c m r row e core is)

pub row_of_core : (k c : CoreState) (m row : ℕ) → k ≡ c → IsCore k → k.places.globals + row ≡ register_place k.places m 0
    → globals_of c.config + row ≡ register_place (root_counts_of c.config) m 0
row_of_core k c m row e core is = subst (λ (p : RootCounts). p.globals + row ≡ register_place p m 0) (placed_in k c e core) is

-- ---- its card stays as it is
same_number : (n : ℕ) → (n == n) ≡ true
same_number n = grind (arith, common_steps, nat_tests)

other_number : (a b : ℕ) → a ≢ b → (a == b) ≡ false
other_number a b ne = grind (arith, common_steps, nat_tests)

pub near_noted : (c : CoreState) (word : ℕ) (w : Option ℕ) → LeadsNear c.table.words_per_region word w → HasNoted c word w
near_noted c word None h = tt
near_noted c word (Some a) h = inl h

pub near_cards : (c : CoreState) (m word : ℕ) (w : Option ℕ) → LeadsNear c.table.words_per_region word w → noted c m word w ≡ c.cards
near_cards c m word None h = refl
near_cards c m word (Some a) h =
    ap (λ (n : ℕ). if n == word / c.table.words_per_region then c.cards else dirtied c.cards m (word / card_words c.config)) h
    ∙ ap (λ (b : Bool). if b then c.cards else dirtied c.cards m (word / card_words c.config))
    (same_number (word / c.table.words_per_region))

-- ---- or becomes dirty
pub far_cards : (c : CoreState) (m word : ℕ) (w : Option ℕ) → LeadsFar c.table.words_per_region word w
    → noted c m word w ≡ dirtied c.cards m (word / card_words c.config)
far_cards c m word None h = absurd h
far_cards c m word (Some a) h = ap (λ (b : Bool). if b then c.cards else dirtied c.cards m (word / card_words c.config))
    (other_number (a / c.table.words_per_region) (word / c.table.words_per_region) h)

-- ---- so a pointer is stored
pub near_stores : (c c' : CoreState) (m a i : ℕ) (w : Option ℕ) → LeadsNear c.table.words_per_region (field_word a i) w
    → StoresWith c.cards m a i w c c' → StoresPointer m a i w c c'
near_stores c c' m a i w near s = subst (λ (cards : Cards). StoresWith cards m a i w c c') (sym (near_cards c m (field_word a i) w near)) s

-- with its card noted before
pub noted_stores : (c c1 c' : CoreState) (m a i : ℕ) (w : Option ℕ) → c1 ≡ record c { cards = c1.cards }
    → c1.cards ≡ noted c m (field_word a i) w → StoresWith c1.cards m a i w c1 c' → StoresPointer m a i w c c'
noted_stores c c1 c' m a i w same cards st =
    let leaves : LeavesRegions (record c { cards = c1.cards }) c' = subst (λ (d : CoreState). LeavesRegions d c') same st.leaves in
    record {
      shows = λ g x o v s at named shown. st.shows g x o v (shows_noted c c1 g same s) (kept_noted c c1 a same ∙ at) named
          (shown_noted c c1 w v same shown);
      keeps = λ s f. st.keeps s (keeps_noted c c1 s same f);
      core = st.core
          ∙ ap (λ (d : CoreState). record d { table = set_pointer d.table a i w; cards = c1.cards; marker = c'.marker }) same
          ∙ ap (λ (cs : Cards). record c { table = set_pointer c.table a i w; cards = cs; marker = c'.marker }) cards;
      marker = subst (λ (d : CoreState). Overwrites d.marker.running d.table m (pointer_of d a i) d.marker c'.marker) same st.marker;
      leaves = record { config = leaves.config; in_use = leaves.in_use };
    }

-- the step `put` is done
pub put_does : (c c' : CoreState) (m : ℕ) (object : Register) (a i : ℕ) (value : Option Register) (w : Option ℕ) → NamesAt c m object a
    → i < length (pointers_at c.table a) → HoldsValue c m value w → StoresPointer m a i w c c'
    → DoesAction m (actions.Put object i value) replies.Done c c'
put_does c c' m object a i value w names within held s =
    let there : a ≡ object_of c m object = ap (λ (o : Option ℕ). unwrap_or o 0) (sym names.held) in
    record {
      acts = λ g shows. put_done g c shows m object a names.leads i value w c' within (held.shows g shows) s.shows;
      keeps = s.keeps;
      after = record {
        core = s.core ∙ ap (λ (b : ℕ). record (with_pointer c m b i w) { marker = c'.marker }) there
            ∙ ap (λ (v : Option ℕ). record (with_pointer c m (object_of c m object) i v) { marker = c'.marker }) held.value;
        marker = subst (λ (b : ℕ). Overwrites c.marker.running c.table m (pointer_of c b i) c.marker c'.marker) there s.marker;
      };
      leaves = s.leaves;
    }

-- ---- an object whose address is known
pub put_fills : (c c' : CoreState) (m : ℕ) (object : Register) (a i : ℕ) (value : Option Register) (w : Option ℕ) → IsCore c
    → i < length (pointers_at c.table a) → c'.table ≡ set_pointer c.table a i w
    → DoesAction m (actions.Put object i value) replies.Done c c' → FillsField c (putting m object i value) a c'
put_fills c c' m object a i value w core within table d =
    let n = put_counts c.table c'.table a i w (some_words c core) within table in
    record {
      takes = acted_plain (put_op m object i value) (actions.Put object i value) replies.Done c c' refl refl (λ g f. f) d;
      roots = roots_stay c c' m (actions.Put object i value) replies.Done refl d.after;
      config = d.leaves.config;
      pointers = n.pointers;
      weaks = n.weaks;
      values = n.values;
    }

pub write_fills : (c c' : CoreState) (m : ℕ) (object : Register) (a i v : ℕ) → IsCore c
    → i < length (values_at c.table a) → c'.table ≡ set_value c.table a i v
    → DoesAction m (actions.Write object i v) replies.Done c c' → FillsField c (writing m object i v) a c'
write_fills c c' m object a i v core within table d =
    let n = write_counts c.table c'.table a i v (some_words c core) within table in
    record {
      takes = acted_plain (write_op m object i v) (actions.Write object i v) replies.Done c c' refl refl (λ g f. f) d;
      roots = roots_stay c c' m (actions.Write object i v) replies.Done refl d.after;
      config = d.leaves.config;
      pointers = n.pointers;
      weaks = n.weaks;
      values = n.values;
    }
