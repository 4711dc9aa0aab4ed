-- Fields one after another: which steps are refused, and what is known between two that are done.
use Rattle.std.proofs.Common.{◌≡◌, ◌≢◌, ◌+◌, ◌-◌, ◌<◌, ◌≤◌, ◌∙◌, ℕ, suc, Option, Some, None, length, refl, sym, ap, subst, arith}
use Rattle.std.proofs.lemmas.List.{get_or-set_other}
use Rattle.graph_runs.specs.State.{register_place, root_counts_of}
use Rattle.heap_steps.specs.declared.step.Action.TheVariants as actions
use Rattle.heap_steps.specs.declared.step.Reply.TheVariants as replies
use Rattle.heap_steps.specs.declared.step.Refusal.TheVariants as refusals
use Rattle.regions.specs.Table.{pointers_at, values_at}
use Rattle.step_core.specs.Steps.{Op, Register, Step}
use Rattle.step_core.specs.Stands.{CoreState, Leads}
use Rattle.step_core.specs.Mutators.{register_of, with_root_word}
use Rattle.step_core.specs.Parts.{FillsField}
use Rattle.step_core.specs.Rows.{AreDone, Gets, HasGot, HasNoPointer, HasNoWord, HasStored, getting_each, register_at}
use Rattle.step_core.proofs.Cores.Filling.{all_refused}
use Rattle.step_core.proofs.Cores.Words.{put_op, refused_takes, write_op}
use Rattle.step_core.proofs.Mutating.Acting.{get_nil, get_past, put_past, write_past}

abbrev pub get_op : ℕ → Register → Register → ℕ → Op
get_op m to object i = record { mutator = m; action = actions.Get to object i }

-- ---- no such field
pub nil_pointer : (c : CoreState) (m : ℕ) (object : Register) (i : ℕ)
    → Leads c (register_place (root_counts_of c.config) m object.number) None → HasNoPointer c m object i refusals.Nil
nil_pointer c m object i l = record {
  got = λ to. refused_takes (get_op m to object i) refusals.Nil c refl (λ g f. f) (λ g s. get_nil g c s m to object i l);
  put = λ value. (all_refused c m object l).put i value;
}

pub past_pointer : (c : CoreState) (m : ℕ) (object : Register) (a from count : ℕ)
    → Leads c (register_place (root_counts_of c.config) m object.number) (Some a) → length (pointers_at c.table a) < from + count
    → HasNoPointer c m object (from + (count - 1)) refusals.NoField
past_pointer c m object a from count l h = let i = from + (count - 1) in let past : length (pointers_at c.table a) ≤ i = omega (arith, h) in
    record {
      got = λ to. refused_takes (get_op m to object i) refusals.NoField c refl (λ g f. f)
          (λ g s. get_past g c s m object a l to i past);
      put = λ value. refused_takes (put_op m object i value) refusals.NoField c refl (λ g f. f)
          (λ g s. put_past g c s m object a l i value past);
    }

pub nil_word : (c : CoreState) (m : ℕ) (object : Register) (i : ℕ)
    → Leads c (register_place (root_counts_of c.config) m object.number) None → HasNoWord c m object i refusals.Nil
nil_word c m object i l word = (all_refused c m object l).written i word

pub past_word : (c : CoreState) (m : ℕ) (object : Register) (a from count : ℕ)
    → Leads c (register_place (root_counts_of c.config) m object.number) (Some a) → length (values_at c.table a) < from + count
    → HasNoWord c m object (from + (count - 1)) refusals.NoField
past_word c m object a from count l h word =
    refused_takes (write_op m object (from + (count - 1)) word) refusals.NoField c refl (λ g f. f)
    (λ g s. write_past g c s m object a l (from + (count - 1)) word (omega (arith, h)))

-- ---- loads
-- another register holds what it held
pub still_held : (c d : CoreState) (m a : ℕ) (to object : Register) (w : Option ℕ) → object.number ≢ to.number
    → d ≡ with_root_word c (register_place (root_counts_of c.config) m to.number) w → register_of c m object ≡ Some a
    → register_of d m object ≡ Some a
still_held c d m a to object w other e held =
    let place : ℕ = register_place (root_counts_of c.config) m object.number in
    let apart : place ≢ register_place (root_counts_of c.config) m to.number = λ same. other (omega (arith, same)) in
    ap (λ (x : CoreState). register_of x m object) e
    ∙ get_or-set_other c.roots (register_place (root_counts_of c.config) m to.number) place w None apart ∙ held

pub got_more : (c b d : CoreState) (m to : ℕ) (object : Register) (from count a k : ℕ)
    → ((i : ℕ) → i + 1 < count → object.number ≢ to + i) → HasGot c m to object from count a k b → k < count
    → Gets b m (register_at (to + k)) object (from + k) d → HasGot c m to object from count a (k + 1) d
got_more c b d m to object from count a k apart h less g =
    let one : k + 1 ≡ suc k = omega arith in
    record {
      done = subst (λ (n : ℕ). AreDone c (getting_each m to object from) n d) (sym one)
          (b, replies.Named g.name, (h.done, (tt, g.takes)));
      table = ap (λ (x : CoreState). x.table) g.after ∙ h.table;
      config = ap (λ (x : CoreState). x.config) g.after ∙ h.config;
      held = λ more. still_held b d m a (register_at (to + k)) object g.word (apart k more) g.after (h.held less);
    }

-- ---- stores
pub stored_more : (c b d : CoreState) (step : ℕ → Step) (a k : ℕ) → HasStored c step a k b → FillsField b (step k) a d
    → HasStored c step a (k + 1) d
stored_more c b d step a k h f =
    let one : k + 1 ≡ suc k = omega arith in
    record {
      done = subst (λ (n : ℕ). AreDone c step n d) (sym one) (b, replies.Done, (h.done, (tt, f.takes)));
      roots = f.roots ∙ h.roots;
      config = f.config ∙ h.config;
      pointers = f.pointers ∙ h.pointers;
      weaks = f.weaks ∙ h.weaks;
      values = f.values ∙ h.values;
    }
