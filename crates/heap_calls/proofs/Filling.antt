-- What is known between two steps that fill a new object.
use Rattle.std.proofs.Common.{◌≡◌, ◌+◌, ◌<◌, ◌∙◌, ℕ, zero, suc, Option, Some, None, List, length, sym, subst, refl, ap, arith}
use Rattle.std.specs.Prelude.{slice_index, slice_index_or}
use Rattle.heap_words.specs.declared.config.Config.{Config}
use Rattle.heap_steps.specs.Actors.{IsStep}
use Rattle.regions.specs.Table.{pointers_at, values_at, weaks_at}
use Rattle.graph_runs.specs.State.{register_place, root_counts_of}
use Rattle.heap_steps.specs.declared.step.Counts.{Counts}
use Rattle.heap_steps.specs.declared.step.Refusal.TheVariants as refusals
use Rattle.heap_steps.specs.declared.step.Register.{Register}
use Rattle.heap_steps.specs.declared.step.Reply.{Reply}
use Rattle.heap_steps.specs.declared.step.Reply.TheVariants as replies
use Rattle.heap_steps.specs.declared.step.Step.{Step}
use Rattle.step_core.specs.Stands.{CoreState}
use Rattle.step_core.specs.Making.{NamesObject}
use Rattle.step_core.specs.Mutators.{register_of}
use Rattle.heap_steps.specs.Roots.{IsRegister, IsValue}
use Rattle.step_core.specs.Words.{AreRefused, Takes, putting, writing}
use Rattle.step_core.specs.Words as step
use Rattle.step_core.specs.Near.{ArePut, source}
use Rattle.heap_calls.specs.Numbers.{counts, register, value}
use Rattle.heap_calls.specs.Filled.{FillsFields, StepsTo, making, pointing, wording}

-- so many steps are taken, in a heap of the same sizes
pub record HasRun (c : CoreState) (step : ℕ → Step) (count : ℕ) (d : CoreState) : Type 0 where
  pub run : StepsTo c step count d
  pub config : d.config ≡ c.config
  pub roots : d.roots ≡ c.roots

-- and the object at an address has as many fields as before
pub record HasFilled (c : CoreState) (step : ℕ → Step) (a count : ℕ) (d : CoreState) : Type 0 where
  pub taken : HasRun c step count d
  pub pointers : length (pointers_at d.table a) ≡ length (pointers_at c.table a)
  pub weaks : length (weaks_at d.table a) ≡ length (weaks_at c.table a)
  pub values : length (values_at d.table a) ≡ length (values_at c.table a)

run_more : (c b d : CoreState) (step : ℕ → Step) (i : ℕ) (taken : Step) (reply : Reply) → HasRun c step i b → taken ≡ step i
    → Takes b taken reply d → d.config ≡ b.config → d.roots ≡ b.roots → HasRun c step (i + 1) d
run_more c b d step i taken reply h e t same roots =
    let one : i + 1 ≡ suc i = omega arith in
    record {
      run = subst (λ (n : ℕ). StepsTo c step n d) (sym one)
          (b, reply, (h.run, subst (λ (s : Step). Takes b s reply d) e t));
      config = same ∙ h.config;
      roots = roots ∙ h.roots;
    }

pub filled_more : (c b d : CoreState) (step : ℕ → Step) (a i : ℕ) (taken : Step) (reply : Reply) → HasFilled c step a i b → taken ≡ step i
    → Takes b taken reply d → d.config ≡ b.config → d.roots ≡ b.roots
    → length (pointers_at d.table a) ≡ length (pointers_at b.table a) → length (weaks_at d.table a) ≡ length (weaks_at b.table a)
    → length (values_at d.table a) ≡ length (values_at b.table a) → HasFilled c step a (i + 1) d
filled_more c b d step a i taken reply h e t same roots pointers weaks values = record {
  taken = run_more c b d step i taken reply h.taken e t same roots;
  pointers = pointers ∙ h.pointers;
  weaks = weaks ∙ h.weaks;
  values = values ∙ h.values;
}

-- a register holds what it held where all roots do
pub still_held : (c d : CoreState) (m : ℕ) (r to : Register) (a : ℕ) → d.config ≡ c.config → d.roots ≡ c.roots → r ≡ to
    → register_of c m to ≡ Some a → register_of d m r ≡ Some a
still_held c d m r to a e f q h =
    ap (λ (x : Register). register_of d m x) q
    ∙ ap (λ (k : Config). slice_index_or d.roots (register_place (root_counts_of k) m to.number) None) e
    ∙ ap (λ (rs : List (Option ℕ)). slice_index_or rs (register_place (root_counts_of c.config) m to.number) None) f ∙ h

-- what making the object asks for
pub record CanMake (k : Config) (m : ℕ) (r : Register) : Type 0 where
  pub mutator : m < k.mutators
  pub to : IsRegister (root_counts_of k) r

pub can_make : (k : Config) (m to : ℕ) (from words : List ℕ) (r : Register) → r ≡ register to → IsStep k (making m to from words)
    → CanMake k m r
can_make k m to from words r e is =
    let at = is.at in
    subst (λ (x : Register). CanMake k m x) (sym e) (record { mutator = at.mutator; to = at.roots })

-- the steps by the names that the code has
pub as_making : (m to : ℕ) (from words : List ℕ) (r : Register) (n : Counts) → r ≡ register to → n ≡ counts (length from) (length words)
    → step.making m r n ≡ making m to from words
as_making m to from words r n e f =
    ap (λ (x : Register). step.making m x n) e ∙ ap (λ (x : Counts). step.making m (register to) x) f

pub as_wording : (m to : ℕ) (words : List ℕ) (i w : ℕ) (r : Register) → r ≡ register to → w ≡ slice_index words i
    → writing m r i w ≡ wording m to words i
as_wording m to words i w r f g = ap (λ (x : Register). writing m x i w) f ∙ ap (λ (x : ℕ). writing m (register to) i x) g

-- where the register holds nil, each step is refused
none_pointed : (c : CoreState) (m to : ℕ) (from : List ℕ) → AreRefused c m (register to) → (n : ℕ) → StepsTo c (pointing m to from) n c
none_pointed c m to from h zero = refl
none_pointed c m to from h (suc n) = (c, replies.Refused refusals.Nil, (none_pointed c m to from h n, h.put n (value (slice_index from n))))

none_worded : (c : CoreState) (m to : ℕ) (words : List ℕ) → AreRefused c m (register to) → (n : ℕ) → StepsTo c (wording m to words) n c
none_worded c m to words h zero = refl
none_worded c m to words h (suc n) = (c, replies.Refused refusals.Nil, (none_worded c m to words h n, h.written n (slice_index words n)))

-- a step of a heap of the same sizes, by another name
pub still : (k l : Config) (s t : Step) → k ≡ l → s ≡ t → IsStep l t → IsStep k s
still k l s t e f is = subst (λ (x : Config). IsStep x s) (sym e) (subst (λ (x : Step). IsStep l x) (sym f) is)

pub none_filled : (c : CoreState) (m to : ℕ) (from words : List ℕ) (r : Register) → r ≡ register to → AreRefused c m r
    → FillsFields c m to from words c
none_filled c m to from words r e h =
    let all = subst (λ (x : Register). AreRefused c m x) e h in
    (c, (none_pointed c m to from all (length from), none_worded c m to words all (length words)))

-- where the register names an object of such counts, what it holds is the object's address
pub record HasCounts (c : CoreState) (a p w d : ℕ) : Type 0 where
  pub pointers : length (pointers_at c.table a) ≡ p
  pub weaks : length (weaks_at c.table a) ≡ w
  pub values : length (values_at c.table a) ≡ d

pub counts_here : (c : CoreState) (m : ℕ) (r to : Register) (a p w d : ℕ) → NamesObject c m to p w d → r ≡ to → Some a ≡ register_of c m r
    → HasCounts c a p w d
counts_here c m r to a p w d made e h =
    let same : Some a ≡ Some made.at = h ∙ ap (λ (x : Register). register_of c m x) e ∙ made.held in
    let at : a ≡ made.at = cc in
    subst (λ (x : ℕ). HasCounts c x p w d) (sym at) (record { pointers = made.pointers; weaks = made.weaks; values = made.values })

-- ---- the pointers, as the core stores them
pub put_runs : (c : CoreState) (m to : ℕ) (from : List ℕ) (n : ℕ) (r : Register) (d : CoreState) → r ≡ register to → ArePut c m r from n d
    → StepsTo c (pointing m to from) n d
put_runs c m to from zero r d e h = h
put_runs c m to from (suc n) r d e (b, (h, t)) = (
  b,
  replies.Done,
  (
    put_runs c m to from n r b e h,
    subst (λ (x : Register). Takes b (putting m x n (value (slice_index from n))) replies.Done d) e t,
  ),
)

-- what that asks for: a register or nil for each
pub sources_there : (k : Config) (m to : ℕ) (from : List ℕ) → ((i : ℕ) → i < length from → IsStep k (pointing m to from i))
    → (i : ℕ) → i < length from → IsValue (root_counts_of k) (source (slice_index from i))
sources_there k m to from all i h = let at = (all i h).at in at.roots.1
