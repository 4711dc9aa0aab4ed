-- It can be told whether numbers name steps of a heap.
use Rattle.std.proofs.Common.{◌≡◌, ◌⊎◌, ◌+◌, ◌-◌, ◌<◌, ◌^◌, ℕ, Bool, true, false, zero, suc, List, length, Option, Some, None, inl, inr}
use Rattle.std.proofs.Common.{subst, sym, arith}
use Rattle.std.specs.Prelude.{◌≢◌, slice_index}
use Rattle.std.proofs.lemmas.Bool.{cases_eq, cases_lt}
use Rattle.heap_words.specs.Configs.{registers_of}
use Rattle.heap_words.specs.declared.config.Config.{Config}
use Rattle.heap_words.specs.declared.config.Format.{Format}
use Rattle.heap_words.specs.declared.config.Format.TheVariants.{V1, V2, V3}
use Rattle.heap_model.specs.Graph.{RootCounts}
use Rattle.graph_runs.specs.State.{root_counts_of}
use Rattle.heap_steps.specs.Actors.{HasRow, IsOp, IsStep, IsThird}
use Rattle.heap_steps.specs.Forms.{action_row, action_verb, collection_row, collection_verb}
use Rattle.heap_steps.specs.Roots.{IsValue, NamesRoots}
use Rattle.heap_steps.specs.declared.step.Action.{Action}
use Rattle.heap_steps.specs.declared.step.Action.TheVariants as actions
use Rattle.heap_steps.specs.declared.step.Op.{Op}
use Rattle.heap_steps.specs.declared.step.Register.{Register}
use Rattle.heap_steps.specs.declared.step.Step.{Step}
use Rattle.heap_steps.specs.declared.step.Step.TheVariants as steps
use Rattle.step_core.specs.Stands.{CoreState}
use Rattle.heap_calls.specs.Filled.{AreFields, making, pointing}
use Rattle.heap_calls.specs.Rows.{AreSteps, IsApart, Many, last_step, GetMany, PutMany, Fill, FillWords}
use Rattle.heap_calls.specs.Steps.{HasRegister}

-- a fact, or what refutes it
abbrev pub OrNot : Type 0 → Type 0
OrNot P = P ⊎ (P → ⊥)

both : (A B : Type 0) → OrNot A → OrNot B → OrNot (A × B)
both A B (inl a) (inl b) = inl (a, b)
both A B (inl a) (inr n) = inr (λ p. n p.1)
both A B (inr n) b = inr (λ p. n p.0)

less : (a b : ℕ) → OrNot (a < b)
less a b = elim (cases_lt a b) [
  | inl lt ↦ inl lt
  | inr ge ↦ inr (λ lt. absurd (omega (arith, lt, ge)))
]

apart : (a b : ℕ) → OrNot (a ≢ b)
apart a b = elim (cases_eq a b) [ inl e ↦ inr (λ ne. ne e) | inr ne ↦ inl ne ]

all_below : (P : ℕ → Type 0) → ((i : ℕ) → OrNot (P i)) → (n : ℕ) → OrNot ((i : ℕ) → i < n → P i)
all_below P each zero = inl (λ i lt. absurd (omega (arith, lt)))
all_below P each (suc n) = elim (all_below P each n) [
  | inr nay ↦ inr (λ h. nay (λ i lt. h i (omega (arith, lt))))
  | inl every ↦ elim (each n) [
    | inr nay ↦ inr (λ h. nay (h n (omega arith)))
    | inl one ↦ inl (λ i lt. last P n every one i lt)
  ]
]
  where
    last : (P : ℕ → Type 0) (n : ℕ) → ((i : ℕ) → i < n → P i) → P n → (i : ℕ) → i < suc n → P i
    last P n every one i lt = elim (cases_lt i n) [
      | inl below ↦ every i below
      | inr above ↦ let e : n ≡ i = omega (arith, lt, above) in subst P e one
    ]

a_value : (p : RootCounts) (v : Option Register) → OrNot (IsValue p v)
a_value p None = inl tt
a_value p (Some r) = less r.number p.registers

roots : (p : RootCounts) (a : Action) → OrNot (NamesRoots p a)
roots p (actions.New to counts) = less to.number p.registers
roots p (actions.Get to object i) = both _ _ (less to.number p.registers) (less object.number p.registers)
roots p (actions.Put object i value) = both _ _ (less object.number p.registers) (a_value p value)
roots p (actions.Read object j) = less object.number p.registers
roots p (actions.Write object j value) = less object.number p.registers
roots p (actions.Move to from) = both _ _ (less to.number p.registers) (less from.number p.registers)
roots p (actions.Drop register) = less register.number p.registers
roots p (actions.Load to from) = both _ _ (less to.number p.registers) (less from.number p.globals)
roots p (actions.Save to from) = both _ _ (less to.number p.globals) (less from.number p.registers)
roots p (actions.Shape object) = less object.number p.registers
roots p (actions.NewWeak to counts weaks) = less to.number p.registers
roots p (actions.GetWeak to object i) = both _ _ (less to.number p.registers) (less object.number p.registers)
roots p (actions.PutWeak object i value) = both _ _ (less object.number p.registers) (a_value p value)
roots p (actions.Weaks object) = less object.number p.registers
roots p (actions.Scope from) = less from.number p.registers

third : (f : Format) → OrNot (IsThird f)
third V1 = inr (λ h. h)
third (V2 card) = inr (λ h. h)
third (V3 card globals registers) = inl tt

row : (f : Format) (t : Bool) → OrNot (HasRow f t)
row f true = third f
row f false = inl tt

pub is_op : (c : Config) (o : Op) → OrNot (IsOp c o)
is_op c o = elim (both _ _ (less o.mutator c.mutators) (both _ _ (roots (root_counts_of c) o.action)
    (row c.format (action_row (action_verb o.action)).third))) [
      | inl h ↦ inl (record { at = record { mutator = h.0; roots = h.1.0 }; known = h.1.1 })
      | inr nay ↦ inr (λ h. nay (h.at.mutator, (h.at.roots, h.known)))
    ]

pub is_step : (c : Config) (step : Step) → OrNot (IsStep c step)
is_step c (steps.Mutator o) = is_op c o
is_step c (steps.Collector k) = row c.format (collection_row (collection_verb k)).third

pub is_register : (c : CoreState) (m r : ℕ) → OrNot (HasRegister c m r)
is_register c m r = elim (both _ _ (less m c.config.mutators) (less r (registers_of c.config))) [
  | inl h ↦ inl (record { mutator = h.0; register = h.1 })
  | inr nay ↦ inr (λ h. nay (h.mutator, h.register))
]

pub are_fields : (c : Config) (m to : ℕ) (from words : List ℕ) → OrNot (AreFields c m to from words)
are_fields c m to from words =
    let points = all_below (λ (i : ℕ). IsStep c (pointing m to from i)) (λ i. is_step c (pointing m to from i)) (length from) in
    let others = all_below (λ (i : ℕ). slice_index from i ≢ to) (λ i. apart (slice_index from i) to) (length from) in
    elim (both _ _ (less (length from) (2 ^ 32))
    (both _ _ (less (length words) (2 ^ 32)) (both _ _ (is_step c (making m to from words)) (both _ _ points others)))) [
      | inl h ↦ inl (record { few = h.0; few_words = h.1.0; makes = h.1.1.0; points = h.1.1.1.0; apart = h.1.1.1.1 })
      | inr nay ↦ inr (λ h. nay (h.few, (h.few_words, (h.makes, (h.points, h.apart)))))
    ]

is_apart : (x : Many) → OrNot (IsApart x)
is_apart (GetMany m to object field count) =
    elim (all_below (λ (k : ℕ). object ≢ to + k) (λ k. apart object (to + k)) (count - 1)) [
      | inl all ↦ inl (λ k less. all k (omega (arith, less)))
      | inr nay ↦ inr (λ all. nay (λ k less. all k (omega (arith, less))))
    ]
is_apart (PutMany m object field from count) = inl tt
is_apart (Fill m object field from count) = inl tt
is_apart (FillWords m object field word count) = inl tt

pub are_steps : (c : Config) (x : Many) → OrNot (AreSteps c x)
are_steps c x = elim (both _ _ (is_step c (last_step x)) (is_apart x)) [
  | inl h ↦ inl (record { last = h.0; apart = h.1 })
  | inr nay ↦ inr (λ h. nay (h.last, h.apart))
]

-- a register is there in a heap of the same sizes
pub has_register : (c d : CoreState) (m r : ℕ) → d.config ≡ c.config → (m < c.config.mutators) × (r < registers_of c.config)
    → HasRegister d m r
has_register c d m r same there = record {
  mutator = subst (λ (x : Config). m < x.mutators) (sym same) there.0;
  register = subst (λ (x : Config). r < registers_of x) (sym same) there.1;
}
