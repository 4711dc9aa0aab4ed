-- The mark stack: grey objects that have no finger.
use Rattle.std.specs.Prelude.{◌≡◌, ◌≢◌, ◌<◌, ◌++◌, ◌∷◌, ℕ, Bool, List, [], length, if◌then◌else◌, nat_lt, slice_index}

-- objects in the order in which they were put on it, the last one at the end; and how many it has room for
pub record Stack : Type 0 where
  pub objects : List ℕ
  pub room : ℕ

-- an empty stack: it has no room where objects are scanned by rising address
unfoldable pub empty_stack : Bool → Stack
empty_stack by_address = record { objects = []; room = if by_address then 0 else 64 }

-- whether it has room for one more
abbrev pub has_room : Stack → Bool
has_room stack = nat_lt (length stack.objects) stack.room

-- the stack once an object is put on it
abbrev pub with_object : Stack → ℕ → Stack
with_object stack a = record { objects = stack.objects ++ a ∷ []; room = stack.room }

-- an object is on it
pub record IsOn (stack : Stack) (a : ℕ) : Type 0 where
  pub place : ℕ
  pub there : place < length stack.objects
  pub is : slice_index stack.objects place ≡ a

-- each object is on it once
abbrev pub AreApart : Stack → Type 0
AreApart stack = (i j : ℕ) → i < j → j < length stack.objects → slice_index stack.objects i ≢ slice_index stack.objects j

-- its objects start at some of so many addresses
abbrev pub AreBelow : Stack → ℕ → Type 0
AreBelow stack count = (i : ℕ) → i < length stack.objects → slice_index stack.objects i < count
