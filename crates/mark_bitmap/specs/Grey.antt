-- Grey objects: marked, and not scanned yet.
use Rattle.std.specs.Prelude.{◌≡◌, ◌≢◌, ◌==◌, ◌-◌, ℕ, ◌/◌, ◌<◌, ◌≤◌, ◌⊎◌, Bool, true, false, List, [], Option, Some, None, MatchOption}
use Rattle.std.specs.Prelude.{if◌then◌else◌, length, max, min, replicate, slice_set}
use Rattle.std.specs.Int.{div_ceil}
use Rattle.bit_sets.specs.Bits.{has}
use Rattle.mark_bitmap.specs.Marks.{is_only}
use Rattle.mark_bitmap.specs.Stack.{Stack, AreApart, AreBelow, IsOn, empty_stack, has_room, with_object}

-- the finger of an address: a bit of a summary, one for each 64 addresses
unfoldable pub finger_of : ℕ → ℕ
finger_of address = address / 64

-- which objects are scanned; a finger for each 64 addresses that is set where a grey object may start at one of them; the grey object that
-- is held beside the fingers, to be scanned next; how many of its words were looked at, itself first and then its pointers, where its scan
-- has begun; and the stack of those that were held before
pub record Scans : Type 0 where
  pub scanned : List Bool
  pub fingers : List Bool
  pub held : Option ℕ
  pub looked : ℕ
  pub stack : Stack

-- there is a finger for each 64 addresses, objects that are held or on the stack start at an address, words were looked at of a held object
-- alone, and the stack has room for its own
pub record HasPlaces (scanned fingers : List Bool) (held : Option ℕ) (looked : ℕ) (stack : Stack) : Type 0 where
  pub count : length fingers ≡ div_ceil (length scanned) 64
  pub within : (a : ℕ) → held ≡ Some a → a < length scanned
  pub unlooked : held ≡ None → looked ≡ 0
  pub stacked : AreBelow stack (length scanned)
  pub fits : length stack.objects ≤ stack.room

-- of so many addresses none is scanned, no finger is set, nothing is held, and the stack is empty
unfoldable pub nothing_scanned : ℕ → Bool → Scans
nothing_scanned count by_address = record {
  scanned = replicate count false;
  fingers = replicate (div_ceil count 64) false;
  held = None;
  looked = 0;
  stack = empty_stack by_address;
}

-- marked, and not scanned
abbrev pub is_grey : List Bool → Scans → ℕ → Bool
is_grey marks scans = is_only marks scans.scanned

-- how many pointers of the object at an address are done: of the held one, itself is the first word that was looked at
abbrev pub done_of : Option ℕ → ℕ → ℕ → ℕ
done_of None looked a = 0
done_of (Some held) looked a = if a == held then looked - 1 else 0

abbrev pub done_in : Scans → ℕ → ℕ
done_in scans = done_of scans.held scans.looked

-- as many words of the held object were looked at, and where its scan has begun, it stays held
pub record KeepsPlace (old new : Scans) : Type 0 where
  pub looked : new.looked ≡ old.looked
  pub held : old.looked ≢ 0 → new.held ≡ old.held

-- the held object is grey, and the lowest grey one if the stack has no room and its scan hasn't begun; nothing is held if and only if none
-- is grey; what is on the stack is grey, each object once, and none of it is held; and no grey object starts at an address whose finger
-- isn't set, but the held one and those on the stack
pub record HasFingers (marks : List Bool) (scans : Scans) : Type 0 where
  pub each : (a : ℕ) → has scans.fingers (finger_of a) ≡ false
      → (scans.held ≡ Some a) ⊎ (IsOn scans.stack a ⊎ (is_grey marks scans a ≡ false))
  pub held : (a : ℕ) → scans.held ≡ Some a → is_grey marks scans a ≡ true
  pub stacked : (a : ℕ) → IsOn scans.stack a → is_grey marks scans a ≡ true
  pub apart : AreApart scans.stack
  pub beside : (a : ℕ) → IsOn scans.stack a → scans.held ≢ Some a
  pub lowest : scans.stack.room ≡ 0 → scans.looked ≡ 0 → (a b : ℕ) → scans.held ≡ Some a → b < a → is_grey marks scans b ≡ false
  pub none : (a : ℕ) → scans.held ≡ None → is_grey marks scans a ≡ false

-- no grey object starts at an address whose finger is set
abbrev pub HasNoFinger : List Bool → List Bool → List Bool → Type 0
HasNoFinger marks scanned fingers = (a : ℕ) → has fingers (finger_of a) ≡ true → is_only marks scanned a ≡ false

-- x is a grey object, and none below it has its finger set
abbrev pub IsLowestBeside : List Bool → List Bool → List Bool → ℕ → Type 0
IsLowestBeside marks scanned fingers x = (is_only marks scanned x ≡ true)
    × ((a : ℕ) → a < x → has fingers (finger_of a) ≡ true → is_only marks scanned a ≡ false)

-- what is held after the object that was held is scanned: the last one of the stack; where that is empty, the lowest of those with a
-- finger, if there is one
pub data HoldsNext (marks : List Bool) (old new : Scans) : Type 0 where
  OfStack : (found : ℕ) → new.held ≡ Some found → old.stack ≡ with_object new.stack found → HoldsNext marks old new
  OfFingers : old.stack.objects ≡ [] → new.stack ≡ old.stack
      → MatchOption new.held (HasNoFinger marks new.scanned new.fingers) (IsLowestBeside marks new.scanned new.fingers)
      → HoldsNext marks old new

-- the scans once an object is put on the stack, or where that has no room, its finger is set
abbrev pub put_aside : Scans → ℕ → Scans
put_aside scans a =
    if has_room scans.stack
    then record scans { stack = with_object scans.stack a }
    else record scans { fingers = slice_set scans.fingers (finger_of a) true }

-- the scans once an object more is grey: it is held, and the one that was held is put on the stack; where that has no room, the lower of
-- the two is held, and the finger of the other is set. Where the scan of the held object has begun, it stays held, and the other is put
-- aside
abbrev pub with_grey : Option ℕ → Scans → ℕ → Scans
with_grey None scans a = record scans { held = Some a }
with_grey (Some held) scans a =
    if scans.looked == 0
    then (
    if has_room scans.stack
    then record scans { held = Some a; stack = with_object scans.stack held }
    else record scans { fingers = slice_set scans.fingers (finger_of (max held a)) true; held = Some (min held a) }
    )
    else put_aside scans a
