-- Objects that move, or are gone: `place` tells for each kept object where it is afterwards, None for gone.
use Rattle.std.specs.Prelude.{◌≡◌, ℕ, true, Option, Some, None, ⊤}
use Rattle.std.specs.List.{AllZip}
use Rattle.heap_model.specs.Heap.{Heap, Stored}
use Rattle.heap_model.specs.Marking.{Marking}

-- the word after the move: where `place` puts its target
abbrev pub IsMoved : (ℕ → Option ℕ) → Option ℕ → Option ℕ → Type 0
IsMoved place None None = ⊤
IsMoved place (Some a) (Some b) = place a ≡ Some b
IsMoved place _ _ = ⊥

-- at b is what x became: the same, but that its fields name the new places
pub record IsCopy (place : ℕ → Option ℕ) (h' : Heap) (x : Stored) (b : ℕ) : Type 0 where
  pub copy : Stored
  pub at : h'.kept b ≡ Some copy
  pub name : copy.name ≡ x.name
  pub values : copy.values ≡ x.values
  pub pointers : AllZip (IsMoved place) x.pointers copy.pointers
  pub weaks : AllZip (IsMoved place) x.weaks copy.weaks
  pub held : AllZip (IsMoved place) x.held copy.held

-- a kept object came to b
pub record Came (place : ℕ → Option ℕ) (h : Heap) (b : ℕ) : Type 0 where
  pub from : ℕ
  pub object : Stored
  pub at : h.kept from ≡ Some object
  pub placed : place from ≡ Some b

-- each kept object is at its place, or is gone, and nothing else is kept. No root and no object that stays
-- names one that is gone
pub record Relocates (place : ℕ → Option ℕ) (h h' : Heap) : Type 0 where
  pub roots : AllZip (IsMoved place) h.roots h'.roots
  pub kept : (a b : ℕ) (x : Stored) → h.kept a ≡ Some x → place a ≡ Some b → IsCopy place h' x b
  pub came : (b : ℕ) (y : Stored) → h'.kept b ≡ Some y → Came place h b

-- old objects stay where they are, and nothing comes to an old address
pub record KeepsOld (place : ℕ → Option ℕ) (h : Heap) (m : Marking) : Type 0 where
  pub stays : (a : ℕ) (x : Stored) → h.kept a ≡ Some x → m.old a ≡ true → place a ≡ Some a
  pub none_comes : (a b : ℕ) (x : Stored) → h.kept a ≡ Some x → place a ≡ Some b → m.old b ≡ true → a ≡ b
