-- Words in pages of 512. A page's words are taken from the end of one pool when one of them is first written; those of a page that isn't
-- taken are 0. A page's place is 0 where it isn't taken. Else the word of a group is in the pool at the group and the place together, less
-- 2 to the 26th: so the place is that number, and where the page begins in the pool, less the page's first group.
use Rattle.std.specs.Prelude.{◌≡◌, ℕ, ◌+◌, ◌-◌, ◌*◌, ◌/◌, ◌^◌, ◌<◌, ◌≤◌, ◌==◌, if◌then◌else◌}
use Rattle.std.specs.Prelude.{min, zero, suc, List, [], ◌∷◌, length, map, slice_index}
use Rattle.std.specs.List.{range_with_len}

-- how many words a page has: 512, and the last one what is left
abbrev pub page_size : ℕ → ℕ → ℕ
page_size len page = min 512 (len - 512 * page)

-- where the word of a group is in the pool, if its page is taken
abbrev pub index_of : List ℕ → ℕ → ℕ
index_of places group = slice_index places (group / 512) + group - 2 ^ 26

-- where the words of a page begin in the pool, if it is taken, and 2 to the 26th more
abbrev pub begin_of : List ℕ → ℕ → ℕ
begin_of places page = slice_index places page + 512 * page

-- the word of a group
unfoldable pub paged_word : List ℕ → List ℕ → ℕ → ℕ
paged_word places pool group =
    if slice_index places (group / 512) == 0 then 0 else slice_index pool (index_of places group)

-- the words of the first so many groups
unfoldable pub words_of : List ℕ → List ℕ → ℕ → List ℕ
words_of places pool len = map (paged_word places pool) (range_with_len 0 len)

-- how many words the taken ones of some pages have together, which have so many words in all
unfoldable pub taken_words : List ℕ → ℕ → ℕ
taken_words [] left = 0
taken_words (zero ∷ places) left = taken_words places (left - 512)
taken_words (suc place ∷ places) left = min 512 left + taken_words places (left - 512)

-- each group has a page, each taken page is in the pool, two taken pages share no word, and the pool has no word but theirs
pub record ArePages (places pool : List ℕ) (len : ℕ) : Type 0 where
  pub small : len ≤ 2 ^ 26
  pub all : len ≤ 512 * length places
  pub inside : (p : ℕ) → 0 < slice_index places p
      → (2 ^ 26 ≤ begin_of places p) × (begin_of places p + page_size len p ≤ length pool + 2 ^ 26)
  pub apart : (p q : ℕ) → 0 < slice_index places p → 0 < slice_index places q
      → begin_of places p < begin_of places q + page_size len q
      → begin_of places q < begin_of places p + page_size len p → p ≡ q
  pub no_more : length pool ≡ taken_words places len
