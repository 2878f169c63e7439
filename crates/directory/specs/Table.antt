-- A table of 128 places in a ring. A pair's home is a place that its identifier gives; it stands there or, where that was
-- taken, at the first free place after it.
use Rattle.std.specs.Prelude.{◌≡◌, ℕ, ◌+◌, ◌-◌, ◌*◌, ◌%◌, ◌<◌, ◌≤◌, Bool, true, false, List, [], ◌∷◌, length, get_or, is_some, Some, None, fold, Option, ◌≢◌, slice_index_or}
use Rattle.directory.specs.declared.entry.Entry.{Entry}
use Rattle.directory.specs.declared.hashed_directory.Spot.{Spot}
use Rattle.directory.specs.declared.hashed_directory.Spot.TheVariants.{Taken, Free}
use Rattle.directory.specs.Entries.{entry_id, number_in, distinct}
use Rattle.directory.specs.Pairs.{most_pairs}

-- how many places a table has: twice those that can be taken
abbrev pub place_count : ℕ
place_count = 128

abbrev pub Places : Type 0
Places = List (Option Entry)

-- the pairs, in the order of the places
abbrev pub entries_in : Places → List Entry
entries_in [] = []
entries_in (None ∷ ps) = entries_in ps
entries_in (Some e ∷ ps) = e ∷ entries_in ps

-- Every byte of the identifier counts: its bytes are the digits of a number in base 31, taken modulo the prime 65,521.
unfoldable pub home_place : List ℕ → ℕ
home_place id = fold (λ h b. (h * 31 + b) % 65521) 0 id % place_count

-- how many places on from one place another lies, going round
unfoldable pub steps : ℕ → ℕ → ℕ
steps from to = (to + place_count - from) % place_count

abbrev pub taken : Places → ℕ → Bool
taken ps p = is_some (slice_index_or ps p None)

abbrev pub home_at : Places → ℕ → ℕ
home_at ps p = elim (slice_index_or ps p None) [ None ↦ 0 | Some e ↦ home_place (entry_id e) ]

-- a place that a look for a pair passes, from the pair's home on, before it comes to the pair
pub record Passed (ps : Places) : Type 0 where
  pub pair : ℕ
  pub place : ℕ
  pub pair_within : pair < place_count
  pub place_within : place < place_count
  pub pair_taken : taken ps pair ≡ true
  pub on_the_way : steps (home_at ps pair) place < steps (home_at ps pair) pair

-- Every such place is taken, so that a look may stop at a free one.
abbrev pub Chained : Places → Type 0
Chained ps = (x : Passed ps) → taken ps x.place ≡ true

-- the identifier's pair, with the number n, stands at p
pub record FoundAt (ps : Places) (id : List ℕ) (p n : ℕ) : Type 0 where
  pub within : p < place_count
  pub pair : Entry
  pub here : get_or ps p None ≡ Some pair
  pub own : entry_id pair ≡ id
  pub told : pair.number ≡ n

-- the identifier has no pair, and p is the first free place from its home on
pub record FreeAt (ps : Places) (id : List ℕ) (p : ℕ) : Type 0 where
  pub within : p < place_count
  pub free : taken ps p ≡ false
  pub before : (q : ℕ) → q < place_count → steps (home_place id) q < steps (home_place id) p → taken ps q ≡ true
  pub absent : number_in (entries_in ps) id ≡ None

-- a look, and what it comes to
abbrev pub Looked : Places → List ℕ → Spot → Type 0
Looked ps id (Taken p n) = FoundAt ps id p n
Looked ps id (Free p) = FreeAt ps id p

-- a table from which the pair at `gap` was taken out: only there may a chain be broken
pub record Gapped (ps : Places) (gap : ℕ) : Type 0 where
  pub whole : length ps ≡ place_count
  pub within : gap < place_count
  pub free : taken ps gap ≡ false
  pub chained_but : (p q : ℕ) → p < place_count → q < place_count → taken ps p ≡ true → steps (home_at ps p) q < steps (home_at ps p) p → (q ≢ gap) → taken ps q ≡ true
  pub apart : distinct (entries_in ps) ≡ true
  pub few : length (entries_in ps) ≤ most_pairs

-- a table with the same pairs and no broken chain
pub record Closed (was is : Places) : Type 0 where
  pub whole : length is ≡ place_count
  pub chained : Chained is
  pub apart : distinct (entries_in is) ≡ true
  pub same_count : length (entries_in is) ≡ length (entries_in was)
  pub same_numbers : (k : List ℕ) → number_in (entries_in is) k ≡ number_in (entries_in was) k
