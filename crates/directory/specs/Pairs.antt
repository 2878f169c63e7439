-- What a directory is: a list of pairs. Each call says what it leaves in words of the number that each identifier has:
-- `was` and `had` are the numbers and the count of pairs before the call, `is` and `has` those after it.
use Rattle.std.specs.Prelude.{◌≡◌, ℕ, ◌+◌, ◌<◌, ◌≤◌, Bool, true, not, ◌&&◌, List, [], ◌∷◌, length, is_some, Some, None, Option, ◌≢◌, nat_lt, if◌then◌else◌}
use Rattle.std.specs.List.{list_all}
use Rattle.std.specs.Str.{bytes_eq}
use Rattle.terms.specs.Identifiers.{lawful_identifier}
use Rattle.directory.specs.declared.directory.PutRefusal.{PutRefusal}
use Rattle.directory.specs.declared.directory.PutRefusal.TheVariants.{Unlawful, Held, Full}

-- how many pairs a directory holds at most
abbrev pub most_pairs : ℕ
most_pairs = 64

abbrev pub Numbers : Type 0
Numbers = List ℕ → Option ℕ

-- an identifier's bytes and an entry number
abbrev pub Pair : Type 0
Pair = List ℕ × ℕ

-- the number of an identifier is that of the first pair that has it
abbrev pub number_among : List Pair → Numbers
number_among [] id = None
number_among (p ∷ ps) id = if bytes_eq id p.0 then Some p.1 else number_among ps id

-- no identifier stands in two pairs
abbrev pub apart : List Pair → Bool
apart [] = true
apart (p ∷ ps) = not (is_some (number_among ps p.0)) && apart ps

-- The numbers and the count of every directory are those of some list of pairs: at most 64, their identifiers lawful and all different.
pub record HasPairs (number : Numbers) (count : ℕ) : Type 0 where
  pub pairs : List Pair
  pub no_name_twice : apart pairs ≡ true
  pub names_lawful : list_all (λ p. lawful_identifier p.0) pairs ≡ true
  pub few : length pairs ≤ most_pairs
  pub numbered : (id : List ℕ) → number id ≡ number_among pairs id
  pub counted : count ≡ length pairs

-- Why a pair with that identifier is not put: none, where it is.
abbrev pub put_refusal : List ℕ → Option ℕ → ℕ → Option PutRefusal
put_refusal id found had =
    if lawful_identifier id
    then elim found [ Some number ↦ Some Held | None ↦ if nat_lt had most_pairs then None else Some Full ]
    else Some Unlawful

pub record Added (id : List ℕ) (n : ℕ) (was : Numbers) (had : ℕ) (is : Numbers) (has : ℕ) : Type 0 where
  pub lawful : lawful_identifier id ≡ true
  pub fresh : was id ≡ None
  pub room : had < most_pairs
  pub more : has ≡ had + 1
  pub here : is id ≡ Some n
  pub others : (k : List ℕ) → (k ≢ id) → is k ≡ was k

pub record RefusedPut (why : PutRefusal) (id : List ℕ) (was : Numbers) (had : ℕ) (is : Numbers) (has : ℕ) : Type 0 where
  pub because : put_refusal id (was id) had ≡ Some why
  pub same : is ≡ was
  pub same_count : has ≡ had

pub record Removed (id : List ℕ) (was : Numbers) (had : ℕ) (is : Numbers) (has : ℕ) : Type 0 where
  pub fewer : has + 1 ≡ had
  pub gone : is id ≡ None
  pub others : (k : List ℕ) → (k ≢ id) → is k ≡ was k

pub record Kept (was : Numbers) (had : ℕ) (is : Numbers) (has : ℕ) : Type 0 where
  pub same : is ≡ was
  pub same_count : has ≡ had

pub record Emptied (is : Numbers) (has : ℕ) : Type 0 where
  pub nothing : (k : List ℕ) → is k ≡ None
  pub none_counted : has ≡ 0
