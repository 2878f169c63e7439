-- Writing and reading undo each other.
use Rattle.std.specs.Prelude.{◌≡◌, ℕ, ◌^◌, ◌<◌, ◌≤◌, Bool, false, List, [], ◌∷◌, length, take, ℤ, pos, negsuc, Some, None, Ok}
use Rattle.std.specs.List.{AllByRecursion as Every}
use Rattle.terms.specs.Terms.{OrderTerms}
use Rattle.terms.specs.Judging.{ticket_from}
use Rattle.register.specs.Layout.{Listed, longest_value, short_name_field}
use Rattle.register.specs.Reading.{take_field, next_byte_is, read_next}
use Rattle.register.specs.Orders.{register_bytes, draft_of}
use Rattle.register.specs.Filling.{Page}

-- whether the order at the front has a short name
abbrev pub has_short_name : List ℕ → Bool
has_short_name rest =
    elim (take_field rest) [ None ↦ false | Some identifier ↦ next_byte_is short_name_field.tag identifier.rest ]

-- The reader hands out these orders of a register of `total` bytes, one after another, none with a short name, and then comes to
-- the end.
abbrev pub ReadsAs : ℕ → List ℕ → List Listed → Type 0
ReadsAs total rest [] = read_next total rest ≡ None
ReadsAs total rest (order ∷ orders) =
    (after : List ℕ)
    × (read_next total rest ≡ Some (Ok (record { order = order; rest = after })))
    × (has_short_name rest ≡ false)
    × ReadsAs total after orders

abbrev pub In16Bits : ℤ → Type 0
In16Bits (pos size) = size < 2 ^ 15
In16Bits (negsuc size) = size < 2 ^ 15

-- the values fit their fields, as those of every order with lawful terms do
pub record InWidth (order : Listed) : Type 0 where
  pub identifier : length order.identifier ≤ longest_value
  pub shares : order.draft.shares < 2 ^ 32
  pub limit : order.draft.limit < 2 ^ 32
  pub offset : In16Bits order.draft.offset

-- What is written on a page is these orders, one after another, and reading it gives them back.
pub record Holds (page : Page) (orders : List Listed) : Type 0 where
  pub within : page.mark ≤ length page.bytes
  pub bytes : take page.mark page.bytes ≡ register_bytes orders
  pub widths : Every InWidth orders
  pub reads : ReadsAs page.mark (take page.mark page.bytes) orders

abbrev pub Byte : ℕ → Type 0
Byte byte = byte < 256

-- a register that reads without a fault and has no short name is what writing its orders gives, byte for byte
abbrev pub WritingGivesTheRegisterAgain : Type 0
WritingGivesTheRegisterAgain =
    (register : List ℕ) (orders : List Listed)
    → Every Byte register
    → ReadsAs (length register) register orders
    → register_bytes orders ≡ register

-- terms with the shares that are left in place of those entered
abbrev pub with_left : OrderTerms → ℕ → OrderTerms
with_left terms left = record terms { shares = left }

-- an order of which some shares are left is listed as a lawful ticket, with the same terms and these shares
abbrev pub ListsATicket : OrderTerms → ℕ → Type 0
ListsATicket terms left = 1 ≤ left → left ≤ terms.shares → ticket_from (draft_of terms left) ≡ Ok (with_left terms left)
