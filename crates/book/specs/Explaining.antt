-- Why an order reaches as far as it does, in the words of the law of discretion.
use Rattle.std.specs.Prelude.{◌≡◌, ℕ, List, Some}
use Rattle.rules.specs.Market.{Order, Book, ranked_in, reach_in}
use Rattle.rules.specs.Calls.{named}
use Rattle.rules.specs.Questions.{why}
use Rattle.rules.specs.Laws.{Reason}
use Rattle.market.specs.Meant.{why_as}
use Rattle.book.specs.declared.book.Explanation.{Explanation}

-- the order that the identifier names, its two prices, and a reason that holds of it
pub record Explained (book : Book) (id : List ℕ) (explanation : Explanation) : Type 0 where
  pub order : Order
  pub names : named id book.market.orders ≡ Some order
  pub ranked : explanation.ranked ≡ ranked_in book.market order
  pub reach : explanation.reach ≡ reach_in book.market order
  pub told : why_as explanation.why ≡ why book.market order
  pub holds : Reason book order (why_as explanation.why)
