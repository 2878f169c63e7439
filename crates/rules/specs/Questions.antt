-- Questions, which alter nothing, and the figures at the close.
use Rattle.std.specs.Prelude.{◌≡◌, ℕ, zero, suc, ◌+◌, ◌*◌, Bool, true, false, not, List, [], ◌∷◌, Some, None, sum_by, count_by, Option, ◌==◌, if◌then◌else◌}
use Rattle.std.specs.List.{ContainsAt as Has, AllByRecursion as Every, slice_get}
use Rattle.terms.specs.declared.side.Side.{Side}
use Rattle.terms.specs.declared.side.Side.TheVariants.{Buy, Sell}
use Rattle.terms.specs.Sides.{same_side}
use Rattle.terms.specs.Terms.{is_mdo}
use Rattle.terms.specs.Codes.{side_from}
use Rattle.tape.specs.declared.line.Line.{Line}
use Rattle.tape.specs.declared.line.Mark.{Mark}
use Rattle.tape.specs.declared.line.Mark.TheVariants.{Nothing, BidDepleted, OfferDepleted}
use Rattle.rules.specs.Market.{Order, Market, side_of, end_of, ranked_in, reach_in}
use Rattle.rules.specs.Priority.{class_of, goes_first}

-- The ranked question

-- one order is ranked before the other: by a better ranked price; at the same price by a lower class, and in the same class
-- by a lower number
abbrev pub ranks_before : Market → Side → Order → Order → Bool
ranks_before market side order other =
    goes_first side (ranked_in market order) (class_of order.terms.kind) order.number (ranked_in market other)
    (class_of other.terms.kind) other.number

-- each is ranked before all that follow it, and so none occurs twice
abbrev pub InRank : Market → Side → List Order → Type 0
InRank market side [] = Unit {0}
InRank market side (order ∷ others) =
    Every (λ other. ranks_before market side order other ≡ true) others × InRank market side others

-- the orders are those that rest on the side, each once, in rank
pub record Ranking (market : Market) (side : Side) (orders : List Order) : Type 0 where
  pub complete : (order : Order) → Has market.orders order → side_of order ≡ side → Has orders order
  pub resting : (order : Order) → Has orders order → Has market.orders order × (side_of order ≡ side)
  pub in_rank : InRank market side orders

-- what is told of an order
pub record Standing : Type 0 where
  pub number : ℕ
  pub ranked : ℕ
  pub reach : ℕ
  pub left : ℕ

-- places begin with 1
abbrev pub index_of : ℕ → Option ℕ
index_of zero = None
index_of (suc index) = Some index

-- what stands at a place of a list; nothing at place 0 or past the last
abbrev pub at_place : {X : Type 0} → ℕ → List X → Option X
at_place place items = elim (index_of place) [ None ↦ None | Some index ↦ slice_get items index ]

abbrev pub standing_of : Market → Option Order → Option Standing
standing_of market None = None
standing_of market (Some order) =
    Some (record { number = order.number; ranked = ranked_in market order; reach = reach_in market order; left = order.left })

-- whether the answer is right to the question what stands on a side at a place; without a side nothing does
abbrev pub AnsweredOn : Market → Option Side → ℕ → Option Standing → Type 0
AnsweredOn market None place answer = answer ≡ None
AnsweredOn market (Some side) place answer =
    (orders : List Order) × Ranking market side orders × (answer ≡ standing_of market (at_place place orders))

-- the side is told by its code; no other code stands for one
abbrev pub Answered : Market → ℕ → ℕ → Option Standing → Type 0
Answered market code place answer = AnsweredOn market (side_from code) place answer

-- a ranking, made by putting one order after another into its place
unfoldable pub placed : Market → Side → Order → List Order → List Order
placed market side order [] = order ∷ []
placed market side order (first ∷ others) =
    if ranks_before market side order first then order ∷ (first ∷ others) else first ∷ placed market side order others

unfoldable pub ranking_of : Market → Side → List Order → List Order
ranking_of market side [] = []
ranking_of market side (order ∷ others) =
    let rest = ranking_of market side others in
    if same_side (side_of order) side then placed market side order rest else rest

abbrev pub asked_on : Market → Option Side → ℕ → Option Standing
asked_on market None place = None
asked_on market (Some side) place = standing_of market (at_place place (ranking_of market side market.orders))

abbrev pub asked : Market → ℕ → ℕ → Option Standing
asked market code place = asked_on market (side_from code) place

-- Why an order reaches as far as it does

-- no MDO at all; an MDO ranked at its limit, or at the midpoint; protected, by the line at that place of the tape, oldest 1,
-- and until that time; or with discretion beyond its ranked price. Where several hold, the first of these is told
pub data Why : Type 0 where
  no_mdo : Why
  at_limit : Why
  at_midpoint : Why
  protected : ℕ → ℕ → Why
  discretion : Why

-- the mark tells that this side was depleted
abbrev pub is_mark : Side → Mark → Bool
is_mark Buy Nothing = false
is_mark Buy BidDepleted = true
is_mark Buy OfferDepleted = false
is_mark Sell Nothing = false
is_mark Sell BidDepleted = false
is_mark Sell OfferDepleted = true

-- after so many lines, the latest with the side's mark at place `found`: the place of the latest with the lines that follow
abbrev pub latest_from : Side → ℕ → ℕ → List Line → ℕ
latest_from side place found [] = found
latest_from side place found (line ∷ later) =
    latest_from side (place + 1) (if is_mark side line.mark then place + 1 else found) later

abbrev pub latest_mark : Side → List Line → ℕ
latest_mark side tape = latest_from side 0 0 tape

abbrev pub protection : Market → Order → Option ℕ → Why
protection market order None = discretion
protection market order (Some until) = protected (latest_mark (side_of order) market.tape) until

unfoldable pub why : Market → Order → Why
why market order =
    if not (is_mdo order.terms.kind) then no_mdo
    else if ranked_in market order == 2 * order.terms.limit then at_limit
    else if ranked_in market order == market.bid + market.offer then at_midpoint
    else if order.terms.qdp then protection market order (end_of (side_of order) market)
    else discretion

-- The close

pub record Figures : Type 0 where
  pub buys : ℕ
  pub buy_shares : ℕ
  pub sells : ℕ
  pub sell_shares : ℕ

abbrev pub count_on : Side → List Order → ℕ
count_on side orders = count_by (λ order. same_side (side_of order) side) orders

abbrev pub shares_on : Side → List Order → ℕ
shares_on side orders = sum_by (λ order. if same_side (side_of order) side then order.left else 0) orders

abbrev pub closing : Market → Figures
closing market =
    record {
      buys = count_on Buy market.orders;
      buy_shares = shares_on Buy market.orders;
      sells = count_on Sell market.orders;
      sell_shares = shares_on Sell market.orders;
    }
