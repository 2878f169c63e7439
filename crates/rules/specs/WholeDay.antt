-- The law of whole days: what holds of any two lists of calls, on books opened at one quote. The page to read first. A run is
-- what a book answers to a list of calls, and the book that they leave (`Runs`).
use Rattle.std.specs.Prelude.{◌≡◌, ◌+◌, ◌*◌, ◌<◌, ◌≤◌, true, ◌⊎◌, ◌↔◌, List, [], ◌∷◌, ◌≢◌}
use Rattle.std.specs.List.{ContainsAt as Has, AllByRecursion as Every}
use Rattle.terms.specs.declared.side.Side.TheVariants.{Buy, Sell}
use Rattle.terms.specs.Terms.{is_mdo}
use Rattle.tape.specs.declared.line.Line.{Line}
use Rattle.rules.specs.declared.refusal.Refusal.TheVariants.{TapeShort}
use Rattle.rules.specs.Limits.{protection_period, last_moment}
use Rattle.rules.specs.Market.{Order, Market, Book, side_of, ranked_in, reach_in}
use Rattle.rules.specs.Sweep.{side_mark}
use Rattle.rules.specs.Answers.{Answer, refused}
use Rattle.rules.specs.Calls.{Call, entry, cancel, quote, tick, time_of}
use Rattle.rules.specs.Runs.{Run}

-- Ticks change nothing but the clock

-- the calls that are no ticks
abbrev pub shared : List Call → List Call
shared [] = []
shared (entry time identifier terms ∷ later) = entry time identifier terms ∷ shared later
shared (cancel time identifier ∷ later) = cancel time identifier ∷ shared later
shared (quote time bid offer ∷ later) = quote time bid offer ∷ shared later
shared (tick time ∷ later) = shared later

-- what those calls were answered
abbrev pub answers_to_shared : List Call → List Answer → List Answer
answers_to_shared [] answers = []
answers_to_shared (next ∷ later) [] = []
answers_to_shared (entry time identifier terms ∷ later) (answer ∷ answers) = answer ∷ answers_to_shared later answers
answers_to_shared (cancel time identifier ∷ later) (answer ∷ answers) = answer ∷ answers_to_shared later answers
answers_to_shared (quote time bid offer ∷ later) (answer ∷ answers) = answer ∷ answers_to_shared later answers
answers_to_shared (tick time ∷ later) (answer ∷ answers) = answers_to_shared later answers

-- no tick of the day is later than a shared call after it. A tick past the day's last moment is refused wherever it stands, and
-- nothing is asked of it
abbrev pub TicksInTime : List Call → Type 0
TicksInTime [] = Unit {0}
TicksInTime (entry time identifier terms ∷ later) = TicksInTime later
TicksInTime (cancel time identifier ∷ later) = TicksInTime later
TicksInTime (quote time bid offer ∷ later) = TicksInTime later
TicksInTime (tick time ∷ later) =
    (time ≤ last_moment → Every (λ next. time ≤ time_of next) (shared later)) × TicksInTime later

-- no call was refused for want of free lines
abbrev pub TapeNeverShort : List Answer → Type 0
TapeNeverShort answers = Every (λ answer. answer ≢ refused TapeShort) answers

-- if the calls of two runs agree but for ticks, all ticks come in time and no call was refused for a short tape, then the shared
-- calls are answered alike, and the books that they leave, tapes included, are equal exactly when their clocks are
abbrev pub AlikeButForTicks : List Call → Run → List Call → Run → Type 0
AlikeButForTicks calls ran other_calls other =
    shared calls ≡ shared other_calls
    → TicksInTime calls → TicksInTime other_calls
    → TapeNeverShort ran.answers → TapeNeverShort other.answers
    → (answers_to_shared calls ran.answers ≡ answers_to_shared other_calls other.answers)
    × ((ran.book ≡ other.book) ↔ (ran.book.clock ≡ other.book.clock))

-- The tape explains discretion

-- the order carries QDP, and the tape has a line with its side's mark less than a protection period before the clock
abbrev pub Protected : Book → Order → Type 0
Protected book order =
    (order.terms.qdp ≡ true)
    × ((line : Line) × Has book.market.tape line
    × (line.mark ≡ side_mark (side_of order)) × (book.clock < line.time + protection_period))

-- a resting MDO reaches no further than it ranks exactly if it ranks at its limit or at the midpoint, or is protected
abbrev pub DiscretionExplained : Book → Type 0
DiscretionExplained book =
    Every (λ order. is_mdo order.terms.kind ≡ true
    → (ranked_in book.market order ≡ reach_in book.market order)
    ↔ ((ranked_in book.market order ≡ 2 * order.terms.limit)
    ⊎ ((ranked_in book.market order ≡ book.market.bid + book.market.offer) ⊎ Protected book order)))
    book.market.orders

-- Never crossed

-- every resting buy's reach is below every resting sell's
abbrev pub Uncrossed : Market → Type 0
Uncrossed market =
    Every (λ buy. Every (λ sell. side_of buy ≡ Buy → side_of sell ≡ Sell → reach_in market buy < reach_in market sell)
    market.orders)
    market.orders

-- The law

-- of one run: the tape explains which orders have discretion, and no buy reaches a sell
pub record Lawful (ran : Run) : Type 0 where
  pub discretion_explained : DiscretionExplained ran.book
  pub never_crossed : Uncrossed ran.book.market

-- of two runs: ticks cannot change who trades, and each is lawful
pub record Law (calls : List Call) (ran : Run) (other_calls : List Call) (other : Run) : Type 0 where
  pub ticks_change_only_the_clock : AlikeButForTicks calls ran other_calls other
  pub lawful : Lawful ran
  pub other_lawful : Lawful other
