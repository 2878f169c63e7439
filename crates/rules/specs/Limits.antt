-- The fixed numbers of the rule book, each once.
use Rattle.std.specs.Prelude.{ℕ}

-- a displayed price with fewer shares than this is depleted
abbrev pub round_lot : ℕ
round_lot = 100

-- how long a side is protected after a depletion, in microseconds
abbrev pub protection_period : ℕ
protection_period = 2000

-- so many orders rest at most
abbrev pub most_resting : ℕ
most_resting = 64

-- so many entries are accepted at most, from the opening to the close
abbrev pub most_entries : ℕ
most_entries = 1000000

-- the day's last moment, in microseconds since midnight
abbrev pub last_moment : ℕ
last_moment = 86399999999

-- an order with fewer shares than this has left the book
abbrev pub fewest_left : ℕ
fewest_left = 1
