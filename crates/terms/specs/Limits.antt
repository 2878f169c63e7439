-- The fixed numbers of tickets and quotes, each once.
use Rattle.std.specs.Prelude.{ℕ}

-- so many shares are ordered at most
abbrev pub most_shares : ℕ
most_shares = 1000000

-- in cents: no limit and no quote stands above it
abbrev pub top_price : ℕ
top_price = 2000000

-- in cents, up or down
abbrev pub farthest_offset : ℕ
farthest_offset = 100
