use Rattle.std.proofs.Common.{take}
use Rattle.market.specs.Reaches.{AllWithin}
use Rattle.market.proofs.reaches.farthest_of.Given as goal

-- the rows so far reach no farther
abbrev pub invariant-loop-row : goal.invariant-loop-row
invariant-loop-row l = AllWithin l.quote l.farthest (take l.row-index l.rows)
