-- What a roll holds: its records, oldest first, and how many more it has room for.
use Rattle.std.specs.Prelude.{ℕ, zero, suc, ◌-◌, List, length, take, None, Option}
use Rattle.std.specs.List.{slice_get}
use Rattle.std.specs.Borrow.{GName}
use Rattle.roll.specs.declared.Roll.{Roll}

module _ {T : Type 0} where
  abbrev pub records : Roll T → List T
  records r = take r.used r.room.now

  abbrev pub room_left : Roll T → ℕ
  room_left r = length r.room.now - r.used

  -- The lender's slice, as it is now, and the name of its loan.
  abbrev pub places : Roll T → List T
  places r = r.room.now

  abbrev pub lender : Roll T → GName
  lender r = r.room.ghost_name

  -- What stands at a place, counted from 1; nothing stands at place 0 or past the end.
  abbrev pub at_place : List T → ℕ → Option T
  at_place xs zero = None
  at_place xs (suc i) = slice_get xs i
