-- What a writer answers: done, or refused for want of room.
use Rattle.std.specs.Prelude.{ℕ, Bool, if◌then◌else◌, List, Ok, Err, codes, Result}
use Rattle.register.specs.Faults.{order_layer}
use Rattle.register.specs.Reports.{told}
use Rattle.register.specs.declared.writer.NoRoom.{NoRoom}

-- done if it fits; else refused, at the place where the order begins
abbrev pub done_if : Bool → ℕ → Result (Unit {0}) NoRoom
done_if fit place = if fit then Ok tt else Err (record { place = place })

-- the same, where what is done is told by the mark
abbrev pub mark_if : Bool → ℕ → Result ℕ NoRoom
mark_if fit mark = if fit then Ok mark else Err (record { place = mark })

-- its number and layer among the faults of a register; its place is that of the order's first byte
abbrev pub no_room_number : ℕ
no_room_number = 16

abbrev pub no_room_layer : ℕ
no_room_layer = order_layer

abbrev pub no_room_words : List ℕ
no_room_words = codes "no room for the order"

-- as people read it: number, layer, place, words
abbrev pub no_room_text : NoRoom → List ℕ
no_room_text refused = told no_room_number no_room_layer refused.place no_room_words
