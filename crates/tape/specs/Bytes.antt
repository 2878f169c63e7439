-- What a tape of bytes holds, and what its lender sees of it.
use Rattle.std.specs.Prelude.{ℕ, ◌-◌, ◌*◌, ◌/◌, List, length, take, drop}
use Rattle.std.specs.Borrow.{GName}
use Rattle.tape.specs.declared.line.Line.{Line}
use Rattle.tape.specs.declared.byte_tape.ByteTape.{ByteTape}
use Rattle.tape.specs.Layout.{line_length, lines_in}

abbrev pub byte_lines : ByteTape → List Line
byte_lines t = lines_in t.bytes.now t.used

abbrev pub byte_free : ByteTape → ℕ
byte_free t = length t.bytes.now / line_length - t.used

-- The lender's bytes, as they are now, and the name of their loan.
abbrev pub lent_bytes : ByteTape → List ℕ
lent_bytes t = t.bytes.now

abbrev pub lender : ByteTape → GName
lender t = t.bytes.ghost_name

-- The bytes of the lines so far: they are the lines' own, tags and lengths too, as the tape's ghost field says.
abbrev pub byte_row : ByteTape → List ℕ
byte_row t = take (t.used * line_length) (lent_bytes t)

-- the lender's bytes past them
abbrev pub byte_rest : ByteTape → List ℕ
byte_rest t = drop (t.used * line_length) (lent_bytes t)
