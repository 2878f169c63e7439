-- What a tape holds, as its callers see it: its lines, oldest first, and how many more it has room for.
use Rattle.std.specs.Prelude.{ℕ, List}
use Rattle.tape.specs.declared.line.Line.{Line}

pub record Lines : Type 0 where
  pub lines : List Line
  pub free : ℕ
