-- What a reader has before it: the register, and what is left of it to read.
use Rattle.std.specs.Prelude.{ℕ, List}
use Rattle.register.specs.declared.reader.Reader.{Reader}

abbrev pub register_of : Reader → List ℕ
register_of reader = reader.register.now

abbrev pub rest_of : Reader → List ℕ
rest_of reader = reader.rest.now
