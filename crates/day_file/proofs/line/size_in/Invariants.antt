use Rattle.std.proofs.Common.{◌≡◌, drop}
use Rattle.day_file.specs.Numbers.{size_in, size_on}
use Rattle.day_file.proofs.line.size_in.Given as goal

abbrev pub invariant-loop-byte : goal.invariant-loop-byte
invariant-loop-byte l = size_in l.digits ≡ size_on l.size (drop l.byte-index l.digits)
