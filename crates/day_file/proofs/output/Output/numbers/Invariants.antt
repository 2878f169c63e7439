use Rattle.std.proofs.Common.{◌≡◌, ◌++◌, drop}
use Rattle.day_file.specs.Outputs.{numbers_text, text_of}
use Rattle.day_file.proofs.output.Output.numbers.Given as goal

-- what is gathered, with the numbers from the index on, is the whole text
abbrev pub invariant-loop-number : goal.invariant-loop-number
invariant-loop-number l =
    text_of l.self ++ numbers_text (drop l.number-index l.numbers) ≡ text_of l.initial.self ++ numbers_text l.numbers
