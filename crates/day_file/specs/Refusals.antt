-- The number that a day file tells of a refusal.
use Rattle.std.specs.Prelude.{ℕ}
use Rattle.terms.specs.Codes.{refusal_number as ticket_number}
use Rattle.rules.specs.Codes.{refusal_number as call_number}
use Rattle.day_file.specs.declared.output.Refused.{Refused}
use Rattle.day_file.specs.declared.output.Refused.TheVariants.{Unlawful, Book}

-- of a ticket or a quote 1 to 6; of a call 7 to 13
abbrev pub number_of : Refused → ℕ
number_of (Unlawful why) = ticket_number why
number_of (Book why) = call_number why
