-- The numbers that stand for words: codes of a ticket's parts, and the number of each refusal.
use Rattle.std.specs.Prelude.{ℕ, Bool, true, false, Some, None, Option, ◌==◌, if◌then◌else◌}
use Rattle.terms.specs.declared.side.Side.{Side}
use Rattle.terms.specs.declared.side.Side.TheVariants.{Buy, Sell}
use Rattle.terms.specs.declared.kind.Kind.{Kind}
use Rattle.terms.specs.declared.kind.Kind.TheVariants.{DisplayedLimit, HiddenLimit, DisplayedMdo, HiddenMdo, MidpointPeg}
use Rattle.terms.specs.declared.time_in_force.TimeInForce.{TimeInForce}
use Rattle.terms.specs.declared.time_in_force.TimeInForce.TheVariants.{Rest, ImmediateOrCancel}
use Rattle.terms.specs.declared.refusal.Refusal.{Refusal}
use Rattle.terms.specs.declared.refusal.Refusal.TheVariants as refusal

abbrev pub side_code : Side → ℕ
side_code Buy = 1
side_code Sell = 2

abbrev pub kind_code : Kind → ℕ
kind_code DisplayedLimit = 1
kind_code HiddenLimit = 2
kind_code DisplayedMdo = 3
kind_code HiddenMdo = 4
kind_code MidpointPeg = 5

abbrev pub time_in_force_code : TimeInForce → ℕ
time_in_force_code Rest = 1
time_in_force_code ImmediateOrCancel = 2

abbrev pub qdp_code : Bool → ℕ
qdp_code false = 0
qdp_code true = 1

abbrev pub side_from : ℕ → Option Side
side_from code = if code == 1 then Some Buy else if code == 2 then Some Sell else None

abbrev pub kind_from : ℕ → Option Kind
kind_from code =
    if code == 1 then Some DisplayedLimit
    else if code == 2 then Some HiddenLimit
    else if code == 3 then Some DisplayedMdo
    else if code == 4 then Some HiddenMdo
    else if code == 5 then Some MidpointPeg
    else None

abbrev pub time_in_force_from : ℕ → Option TimeInForce
time_in_force_from code = if code == 1 then Some Rest else if code == 2 then Some ImmediateOrCancel else None

abbrev pub qdp_from : ℕ → Option Bool
qdp_from code = if code == 0 then Some false else if code == 1 then Some true else None

abbrev pub refusal_number : Refusal → ℕ
refusal_number refusal.UnknownCode = 1
refusal_number refusal.Shares = 2
refusal_number refusal.Limit = 3
refusal_number refusal.Offset = 4
refusal_number refusal.Combination = 5
refusal_number refusal.Quote = 6
