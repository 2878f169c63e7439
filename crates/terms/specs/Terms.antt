-- The terms of an order.
use Rattle.std.specs.Prelude.{ℕ, Bool, true, false, ◌&&◌, ℤ, nat_le}
use Rattle.terms.specs.declared.side.Side.{Side}
use Rattle.terms.specs.declared.kind.Kind.{Kind}
use Rattle.terms.specs.declared.kind.Kind.TheVariants.{DisplayedLimit, HiddenLimit, DisplayedMdo, HiddenMdo, MidpointPeg}
use Rattle.terms.specs.declared.time_in_force.TimeInForce.{TimeInForce}
use Rattle.terms.specs.declared.time_in_force.TimeInForce.TheVariants.{Rest, ImmediateOrCancel}

-- what an order says, lawful or not; limit and offset are whole cents
pub record OrderTerms : Type 0 where
  pub side : Side
  pub kind : Kind
  pub time_in_force : TimeInForce
  pub qdp : Bool
  pub shares : ℕ
  pub limit : ℕ
  pub offset : ℤ

abbrev pub is_mdo : Kind → Bool
is_mdo DisplayedLimit = false
is_mdo HiddenLimit = false
is_mdo DisplayedMdo = true
is_mdo HiddenMdo = true
is_mdo MidpointPeg = false

abbrev pub is_ioc : TimeInForce → Bool
is_ioc Rest = false
is_ioc ImmediateOrCancel = true

abbrev pub in_range : ℕ → ℕ → ℕ → Bool
in_range low number high = nat_le low number && nat_le number high
