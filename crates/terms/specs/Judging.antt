-- Which tickets and quotes are lawful, and what becomes of a draft and of two prices.
use Rattle.std.specs.Prelude.{ℕ, suc, Bool, true, false, not, ◌&&◌, ◌||◌, ℤ, pos, negsuc, Some, None, Ok, Err, Option, Result, nat_le, nat_lt, if◌then◌else◌}
use Rattle.terms.specs.declared.side.Side.{Side}
use Rattle.terms.specs.declared.side.Side.TheVariants.{Buy, Sell}
use Rattle.terms.specs.declared.kind.Kind.{Kind}
use Rattle.terms.specs.declared.kind.Kind.TheVariants.{DisplayedLimit, HiddenLimit, DisplayedMdo, HiddenMdo, MidpointPeg}
use Rattle.terms.specs.declared.time_in_force.TimeInForce.{TimeInForce}
use Rattle.terms.specs.declared.ticket.Draft.{Draft}
use Rattle.terms.specs.declared.refusal.Refusal.{Refusal}
use Rattle.terms.specs.declared.refusal.Refusal.TheVariants as refusal
use Rattle.terms.specs.Codes.{side_from, kind_from, time_in_force_from, qdp_from}
use Rattle.terms.specs.Limits.{most_shares, top_price, farthest_offset}
use Rattle.terms.specs.Terms.{OrderTerms, is_mdo, is_ioc, in_range}

abbrev pub is_hidden_mdo : Kind → Bool
is_hidden_mdo DisplayedLimit = false
is_hidden_mdo HiddenLimit = false
is_hidden_mdo DisplayedMdo = false
is_hidden_mdo HiddenMdo = true
is_hidden_mdo MidpointPeg = false

abbrev pub is_zero : ℤ → Bool
is_zero (pos cents) = nat_le cents 0
is_zero (negsuc cents) = false

-- towards the other side of the market
abbrev pub aggressive : Side → ℤ → Bool
aggressive Buy (pos cents) = nat_lt 0 cents
aggressive Buy (negsuc cents) = false
aggressive Sell (pos cents) = false
aggressive Sell (negsuc cents) = true

-- the parts go together: only MDOs have an offset or carry QDP, no MDO is IOC, and an aggressive offset is
-- for hidden MDOs without QDP alone
abbrev pub go_together : Side → Kind → TimeInForce → Bool → ℤ → Bool
go_together side kind time_in_force qdp offset =
    (is_mdo kind || (is_zero offset && not qdp))
    && (not (is_mdo kind && is_ioc time_in_force) && (not (aggressive side offset) || (is_hidden_mdo kind && not qdp)))

abbrev pub offset_in_range : ℤ → Bool
offset_in_range (pos cents) = nat_le cents farthest_offset
offset_in_range (negsuc cents) = nat_le (suc cents) farthest_offset

-- terms whose codes are known: shares are judged first, then limit, offset, and whether the parts go together
abbrev pub judged : OrderTerms → Result OrderTerms Refusal
judged terms =
    if not (in_range 1 terms.shares most_shares) then Err refusal.Shares
    else if not (in_range 1 terms.limit top_price) then Err refusal.Limit
    else if not (offset_in_range terms.offset) then Err refusal.Offset
    else if not (go_together terms.side terms.kind terms.time_in_force terms.qdp terms.offset) then Err refusal.Combination
    else Ok terms

-- a draft's codes as words; nothing where one of them stands for none
abbrev pub words_of : Draft → Option OrderTerms
words_of draft =
    elim (side_from draft.side) [
      | None ↦ None
      | Some side ↦ elim (kind_from draft.kind) [
        | None ↦ None
        | Some kind ↦ elim (time_in_force_from draft.time_in_force) [
          | None ↦ None
          | Some time_in_force ↦ elim (qdp_from draft.qdp) [
            | None ↦ None
            | Some qdp ↦ Some (record {
              side = side;
              kind = kind;
              time_in_force = time_in_force;
              qdp = qdp;
              shares = draft.shares;
              limit = draft.limit;
              offset = draft.offset;
            })
          ]
        ]
      ]
    ]

-- what becomes of a draft: a ticket with these terms, or a refusal
abbrev pub ticket_from : Draft → Result OrderTerms Refusal
ticket_from draft = elim (words_of draft) [ None ↦ Err refusal.UnknownCode | Some terms ↦ judged terms ]

abbrev pub lawful_quote : ℕ → ℕ → Bool
lawful_quote bid offer = nat_le 1 bid && (nat_lt bid offer && nat_le offer top_price)

-- what becomes of two prices: a quote, or a refusal
abbrev pub quote_from : ℕ → ℕ → Result (ℕ × ℕ) Refusal
quote_from bid offer = if lawful_quote bid offer then Ok (bid, offer) else Err refusal.Quote
