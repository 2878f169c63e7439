-- The codes of words are those that are read as these words, and lawful terms pass when they are judged. Cite ticket_back.
use Rattle.std.proofs.Common.{◌≡◌, ℕ, ◌≤◌, Bool, true, false, not, leb, Some, None, Ok, Err, Option, Result, refl, ap, ◌∙◌, arith}
use Rattle.std.proofs.lemmas.Bool.{le-leb, and_from, cond-false}
use Rattle.terms.specs.declared.side.Side.{Side}
use Rattle.terms.specs.declared.side.Side.TheVariants.{Buy, Sell}
use Rattle.terms.specs.declared.kind.Kind.{Kind}
use Rattle.terms.specs.declared.kind.Kind.TheVariants.{DisplayedLimit, HiddenLimit, DisplayedMdo, HiddenMdo, MidpointPeg}
use Rattle.terms.specs.declared.time_in_force.TimeInForce.{TimeInForce}
use Rattle.terms.specs.declared.time_in_force.TimeInForce.TheVariants.{Rest, ImmediateOrCancel}
use Rattle.terms.specs.declared.refusal.Refusal.{Refusal}
use Rattle.terms.specs.declared.refusal.Refusal.TheVariants as refusal
use Rattle.terms.specs.declared.ticket.Terms.{Terms}
use Rattle.terms.specs.Codes.{side_code, kind_code, time_in_force_code, qdp_code, side_from, kind_from, time_in_force_from, qdp_from}
use Rattle.terms.specs.Terms.{OrderTerms, in_range}
use Rattle.terms.specs.Limits.{most_shares, top_price}
use Rattle.terms.specs.Judging.{offset_in_range, go_together, judged, words_of}
use Rattle.terms.specs.Made.{terms_of}
use Rattle.register.specs.Orders.{draft_of}
use Rattle.register.specs.RoundTrip.{with_left, ListsATicket}

side_back : (s : Side) → side_from (side_code s) ≡ Some s
side_back Buy = refl
side_back Sell = refl

kind_back : (k : Kind) → kind_from (kind_code k) ≡ Some k
kind_back DisplayedLimit = refl
kind_back HiddenLimit = refl
kind_back DisplayedMdo = refl
kind_back HiddenMdo = refl
kind_back MidpointPeg = refl

time_back : (f : TimeInForce) → time_in_force_from (time_in_force_code f) ≡ Some f
time_back Rest = refl
time_back ImmediateOrCancel = refl

qdp_back : (q : Bool) → qdp_from (qdp_code q) ≡ Some q
qdp_back true = refl
qdp_back false = refl

module _ (w : OrderTerms) (left : ℕ) where
  abbrev made : Side → Kind → TimeInForce → Bool → OrderTerms
  made s k f q =
      record { side = s; kind = k; time_in_force = f; qdp = q; shares = left; limit = w.limit; offset = w.offset }

  abbrev with_qdp : Side → Kind → TimeInForce → Option Bool → Option OrderTerms
  with_qdp s k f o = elim o [ None ↦ None | Some q ↦ Some (made s k f q) ]

  abbrev with_time : Side → Kind → Option TimeInForce → Option OrderTerms
  with_time s k o = elim o [ None ↦ None | Some f ↦ with_qdp s k f (qdp_from (qdp_code w.qdp)) ]

  abbrev with_kind : Side → Option Kind → Option OrderTerms
  with_kind s o = elim o [ None ↦ None | Some k ↦ with_time s k (time_in_force_from (time_in_force_code w.time_in_force)) ]

  abbrev with_side : Option Side → Option OrderTerms
  with_side o = elim o [ None ↦ None | Some s ↦ with_kind s (kind_from (kind_code w.kind)) ]

  words_back : words_of (draft_of w left) ≡ Some (with_left w left)
  words_back =
      ap with_side (side_back w.side)
      ∙ ap (with_kind w.side) (kind_back w.kind)
      ∙ ap (with_time w.side w.kind) (time_back w.time_in_force)
      ∙ ap (with_qdp w.side w.kind w.time_in_force) (qdp_back w.qdp)

  within : (low n high : ℕ) → low ≤ n → n ≤ high → in_range low n high ≡ true
  within low n high a b = and_from (leb low n) (leb n high) (le-leb low n a) (le-leb n high b)

  judged_back : 1 ≤ left → left ≤ most_shares → 1 ≤ w.limit → w.limit ≤ top_price → offset_in_range w.offset ≡ true → go_together w.side w.kind w.time_in_force w.qdp w.offset ≡ true → judged (with_left w left) ≡ Ok (with_left w left)
  judged_back some few low high near fit =
      cond-false (not (in_range 1 left most_shares)) (Err refusal.Shares) _ (ap not (within 1 left most_shares some few))
      ∙ cond-false (not (in_range 1 w.limit top_price)) (Err refusal.Limit) _ (ap not (within 1 w.limit top_price low high))
      ∙ cond-false (not (offset_in_range w.offset)) (Err refusal.Offset) _ (ap not near)
      ∙ cond-false (not (go_together w.side w.kind w.time_in_force w.qdp w.offset)) (Err refusal.Combination) (Ok (with_left w left)) (ap not fit)

pub ticket_back : (t : Terms) (left : ℕ) → ListsATicket (terms_of t) left
ticket_back t left some few =
    let w = terms_of t in
    ap (λ o. elim o as (λ _. Result OrderTerms Refusal) [ None ↦ Err refusal.UnknownCode | Some x ↦ judged x ]) (words_back w left)
    ∙ judged_back w left some (omega (arith, t.shares_lawful.1)) t.limit_lawful.0 t.limit_lawful.1 t.offset_lawful t.parts_lawful
