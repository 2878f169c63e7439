-- A draft whose codes are known is judged as the terms that they stand for. Cite codes_known, and apart where they
-- are in range and do not go together.
use Rattle.std.proofs.Common.{◌≡◌, ◌≤◌, ap, ◌∙◌, sym, Bool, true, false, arith, Some, None, Ok, Err, Option, Result}
use Rattle.std.specs.Prelude.{not, ok_or, if◌then◌else◌}
use Rattle.terms.specs.declared.side.Side.{Side}
use Rattle.terms.specs.declared.kind.Kind.{Kind}
use Rattle.terms.specs.declared.time_in_force.TimeInForce.{TimeInForce}
use Rattle.terms.specs.declared.ticket.Draft.{Draft}
use Rattle.terms.specs.declared.refusal.Refusal.{Refusal}
use Rattle.terms.specs.declared.refusal.Refusal.TheVariants.{UnknownCode, Shares, Limit, Offset, Combination}
use Rattle.terms.specs.Codes.{side_from, kind_from, time_in_force_from, qdp_from}
use Rattle.terms.specs.Terms.{OrderTerms, in_range}
use Rattle.terms.specs.Limits.{most_shares, top_price}
use Rattle.terms.specs.Judging.{offset_in_range, go_together, judged, ticket_from}

known : {A : Type 0} (o : Option A) (x : A) (e : Refusal) → Ok x ≡ ok_or o e → Some x ≡ o
known None x e h = cc
known (Some y) x e h = cc

abbrev by_tests : OrderTerms → Bool → Bool → Bool → Bool → Result OrderTerms Refusal
by_tests w a b c d =
    if not a then Err Shares else if not b then Err Limit else if not c then Err Offset else if not d then Err Combination else Ok w

pub apart : (w : OrderTerms) → (1 ≤ w.shares) × (w.shares ≤ most_shares) → (1 ≤ w.limit) × (w.limit ≤ top_price) → offset_in_range w.offset ≡ true → go_together w.side w.kind w.time_in_force w.qdp w.offset ≡ false → Err Combination ≡ judged w
apart w s l o g =
    let shares : in_range 1 w.shares most_shares ≡ true = grind arith in
    let limit : in_range 1 w.limit top_price ≡ true = grind arith in
    ap (λ z. by_tests w z true true false) (sym shares)
    ∙ ap (λ z. by_tests w (in_range 1 w.shares most_shares) z true false) (sym limit)
    ∙ ap (λ z. by_tests w (in_range 1 w.shares most_shares) (in_range 1 w.limit top_price) z false) (sym o)
    ∙ ap (λ z. by_tests w (in_range 1 w.shares most_shares) (in_range 1 w.limit top_price) (offset_in_range w.offset) z) (sym g)

module _ (d : Draft) where
  abbrev judged_of : Option Side → Option Kind → Option TimeInForce → Option Bool → Result OrderTerms Refusal
  judged_of a b c o =
      elim (elim a as (λ _. Option OrderTerms) [ None ↦ None | Some s ↦ elim b as (λ _. Option OrderTerms) [ None ↦ None | Some k ↦ elim c as (λ _. Option OrderTerms) [ None ↦ None | Some f ↦ elim o as (λ _. Option OrderTerms) [ None ↦ None | Some q ↦ Some (record { side = s; kind = k; time_in_force = f; qdp = q; shares = d.shares; limit = d.limit; offset = d.offset }) ] ] ] ]) as (λ _. Result OrderTerms Refusal) [ None ↦ Err UnknownCode | Some w ↦ judged w ]

  pub codes_known : (s : Side) (k : Kind) (f : TimeInForce) (q : Bool) → Ok s ≡ ok_or (side_from d.side) UnknownCode → Ok k ≡ ok_or (kind_from d.kind) UnknownCode → Ok f ≡ ok_or (time_in_force_from d.time_in_force) UnknownCode → Ok q ≡ ok_or (qdp_from d.qdp) UnknownCode → judged (record { side = s; kind = k; time_in_force = f; qdp = q; shares = d.shares; limit = d.limit; offset = d.offset }) ≡ ticket_from d
  codes_known s k f q es ek ef eq =
      let a = known (side_from d.side) s UnknownCode es in
      let b = known (kind_from d.kind) k UnknownCode ek in
      let c = known (time_in_force_from d.time_in_force) f UnknownCode ef in
      let o = known (qdp_from d.qdp) q UnknownCode eq in
      ap (λ z. judged_of z (Some k) (Some f) (Some q)) a
      ∙ ap (λ z. judged_of (side_from d.side) z (Some f) (Some q)) b
      ∙ ap (λ z. judged_of (side_from d.side) (kind_from d.kind) z (Some q)) c
      ∙ ap (λ z. judged_of (side_from d.side) (kind_from d.kind) (time_in_force_from d.time_in_force) z) o
