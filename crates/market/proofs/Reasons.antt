-- Reason by reason, what `why` tells of an order that ranks at `price`, where the midpoint is `middle`. Cite no_mdo_told,
-- at_limit_told, at_midpoint_told, without_qdp_told and with_qdp_told.
use Rattle.std.proofs.Common.{◌≡◌, ℕ, ◌+◌, ◌*◌, true, false, eqb, List, ap, sym, ◌∙◌}
use Rattle.std.proofs.lemmas.Bool.{eq-eqb, ne_eqb}
use Rattle.std.specs.Prelude.{not, if◌then◌else◌}
use Rattle.terms.specs.Terms.{is_mdo}
use Rattle.tape.specs.declared.line.Line.{Line}
use Rattle.rules.specs.Market.{Market, Order, ranked_in}
use Rattle.rules.specs.Questions.{why, no_mdo, at_limit, at_midpoint, discretion}
use Rattle.rules.proofs.Cases.{if_true, if_false}
use Rattle.market.specs.Seen.{market_with, seen}
use Rattle.market.specs.declared.table.Table.{Table}
use Rattle.market.specs.Meant.{protection_of}

pub no_mdo_told : (m : Market) (o : Order) → false ≡ is_mdo o.terms.kind → no_mdo ≡ why m o
unfolding why
no_mdo_told m o f = sym (if_true (not (is_mdo o.terms.kind)) no_mdo _ (ap not (sym f)))

module _ (ls : List Line) (b : Table) (o : Order) (price middle : ℕ) (ranks : price ≡ ranked_in (seen b) o) (halfway : middle ≡ b.quote.bid + b.quote.offer) (t : true ≡ is_mdo o.terms.kind) where
  pub at_limit_told : price ≡ 2 * o.terms.limit → at_limit ≡ why (market_with ls b) o
  unfolding why ranked_in
  at_limit_told e =
      sym (if_false (not (is_mdo o.terms.kind)) no_mdo _ (ap not (sym t))
      ∙ if_true (eqb (ranked_in (seen b) o) (2 * o.terms.limit)) at_limit _ (eq-eqb _ _ (sym ranks ∙ e)))

  module _ (off : price ≡ 2 * o.terms.limit → ⊥) where
    pub at_midpoint_told : price ≡ middle → at_midpoint ≡ why (market_with ls b) o
    unfolding why ranked_in
    at_midpoint_told e =
        sym (if_false (not (is_mdo o.terms.kind)) no_mdo _ (ap not (sym t))
        ∙ if_false (eqb (ranked_in (seen b) o) (2 * o.terms.limit)) at_limit _ (ne_eqb _ _ (λ f. off (ranks ∙ f)))
        ∙ if_true (eqb (ranked_in (seen b) o) (b.quote.bid + b.quote.offer)) at_midpoint _ (eq-eqb _ _ (sym ranks ∙ e ∙ halfway)))

    module _ (apart : price ≡ middle → ⊥) where
      past_prices : (if o.terms.qdp then protection_of o (market_with ls b) else discretion) ≡ why (market_with ls b) o
      unfolding why ranked_in
      past_prices =
          sym (if_false (not (is_mdo o.terms.kind)) no_mdo _ (ap not (sym t))
          ∙ if_false (eqb (ranked_in (seen b) o) (2 * o.terms.limit)) at_limit _ (ne_eqb _ _ (λ f. off (ranks ∙ f)))
          ∙ if_false (eqb (ranked_in (seen b) o) (b.quote.bid + b.quote.offer)) at_midpoint _ (ne_eqb _ _ (λ f. apart (ranks ∙ f ∙ sym halfway))))

      pub without_qdp_told : o.terms.qdp ≡ false → discretion ≡ why (market_with ls b) o
      without_qdp_told q = sym (if_false o.terms.qdp (protection_of o (market_with ls b)) discretion q) ∙ past_prices

      pub with_qdp_told : o.terms.qdp ≡ true → protection_of o (market_with ls b) ≡ why (market_with ls b) o
      with_qdp_told q = sym (if_true o.terms.qdp (protection_of o (market_with ls b)) discretion q) ∙ past_prices
