-- What stands at a place of the ranking answers the question, beside every tape. Cite answered, with told_of for an order that
-- is there.
use Rattle.std.proofs.Common.{◌≡◌, ℕ, List, [], ◌∷◌, Some, None, vec_items, Option, sym, refl, ap, ◌∙◌, subst}
use Rattle.terms.specs.Codes.{side_from}
use Rattle.terms.specs.declared.side.Side.{Side}
use Rattle.tape.specs.declared.line.Line.{Line}
use Rattle.rules.specs.Market.{Market, Order, ranked_in, reach_in}
use Rattle.rules.specs.Questions.{InRank, Ranking, Standing, ranking_of, standing_of, at_place, Answered, AnsweredOn}
use Rattle.rules.proofs.Ranking.{ranking_ranks}
use Rattle.market.specs.Seen.{market_with, seen}
use Rattle.market.specs.declared.table.Table.{Table}
use Rattle.market.proofs.Still.{reach_still}
use Rattle.market.proofs.Places.{ascends}

pub told_of : (m : Market) (o : Order) (ranked reach : ℕ) → ranked ≡ ranked_in m o → reach ≡ reach_in m o
    → Some (record { number = o.number; ranked = ranked; reach = reach; left = o.left }) ≡ standing_of m (Some o)
told_of m o ranked reach e f = cc

module _ (tape : List Line) (b : Table) where
  in_rank_still : (s : Side) (os : List Order) → InRank (seen b) s os → InRank (market_with tape b) s os
  unfolding ranked_in
  in_rank_still s [] h = tt
  in_rank_still s (o ∷ os) h = (h.0, in_rank_still s os h.1)

  standing_still : (o : Option Order) → standing_of (seen b) o ≡ standing_of (market_with tape b) o
  unfolding ranked_in
  standing_still None = refl
  standing_still (Some o) = told_of (market_with tape b) o (ranked_in (seen b) o) (reach_in (seen b) o) refl (reach_still tape b o)

  pub answered : (code place : ℕ) (s : Side) (o : Option Order) (r : Option Standing) → side_from code ≡ Some s
      → o ≡ at_place place (ranking_of (seen b) s (seen b).orders) → r ≡ standing_of (seen b) o → Answered (market_with tape b) code place r
  answered code place s o r side at told =
      let one = ranking_ranks (seen b) s (ascends 0 (vec_items b.rows) b.ascending) in
      let os = ranking_of (seen b) s (seen b).orders in
      let still : Ranking (market_with tape b) s os = record { complete = one.complete; resting = one.resting; in_rank = in_rank_still s os one.in_rank } in
      subst (λ z. AnsweredOn (market_with tape b) z place r) (sym side)
      (os, still, told ∙ standing_still o ∙ ap (standing_of (market_with tape b)) at)
