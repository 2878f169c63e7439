use Rattle.std.proofs.cmp.Tests.{ltb_from_iff}
use Rattle.std.proofs.Common.{subst, ◌≡◌, true, [], is_some, None, vec_items, vec_len, sym, ap, ◌∙◌, arith}
use Rattle.std.specs.Option.{option_to_list}
use Rattle.std.proofs.lemmas.List.{nil_from_length}
use Rattle.std.proofs.lemmas.List.Elements.{All-pop}
use Rattle.std.proofs.lemmas.Bool.{ltb-false}
use Rattle.rules.specs.Market.{with_orders}
use Rattle.market.specs.Reaches.{within}
use Rattle.market.specs.Rows.{rising}
use Rattle.market.specs.Seen.{market_with}
use Rattle.market.specs.Changes.{AllRest}
use Rattle.market.proofs.Retired.{rests_front}
use Rattle.market.proofs.Dropped.{rising_front, newest_gone}
use Rattle.market.proofs.table.Table.drop_newest.Goals as goal

pub invariant_of-self-clause-ascending : goal.invariant_of-self-clause-ascending
invariant_of-self-clause-ascending c =
    let self = c.args.self.now in
    rising_front 0 (vec_items c.pop.new.self) (option_to_list c.pop.result) (ap (rising 0) (sym c.pop.ensures.items) ∙ self.ascending)

pub invariant_of-self-clause-reach : goal.invariant_of-self-clause-reach
invariant_of-self-clause-reach c =
    let self = c.args.self.now in
    (All-pop (λ r. within self.quote self.farthest r ≡ true) (vec_items self.rows) (vec_items c.pop.new.self) c.pop.result c.pop.ensures.items self.reach).0

pub invariant_of-self-clause-whole : goal.invariant_of-self-clause-whole
invariant_of-self-clause-whole c kept =
    rests_front (vec_items c.pop.new.self) (option_to_list c.pop.result) (subst AllRest c.pop.ensures.items (c.args.self.now.whole kept))

pub returns-clause-market : goal.returns-clause-market
returns-clause-market c tape =
    let self = c.args.self.now in
    let rows = vec_items self.rows in
    let none : c.pop.result ≡ None → rows ≡ [] = λ e. nil_from_length rows (omega (arith, self.rows.ok.0, ltb-false 0 (vec_len self.rows) (sym (ltb_from_iff c.pop.ensures.variant) ∙ ap is_some e))) in
    let gone = newest_gone rows (vec_items c.pop.new.self) c.pop.result self.ascending c.pop.ensures.items none in
    ap (λ os. with_orders os (market_with tape self)) gone
