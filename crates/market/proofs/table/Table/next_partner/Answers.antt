use Rattle.std.proofs.Common.{◌≡◌, false, sym, vec_items, ap, ◌∙◌, rules, tests}
use Rattle.std.proofs.lemmas.Iterator.{YieldsList-from_slice}
use Rattle.std.proofs.lemmas.Iterator.Consumers.{YieldsList-from_filter}
use Rattle.std.specs.Option.{option_map}
use Rattle.rules.specs.Priority.{next_partner}
use Rattle.market.specs.Rows.{row_order}
use Rattle.market.specs.Seen.{seen}
use Rattle.terms.specs.PerSide.{of_side}
use Rattle.terms.specs.Sides.{meets}
use Rattle.market.proofs.Reached.{nobody_reaches}
use Rattle.market.proofs.Best.{best_of, partners, goes_ahead, partner_best}
use Rattle.market.proofs.table.Table.next_partner.Goals as goal

pub returns : goal.returns
unfolding next_partner
returns c =
    let rs = vec_items c.args.self.now.rows in
    let s = c.args.side in
    let m = seen c.args.self.now in
    let best = best_of _ _ (goes_ahead m s c.args.price) (λ a z r q called. search (rules, tests)) c.filter.result c.reduce.result c.reduce.ensures.ran
    (YieldsList-from_filter _ (partners m s c.args.price) (YieldsList-from_slice rs (cc)) c.filter.ensures.closure (λ x b q called. search (rules, tests))) in
    ap (option_map row_order) (c.copied.ensures ∙ best) ∙ partner_best m s c.args.price rs

pub returns-then-not-meets : goal.returns-then-not-meets
returns-then-not-meets c =
    let self = c.args.self.now in
    let short : meets c.args.side (of_side c.args.side self.farthest) c.args.price ≡ false =
    ap (λ q. meets c.args.side q c.args.price) (sym c.get.ensures) ∙ sym c.meets.ensures ∙ c.if-not-meets.true
    in
    sym (nobody_reaches self c.args.side c.args.price short (vec_items self.rows) self.reach)
