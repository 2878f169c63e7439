use Rattle.std.proofs.Common.{◌≤◌, length, ap, ◌∙◌, arith, rules, tests}
use Rattle.std.proofs.lemmas.List.{take_all}
use Rattle.std.proofs.lemmas.Iterator.Search.{find_from_yields_List}
use Rattle.std.specs.List.{find}
use Rattle.std.specs.Option.{unwrap_or}
use Rattle.std.specs.Range.{range_inclusive_start, range_inclusive_end, range_inclusive_exhausted}
use Rattle.rules.specs.Questions.{latest_mark}
use Rattle.market.proofs.Latest.{down, road, from_one, as_found, marked, latest_found}
use Rattle.market.proofs.explanation.latest_mark.Goals as goal

pub returns : goal.returns
returns g c =
    let ls = g.T.Tape.lines c.args.tape.now in
    let s = c.args.side in
    let n = c.len.result in
    let source = c.rev.ensures.source in
    let start = ap range_inclusive_start source ∙ c.new.ensures.start in
    let all = from_one c.rev.result n start (ap range_inclusive_end source ∙ c.new.ensures.end) (ap range_inclusive_exhausted source ∙ c.new.ensures.exhausted) in
    let le : n ≤ length ls = omega (arith, c.len.ensures) in
    let long : length ls ≤ n = omega (arith, c.len.ensures) in
    ap (λ o. unwrap_or o 0)
    (as_found c.find.result
    ∙ find_from_yields_List (marked s ls) _ _ c.find.result c.find.ensures.ran (road c.rev.result start) (λ x b q called. search (rules, tests))
    ∙ ap (λ k. find (marked s ls) (down k)) all)
    ∙ latest_found s ls n le
    ∙ ap (latest_mark s) (take_all n ls long)
