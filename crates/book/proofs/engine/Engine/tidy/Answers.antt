use Rattle.std.proofs.Common.{List, sym, ap, ◌∙◌, subst}
use Rattle.market.specs.declared.table.Row.{Row}
use Rattle.market.specs.Rows.{identifier_bytes}
use Rattle.book.specs.Tied.{Tied}
use Rattle.book.proofs.Ties.{row_left}
use Rattle.book.proofs.engine.Engine.tidy.Goals as goal

pub loop-identifier-preserved : goal.loop-identifier-preserved
loop-identifier-preserved g c =
    let d = g.D.Directory in
    let here = c.loop-identifier.self.directory in
    let after = c.remove.new.self in
    let inv = c.loop-identifier.invariant in
    let retired = c.in-Some.ensures.told in (
      λ tied.
          let before = subst (λ (rs : List Row). Tied (d.number here) (d.count here) rs) retired.was (inv.0 tied) in
          let left =
          row_left retired.row retired.later retired.earlier c.as_bytes.result.now (d.number here) (d.number after) (d.count here) (d.count after) c.remove.result
          (c.as_bytes.ensures ∙ ap identifier_bytes retired.told) c.remove.ensures.told c.remove.ensures.left before
          in
          subst (λ (rs : List Row). Tied (d.number after) (d.count after) rs) (sym retired.is) left,
      c.in-Some.ensures.market (g.T.Tape.lines c.loop-identifier.self.market.tape) ∙ inv.1,
      inv.2,
      inv.3,
      inv.4,
    )
