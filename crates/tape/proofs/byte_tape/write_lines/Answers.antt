use Rattle.std.proofs.Common.{◌≡◌, ◌+◌, ◌*◌, ◌/◌, ◌<◌, [], ◌∷◌, ◌++◌, length, take, drop, Ok, Err, Result, sym, ap, ◌∙◌, arith, rules, MatchResult, length-append, length-take}
use borrow.Author.Rules.{get_or_read}
use lib.Seq.{paste}
use Rattle.tape.specs.declared.byte_tape.ByteTape.{ByteTape}
use Rattle.tape.specs.declared.line.Line.{Line}
use Rattle.tape.specs.declared.tape.Full.{Full}
use Rattle.std.specs.Result.{IsOk}
use Rattle.tape.specs.Bytes.{byte_free, byte_lines, byte_rest, byte_row, lender, lent_bytes}
use Rattle.tape.specs.Layout.{line_bytes, line_length}
use Rattle.tape.proofs.Rows.{line_count, row_length, row_pasted, row_written}
use Rattle.tape.proofs.byte_tape.write_lines.Goals as goal

-- a write to a tape that has a free line
written : (was is : ByteTape) (line : Line) (r : Result (Unit {0}) Full)
    → MatchResult r (λ _. (byte_lines is ≡ byte_lines was ++ line ∷ []) × (byte_free is + 1 ≡ byte_free was)) (λ _. (byte_free was ≡ 0) × (byte_lines is ≡ byte_lines was) × (byte_free is ≡ 0))
    → (lender is ≡ lender was) × MatchResult r (λ _. lent_bytes is ≡ byte_row was ++ (line_bytes line ++ drop line_length (byte_rest was))) (λ _. is ≡ was)
    → 0 < byte_free was
    → (is.bytes.now ≡ paste was.bytes.now (was.used * 43) (line_bytes line) 43) × (is.used ≡ was.used + 1)
written was is line (Ok x) lines lent free = (
  lent.1 ∙ row_pasted was.bytes.now was.used line,
  sym (line_count is.bytes.now is.used)
      ∙ ap length lines.0
      ∙ length-append (byte_lines was) (line ∷ [])
      ∙ ap (λ n. n + 1) (line_count was.bytes.now was.used),
)
written was is line (Err e) lines lent free = absurd (omega (arith, lines.0))

ok_written : (was is : ByteTape) (line : Line) (r : Result (Unit {0}) Full)
    → MatchResult r (λ _. (byte_lines is ≡ byte_lines was ++ line ∷ []) × (byte_free is + 1 ≡ byte_free was)) (λ _. (byte_free was ≡ 0) × (byte_lines is ≡ byte_lines was) × (byte_free is ≡ 0))
    → 0 < byte_free was
    → IsOk r
ok_written was is line (Ok x) lines free = search rules
ok_written was is line (Err e) lines free = absurd (omega (arith, lines.0))

pub unwrap-requires : goal.unwrap-requires
unwrap-requires c =
    let was = c.loop-line.tape in
    let i = c.loop-line.line-index in
    let ls = take c.min-count.result c.args.lines.now in
    let bytes = c.new-tape.result.bytes.now in
    let inv = c.loop-line.invariant in
    let same : length bytes ≡ length c.args.bytes.now = ap length c.new-tape.ensures.lent.1 in
    let count : c.min-count.result ≡ length ls = simp length-take (omega arith) in
    let in_bytes : i < length bytes / 43 = omega arith in
    let long : length was.bytes.now ≡ length bytes = ap length inv.2 ∙ row_length bytes ls i (omega arith) (omega arith) in
    ok_written was c.write.new.self _ c.write.result c.write.ensures.line (omega (arith, inv.0))

pub loop-line-preserved : goal.loop-line-preserved
loop-line-preserved c =
    let was = c.loop-line.tape in
    let is = c.write.new.self in
    let i = c.loop-line.line-index in
    let ls = take c.min-count.result c.args.lines.now in
    let bytes = c.new-tape.result.bytes.now in
    let inv = c.loop-line.invariant in
    let same : length bytes ≡ length c.args.bytes.now = ap length c.new-tape.ensures.lent.1 in
    let count : c.min-count.result ≡ length ls = simp length-take (omega arith) in
    let in_bytes : i < length bytes / 43 = omega arith in
    let long : length was.bytes.now ≡ length bytes = ap length inv.2 ∙ row_length bytes ls i (omega arith) (omega arith) in
    let free : 0 < byte_free was = omega (arith, inv.0) in
    let w = written was is _ c.write.result c.write.ensures.line c.write.ensures.lent free in (
      w.1 ∙ ap (λ n. n + 1) inv.0,
      c.write.ensures.lent.0 ∙ inv.1,
      row_written bytes was.bytes.now is.bytes.now ls i (was.used * 43) _ c.loop-line-test.true in_bytes (ap (λ n. n * 43) inv.0) (search (rules, get_or_read)) inv.2 w.0,
    )
