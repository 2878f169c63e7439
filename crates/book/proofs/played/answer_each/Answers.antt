use Rattle.std.proofs.Common.{vec_items, rules}
use Rattle.book.proofs.Follows.{followed_none, followed_more}
use Rattle.book.proofs.played.answer_each.Goals as goal

pub loop-call-init : goal.loop-call-init
loop-call-init g c = (
  search rules,
  search rules,
  followed_none c.args.book.now (vec_items c.args.answers.now) c.requires.none,
)

pub loop-call-preserved : goal.loop-call-preserved
loop-call-preserved g c = (
  search rules,
  search rules,
  followed_more c.args.book.now c.loop-call.book c.carry_out.new.book c.args.calls.now c.loop-call.call-index c.call-item.result
      (vec_items c.loop-call.answers) (vec_items c.push_reserved.new.self) c.carry_out.result c.loop-call-test.true c.call-item.is c.push_reserved.ensures.items
      c.loop-call.invariant.2 c.carry_out.ensures.answer c.carry_out.ensures.book,
)
