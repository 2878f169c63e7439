use Rattle.std.proofs.Common.{◌<◌, length}
use Rattle.published_examples.proofs.reader.Reader.call.Given as goal

abbrev pub invariant-loop-answer : goal.invariant-loop-answer
invariant-loop-answer l = length l.self.rest.now < length l.fn.self.rest.now

abbrev pub decreases-loop-answer : goal.decreases-loop-answer
decreases-loop-answer l = length l.self.rest.now
