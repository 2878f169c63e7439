use Rattle.std.proofs.Common.{◌≤◌, length}
use Rattle.published_examples.proofs.reader.Reader.all_after.Given as goal

abbrev pub invariant-loop-words : goal.invariant-loop-words
invariant-loop-words l = length l.self.rest.now ≤ length l.fn.self.rest.now

abbrev pub decreases-loop-words : goal.decreases-loop-words
decreases-loop-words l = length l.self.rest.now
