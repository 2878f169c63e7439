use Rattle.std.proofs.Common.{◌≤◌, length}
use Rattle.published_examples.proofs.reader.Reader.calls.Given as goal

abbrev pub invariant-loop-calls : goal.invariant-loop-calls
invariant-loop-calls l = length l.self.rest.now ≤ length l.fn.self.rest.now

abbrev pub decreases-loop-calls : goal.decreases-loop-calls
decreases-loop-calls l = length l.self.rest.now
