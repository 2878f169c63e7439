use Rattle.std.proofs.Common.{length}
use Rattle.published_examples.proofs.run.Given as goal

abbrev pub decreases-loop-text : goal.decreases-loop-text
decreases-loop-text l = length l.reader.rest.now
