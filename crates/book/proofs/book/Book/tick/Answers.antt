use Rattle.std.proofs.Common.{◌≡◌, Ok, Err, Result, refl, ap, ◌∙◌}
use Rattle.rules.specs.declared.refusal.Refusal.{Refusal}
use Rattle.rules.specs.Codes.{told as told_answer}
use Rattle.rules.specs.Calls.{tick}
use Rattle.book.specs.Carried.{Carried, plain_numbers, tick_answer}
use Rattle.book.proofs.Calling.{tick_carried}
use Rattle.book.proofs.Runs.{told, left_so, kept, grows}
use Rattle.book.proofs.book.Book.tick.Goals as goal
use Rattle.book.proofs.book.Book.tick.Goals.{After-advance}
use Rattle.book.proofs.book.Book.tick.Given.{Over}

carried : (g : Over) (c : After-advance g) → Carried g.D.Directory g.T.Tape c.self.inside.engine c.advance.new.self (tick c.args.time) (tick_answer c.advance.result)
carried g c = tick_carried g.D.Directory g.T.Tape c.self.inside.engine c.advance.new.self c.args.time c.advance.result c.self.invariant c.advance.ensures

pub invariant_of-self : goal.invariant_of-self
invariant_of-self g c = kept _ _ _ _ _ _ _ c.self.view_is c.self.invariant (carried g c)

pub returns-clause-answer : goal.returns-clause-answer
returns-clause-answer g c = told _ _ _ _ _ _ _ c.self.view_is c.self.invariant (carried g c)

pub returns-clause-book : goal.returns-clause-book
returns-clause-book g c = left_so _ _ _ _ _ _ _ c.self.view_is c.self.invariant (carried g c)

in_numbers : (r : Result (Unit {0}) Refusal) → plain_numbers r ≡ told_answer (tick_answer r)
in_numbers (Ok u) = refl
in_numbers (Err why) = refl

pub returns-clause-told : goal.returns-clause-told
returns-clause-told g c = in_numbers c.advance.result ∙ ap told_answer (told _ _ _ _ _ _ _ c.self.view_is c.self.invariant (carried g c))

pub returns-clause-grows : goal.returns-clause-grows
returns-clause-grows g c = grows _ _ _ _ _ _ _ c.self.view_is c.self.invariant (carried g c)
