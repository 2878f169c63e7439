-- The reason that is told of a resting order holds, since the book is what a run of calls leaves; so the tape explains the
-- discretion of every sound book, and none stands crossed. Cite reasoned, discretion_explained and uncrossed.
use Rattle.std.proofs.Common.{sym, subst}
use Rattle.std.specs.List.{AllByRecursion as Every}
use Rattle.tape.specs.declared.tape.Tape.{Ghosts as TapeOf}
use Rattle.directory.specs.declared.directory.Directory.{Ghosts as DirectoryOf}
use Rattle.rules.specs.Market.{Order, Book}
use Rattle.rules.specs.Questions.{why}
use Rattle.rules.specs.Laws.{Reason}
use Rattle.rules.specs.WholeDay.{DiscretionExplained, Uncrossed}
use Rattle.rules.proofs.Marks.{tape_explains_discretion}
use Rattle.rules.proofs.Members.{In, in_all}
use Rattle.rules.proofs.Uncrossed.{never_crossed}
use Rattle.rules.proofs.Why.{reasons_hold}
use Rattle.market.specs.Markets.{capacity_of}
use Rattle.book.specs.declared.engine.Engine.{Engine}
use Rattle.book.specs.Running.{book_of, Sound}

pub reasoned : {D T : Type 0} (d : DirectoryOf D) (t : TapeOf T) (b : Engine D T) (o : Order) → Sound d t b → In o (book_of t b).market.orders → Reason (book_of t b) o (why (book_of t b).market o)
reasoned d t b o sound there =
    let r = sound.reached in
    in_all (λ (x : Order). Reason (book_of t b) x (why (book_of t b).market x)) (book_of t b).market.orders o
    (subst (λ (z : Book). Every (λ (x : Order). Reason z x (why z.market x)) z.market.orders) (sym r.is) (reasons_hold r.bid r.offer (capacity_of t b.market) r.calls))
    there

pub discretion_explained : {D T : Type 0} (d : DirectoryOf D) (t : TapeOf T) (b : Engine D T) → Sound d t b → DiscretionExplained (book_of t b)
discretion_explained d t b sound =
    let r = sound.reached in
    subst DiscretionExplained (sym r.is) (tape_explains_discretion r.bid r.offer (capacity_of t b.market) r.calls)

pub uncrossed : {D T : Type 0} (d : DirectoryOf D) (t : TapeOf T) (b : Engine D T) → Sound d t b → Uncrossed (book_of t b).market
uncrossed d t b sound =
    let r = sound.reached in
    subst (λ (z : Book). Uncrossed z.market) (sym r.is) (never_crossed r.bid r.offer (capacity_of t b.market) r.calls)
