-- A run goes on by one call. Cite run_push.
use Rattle.std.proofs.Common.{◌≡◌, ℕ, ◌-◌, List, [], ◌∷◌, ◌++◌, length, refl, ap}
use Rattle.rules.specs.Answers.{Answer}
use Rattle.rules.specs.Calls.{Call, Outcome, call}
use Rattle.rules.specs.Market.{Book}
use Rattle.rules.specs.Runs.{Run, run}

-- the run with one answer more, and the book that this call leaves
abbrev pub answered : Run → Outcome → Run
answered r o = record { answers = r.answers ++ (o.answer ∷ []); book = o.book }

abbrev first_answered : Answer → Run → Run
first_answered a r = record { answers = a ∷ r.answers; book = r.book }

pub run_push : (room : ℕ) (cs : List Call) (c : Call) (b : Book)
    → run room (cs ++ (c ∷ [])) b ≡ answered (run room cs b) (call (room - length (run room cs b).book.market.tape) c (run room cs b).book)
unfolding run
run_push room [] c b = refl
run_push room (e ∷ cs) c b =
    let o : Outcome = call (room - length b.market.tape) e b in
    ap (first_answered o.answer) (run_push room cs c o.book)
