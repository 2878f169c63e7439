-- Calls made one after another make the rule book's run. Cite followed_none and followed_more.
use Rattle.std.proofs.Common.{◌≡◌, ℕ, ◌+◌, ◌-◌, ◌<◌, List, [], ◌∷◌, ◌++◌, length, get_or, take, sym, refl, ap, ◌∙◌}
use Rattle.std.proofs.lemmas.List.{take_more, map_push}
use Rattle.rules.specs.Answers.{Answer as RuleAnswer}
use Rattle.rules.specs.Calls.{call}
use Rattle.rules.specs.Market.{Book as RuleBook}
use Rattle.rules.specs.Runs.{Run, run}
use Rattle.rules.proofs.Runs.{answered, run_push}
use Rattle.book.specs.Running.{Running, outcome, answer_to, after}
use Rattle.book.specs.declared.call.Call.{Call}
use Rattle.book.specs.declared.call.Answer.{Answer}
use Rattle.book.specs.Told.{call_of, calls_of, answer_of, answers_of}
use Rattle.book.specs.Replayed.{run_of, Followed}

abbrev run_with : List RuleAnswer → RuleBook → Run
run_with zs b = record { answers = zs; book = b }

same_run : {zs zs' : List RuleAnswer} {b b' : RuleBook} → zs ≡ zs' → b ≡ b' → run_with zs b ≡ run_with zs' b'
same_run {zs} {zs'} {b} {b'} e f = ap (λ z. run_with z b) e ∙ ap (λ z. run_with zs' z) f

no_calls : (room : ℕ) (b : RuleBook) → run room [] b ≡ run_with [] b
unfolding run
no_calls room b = refl

pub followed_none : (s : Running) (zs : List Answer) → zs ≡ [] → Followed s s [] zs
followed_none s zs e = record { ran = same_run (ap answers_of e) refl ∙ sym (no_calls s.room s.book); room = refl }

-- one call more, that at i
pub followed_more : (before here later : Running) (calls : List Call) (i : ℕ) (c : Call) (zs more : List Answer) (a : Answer) → i < length calls → c ≡ get_or calls i c → more ≡ zs ++ (a ∷ [])
    → Followed before here (take i calls) zs → answer_of a ≡ answer_to here (call_of c) → later ≡ after here (call_of c) → Followed before later (take (i + 1) calls) more
followed_more before here later calls i c zs more a lt is pushed so_far answer book =
    let room = before.room in
    let k = call_of c in
    let cs = calls_of (take i calls) in
    let next : calls_of (take (i + 1) calls) ≡ cs ++ (k ∷ []) =
    ap calls_of (take_more calls i c lt ∙ ap (λ (z : Call). take i calls ++ (z ∷ [])) (sym is)) ∙ map_push call_of (take i calls) c
    in
    let made : run_of more later ≡ answered (run_of zs here) (outcome here k) =
    same_run (ap answers_of pushed ∙ map_push answer_of zs a ∙ ap (λ z. answers_of zs ++ (z ∷ [])) answer) (ap (λ (s : Running). s.book) book)
    in
    let so : run_of more later ≡ run room (cs ++ (k ∷ [])) before.book =
    made
    ∙ ap (λ n. answered (run_of zs here) (call (n - length here.book.market.tape) k here.book)) so_far.room
    ∙ ap (λ (r : Run). answered r (call (room - length r.book.market.tape) k r.book)) so_far.ran
    ∙ sym (run_push room cs k before.book)
    in
    record { ran = so ∙ ap (λ z. run room z before.book) (sym next); room = ap (λ (s : Running). s.room) book ∙ so_far.room }
