-- Each way out, by the lemma of its kind.
use Rattle.std.proofs.Common.{◌≡◌, ℕ, Ok, sym, refl, ap, ◌∙◌, subst}
use Rattle.std.proofs.lemmas.Result.{err_from_is_err_and}
use Rattle.terms.specs.declared.time_in_force.TimeInForce.{TimeInForce}
use Rattle.terms.specs.declared.time_in_force.TimeInForce.TheVariants.{Rest, ImmediateOrCancel}
use Rattle.terms.specs.Terms.{OrderTerms}
use Rattle.terms.specs.Made.{terms_of}
use Rattle.rules.specs.declared.refusal.Refusal.TheVariants.{Identifier}
use Rattle.rules.specs.Calls.{entry, swept_in, rested}
use Rattle.rules.proofs.Lasting.{call_unlawful}
use Rattle.terms.specs.Naming.{identifier_bytes}
use Rattle.rules.specs.Answers.{entered}
use Rattle.market.specs.declared.table.Row.{Row}
use Rattle.market.specs.Rows.{row_order}
use Rattle.market.specs.Markets.{market_of}
use Rattle.book.specs.Tied.{row_name}
use Rattle.book.specs.declared.engine.Engine.{Engine}
use Rattle.book.specs.Running.{book_of}
use Rattle.book.specs.Carried.{Carried, Brought}
use Rattle.book.specs.Entering.{entry_test, Ready, HasPlace, Entered}
use Rattle.book.proofs.Calling.{early, declined}
use Rattle.book.proofs.EntryTests.{entry_refused}
use Rattle.book.proofs.Accepted.{counting, ready, has_place, accepted}
use Rattle.book.proofs.engine.Engine.enter_terms.Goals as goal
use Rattle.book.proofs.Identified.{identified, lawfully, unlawful}
use Rattle.book.proofs.engine.Engine.enter_terms.Goals.{In_ok-identifier, In_ok-number}
use Rattle.book.proofs.engine.Engine.enter_terms.Given.{Over}

name : (g : Over) (c : In_ok-identifier g) → identifier_bytes c.in_ok-identifier.identifier ≡ c.args.id.now
name g c = identified c.args.id.now c.new.result c.ok_or.result c.in_ok-identifier.identifier c.new.ensures c.ok_or.ensures.value c.in_ok-identifier.was

pub returns-in_err-identifier : goal.returns-in_err-identifier
returns-in_err-identifier g c =
    let p = err_from_is_err_and c.from_residual.result c.from_residual.ensures.1 in
    let t = g.T.Tape in
    let here = c.args.self.now in
    let call = entry c.args.time c.args.id.now (terms_of c.args.terms) in
    let refused = unlawful c.args.id.now c.new.result c.ok_or.result c.in_err-identifier.field-0.0 c.new.ensures c.ok_or.ensures.value c.in_err-identifier.was in
    rw (p.1, p.2, refused.1) (early g.D.Directory t here call Identifier (call_unlawful (t.free here.market.tape) call (book_of t here) refused.0) c.requires)

pub returns-in_err-advance : goal.returns-in_err-advance
returns-in_err-advance g c =
    let p = err_from_is_err_and c.from_residual-in_err-advance.result c.from_residual-in_err-advance.ensures.1 in
    let lawful = lawfully c.args.id.now c.in_ok-identifier.identifier (name g (goal.at.returns-in_err-advance g c).In_ok-identifier) in
    rw (p.1, p.2) (c.in_err-advance.ensures (entry c.args.time c.args.id.now (terms_of c.args.terms)) refl lawful)

pub returns-in_err-number : goal.returns-in_err-number
returns-in_err-number g c =
    let p = err_from_is_err_and c.from_residual-in_err-number.result c.from_residual-in_err-number.ensures.1 in
    let t = g.T.Tape in
    let mid = c.advance.new.self in
    let id = c.args.id.now in
    let w = terms_of c.args.terms in
    let brought = c.in_ok-advance.ensures in
    let why = c.in_err-number.field-0.0 in
    let lawful = lawfully id c.in_ok-identifier.identifier (name g (goal.at.returns-in_err-number g c).In_ok-identifier) in
    rw (p.1, p.2)
    (declined g.D.Directory t c.args.self.now mid (entry c.args.time id w) why c.requires brought lawful
    (entry_refused c.args.time id w (book_of t mid) why (c.in_err-number.ensures)))

-- an entry that passed its tests
module _ (g : Over) (c : In_ok-number g) where
  abbrev w : OrderTerms
  w = terms_of c.args.terms

  abbrev mid : Engine g.row.D.Denot g.row.T.Denot
  mid = c.advance.new.self

  abbrev row : Row
  row = record { identifier = c.in_ok-identifier.identifier; number = c.in_ok-number.number; terms = c.args.terms; left = c.args.terms.shares }

  own : row_name row ≡ c.args.id.now
  own = identified c.args.id.now c.new.result c.ok_or.result c.in_ok-identifier.identifier c.new.ensures c.ok_or.ensures.value c.in_ok-identifier.was

  brought : Brought g.D.Directory g.T.Tape c.args.self.now mid c.args.time
  brought = c.in_ok-advance.ensures

  test : Ok c.in_ok-number.number ≡ entry_test (row_name row) w (book_of g.T.Tape mid)
  test = c.in_ok-number.ensures ∙ ap (λ id. entry_test id w (book_of g.T.Tape mid)) (sym own)

  readied : Ready g.D.Directory g.T.Tape (counting c.in_ok-number.number mid) c.args.time row
  readied = ready g.D.Directory g.T.Tape c.args.self.now mid c.args.time c.in_ok-number.number w row c.requires brought test refl c.args.terms.shares_lawful.0

  placed : c.args.terms.time_in_force ≡ Rest → HasPlace g.D.Directory (counting c.in_ok-number.number mid) row
  placed = has_place g.D.Directory g.T.Tape c.args.self.now mid c.args.time c.in_ok-number.number w row c.requires brought test refl

  -- the sweep of an order of its time in force is the entry
  swept_so : (f : TimeInForce) (after : Engine g.row.D.Denot g.row.T.Denot) (v : ℕ × ℕ × ℕ) → c.args.terms.time_in_force ≡ f
      → Entered g.D.Directory g.T.Tape (counting c.in_ok-number.number mid) after (rested f c.args.time row.number row.left (swept_in c.args.time (row_order row) (market_of g.T.Tape mid.market))) v
      → Carried g.D.Directory g.T.Tape c.args.self.now after (entry c.args.time c.args.id.now w) (entered v.0 v.1 v.2)
  swept_so f after v is done =
      let swept = swept_in c.args.time (row_order row) (market_of g.T.Tape mid.market) in
      subst (λ id. Carried g.D.Directory g.T.Tape c.args.self.now after (entry c.args.time id w) (entered v.0 v.1 v.2)) own
      (accepted g.D.Directory g.T.Tape c.args.self.now mid c.args.time c.in_ok-number.number w row c.requires brought test refl after v
      (subst (λ z. Entered g.D.Directory g.T.Tape (counting c.in_ok-number.number mid) after (rested z c.args.time row.number row.left swept) v) (sym is) done))

pub sweep_and_rest-requires-clause-ready : goal.sweep_and_rest-requires-clause-ready
sweep_and_rest-requires-clause-ready g c = readied g (goal.at.sweep_and_rest-requires-clause-ready g c).In_ok-number

pub sweep_and_rest-requires-clause-place : goal.sweep_and_rest-requires-clause-place
sweep_and_rest-requires-clause-place g c = placed g (goal.at.sweep_and_rest-requires-clause-place g c).In_ok-number c.in-Rest.is

pub sweep_and_lapse-requires : goal.sweep_and_lapse-requires
sweep_and_lapse-requires g c = readied g (goal.at.sweep_and_lapse-requires g c).In_ok-number

pub returns-in-Rest : goal.returns-in-Rest
returns-in-Rest g c =
    let here = (goal.at.returns-in-Rest g c).In_ok-number in
    swept_so g here Rest c.sweep_and_rest.new.self c.sweep_and_rest.result c.in-Rest.is c.sweep_and_rest.ensures

pub returns-in-ImmediateOrCancel : goal.returns-in-ImmediateOrCancel
returns-in-ImmediateOrCancel g c =
    let here = (goal.at.returns-in-ImmediateOrCancel g c).In_ok-number in
    swept_so g here ImmediateOrCancel c.sweep_and_lapse.new.self c.sweep_and_lapse.result c.in-ImmediateOrCancel.is c.sweep_and_lapse.ensures
