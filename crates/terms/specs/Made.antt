-- What the code's structs say, as plain terms.
use Rattle.std.specs.Prelude.{ℕ, Ok, Err, Result}
use Rattle.terms.specs.declared.refusal.Refusal.{Refusal}
use Rattle.terms.specs.declared.quote.Quote.{Quote}
use Rattle.terms.specs.declared.ticket.Terms.{Terms}
use Rattle.terms.specs.declared.ticket.Ticket.{Ticket}
use Rattle.terms.specs.Terms.{OrderTerms}

abbrev pub terms_of : Terms → OrderTerms
terms_of terms =
    record {
      side = terms.side;
      kind = terms.kind;
      time_in_force = terms.time_in_force;
      qdp = terms.qdp;
      shares = terms.shares;
      limit = terms.limit;
      offset = terms.offset;
    }

-- what a ticket holds
abbrev pub terms_in : Ticket → Terms
terms_in ticket = ticket.terms

abbrev pub ticket_terms : Ticket → OrderTerms
ticket_terms ticket = terms_of (terms_in ticket)

-- a made ticket as its terms
abbrev pub as_terms : Result Ticket Refusal → Result OrderTerms Refusal
as_terms (Ok ticket) = Ok (ticket_terms ticket)
as_terms (Err why) = Err why

-- a quote as its two prices
abbrev pub as_prices : Result Quote Refusal → Result (ℕ × ℕ) Refusal
as_prices (Ok quote) = Ok (quote.bid, quote.offer)
as_prices (Err why) = Err why
