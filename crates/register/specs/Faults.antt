-- Number, layer and place of each fault. Layers: 1 the field, 2 the order, 3 the ticket.
use Rattle.std.specs.Prelude.{ℕ, List, Ok, Err, codes, Result}
use Rattle.terms.specs.Shown.{refusal_words}
use Rattle.terms.specs.declared.ticket.Draft.{Draft}
use Rattle.terms.specs.declared.ticket.Ticket.{Ticket as LawfulTicket}
use Rattle.terms.specs.Terms.{OrderTerms}
use Rattle.terms.specs.Judging.{ticket_from}
use Rattle.terms.specs.Made.{ticket_terms}
use Rattle.terms.specs.Codes.{refusal_number}
use Rattle.register.specs.declared.fault.Fault.{Fault}
use Rattle.register.specs.Reports.{told}
use Rattle.register.specs.declared.fault.Fault.TheVariants.{CutShort, Malformed, Ticket}

abbrev pub fault_number : Fault → ℕ
fault_number (CutShort place) = 14
fault_number (Malformed place) = 15
fault_number (Ticket why place) = refusal_number why

abbrev pub field_layer : ℕ
field_layer = 1

abbrev pub order_layer : ℕ
order_layer = 2

abbrev pub ticket_layer : ℕ
ticket_layer = 3

abbrev pub fault_layer : Fault → ℕ
fault_layer (CutShort place) = field_layer
fault_layer (Malformed place) = order_layer
fault_layer (Ticket why place) = ticket_layer

abbrev pub fault_place : Fault → ℕ
fault_place (CutShort place) = place
fault_place (Malformed place) = place
fault_place (Ticket why place) = place

abbrev pub fault_words : Fault → List ℕ
fault_words (CutShort place) = codes "field cut short"
fault_words (Malformed place) = codes "order malformed"
fault_words (Ticket why place) = refusal_words why

-- as people read it: number, layer, place, words
abbrev pub fault_text : Fault → List ℕ
fault_text fault = told (fault_number fault) (fault_layer fault) (fault_place fault) (fault_words fault)

-- the ticket of an order that is listed at a place
abbrev pub listed_ticket : ℕ → Draft → Result OrderTerms Fault
listed_ticket place draft = elim (ticket_from draft) [ Ok terms ↦ Ok terms | Err why ↦ Err (Ticket why place) ]

abbrev pub ticket_or_fault : Result LawfulTicket Fault → Result OrderTerms Fault
ticket_or_fault (Ok ticket) = Ok (ticket_terms ticket)
ticket_or_fault (Err fault) = Err fault
