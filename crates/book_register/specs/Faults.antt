-- Number, layer and place of each fault of a load. Layers: 1 the field, 2 the order, 3 the ticket, 4 the book.
use Rattle.std.specs.Prelude.{ℕ, List, codes}
use Rattle.register.specs.Reports.{told}
use Rattle.register.specs.Faults.{fault_number, fault_layer, fault_place, fault_words, order_layer}
use Rattle.rules.specs.Codes.{refusal_number}
use Rattle.rules.specs.Words.{refusal_words}
use Rattle.book_register.specs.declared.load.LoadFault.{LoadFault}
use Rattle.book_register.specs.declared.load.LoadFault.TheVariants.{Register, SlipsFull, Book}
use Rattle.book_register.specs.declared.load.Slip.{Slip}

abbrev pub book_layer : ℕ
book_layer = 4

abbrev pub load_fault_number : LoadFault → ℕ
load_fault_number (Register fault) = fault_number fault
load_fault_number (SlipsFull place) = 16
load_fault_number (Book why place) = refusal_number why

abbrev pub load_fault_layer : LoadFault → ℕ
load_fault_layer (Register fault) = fault_layer fault
load_fault_layer (SlipsFull place) = order_layer
load_fault_layer (Book why place) = book_layer

abbrev pub load_fault_place : LoadFault → ℕ
load_fault_place (Register fault) = fault_place fault
load_fault_place (SlipsFull place) = place
load_fault_place (Book why place) = place

abbrev pub load_fault_words : LoadFault → List ℕ
load_fault_words (Register fault) = fault_words fault
load_fault_words (SlipsFull place) = codes "no place for a slip"
load_fault_words (Book why place) = refusal_words why

-- as people read it: number, layer, place, words
abbrev pub load_fault_text : LoadFault → List ℕ
load_fault_text fault =
    told (load_fault_number fault) (load_fault_layer fault) (load_fault_place fault) (load_fault_words fault)

abbrev pub slip_of : LoadFault → Slip
slip_of fault =
    record { number = load_fault_number fault; layer = load_fault_layer fault; place = load_fault_place fault }
