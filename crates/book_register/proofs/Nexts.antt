-- What a reader hands out, once it is known which way it went. Cite order_came, fault_came and nothing_came.
use Rattle.std.proofs.Common.{◌≡◌, ℕ, ◌<◌, List, length, Some, None, Ok, Err, Result, sym, ap, ◌∙◌, subst}
use Rattle.register.specs.declared.fault.Fault.{Fault}
use Rattle.register.specs.declared.reader.Listed.{Listed}
use Rattle.register.specs.Parts.{listed_of, next_read, Placed}
use Rattle.register.specs.Reading.{place_in, read_next}

-- an order came next, and `left` is left of the rest
pub record Came (register rest left : List ℕ) (o : Listed) : Type 0 where
  pub read : Some (Ok (record { order = listed_of o; rest = left })) ≡ read_next (length register) rest
  pub shorter : length left < length rest
  pub placed : o.place ≡ place_in (length register) rest

-- `own` is the register as the reader has it
module _ (own register rest left : List ℕ) (same : own ≡ register) where
  pub nothing_came : None ≡ read_next (length own) rest → None ≡ read_next (length register) rest
  nothing_came h = h ∙ ap (λ (z : List ℕ). read_next (length z) rest) same

  module _ (next : Result Listed Fault) (h : next_read (Some next) left ≡ read_next (length own) rest) where
    turned : (n : Result Listed Fault) → next ≡ n → next_read (Some n) left ≡ read_next (length register) rest
    turned n e = ap (λ (z : Result Listed Fault). next_read (Some z) left) (sym e) ∙ h ∙ ap (λ (z : List ℕ). read_next (length z) rest) same

    pub fault_came : (fault : Fault) → next ≡ Err fault → Some (Err fault) ≡ read_next (length register) rest
    fault_came fault e = turned (Err fault) e

    pub order_came : (o : Listed) → next ≡ Ok o → length left < length rest → Placed own rest (Some next) left → Came register rest left o
    order_came o e shorter places =
        let P : Result Listed Fault → Type 0 = λ n. Placed own rest (Some n) left in
        record {
          read = turned (Ok o) e;
          shorter = shorter;
          placed = (subst P e places).0 ∙ ap (λ (z : List ℕ). place_in (length z) rest) same;
        }
