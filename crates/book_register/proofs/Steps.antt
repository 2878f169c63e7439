-- One step of the definition of a load: at the end, at a fault, and at an order. Cite load_end, load_fault and load_order.
use Rattle.std.proofs.Common.{◌≡◌, ℕ, zero, suc, ◌<◌, List, Some, None, Ok, Err, sym, refl, ap, arith}
use Rattle.register.specs.declared.fault.Fault.{Fault}
use Rattle.register.specs.Reading.{Cursor, place_in, read_next}
use Rattle.book_register.specs.declared.load.LoadFault.TheVariants.{Register}
use Rattle.book_register.specs.Loads.{Load, stopped_if, go_on, after_order, next_loaded, load_on}

module _ (time room places total : ℕ) (rest : List ℕ) (l : Load) where
  pub load_end : (turns : ℕ) → None ≡ read_next total rest → load_on time room places turns total rest l ≡ stopped_if None l
  unfolding load_on
  load_end zero e = refl
  load_end (suc n) e = ap (λ r. next_loaded time room places (place_in total rest) r l (load_on time room places n total)) (sym e)

  pub load_fault : (turns : ℕ) (fault : Fault) → 0 < turns → Some (Err fault) ≡ read_next total rest → load_on time room places turns total rest l ≡ stopped_if (Some (Register fault)) l
  unfolding load_on
  load_fault zero fault h e = absurd (omega arith)
  load_fault (suc n) fault h e = ap (λ r. next_loaded time room places (place_in total rest) r l (load_on time room places n total)) (sym e)

  pub load_order : (n : ℕ) (c : Cursor) → Some (Ok c) ≡ read_next total rest
      → load_on time room places (suc n) total rest l
      ≡ go_on (after_order time room places (place_in total rest) c.order l).stop (after_order time room places (place_in total rest) c.order l).load (load_on time room places n total c.rest)
  unfolding load_on
  load_order n c e = ap (λ r. next_loaded time room places (place_in total rest) r l (load_on time room places n total)) (sym e)
