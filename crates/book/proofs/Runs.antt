-- What a call that is carried out means to whoever sees the book alone. Cite told, left_so, kept, grows and reached.
use Rattle.std.proofs.Common.{◌≡◌, ℕ, ◌-◌, length, sym, ap, ◌∙◌, subst, arith}
use Rattle.tape.specs.declared.tape.Tape.{Ghosts as TapeOf}
use Rattle.directory.specs.declared.directory.Directory.{Ghosts as DirectoryOf}
use Rattle.rules.specs.Growth.{TapeGrows}
use Rattle.rules.specs.Market.{Book}
use Rattle.rules.specs.Answers.{Answer}
use Rattle.rules.specs.Calls.{Call, call}
use Rattle.rules.proofs.Grown.{tape_only_grows}
use Rattle.market.specs.Markets.{capacity_of}
use Rattle.book.specs.declared.engine.Engine.{Engine}
use Rattle.book.specs.Carried.{Carried}
use Rattle.book.specs.Running.{Running, running, answer_to, after, Reached, book_of, Sound}

abbrev running_with : Book → ℕ → Running
running_with b n = record { book = b; room = n }

pub same_running : {b b' : Book} {n n' : ℕ} → b ≡ b' → n ≡ n' → running_with b n ≡ running_with b' n'
same_running {b} {b'} {n} {n'} e f = ap (λ z. running_with z n) e ∙ ap (λ z. running_with b' z) f

-- what is known of a book as its callers see it
pub reached : {D T : Type 0} (d : DirectoryOf D) (t : TapeOf T) (b : Engine D T) (s : Running) → running t b ≡ s → Sound d t b → Reached s
reached d t b s view holds =
    let r = holds.reached in
    subst Reached view (record { bid = r.bid; offer = r.offer; calls = r.calls; is = r.is })

grown : (s : Running) (c : Call) → Reached s → TapeGrows s.book (after s c).book
grown s c r =
    let free : ℕ = s.room - length s.book.market.tape in
    subst (λ (b : Book). TapeGrows b (call free c b).book) (sym r.is) (tape_only_grows r.bid r.offer s.room free r.calls c)

module _ {D T : Type 0} (d : DirectoryOf D) (t : TapeOf T) (b later : Engine D T) (s : Running) (c : Call) (a : Answer) (view : running t b ≡ s) (holds : Sound d t b) (carried : Carried d t b later c a) where
  free : t.free b.market.tape ≡ capacity_of t b.market - length (t.lines b.market.tape)
  free = omega arith

  pub told : a ≡ answer_to s c
  told = carried.answer ∙ ap (λ n. (call n c (book_of t b)).answer) free ∙ ap (λ z. answer_to z c) view

  pub left_so : running t later ≡ after s c
  left_so = same_running (carried.book ∙ ap (λ n. (call n c (book_of t b)).book) free) carried.capacity ∙ ap (λ z. after z c) view

  pub kept : Sound d t later
  kept = carried.sound

  pub grows : TapeGrows s.book (running t later).book
  grows = subst (λ (z : Running). TapeGrows s.book z.book) (sym left_so) (grown s c (reached d t b s view holds))
