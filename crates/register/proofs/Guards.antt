-- An order under its guard: how far its fields have come, and what a writer has when the guard is gone. Cite under,
-- then put for each field that was put, offset_left or none_left before the last; at the end refused or whole.
use Rattle.std.proofs.Common.{◌≡◌, ℕ, ◌^◌, ◌<◌, List, [], ◌∷◌, ◌++◌, drop, Ok, Err, Result, sym, refl, ap, ◌∙◌, subst, w32, of_z}
use Rattle.std.specs.Result.{IsErrAnd}
use Rattle.std.proofs.lemmas.Result.{err_from_is_err_and}
use base.Fml.{GName}
use Rattle.terms.specs.declared.ticket.Terms.{Terms}
use Rattle.terms.specs.Made.{terms_of}
use Rattle.register.specs.Layout.{Listed}
use Rattle.register.specs.Numbers.{signed_bytes}
use Rattle.register.specs.declared.begun.Begun.{Begun}
use Rattle.register.specs.declared.begun.Fill.{Fill}
use Rattle.register.specs.declared.writer.NoRoom.{NoRoom}
use Rattle.register.specs.declared.writer.Writer.{Writer}
use Rattle.register.specs.Orders.{Tagged, order_of, order_fields}
use Rattle.register.specs.Filling.{Page, room, fits, with_field, order_fits, with_order, whole_orders}
use Rattle.register.specs.Refusal.{done_if}
use Rattle.register.specs.RoundTrip.{Holds, ListsATicket}
use Rattle.register.specs.Writers.{page_of, begun_page, SameGuard}
use Rattle.register.proofs.Fields.{Come, begun, further, stopped, reworded, finished, refused_page, refused_answer, whole_page}
use Rattle.register.proofs.Offsets.{not_zero, zero_is, offset_there, offset_absent}
use Rattle.register.proofs.Holding.{holds_order, lawful_width}
use Rattle.register.proofs.Tickets.{ticket_back}

-- the fields of an order before `rest` are in the buffer of the guard g, which has become b
pub record Under (g : Begun) (id : List ℕ) (t : Terms) (left : ℕ) (rest : List Tagged) (b : Begun) : Type 0 where
  pub come : Come g.buffer.now g.fill.now.mark (order_fields (order_of id (terms_of t) left)) rest (begun_page b)
  pub guard : SameGuard g b

-- the first n fields of the order are
abbrev pub FieldsPut : ℕ → Begun → List ℕ → Terms → ℕ → Begun → Type 0
FieldsPut n g id t left b = Under g id t left (drop n (order_fields (order_of id (terms_of t) left))) b

pub under : (g : Begun) (id : List ℕ) (t : Terms) (left : ℕ) → FieldsPut 0 g id t left g
under g id t left = record { come = begun (begun_page g) _ refl; guard = (refl, refl, refl) }

-- what the calls say that begin the guard, and that put a field under it
abbrev Begins : Writer → GName → GName → Begun → Type 0
Begins w lent fill g =
    record {
      buffer : (g.buffer.ghost_name ≡ lent) × (g.buffer.now ≡ w.buffer.now);
      fill : (g.fill.ghost_name ≡ fill) × (g.fill.now ≡ w.fill);
      start : g.start ≡ w.fill;
    }

abbrev Puts : Begun → Begun → Tagged → Result (Unit {0}) NoRoom → Type 0
Puts a b x r =
    record {
      page : begun_page b ≡ with_field (begun_page a) x;
      outcome : r ≡ done_if (fits (room (begun_page a)) x) a.start.mark;
      guard : SameGuard a b;
    }

-- what the call that writes the order promises
abbrev Written : Page → GName → List ℕ → Terms → ℕ → Page → Result (Unit {0}) NoRoom → Type 0
Written p lent id t left q r =
    let o : Listed = order_of id (terms_of t) left in
    record {
      page : q ≡ with_order p o;
      outcome : r ≡ done_if (order_fits (room p) o) p.mark;
      lent : lent ≡ lent;
      reads_back : (os : List Listed) → Holds p os → Holds q (os ++ whole_orders (room p) (o ∷ []));
      ticket : ListsATicket (terms_of t) left;
    }

written : (w : Writer) (lent fill : GName) (g : Begun) (id : List ℕ) (t : Terms) (left : ℕ) (q : Page) (r : Result (Unit {0}) NoRoom) → Begins w lent fill g → left < 2 ^ 32 → q ≡ with_order (begun_page g) (order_of id (terms_of t) left) → r ≡ done_if (order_fits (room (begun_page g)) (order_of id (terms_of t) left)) g.fill.now.mark → Written (page_of w) w.buffer.ghost_name id t left q r
written w lent fill g id t left q r begins small page outcome =
    let o : Listed = order_of id (terms_of t) left in
    let p : Page = begun_page g in
    let same : p ≡ page_of w = cc (begins.buffer.1, ap (λ (f : Fill). f.mark) begins.fill.1) in
    subst (λ p. Written p w.buffer.ghost_name id t left q r) same (record {
      page = page;
      outcome = outcome;
      lent = refl;
      reads_back = λ os h. subst (λ x. Holds x (os ++ whole_orders (room p) (o ∷ []))) (sym page) (holds_order p o os h (lawful_width (room p) id t left small));
      ticket = ticket_back t left;
    })

module _ {g : Begun} {id : List ℕ} {t : Terms} {left : ℕ} {rest : List Tagged} {tag : ℕ} {x v : List ℕ} {a : Begun} (r : Under g id t left (record { tag = tag; value = x } ∷ rest) a) (b : Begun) (same : v ≡ x) where
  pub put : Puts a b (record { tag = tag; value = v }) (Ok tt) → Under g id t left rest b
  put h = record {
    come = further r.come v same _ h.page h.outcome;
    guard = (h.guard.0 ∙ r.guard.0, h.guard.1 ∙ r.guard.1, h.guard.2 ∙ r.guard.2);
  }

  -- a field that does not fit, and the guard that puts the mark back
  pub refused : (w : Writer) {lent fill : GName} {e : NoRoom} {is y : List ℕ} {f : Fill} {answer : Result (Unit {0}) NoRoom} → Begins w lent fill g → Puts a b (record { tag = tag; value = v }) (Err e) → record { buffer : y ≡ b.buffer.now; fill : f ≡ b.start } → IsErrAnd answer (λ z. z ≡ e) → left < 2 ^ 32 → (lent ≡ b.buffer.ghost_name → is ≡ y) → Written (page_of w) w.buffer.ghost_name id t left (record { bytes = is; mark = f.mark }) answer
  refused w {is = is} {f = f} {answer} begins h gone told small back =
      let s = stopped r.come v same _ h.page _ h.outcome in
      let start : a.start ≡ g.fill.now = r.guard.2 ∙ begins.start ∙ sym begins.fill.1 in
      let z = err_from_is_err_and answer told in
      written w _ _ g id t left _ _ begins small
      (refused_page g.buffer.now is g.fill.now.mark (order_of id (terms_of t) left) f.mark (s.0, back (sym (h.guard.0 ∙ r.guard.0 ∙ begins.buffer.0)) ∙ gone.buffer ∙ s.1) (ap (λ (f : Fill). f.mark) (gone.fill ∙ h.guard.2 ∙ start)))
      (z.1 ∙ ap Err z.2 ∙ refused_answer _ _ _ _ _ h.outcome s.0 (ap (λ (f : Fill). f.mark) start))

-- the row of the offset is a field, or nothing
module _ {g : Begun} {id : List ℕ} {t : Terms} {left : ℕ} {b : Begun} (r : FieldsPut 4 g id t left b) where
  pub offset_left : (of_z w32 t.offset ≡ 0 → ⊥) → Under g id t left (record { tag = 5; value = signed_bytes t.offset } ∷ []) b
  unfolding order_fields
  offset_left h = record { come = reworded r.come (offset_there (order_of id (terms_of t) left) (not_zero t.offset h)); guard = r.guard }

  pub none_left : of_z w32 t.offset ≡ 0 → Under g id t left [] b
  unfolding order_fields
  none_left h = record { come = reworded r.come (offset_absent (order_of id (terms_of t) left) (zero_is t.offset t.offset_lawful h)); guard = r.guard }

-- all fields are put, and the mark stays
pub whole : (w : Writer) {lent fill : GName} {g b : Begun} {id : List ℕ} {t : Terms} {left : ℕ} {is y : List ℕ} {f : Fill} → Begins w lent fill g → Under g id t left [] b → record { buffer : y ≡ b.buffer.now; fill : f ≡ b.fill.now } → left < 2 ^ 32 → (lent ≡ b.buffer.ghost_name → is ≡ y) → Written (page_of w) w.buffer.ghost_name id t left (record { bytes = is; mark = f.mark }) (Ok tt)
whole w {g = g} {id = id} {t = t} {left = left} {is = is} {f = f} begins r gone small back =
    let s = finished r.come in
    written w _ _ g id t left _ _ begins small
    (whole_page g.buffer.now is g.fill.now.mark (order_of id (terms_of t) left) f.mark f.mark (s.0, back (sym (r.guard.0 ∙ begins.buffer.0)) ∙ gone.buffer ∙ s.1, ap (λ (f : Fill). f.mark) gone.fill ∙ s.2) refl)
    (sym (ap (λ t. done_if t g.fill.now.mark) s.0))
