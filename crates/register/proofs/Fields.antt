-- Writing field after field: how far the fields of an order have come into a buffer. Cite begun, then further for each
-- field that was put; at the end stopped or finished, and with these refused_page, whole_page and their outcomes.
use Rattle.std.proofs.Common.{◌≡◌, ℕ, ◌+◌, ◌-◌, Bool, true, false, ◌&&◌, leb, List, [], ◌∷◌, ◌++◌, length, Ok, Err, sym, refl, ap, ◌∙◌, subst, append_assoc, append-nil, add-zero, arith}
use Rattle.std.specs.List.{flat_map}
use Rattle.std.proofs.lemmas.List.{length-append}
use Rattle.std.proofs.lemmas.Bool.{leb-true, and_parts, cond-true, cond-false}
use Rattle.register.specs.Layout.{Listed}
use Rattle.register.specs.declared.writer.NoRoom.{NoRoom}
use Rattle.register.specs.Orders.{Tagged, tagged_bytes, order_bytes}
use Rattle.register.specs.Filling.{Page, room, put_at, fits, all_fit, fitted, with_field, order_fits, fitted_fields, with_order}
use Rattle.register.specs.Refusal.{done_if}
use Rattle.register.proofs.Pages.{put_none, length_put, put_put}

-- what an answer says of its test
pub passed : (b : Bool) (place : ℕ) → Ok tt ≡ done_if b place → b ≡ true
passed true place h = refl
passed false place h = let z : ◌≡◌ {A = ℕ} 0 1 = cc in absurd (omega arith)

pub failed : (b : Bool) (place : ℕ) (x : NoRoom) → Err x ≡ done_if b place → b ≡ false
failed true place x h = let z : ◌≡◌ {A = ℕ} 0 1 = cc in absurd (omega arith)
failed false place x h = refl

-- the fields before `rest` are in the buffer, from the mark m on, and the page has come so far
pub record Come (was : List ℕ) (m : ℕ) (all rest : List Tagged) (p : Page) : Type 0 where
  pub done : List ℕ
  pub bytes : p.bytes ≡ put_at was m done
  pub mark : p.mark ≡ m + length done
  pub long : length p.bytes ≡ length was
  pub fit : all_fit (length was - m) all ≡ all_fit (length was - (m + length done)) rest
  pub part : fitted (length was - m) all ≡ done ++ fitted (length was - (m + length done)) rest
  pub whole : flat_map tagged_bytes all ≡ done ++ flat_map tagged_bytes rest

pub begun : (p : Page) {q : Page} (all : List Tagged) → q ≡ p → Come p.bytes p.mark all all q
begun p {q} all e =
    record {
      done = [];
      bytes = ap (λ (x : Page). x.bytes) e ∙ sym (put_none p.bytes p.mark);
      mark = ap (λ (x : Page). x.mark) e ∙ sym (add-zero p.mark);
      long = ap (λ (x : Page). length x.bytes) e;
      fit = ap (λ k. all_fit (length p.bytes - k) all) (sym (add-zero p.mark));
      part = ap (λ k. fitted (length p.bytes - k) all) (sym (add-zero p.mark));
      whole = refl;
    }

module _ {was : List ℕ} {m : ℕ} {all rest : List Tagged} {t : Tagged} {p : Page} (r : Come was m all (t ∷ rest) p) where
  same_room : room p ≡ length was - (m + length r.done)
  same_room = ap (λ n. n - p.mark) r.long ∙ ap (λ n. length was - n) r.mark

  fits_there : fits (room p) t ≡ true → fits (length was - (m + length r.done)) t ≡ true
  fits_there h = ap (λ n. fits n t) (sym same_room) ∙ h

  with_one : {q : Page} → q ≡ with_field p t → fits (room p) t ≡ true → Come was m all rest q
  with_one {q} e h =
      let done = r.done in
      let bs = tagged_bytes t in
      let put = e ∙ cond-true (fits (room p) t) (record { bytes = put_at p.bytes p.mark bs; mark = p.mark + length bs }) p h in
      let there = fits_there h in
      let le = leb-true (length bs) (length was - (m + length done)) (and_parts (leb (length t.value) 65535) (leb (length bs) (length was - (m + length done))) there).1 in
      let longer = length-append done bs in
      let next : length was - (m + length done) - length bs ≡ length was - (m + length (done ++ bs)) = omega arith in
      let is : q.bytes ≡ put_at was m (done ++ bs) =
      ap (λ (x : Page). x.bytes) put
      ∙ ap (λ n. put_at p.bytes n bs) r.mark
      ∙ ap (λ xs. put_at xs (m + length done) bs) r.bytes
      ∙ put_put was m done bs (omega arith) in
      record {
        done = done ++ bs;
        bytes = is;
        mark = ap (λ (x : Page). x.mark) put ∙ omega (arith, r.mark);
        long = ap length is ∙ length_put was m (done ++ bs) (omega arith);
        fit = r.fit ∙ ap (λ b. b && all_fit (length was - (m + length done) - length bs) rest) there ∙ ap (λ n. all_fit n rest) next;
        part = r.part
            ∙ ap (λ xs. done ++ xs) (cond-true (fits (length was - (m + length done)) t) (bs ++ fitted (length was - (m + length done) - length bs) rest) [] there)
            ∙ sym (append_assoc done bs (fitted (length was - (m + length done) - length bs) rest))
            ∙ ap (λ n. (done ++ bs) ++ fitted n rest) next;
        whole = r.whole ∙ sym (append_assoc done bs (flat_map tagged_bytes rest));
      }

  without_it : {q : Page} → q ≡ with_field p t → fits (room p) t ≡ false → (all_fit (length was - m) all ≡ false) × (q.bytes ≡ put_at was m (fitted (length was - m) all))
  without_it {q} e h =
      let done = r.done in
      let there : fits (length was - (m + length done)) t ≡ false = ap (λ n. fits n t) (sym same_room) ∙ h in
      let same = e ∙ cond-false (fits (room p) t) (record { bytes = put_at p.bytes p.mark (tagged_bytes t); mark = p.mark + length (tagged_bytes t) }) p h in
      let nothing_more : fitted (length was - m) all ≡ done =
      r.part
      ∙ ap (λ xs. done ++ xs) (cond-false (fits (length was - (m + length done)) t) (tagged_bytes t ++ fitted (length was - (m + length done) - length (tagged_bytes t)) rest) [] there)
      ∙ append-nil done in (
        r.fit ∙ ap (λ b. b && all_fit (length was - (m + length done) - length (tagged_bytes t)) rest) there,
        ap (λ (x : Page). x.bytes) same ∙ r.bytes ∙ ap (put_at was m) (sym nothing_more),
      )

-- the same by what the call that puts the field says, of a value that is that of the row
module _ {was : List ℕ} {m tag : ℕ} {w : List ℕ} {all rest : List Tagged} {p q : Page} (r : Come was m all (record { tag = tag; value = w } ∷ rest) p) (v : List ℕ) (same : v ≡ w) (place : ℕ) (e : q ≡ with_field p (record { tag = tag; value = v })) where
  as_row : q ≡ with_field p (record { tag = tag; value = w })
  as_row = e ∙ ap (λ x. with_field p (record { tag = tag; value = x })) same

  as_test : (b : Bool) → fits (room p) (record { tag = tag; value = v }) ≡ b → fits (room p) (record { tag = tag; value = w }) ≡ b
  as_test b h = ap (λ x. fits (room p) (record { tag = tag; value = x })) (sym same) ∙ h

  pub further : Ok tt ≡ done_if (fits (room p) (record { tag = tag; value = v })) place → Come was m all rest q
  further h = with_one r as_row (as_test true (passed _ place h))

  pub stopped : (x : NoRoom) → Err x ≡ done_if (fits (room p) (record { tag = tag; value = v })) place → (all_fit (length was - m) all ≡ false) × (q.bytes ≡ put_at was m (fitted (length was - m) all))
  stopped x h = without_it r as_row (as_test false (failed _ place x h))

-- the same rows in other words
pub reworded : {was : List ℕ} {m : ℕ} {all rest other : List Tagged} {p : Page} → Come was m all rest p → rest ≡ other → Come was m all other p
reworded {was} {m} {all} {p = p} r e = subst (λ rows. Come was m all rows p) e r

pub finished : {was : List ℕ} {m : ℕ} {all : List Tagged} {p : Page} → Come was m all [] p → (all_fit (length was - m) all ≡ true) × (p.bytes ≡ put_at was m (flat_map tagged_bytes all)) × (p.mark ≡ m + length (flat_map tagged_bytes all))
finished {was} {m} {all} r =
    let whole : flat_map tagged_bytes all ≡ r.done = r.whole ∙ append-nil r.done in
    (r.fit, r.bytes ∙ ap (put_at was m) (sym whole), r.mark ∙ ap (λ xs. m + length xs) (sym whole))

-- the page and the answer of an order, by what became of its fields
pub refused_answer : (b fit : Bool) (place m : ℕ) (x : NoRoom) → Err x ≡ done_if b place → fit ≡ false → place ≡ m → Err x ≡ done_if fit m
refused_answer true fit place m x h f e = let z : ◌≡◌ {A = ℕ} 0 1 = cc in absurd (omega arith)
refused_answer false fit place m x h f e = h ∙ ap (done_if false) e ∙ ap (λ t. done_if t m) (sym f)

module _ (was is : List ℕ) (m : ℕ) (o : Listed) where
  pub refused_page : (n : ℕ) → (order_fits (length was - m) o ≡ false) × (is ≡ put_at was m (fitted_fields (length was - m) o)) → n ≡ m → ◌≡◌ {A = Page} (record { bytes = is; mark = n }) (with_order (record { bytes = was; mark = m }) o)
  refused_page n h e =
      let made : ◌≡◌ {A = Page} (record { bytes = is; mark = n }) (record { bytes = put_at was m (fitted_fields (length was - m) o); mark = m }) = let b = h.1 in cc in
      made ∙ sym (cond-false (order_fits (length was - m) o) _ _ h.0)

  pub whole_page : (n k : ℕ) → (order_fits (length was - m) o ≡ true) × (is ≡ put_at was m (order_bytes o)) × (k ≡ m + length (order_bytes o)) → n ≡ k → ◌≡◌ {A = Page} (record { bytes = is; mark = n }) (with_order (record { bytes = was; mark = m }) o)
  whole_page n k h e =
      let made : ◌≡◌ {A = Page} (record { bytes = is; mark = n }) (record { bytes = put_at was m (order_bytes o); mark = m + length (order_bytes o) }) = let b = h.1 in let c = h.2 in cc in
      made ∙ sym (cond-true (order_fits (length was - m) o) _ _ h.0)
