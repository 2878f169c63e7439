-- One row changed in place, as the rule book changes its list of orders. A change that alters only the order with the number k
-- is ByNumber; since entry numbers ascend, no other row has that number, so the change of the list is the change of that one
-- row. Cite: lower_at, without_at for the row at an index, absent where no order has the number,
-- rising_set for the ascending numbers, only_shares for what stays of the rows.
use Rattle.std.proofs.Common.{◌≡◌, ℕ, zero, suc, ◌-◌, ◌<◌, ◌≤◌, true, ◌&&◌, eqb, ltb, leb, List, [], ◌∷◌, map, length, get_or, set, Some, None, sym, refl, ap, ◌∙◌, inl, inr, arith}
use Rattle.std.proofs.lemmas.List.{map-set, get_or-map, set-get_or, get_or-set_other, length-set}
use Rattle.std.proofs.lemmas.Bool.{ltb-true, lt-ltb, le-ltb, leb-true, leb-false, eqb-false, eq-eqb, ne_eqb, and_parts, cases_Bool}
use Rattle.rules.specs.Market.{Order, resting, without, less, lowered, lower}
use Rattle.rules.proofs.Cases.{if_both, if_true, if_false, none_some}
use Rattle.market.specs.declared.table.Row.{Row}
use Rattle.market.specs.Rows.{row_order, rising, rests, orders_in}
use Rattle.market.specs.Changes.{RestsAt, OnlySharesOf, with_left}
use Rattle.market.proofs.Found.{orders_in_resting, orders_in_spent}

-- the change leaves every order but number k where it is
pub record ByNumber (k : ℕ) (F : List Order → List Order) : Type 0 where
  pub none : F [] ≡ []
  pub other : (o : Order) (os : List Order) → (o.number ≡ k → ⊥) → F (o ∷ os) ≡ o ∷ F os

pub lower_by_number : (k n : ℕ) → ByNumber k (lower k n)
unfolding lower
lower_by_number k n =
    record {
      none = refl;
      other = λ o os ne. if_false (eqb o.number k) (lowered n o (lower k n os)) (o ∷ lower k n os) (ne_eqb o.number k ne);
    }

pub without_by_number : (k : ℕ) → ByNumber k (without k)
unfolding without
without_by_number k =
    record {
      none = refl;
      other = λ o os ne. if_false (eqb o.number k) (without k os) (o ∷ without k os) (ne_eqb o.number k ne);
    }

-- where no order has the number, nothing changes
pub absent : (k : ℕ) (F : List Order → List Order) → ByNumber k F → (os : List Order) → resting k os ≡ None → F os ≡ os
unfolding resting
absent k F by [] = λ _. by.none
absent k F by (o ∷ os) =
    if_both (eqb o.number k) (Some o) (resting k os) (λ r. r ≡ None → F (o ∷ os) ≡ o ∷ os)
    (λ _ e. absurd (none_some (Some o) o e refl))
    (λ f e. by.other o os (eqb-false o.number k f) ∙ ap (λ xs. o ∷ xs) (absent k F by os e))

-- entry numbers ascend, so those of later rows are above
pub above : (low : ℕ) (rs : List Row) (i : ℕ) (d : Row) → rising low rs ≡ true → i < length rs → low < (get_or rs i d).number
above low [] i d up lt = omega arith
above low (r ∷ rs) zero d up lt = ltb-true low r.number (and_parts _ _ up).0
above low (r ∷ rs) (suc i) d up lt =
    let parts = and_parts (ltb low r.number) (rising r.number rs) up in
    let first : low < r.number = ltb-true low r.number parts.0 in
    let later : r.number < (get_or rs i d).number = above r.number rs i d parts.1 (omega arith) in
    omega arith

pub none_below : (k low : ℕ) (rs : List Row) → rising low rs ≡ true → k ≤ low → resting k (orders_in rs) ≡ None
unfolding orders_in resting
none_below k low [] up le = refl
none_below k low (r ∷ rs) up le =
    let parts = and_parts (ltb low r.number) (rising r.number rs) up in
    let first : low < r.number = ltb-true low r.number parts.0 in
    let rest : resting k (orders_in rs) ≡ None = none_below k r.number rs parts.1 (omega arith) in
    if_both (rests r) (row_order r ∷ orders_in rs) (orders_in rs) (λ os. resting k os ≡ None)
    (λ _. if_false (eqb r.number k) (Some (row_order r)) (resting k (orders_in rs)) (ne_eqb r.number k (λ e. omega arith)) ∙ rest)
    (λ _. rest)

pub passed : (k : ℕ) (F : List Order → List Order) → ByNumber k F → (r : Row) (rs after : List Row) → (r.number ≡ k → ⊥)
    → orders_in after ≡ F (orders_in rs) → orders_in (r ∷ after) ≡ F (orders_in (r ∷ rs))
passed k F by r rs after ne rest =
    elim (cases_Bool (rests r)) [
      | inl t ↦ orders_in_resting r after t
          ∙ ap (λ xs. row_order r ∷ xs) rest
          ∙ sym (ap F (orders_in_resting r rs t) ∙ by.other (row_order r) (orders_in rs) ne)
      | inr t ↦ orders_in_spent r after t ∙ rest ∙ sym (ap F (orders_in_spent r rs t))
    ]

-- the change of the list of orders is the change of the one row that has the number
pub changed_at : (k : ℕ) (F : List Order → List Order) → ByNumber k F → (low : ℕ) (rs : List Row) (i : ℕ) (d new : Row)
    → rising low rs ≡ true → i < length rs → (get_or rs i d).number ≡ k → rests (get_or rs i d) ≡ true
    → ((later : List Row) → F (orders_in later) ≡ orders_in later → F (row_order (get_or rs i d) ∷ orders_in later) ≡ orders_in (new ∷ later))
    → orders_in (set rs i new) ≡ F (orders_in rs)
changed_at k F by low [] i d new up lt e t here = let none : ⊥ = omega arith in absurd none
changed_at k F by low (r ∷ rs) zero d new up lt e t here =
    let parts = and_parts (ltb low r.number) (rising r.number rs) up in
    let none : resting k (orders_in rs) ≡ None = none_below k r.number rs parts.1 (omega arith) in
    sym (ap F (orders_in_resting r rs t) ∙ here rs (absent k F by (orders_in rs) none))
changed_at k F by low (r ∷ rs) (suc i) d new up lt e t here =
    let parts = and_parts (ltb low r.number) (rising r.number rs) up in
    let within : i < length rs = omega arith in
    let later : r.number < (get_or rs i d).number = above r.number rs i d parts.1 within in
    let rest : orders_in (set rs i new) ≡ F (orders_in rs) = changed_at k F by r.number rs i d new parts.1 within e t here in
    passed k F by r rs (set rs i new) (λ f. omega arith) rest

lowered_row : (k n : ℕ) (r : Row) (later : List Row) → r.number ≡ k → lower k n (orders_in later) ≡ orders_in later
    → lower k n (row_order r ∷ orders_in later) ≡ orders_in (with_left (r.left - n) r ∷ later)
unfolding lower
lowered_row k n r later e same =
    if_true (eqb r.number k) (lowered n (row_order r) (lower k n (orders_in later))) (row_order r ∷ lower k n (orders_in later)) (eq-eqb r.number k e)
    ∙ if_both (leb r.left n) (lower k n (orders_in later)) (less n (row_order r) ∷ lower k n (orders_in later))
    (λ os. os ≡ orders_in (with_left (r.left - n) r ∷ later))
    (λ t. let le : r.left ≤ n = leb-true r.left n t in
    same ∙ sym (orders_in_spent (with_left (r.left - n) r) later (le-ltb 0 (r.left - n) (omega arith))))
    (λ f. let lt : n < r.left = leb-false r.left n f in
    ap (λ os. less n (row_order r) ∷ os) same ∙ sym (orders_in_resting (with_left (r.left - n) r) later (lt-ltb 0 (r.left - n) (omega arith))))

-- lowering the order with that number lowers its row r, which stands at i
pub lower_at : (k n : ℕ) (rs : List Row) (i : ℕ) (r : Row) (left : ℕ) → rising 0 rs ≡ true → RestsAt rs k i → r ≡ get_or rs i r → left ≡ r.left - n
    → orders_in (set rs i (with_left left r)) ≡ lower k n (orders_in rs)
lower_at k n rs i r left up at is fewer =
    let new : with_left left r ≡ with_left ((get_or rs i r).left - n) (get_or rs i r) =
    ap (λ m. with_left m r) fewer ∙ ap (λ (x : Row). with_left (x.left - n) x) is
    in
    ap (λ x. orders_in (set rs i x)) new
    ∙ changed_at k (lower k n) (lower_by_number k n) 0 rs i r (with_left ((get_or rs i r).left - n) (get_or rs i r)) up at.within (at.number r) (at.rests r)
    (λ later same. lowered_row k n (get_or rs i r) later (at.number r) same)

left_row : (k : ℕ) (r : Row) (later : List Row) → r.number ≡ k → without k (orders_in later) ≡ orders_in later
    → without k (row_order r ∷ orders_in later) ≡ orders_in (with_left 0 r ∷ later)
unfolding without
left_row k r later e same =
    if_true (eqb r.number k) (without k (orders_in later)) (row_order r ∷ without k (orders_in later)) (eq-eqb r.number k e)
    ∙ same
    ∙ sym (orders_in_spent (with_left 0 r) later refl)

-- the order with that number leaves as its row r, which stands at i, has no shares left
pub without_at : (k : ℕ) (rs : List Row) (i : ℕ) (r : Row) → rising 0 rs ≡ true → RestsAt rs k i → r ≡ get_or rs i r
    → orders_in (set rs i (with_left 0 r)) ≡ without k (orders_in rs)
without_at k rs i r up at is =
    ap (λ (x : Row). orders_in (set rs i (with_left 0 x))) is
    ∙ changed_at k (without k) (without_by_number k) 0 rs i r (with_left 0 (get_or rs i r)) up at.within (at.number r) (at.rests r)
    (λ later same. left_row k (get_or rs i r) later (at.number r) same)

-- other shares left keep the numbers ascending
pub rising_set : (low : ℕ) (rs : List Row) (i : ℕ) (r : Row) (left : ℕ) → r ≡ get_or rs i r → rising low (set rs i (with_left left r)) ≡ rising low rs
rising_set low [] i r left is = refl
rising_set low (x ∷ rs) zero r left is = ap (λ (y : Row). ltb low y.number && rising y.number rs) is
rising_set low (x ∷ rs) (suc i) r left is = ap (λ b. ltb low x.number && b) (rising_set x.number rs i r left is)

-- a row changed in its shares alone
pub only_shares : (k : ℕ) (rs : List Row) (i : ℕ) (r : Row) (left : ℕ) → RestsAt rs k i → r ≡ get_or rs i r → OnlySharesOf k rs (set rs i (with_left left r))
only_shares k rs i r left at is =
    let kept : map (with_left 0) (set rs i (with_left left r)) ≡ map (with_left 0) rs =
    map-set (with_left 0) rs i (with_left left r)
    ∙ ap (set (map (with_left 0) rs) i) (ap (with_left 0) is ∙ sym (get_or-map (with_left 0) rs i r r at.within))
    ∙ set-get_or (map (with_left 0) rs) i r
    in
    record {
      count = length-set rs i (with_left left r);
      same = kept;
      others = λ j d other. get_or-set_other rs i j (with_left left r) d (λ h. other (ap (λ m. (get_or rs m d).number) h ∙ at.number d));
    }
