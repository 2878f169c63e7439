-- What is written of one line is what is read of it. The bytes of a line are written out, so every place in them computes;
-- `number_same` carries a number from one list to another whose bytes agree.
-- Cite `line_same` for bytes that agree, `line_spelled` and `read_spelled` for a line's own bytes.
use Rattle.std.proofs.Common.{◌≡◌, ℕ, zero, suc, ◌+◌, ◌*◌, ◌%◌, ◌^◌, ◌<◌, ◌≤◌, Bool, true, false, cond, List, length, get_or, take, drop, Some, None, sym, refl, ap, ◌∙◌, add-zero, add_assoc, zero-add, arith, w32, w64, get_or-take, get_or-drop}
use Rattle.std.specs.Int.{from_be_bytes}
use Rattle.std.specs.Str.{bytes_eq}
use Rattle.std.proofs.lemmas.Nat.{from_be_bytes-to_be_bytes_4, from_be_bytes-to_be_bytes_8}
use Rattle.std.proofs.lemmas.Slice.Eq.{bytes_eq-Decides}
use Rattle.tape.specs.declared.line.Line.{Line}
use Rattle.tape.specs.declared.line.Mark.{Mark}
use Rattle.tape.specs.declared.line.Mark.TheVariants.{Nothing, BidDepleted, OfferDepleted}
use Rattle.tape.specs.Layout.{mark_code, mark_of, bytes_of, line_bytes, number_at, line_at, line_read, InWidth}

pub length_line : (l : Line) → length (line_bytes l) ≡ 43
unfolding line_bytes
length_line l = refl

number_same : (xs ys : List ℕ) (a b n : ℕ) → ((k : ℕ) → k < n → get_or xs (a + k) 0 ≡ get_or ys (b + k) 0) → number_at xs a n ≡ number_at ys b n
number_same xs ys a b zero h = refl
number_same xs ys a b (suc zero) h =
    ap (λ i. get_or xs i 0) (sym (add-zero a)) ∙ h 0 (omega arith) ∙ ap (λ i. get_or ys i 0) (add-zero b)
number_same xs ys a b (suc (suc n)) h =
    let front = number_same xs ys a b (suc n) (λ k lt. h k (omega arith)) in
    let here = h (suc n) (omega arith) in
    ap (λ i. i * 256 + get_or xs (a + suc n) 0) front ∙ ap (λ i. number_at ys b (suc n) * 256 + i) here

-- a number read of the bytes that stand there
read_there : (xs ys : List ℕ) (at n : ℕ) → ys ≡ take n (drop at xs) → number_at ys 0 n ≡ number_at xs at n
read_there xs ys at n is =
    number_same ys xs 0 at n (λ k lt.
    ap (λ zs. get_or zs (0 + k) 0) is ∙ get_or-take n (drop at xs) (0 + k) 0 (omega arith) ∙ get_or-drop at xs (0 + k) 0 ∙ ap (λ i. get_or xs (at + i) 0) (zero-add k))

pub eight_read : (xs ys : List ℕ) (at : ℕ) → ys ≡ take 8 (drop at xs) → from_be_bytes w64 ys ≡ number_at xs at 8
eight_read xs ys at is = let horner : from_be_bytes w64 ys ≡ number_at ys 0 8 = omega arith in horner ∙ read_there xs ys at 8 is

pub four_read : (xs ys : List ℕ) (at : ℕ) → ys ≡ take 4 (drop at xs) → from_be_bytes w32 ys ≡ number_at xs at 4
four_read xs ys at is = let horner : from_be_bytes w32 ys ≡ number_at ys 0 4 = omega arith in horner ∙ read_there xs ys at 4 is

-- the value that begins at a place p of the line
value_same : (xs ys : List ℕ) (a b p n : ℕ) → p + n ≤ 43 → ((k : ℕ) → k < 43 → get_or xs (a + k) 0 ≡ get_or ys (b + k) 0) → number_at xs (a + p) n ≡ number_at ys (b + p) n
value_same xs ys a b p n fits h =
    number_same xs ys (a + p) (b + p) n (λ k lt.
    ap (λ i. get_or xs i 0) (add_assoc a p k) ∙ h (p + k) (omega arith) ∙ ap (λ i. get_or ys i 0) (sym (add_assoc b p k)))

abbrev pub made : ℕ → ℕ → ℕ → ℕ → ℕ → Mark → Line
made t p k s c m = record { time = t; partner = p; taker = k; shares = s; price = c; mark = m }

pub line_eq : (t t' p p' k k' s s' c c' : ℕ) (m m' : Mark) → t ≡ t' → p ≡ p' → k ≡ k' → s ≡ s' → c ≡ c' → m ≡ m' → made t p k s c m ≡ made t' p' k' s' c' m'
line_eq t t' p p' k k' s s' c c' m m' e1 e2 e3 e4 e5 e6 = cc

pub line_same : (xs ys : List ℕ) (a b : ℕ) → ((k : ℕ) → k < 43 → get_or xs (a + k) 0 ≡ get_or ys (b + k) 0) → line_at xs a ≡ line_at ys b
unfolding line_at
line_same xs ys a b h =
    line_eq _ _ _ _ _ _ _ _ _ _ _ _
    (value_same xs ys a b 3 8 (omega arith) h)
    (value_same xs ys a b 14 4 (omega arith) h)
    (value_same xs ys a b 21 4 (omega arith) h)
    (value_same xs ys a b 28 4 (omega arith) h)
    (value_same xs ys a b 35 4 (omega arith) h)
    (ap mark_of (value_same xs ys a b 42 1 (omega arith) h))

-- a number read of its own bytes
four_bytes : (x : ℕ) → x < 2 ^ 32 → number_at (bytes_of 4 x) 0 4 ≡ x
four_bytes x lt = omega (arith, from_be_bytes-to_be_bytes_4 x lt)

eight_bytes : (x : ℕ) → x < 2 ^ 64 → number_at (bytes_of 8 x) 0 8 ≡ x
eight_bytes x lt = omega (arith, from_be_bytes-to_be_bytes_8 x lt)

mark_back : (m : Mark) → mark_of (mark_code m % 256) ≡ m
mark_back Nothing = refl
mark_back BidDepleted = refl
mark_back OfferDepleted = refl

-- reading a line's own bytes
pub line_spelled : (l : Line) → InWidth l → line_at (line_bytes l) 0 ≡ l
unfolding line_at line_bytes
line_spelled l w =
    line_eq _ _ _ _ _ _ _ _ _ _ _ _ (eight_bytes l.time w.0) (four_bytes l.partner w.1) (four_bytes l.taker w.2) (four_bytes l.shares w.3) (four_bytes l.price w.4) (mark_back l.mark)

pub read_spelled : (l : Line) → InWidth l → line_read (line_bytes l) ≡ Some l
read_spelled l w =
    let back = line_spelled l w in
    let same : bytes_eq (line_bytes l) (line_bytes (line_at (line_bytes l) 0)) ≡ true = (bytes_eq-Decides _ _).1 (ap line_bytes (sym back)) in
    ap (λ b. cond b (Some (line_at (line_bytes l) 0)) None) same ∙ ap Some back

-- too few bytes spell nothing
unread_by : (b : Bool) (xs : List ℕ) (l : Line) → (length xs ≡ 43 → ⊥) → bytes_eq xs (line_bytes l) ≡ b → cond b (Some l) None ≡ None
unread_by true xs l short e = absurd (short (ap length ((bytes_eq-Decides xs (line_bytes l)).0 e) ∙ length_line l))
unread_by false xs l short e = refl

pub unread : (xs : List ℕ) → (length xs ≡ 43 → ⊥) → line_read xs ≡ None
unread xs short = unread_by (bytes_eq xs (line_bytes (line_at xs 0))) xs (line_at xs 0) short refl
