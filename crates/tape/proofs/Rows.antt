-- Lines in a row, 43 bytes each: what one more line leaves of those before it, and reading a row of lines by place.
-- Cite `tape_lines_more`, `tape_free_less` and `tape_row_more` after a line is written, `lines_place` and `lines_past` where one is read, `row_reads_back` for a whole row.
use Rattle.std.proofs.Common.{◌≡◌, ℕ, zero, suc, ◌+◌, ◌-◌, ◌*◌, ◌/◌, ◌<◌, ◌≤◌, min, List, [], ◌∷◌, ◌++◌, length, get_or, take, drop, Some, None, sym, refl, ap, ◌∙◌, append_assoc, append-nil, not-suc-le-zero, zero-add, arith, length-append, length-drop, length-take, get_or-take, take_at, get_or-append-add}
use lib.Seq.{drop-append-add, paste}
use Rattle.std.specs.List.{AllByRecursion, slice_get}
use Rattle.std.proofs.lemmas.List.{get_or_append_left, take_all, take_more, drop-drop}
use Rattle.std.proofs.lemmas.List.Edits.{paste_all, length-paste, take-paste}
use Rattle.std.proofs.lemmas.Option.{slice_get-get_or, slice_get_past}
use Rattle.std.proofs.lemmas.List.FromFn.{length-map-range_with_len, get_or-map-range_with_len, map-range_with_len_more, fill_by_all}
use Rattle.roll.specs.Rolls.{at_place}
use Rattle.tape.specs.declared.line.Line.{Line}
use Rattle.tape.specs.declared.line.Mark.TheVariants.{Nothing}
use Rattle.tape.specs.Layout.{line_bytes, tape_bytes, line_at, lines_in, line_read, line_in, InWidth}
use Rattle.tape.proofs.Spelling.{length_line, line_same, line_spelled, read_spelled, unread}

blank : Line
blank = record { time = 0; partner = 0; taker = 0; shares = 0; price = 0; mark = Nothing }

-- a line that was written over 43 bytes, and the bytes before it
pub pasted_is : (xs : List ℕ) (at : ℕ) (l : Line) → paste xs at (line_bytes l) 43 ≡ take at xs ++ (line_bytes l ++ drop (at + 43) xs)
pasted_is xs at l = paste_all xs at (line_bytes l) 43 (sym (length_line l))

-- the same, of the bytes after n lines
pub row_pasted : (xs : List ℕ) (n : ℕ) (l : Line) → take (n * 43) xs ++ (line_bytes l ++ drop 43 (drop (n * 43) xs)) ≡ paste xs (n * 43) (line_bytes l) 43
row_pasted xs n l =
    ap (λ ys. take (n * 43) xs ++ (line_bytes l ++ ys)) (drop-drop 43 (n * 43) xs ∙ ap (λ m. drop m xs) (omega arith))
    ∙ sym (pasted_is xs (n * 43) l)

pub line_count : (xs : List ℕ) (n : ℕ) → length (lines_in xs n) ≡ n
line_count xs n = length-map-range_with_len (λ i. line_at xs (i * 43)) 0 n

pub pasted_here : (xs : List ℕ) (at : ℕ) (l : Line) → at + 43 ≤ length xs → InWidth l → line_at (paste xs at (line_bytes l) 43) at ≡ l
pasted_here xs at l fits w =
    let front : length (take at xs) ≡ at = length-take at xs ∙ omega arith in
    let rest = line_bytes l ++ drop (at + 43) xs in
    let len = length_line l in
    ap (λ ys. line_at ys at) (pasted_is xs at l)
    ∙ line_same (take at xs ++ rest) (line_bytes l) at 0 (λ k lt.
    ap (λ i. get_or (take at xs ++ rest) (i + k) 0) (sym front)
    ∙ get_or-append-add (take at xs) rest k 0
    ∙ get_or_append_left (line_bytes l) (drop (at + 43) xs) 0 k (omega arith)
    ∙ ap (λ i. get_or (line_bytes l) i 0) (sym (zero-add k)))
    ∙ line_spelled l w

pub pasted_before : (xs : List ℕ) (at : ℕ) (l : Line) → at ≤ length xs → (k : ℕ) → k < at → get_or (paste xs at (line_bytes l) 43) k 0 ≡ get_or xs k 0
pasted_before xs at l le k lt =
    let len : k < length (take at xs) = simp length-take (omega arith) in
    ap (λ ys. get_or ys k 0) (pasted_is xs at l)
    ∙ get_or_append_left (take at xs) (line_bytes l ++ drop (at + 43) xs) 0 k len
    ∙ get_or-take at xs k 0 lt

lines_same : (n : ℕ) (xs ys : List ℕ) → ((k : ℕ) → k < n * 43 → get_or xs k 0 ≡ get_or ys k 0) → lines_in xs n ≡ lines_in ys n
lines_same n xs ys h =
    fill_by_all (λ i. line_at ys (i * 43)) (lines_in xs n) n blank (length-map-range_with_len (λ i. line_at xs (i * 43)) 0 n)
    (λ k lt. get_or-map-range_with_len (λ i. line_at xs (i * 43)) 0 n k k blank lt (omega arith)
    ∙ line_same xs ys (k * 43) (k * 43) (λ j l. h (k * 43 + j) (omega arith)))

pub lines_more : (xs ys : List ℕ) (n : ℕ) (l : Line) → ((k : ℕ) → k < n * 43 → get_or ys k 0 ≡ get_or xs k 0) → line_at ys (n * 43) ≡ l → lines_in ys (n + 1) ≡ lines_in xs n ++ l ∷ []
lines_more xs ys n l h e =
    map-range_with_len_more (λ i. line_at ys (i * 43)) 0 n n (omega arith)
    ∙ ap (λ ls. ls ++ line_at ys (n * 43) ∷ []) (lines_same n ys xs h)
    ∙ ap (λ x. lines_in xs n ++ x ∷ []) e

pub lines_place : (xs : List ℕ) (n place i : ℕ) → place ≡ suc i → i < n → Some (line_at xs (i * 43)) ≡ at_place (lines_in xs n) place
lines_place xs n place i is lt =
    let len = length-map-range_with_len (λ j. line_at xs (j * 43)) 0 n in
    ap Some (sym (get_or-map-range_with_len (λ j. line_at xs (j * 43)) 0 n i i blank lt (omega arith)))
    ∙ sym (slice_get-get_or (lines_in xs n) i blank (omega arith))
    ∙ ap (at_place (lines_in xs n)) (sym is)

pub lines_past : (xs : List ℕ) (n place i : ℕ) → place ≡ suc i → n ≤ i → None ≡ at_place (lines_in xs n) place
lines_past xs n place i is le =
    let len = length-map-range_with_len (λ j. line_at xs (j * 43)) 0 n in
    sym (slice_get_past (lines_in xs n) i (omega arith)) ∙ ap (at_place (lines_in xs n)) (sym is)

-- a row of lines, read by place
drop_none : (n : ℕ) → drop {A = ℕ} n [] ≡ []
drop_none zero = refl
drop_none (suc n) = refl

row_nth : (ls : List Line) (i : ℕ) → AllByRecursion InWidth ls → line_read (take 43 (drop (i * 43) (tape_bytes ls))) ≡ slice_get ls i
row_nth [] i ws = ap line_read (ap (take 43) (drop_none (i * 43))) ∙ unread [] (λ e. omega arith)
row_nth (l ∷ ls) zero ws = ap line_read (take_at (line_bytes l) (tape_bytes ls) 43 (length_line l)) ∙ read_spelled l ws.0
row_nth (l ∷ ls) (suc i) ws =
    let past : suc i * 43 ≡ length (line_bytes l) + i * 43 = omega (arith, length_line l) in
    ap (λ n. line_read (take 43 (drop n (line_bytes l ++ tape_bytes ls)))) past
    ∙ ap (λ xs. line_read (take 43 xs)) (drop-append-add (line_bytes l) (tape_bytes ls) (i * 43))
    ∙ row_nth ls i ws.1

pub row_reads_back : (ls : List Line) (place : ℕ) → AllByRecursion InWidth ls → line_in (tape_bytes ls) place ≡ at_place ls place
row_reads_back ls zero ws = refl
row_reads_back ls (suc i) ws = row_nth ls i ws

pub row_past : (xs : List ℕ) (place : ℕ) → length xs / 43 < place → line_in xs place ≡ None
row_past xs zero h = refl
row_past xs (suc i) h =
    let len : length (take 43 (drop (i * 43) xs)) ≡ min 43 (length xs - i * 43) = length-take 43 (drop (i * 43) xs) ∙ ap (min 43) (length-drop (i * 43) xs) in
    unread (take 43 (drop (i * 43) xs)) (λ e. omega arith)

pub row_at : (xs : List ℕ) (place at n : ℕ) → 0 < place → at ≡ (place - 1) * 43 → n ≡ 43 → line_read (take n (drop at xs)) ≡ line_in xs place
row_at xs zero at n pos e f = absurd (not-suc-le-zero pos)
row_at xs (suc i) at n pos e f =
    let begins : at ≡ i * 43 = omega arith in
    ap (λ k. line_read (take k (drop at xs))) f ∙ ap (λ k. line_read (take 43 (drop k xs))) begins

tape_push : (ls : List Line) (l : Line) → tape_bytes (ls ++ l ∷ []) ≡ tape_bytes ls ++ line_bytes l
tape_push [] l = append-nil (line_bytes l)
tape_push (x ∷ ls) l = ap (λ ys. line_bytes x ++ ys) (tape_push ls l) ∙ sym (append_assoc (line_bytes x) (tape_bytes ls) (line_bytes l))

-- one more line on a tape that holds n
module _ (xs ys : List ℕ) (n : ℕ) (l : Line) (room : n < length xs / 43) (is : ys ≡ paste xs (n * 43) (line_bytes l) 43) where
  fits : n * 43 + 43 ≤ length xs
  fits = omega arith

  same_length : length ys ≡ length xs
  same_length = ap length is ∙ length-paste xs (n * 43) (line_bytes l) 43 fits (omega (arith, length_line l))

  pub tape_within : (n + 1) * 43 ≤ length ys
  tape_within = omega (arith, fits, same_length)

  pub tape_lines_more : InWidth l → lines_in ys (n + 1) ≡ lines_in xs n ++ l ∷ []
  tape_lines_more w =
      lines_more xs ys n l
      (λ k lt. ap (λ zs. get_or zs k 0) is ∙ pasted_before xs (n * 43) l (omega (arith, fits)) k lt)
      (ap (λ zs. line_at zs (n * 43)) is ∙ pasted_here xs (n * 43) l fits w)

  pub tape_free_less : length ys / 43 - (n + 1) + 1 ≡ length xs / 43 - n
  tape_free_less = omega (arith, same_length)

  pub tape_row_more : InWidth l → take (n * 43) xs ≡ tape_bytes (lines_in xs n) → take ((n + 1) * 43) ys ≡ tape_bytes (lines_in ys (n + 1))
  tape_row_more w spelled =
      let whole : (n + 1) * 43 ≡ n * 43 + 43 = omega arith in
      let own : take 43 (line_bytes l) ≡ line_bytes l = take_all 43 (line_bytes l) (omega (arith, length_line l)) in
      ap (λ m. take m ys) whole
      ∙ ap (take (n * 43 + 43)) is
      ∙ take-paste xs (n * 43) (line_bytes l) 43 (omega (arith, fits)) (omega (arith, length_line l))
      ∙ ap (λ zs. take (n * 43) xs ++ zs) own
      ∙ ap (λ zs. zs ++ line_bytes l) spelled
      ∙ sym (tape_push (lines_in xs n) l)
      ∙ ap tape_bytes (sym (tape_lines_more w))

-- one more of some lines, written over bytes one after another
length_tape : (ls : List Line) → length (tape_bytes ls) ≡ length ls * 43
length_tape [] = refl
length_tape (l ∷ ls) = simp length-append (omega (arith, length_line l, length_tape ls))

pub row_length : (bytes : List ℕ) (ls : List Line) (i : ℕ) → i ≤ length ls → i ≤ length bytes / 43 → length (tape_bytes (take i ls) ++ drop (i * 43) bytes) ≡ length bytes
row_length bytes ls i le room =
    length-append (tape_bytes (take i ls)) (drop (i * 43) bytes)
    ∙ omega (arith, length_tape (take i ls), length-take i ls, length-drop (i * 43) bytes)

pub row_written : (bytes so_far next : List ℕ) (ls : List Line) (i at : ℕ) (l : Line) → i < length ls → i < length bytes / 43 → at ≡ i * 43 → l ≡ get_or ls i l → so_far ≡ tape_bytes (take i ls) ++ drop (i * 43) bytes → next ≡ paste so_far at (line_bytes l) 43 → next ≡ tape_bytes (take (i + 1) ls) ++ drop ((i + 1) * 43) bytes
row_written bytes so_far next ls i at l lt room here this is wrote =
    let front : length (tape_bytes (take i ls)) ≡ i * 43 = length_tape (take i ls) ∙ ap (λ n. n * 43) (length-take i ls ∙ omega arith) in
    let rest : drop (i * 43 + 43) (tape_bytes (take i ls) ++ drop (i * 43) bytes) ≡ drop ((i + 1) * 43) bytes =
    ap (λ n. drop (n + 43) (tape_bytes (take i ls) ++ drop (i * 43) bytes)) (sym front)
    ∙ drop-append-add (tape_bytes (take i ls)) (drop (i * 43) bytes) 43
    ∙ drop-drop 43 (i * 43) bytes
    ∙ ap (λ n. drop n bytes) (omega arith) in
    wrote
    ∙ ap (λ n. paste so_far n (line_bytes l) 43) here
    ∙ pasted_is so_far (i * 43) l
    ∙ ap (λ zs. take (i * 43) zs ++ (line_bytes l ++ drop (i * 43 + 43) zs)) is
    ∙ ap (λ zs. zs ++ (line_bytes l ++ drop (i * 43 + 43) (tape_bytes (take i ls) ++ drop (i * 43) bytes))) (take_at (tape_bytes (take i ls)) (drop (i * 43) bytes) (i * 43) front)
    ∙ ap (λ zs. tape_bytes (take i ls) ++ (line_bytes l ++ zs)) rest
    ∙ sym (append_assoc (tape_bytes (take i ls)) (line_bytes l) (drop ((i + 1) * 43) bytes))
    ∙ ap (λ zs. zs ++ drop ((i + 1) * 43) bytes) (sym (tape_push (take i ls) l))
    ∙ ap (λ zs. tape_bytes zs ++ drop ((i + 1) * 43) bytes) (sym (take_more ls i l lt ∙ ap (λ x. take i ls ++ x ∷ []) (sym this)))
