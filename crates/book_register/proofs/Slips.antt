-- Slips pushed on a roll, one after another. Cite none_added at the start, one_added after a push, and still_added after one that
-- found no place.
use Rattle.std.proofs.Common.{◌≡◌, ℕ, ◌+◌, ◌<◌, List, [], ◌∷◌, ◌++◌, length, get_or, take, drop, sym, refl, ap, ◌∙◌, subst, append_assoc, append-nil, add-zero, arith}
use Rattle.std.specs.Prelude.{slice_set}
use Rattle.std.proofs.Math.ListN.{set}
use Rattle.std.proofs.Math.Seq.{set-append_seam}
use Rattle.std.proofs.lemmas.List.{length-append, length-take, length-take-le, take-append-drop, drop_more}
use Rattle.roll.specs.declared.Roll.{Roll}
use Rattle.roll.specs.Rolls.{records, room_left, places, lender}
use Rattle.book_register.specs.declared.load.Slip.{Slip}
use Rattle.book_register.specs.Loaded.{written_from, SlipsAdded}

-- a slip more, at the first place behind those written
written_more : (xs : List Slip) (m : ℕ) (ss : List Slip) (s : Slip) → m + length ss < length xs → set (written_from xs m ss) (m + length ss) s ≡ written_from xs m (ss ++ (s ∷ []))
written_more xs m ss s h =
    let n = m + length ss in
    let behind = drop (n + 1) xs in
    let front = take m xs ++ ss in
    let long : length front ≡ n = length-append (take m xs) ss ∙ ap (λ k. k + length ss) (length-take-le m xs (omega arith)) in
    let longer : m + length (ss ++ (s ∷ [])) ≡ n + 1 = omega (arith, length-append ss (s ∷ [])) in
    ap (λ ds. set (take m xs ++ (ss ++ ds)) n s) (drop_more xs n s h)
    ∙ ap (λ zs. set zs n s) (sym (append_assoc (take m xs) ss (get_or xs n s ∷ behind)))
    ∙ ap (λ k. set (front ++ (get_or xs n s ∷ behind)) k s) (sym long)
    ∙ set-append_seam front (get_or xs n s) behind s
    ∙ append_assoc (take m xs) ss (s ∷ behind)
    ∙ ap (λ zs. take m xs ++ zs) (sym (append_assoc ss (s ∷ []) behind))
    ∙ ap (λ k. take m xs ++ ((ss ++ (s ∷ [])) ++ drop k xs)) (sym longer)

-- what a push says that found a place
pub record Pushed (before after : Roll Slip) (slip : Slip) : Type 0 where
  pub added : records after ≡ records before ++ (slip ∷ [])
  pub free : room_left after + 1 ≡ room_left before
  pub lent : lender after ≡ lender before
  pub written : places after ≡ slice_set (places before) (length (records before)) slip

pub none_added : (roll : Roll Slip) → SlipsAdded roll roll []
none_added roll =
    record {
      added = sym (append-nil (records roll));
      free = add-zero (room_left roll);
      lent = refl;
      written =
          sym (ap (λ n. take (length (records roll)) (places roll) ++ drop n (places roll)) (add-zero (length (records roll)))
          ∙ take-append-drop (length (records roll)) (places roll));
    }

module _ (roll here after : Roll Slip) (slips : List Slip) (so_far : SlipsAdded roll here slips) where
  pub one_added : (slip : Slip) → Pushed here after slip → SlipsAdded roll after (slips ++ (slip ∷ []))
  one_added slip p =
      let long = length-append slips (slip ∷ []) in
      let at : length (records here) ≡ length (records roll) + length slips = ap length so_far.added ∙ length-append (records roll) slips in
      let fits : length (records roll) + length slips < length (places roll) = omega (arith, length-take roll.used roll.room.now, p.free, so_far.free) in
      record {
        added = p.added ∙ ap (λ z. z ++ (slip ∷ [])) so_far.added ∙ append_assoc (records roll) slips (slip ∷ []);
        free = omega (arith, long, p.free, so_far.free);
        lent = p.lent ∙ so_far.lent;
        written =
            p.written
            ∙ ap (λ n. set (places here) n slip) at
            ∙ ap (λ xs. set xs (length (records roll) + length slips) slip) so_far.written
            ∙ written_more (places roll) (length (records roll)) slips slip fits;
      }

  pub still_added : after ≡ here → SlipsAdded roll after slips
  still_added same = subst (λ (r : Roll Slip). SlipsAdded roll r slips) (sym same) so_far
