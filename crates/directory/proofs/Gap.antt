-- Closing a gap by shifting pairs back. A walk goes on from the gap, one place at a time; `hole` is the free place that is
-- to be closed, first the gap itself. A pair whose look passes the hole is moved into it, and its own place is the hole from
-- then on. At the first free place the walk ends: a pair beyond it whose look passed the hole would pass that place too.
-- Cite `walk_starts`, `walk_stays`, `walk_moves`, `walk_ends` and `walk_never_returns`, in the order of the loop.
use Rattle.std.proofs.Common.{◌≡◌, ℕ, ◌+◌, ◌%◌, ◌<◌, ◌≤◌, true, false, cond, ◌⊎◌, List, ◌∷◌, ◌++◌, length, get_or, set, is_some, Some, None, sym, refl, ap, ◌∙◌, subst, inl, inr, ⊎_elim, arith, length-set, get_or-set_other, get_or-set_same}
use lib.Seq.{set_comm}
use Rattle.std.specs.Str.{bytes_eq}
use Rattle.std.proofs.lemmas.Bool.{both_ways, cases_eq, cases_order, cases_lt}
use Rattle.directory.specs.declared.entry.Entry.{Entry}
use Rattle.directory.specs.Entries.{entry_id, number_in, distinct}
use Rattle.directory.specs.Table.{Places, entries_in, taken, home_at, home_place, steps, Gapped, Closed}
use Rattle.directory.proofs.Ring.{steps_below, steps_self, steps_to, steps_one, steps_via, steps_past}
use Rattle.directory.proofs.Distinct.{number_between, distinct_between, distinct_without}
use Rattle.directory.proofs.Slots.{before, after, with_pair, without_pair, filled, freed, one_more, free_is, taken_here, taken_other, home_is, home_other, home_below, all_but_one}

-- `was` is the table as the walk began, `ps` as it is when the next place to look at lies `step` steps on from the gap
pub record Walking (was : Places) (gap : ℕ) (ps : Places) (hole step : ℕ) : Type 0 where
  pub whole : length ps ≡ 128
  pub gap_within : gap < 128
  pub within : hole < 128
  pub free : taken ps hole ≡ false
  pub behind : steps gap hole < step
  pub passed : (q : ℕ) → q < 128 → steps gap q < step → (q ≡ hole → ⊥) → taken ps q ≡ true
  pub chained_but : (p q : ℕ) → p < 128 → q < 128 → taken ps p ≡ true → steps (home_at ps p) q < steps (home_at ps p) p → (q ≡ hole → ⊥) → taken ps q ≡ true
  pub settled : (p : ℕ) → p < 128 → taken ps p ≡ true → steps gap hole < steps gap p → steps gap p < step → steps (home_at ps p) p ≤ steps (home_at ps p) hole
  pub apart : distinct (entries_in ps) ≡ true
  pub same_count : length (entries_in ps) ≡ length (entries_in was)
  pub same_numbers : (k : List ℕ) → number_in (entries_in ps) k ≡ number_in (entries_in was) k

pub walk_starts : (ps : Places) (gap : ℕ) → Gapped ps gap → Walking ps gap ps gap 1
walk_starts ps gap g =
    let self = steps_self gap g.within in
    record {
      whole = g.whole;
      gap_within = g.within;
      within = g.within;
      free = g.free;
      behind = omega arith;
      passed = λ q lq lt ne. absurd (ne (steps_one gap q gap g.within lq g.within (omega arith)));
      chained_but = g.chained_but;
      settled = λ p lp tp more less. absurd (omega arith);
      apart = g.apart;
      same_count = refl;
      same_numbers = λ k. refl;
    }

module _ (was : Places) (gap : ℕ) (ps : Places) (hole step place : ℕ) (w : Walking was gap ps hole step) (ls : step < 128) (is : place ≡ (gap + step) % 128) where
  place_within : place < 128
  place_within = omega (arith, is)

  place_steps : steps gap place ≡ step
  place_steps = ap (steps gap) is ∙ steps_to gap step w.gap_within ls

  not_hole : place ≡ hole → ⊥
  not_hole e = let b = w.behind in let s = place_steps in let t = ap (steps gap) e in omega arith

  -- the next place is this one, or was passed before
  next_is : (q : ℕ) → q < 128 → steps gap q < step + 1 → (q ≡ place) ⊎ (steps gap q < step)
  next_is q lq lt =
      ⊎_elim (λ less. inr less) (λ more. inl (steps_one gap q place w.gap_within lq place_within (let s = place_steps in omega arith))) (cases_lt (steps gap q) step)

  module _ (e : Entry) (here : get_or ps place None ≡ Some e) where
    place_taken : taken ps place ≡ true
    place_taken = ap is_some here

    pub walk_stays : steps (home_place (entry_id e)) place ≤ steps (home_place (entry_id e)) hole → Walking was gap ps hole (step + 1)
    walk_stays stays =
        record {
          whole = w.whole;
          gap_within = w.gap_within;
          within = w.within;
          free = w.free;
          behind = let b = w.behind in omega arith;
          passed = λ q lq lt ne. ⊎_elim (λ this. ap (taken ps) this ∙ place_taken) (λ less. w.passed q lq less ne) (next_is q lq lt);
          chained_but = w.chained_but;
          settled = λ p lp tp more less. ⊎_elim
              (λ this. let home = home_is ps place e here in
              subst (λ (x : ℕ). steps (home_at ps x) x ≤ steps (home_at ps x) hole) (sym this)
              (subst (λ (h : ℕ). steps h place ≤ steps h hole) (sym home) stays))
              (λ before_it. w.settled p lp tp more before_it)
              (next_is p lp less);
          apart = w.apart;
          same_count = w.same_count;
          same_numbers = w.same_numbers;
        }

    -- the pair goes from the place to the hole
    in_hole : hole < length ps
    in_hole = omega (arith, w.whole, w.within)

    in_place : place < length (set ps hole (Some e))
    in_place = simp length-set (omega (arith, w.whole, place_within))

    abbrev moved : Places
    moved = set (set ps hole (Some e)) place None

    moved_place : taken moved place ≡ false
    moved_place = taken_here (set ps hole (Some e)) place None in_place

    moved_hole : taken moved hole ≡ true
    moved_hole = taken_other (set ps hole (Some e)) place hole None (λ q. not_hole (sym q)) ∙ taken_here ps hole (Some e) in_hole

    moved_other : (q : ℕ) → (q ≡ hole → ⊥) → (q ≡ place → ⊥) → taken moved q ≡ taken ps q
    moved_other q nh np = taken_other (set ps hole (Some e)) place q None np ∙ taken_other ps hole q (Some e) nh

    home_of_moved : home_at moved hole ≡ home_place (entry_id e)
    home_of_moved =
        home_other (set ps hole (Some e)) place hole None (λ q. not_hole (sym q))
        ∙ home_is (set ps hole (Some e)) hole e (get_or-set_same ps hole (Some e) None in_hole)

    home_of_other : (q : ℕ) → (q ≡ hole → ⊥) → (q ≡ place → ⊥) → home_at moved q ≡ home_at ps q
    home_of_other q nh np = home_other (set ps hole (Some e)) place q None np ∙ home_other ps hole q (Some e) nh

    -- what is taken stays taken, but at the place
    still_taken : (q : ℕ) → (q ≡ place → ⊥) → ((q ≡ hole → ⊥) → taken ps q ≡ true) → taken moved q ≡ true
    still_taken q np t = ⊎_elim (λ this. ap (taken moved) this ∙ moved_hole) (λ nh. moved_other q nh np ∙ t nh) (cases_eq q hole)

    chained_again : steps (home_place (entry_id e)) hole < steps (home_place (entry_id e)) place → (p q : ℕ) → p < 128 → q < 128 → taken moved p ≡ true → steps (home_at moved p) q < steps (home_at moved p) p → (q ≡ place → ⊥) → taken moved q ≡ true
    chained_again moves p q lp lq tp way np =
        still_taken q np (λ nh. ⊎_elim (at_hole nh) (elsewhere nh) (cases_eq p hole))
      where
        home_e : ℕ
        home_e = home_place (entry_id e)

        at_hole : (q ≡ hole → ⊥) → p ≡ hole → taken ps q ≡ true
        at_hole nh this =
            let at_home : steps home_e q < steps home_e hole =
            subst (λ (h : ℕ). steps h q < steps h hole) home_of_moved (subst (λ (x : ℕ). steps (home_at moved x) q < steps (home_at moved x) x) this way) in
            let home = home_is ps place e here in
            w.chained_but place q place_within lq place_taken (subst (λ (h : ℕ). steps h q < steps h place) (sym home) (omega arith)) nh

        elsewhere : (q ≡ hole → ⊥) → (p ≡ hole → ⊥) → taken ps q ≡ true
        elsewhere nh ph =
            let pp : p ≡ place → ⊥ = λ this. both_ways (taken moved p) (ap (taken moved) this ∙ moved_place) tp in
            w.chained_but p q lp lq (sym (moved_other p ph pp) ∙ tp)
            (subst (λ (h : ℕ). steps h q < steps h p) (home_of_other p ph pp) way) nh

    -- The pairs are the same, one of them at another place: it is taken out, and put in again.
    abbrev mid : Places
    mid = set ps place None

    place_in : place < length ps
    place_in = omega (arith, w.whole, place_within)

    hole_in_mid : hole < length mid
    hole_in_mid = simp length-set in_hole

    moved_is : moved ≡ set mid hole (Some e)
    moved_is = set_comm ps hole place (Some e) None (λ q. not_hole (sym q))

    mid_pairs : before ps place ++ after ps place ≡ before mid hole ++ after mid hole
    mid_pairs =
        sym (freed ps place place_in)
        ∙ without_pair mid hole hole_in_mid (get_or-set_other ps place hole None None (λ q. not_hole (sym q)) ∙ free_is ps hole w.free)

    ps_pairs : entries_in ps ≡ before ps place ++ e ∷ after ps place
    ps_pairs = with_pair ps place e place_in here

    moved_pairs : entries_in moved ≡ before mid hole ++ e ∷ after mid hole
    moved_pairs = ap entries_in moved_is ∙ filled mid hole e hole_in_mid

    out : (number_in (before ps place ++ after ps place) (entry_id e) ≡ None) × (distinct (before ps place ++ after ps place) ≡ true)
    out = distinct_without (before ps place) (after ps place) e (ap distinct (sym ps_pairs) ∙ w.apart)

    absent : number_in (before mid hole ++ after mid hole) (entry_id e) ≡ None
    absent = ap (λ es. number_in es (entry_id e)) (sym mid_pairs) ∙ out.0

    moved_apart : distinct (entries_in moved) ≡ true
    moved_apart = ap distinct moved_pairs ∙ distinct_between (before mid hole) (after mid hole) e absent (ap distinct (sym mid_pairs) ∙ out.1)

    moved_count : length (entries_in moved) ≡ length (entries_in ps)
    moved_count =
        ap length moved_pairs ∙ one_more (before mid hole) (after mid hole) e
        ∙ ap (λ es. length es + 1) (sym mid_pairs)
        ∙ sym (ap length ps_pairs ∙ one_more (before ps place) (after ps place) e)

    moved_numbers : (k : List ℕ) → number_in (entries_in moved) k ≡ number_in (entries_in ps) k
    moved_numbers k =
        ap (λ es. number_in es k) moved_pairs
        ∙ number_between (before mid hole) (after mid hole) e k absent
        ∙ ap (λ es. cond (bytes_eq k (entry_id e)) (Some e.number) (number_in es k)) (sym mid_pairs)
        ∙ sym (ap (λ es. number_in es k) ps_pairs ∙ number_between (before ps place) (after ps place) e k out.0)

    pub walk_moves : steps (home_place (entry_id e)) hole < steps (home_place (entry_id e)) place → Walking was gap (set (set ps hole (Some e)) place None) place (step + 1)
    walk_moves moves =
        let at = place_steps in
        record {
          whole = length-set (set ps hole (Some e)) place None ∙ length-set ps hole (Some e) ∙ w.whole;
          gap_within = w.gap_within;
          within = place_within;
          free = moved_place;
          behind = omega arith;
          passed = λ q lq lt np. still_taken q np (λ nh. ⊎_elim (λ this. absurd (np this)) (λ less. w.passed q lq less nh) (next_is q lq lt));
          chained_but = chained_again moves;
          settled = λ p lp tp more less. absurd (omega arith);
          apart = moved_apart;
          same_count = moved_count ∙ w.same_count;
          same_numbers = λ k. moved_numbers k ∙ w.same_numbers k;
        }

  pub walk_ends : get_or ps place None ≡ None → Closed was ps
  walk_ends none =
      record {
        whole = w.whole;
        chained = λ x. ⊎_elim
            (λ this. absurd (through x.pair x.pair_within x.pair_taken (subst (λ (q : ℕ). steps (home_at ps x.pair) q < steps (home_at ps x.pair) x.pair) this x.on_the_way)))
            (λ nh. w.chained_but x.pair x.place x.pair_within x.place_within x.pair_taken x.on_the_way nh)
            (cases_eq x.place hole);
        apart = w.apart;
        same_count = w.same_count;
        same_numbers = w.same_numbers;
      }
    where
      free_place : taken ps place ≡ false
      free_place = ap is_some none

      -- a look that passes the hole would pass the free place too
      through : (p : ℕ) → p < 128 → taken ps p ≡ true → steps (home_at ps p) hole < steps (home_at ps p) p → ⊥
      through p lp tp way =
          let at = place_steps in
          let behind = w.behind in
          let far = λ (past : (steps gap p < steps gap hole) ⊎ (steps gap place < steps gap p)).
          both_ways (taken ps place) free_place (w.chained_but p place lp place_within tp
          (steps_via (home_at ps p) hole place p (home_below ps p) w.within place_within lp way
          (steps_past gap hole place p w.gap_within w.within place_within lp (omega arith) past)) not_hole) in
          ⊎_elim
          (λ same. both_ways (taken ps p) (ap (taken ps) (steps_one gap p hole w.gap_within lp w.within same) ∙ w.free) tp)
          (⊎_elim
          (λ less. far (inl less))
          (λ more. ⊎_elim
          (λ this. both_ways (taken ps p) (ap (taken ps) (steps_one gap p place w.gap_within lp place_within (this ∙ sym at)) ∙ free_place) tp)
          (⊎_elim
          (λ within. let settled = w.settled p lp tp more within in omega arith)
          (λ past. far (inr (omega arith))))
          (cases_order (steps gap p) step)))
          (cases_order (steps gap p) (steps gap hole))

pub walk_never_returns : (was : Places) (gap : ℕ) (ps : Places) (hole step : ℕ) → Walking was gap ps hole step → 128 ≤ step → length (entries_in was) ≤ 64 → ⊥
walk_never_returns was gap ps hole step w full few =
    let all = all_but_one ps hole (λ p lt ne. w.passed p (omega (arith, w.whole)) (let b = steps_below gap p in omega arith) ne) in
    omega (arith, w.whole, w.same_count)
