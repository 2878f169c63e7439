-- A look for an identifier, from its home on, one place at a time: every place passed is taken, by another identifier.
-- Where it meets a free place the identifier has no pair, since the chain of one beyond would be broken there.
-- Cite `look_goes_on`, `look_finds`, `look_ends` and `look_never_fails`, in the order of the loop.
use Rattle.std.proofs.Common.{◌≡◌, ℕ, ◌+◌, ◌%◌, ◌<◌, ◌≤◌, true, false, List, length, get_or, is_some, Some, None, sym, refl, ap, ◌∙◌, subst, ⊎_elim, arith}
use Rattle.std.specs.Str.{bytes_eq}
use Rattle.std.proofs.lemmas.Bool.{both_ways, cases_lt, cases_order}
use Rattle.std.proofs.lemmas.Bool.Decides.{not_from_Decides}
use Rattle.std.proofs.lemmas.Slice.Eq.{bytes_eq-Decides}
use Rattle.directory.specs.declared.entry.Entry.{Entry}
use Rattle.directory.specs.Entries.{entry_id}
use Rattle.directory.specs.Table.{Places, entries_in, taken, home_at, home_place, steps, Chained, FoundAt, FreeAt}
use Rattle.directory.proofs.Ring.{steps_below, steps_to, steps_one}
use Rattle.directory.proofs.Slots.{home_is, place_below, none_held, all_taken}

pub record Looking (ps : Places) (id : List ℕ) (step : ℕ) : Type 0 where
  pub passed : (q : ℕ) → q < 128 → steps (home_place id) q < step → taken ps q ≡ true
  pub by_others : (q : ℕ) (e : Entry) → q < 128 → steps (home_place id) q < step → get_or ps q None ≡ Some e → entry_id e ≡ id → ⊥

some_is : (e f : Entry) → Some e ≡ Some f → e ≡ f
some_is e f h = cc

some_none : (e : Entry) → Some e ≡ None → ⊥
some_none e h = let z : ◌≡◌ {A = ℕ} 0 1 = cc in omega arith

module _ (ps : Places) (id : List ℕ) (step place : ℕ) (w : Looking ps id step) (ls : step < 128) (is : place ≡ (home_place id + step) % 128) where
  place_within : place < 128
  place_within = omega (arith, is)

  place_steps : steps (home_place id) place ≡ step
  place_steps = ap (steps (home_place id)) is ∙ steps_to (home_place id) step (place_below id) ls

  this_place : (q : ℕ) → q < 128 → step ≤ steps (home_place id) q → steps (home_place id) q < step + 1 → q ≡ place
  this_place q lq le lt = steps_one (home_place id) q place (place_below id) lq place_within (let s = place_steps in omega arith)

  pub look_goes_on : (e : Entry) → get_or ps place None ≡ Some e → bytes_eq id (entry_id e) ≡ false → Looking ps id (step + 1)
  look_goes_on e here other =
      record {
        passed = λ q lq lt. ⊎_elim (λ less. w.passed q lq less) (λ more. ap (taken ps) (this_place q lq more lt) ∙ ap is_some here) (cases_lt (steps (home_place id) q) step);
        by_others = λ q f lq lt has own. ⊎_elim
            (λ less. w.by_others q f lq less has own)
            (λ more.
            let same : f ≡ e = some_is f e (sym has ∙ ap (λ n. get_or ps n None) (this_place q lq more lt) ∙ here) in
            not_from_Decides (bytes_eq id (entry_id e)) (bytes_eq-Decides id (entry_id e)) other (sym own ∙ ap entry_id same))
            (cases_lt (steps (home_place id) q) step);
      }

  pub look_finds : (e : Entry) → get_or ps place None ≡ Some e → bytes_eq id (entry_id e) ≡ true → FoundAt ps id place e.number
  look_finds e here same =
      record { within = place_within; pair = e; here = here; own = sym ((bytes_eq-Decides id (entry_id e)).0 same); told = refl }

  pub look_ends : length ps ≡ 128 → Chained ps → get_or ps place None ≡ None → FreeAt ps id place
  look_ends whole chained none =
      record {
        within = place_within;
        free = ap is_some none;
        before = λ q lq lt. w.passed q lq (let s = place_steps in omega arith);
        absent = none_held ps id (λ p e lp has own. beyond p e (omega arith) has own);
      }
    where
      beyond : (p : ℕ) (e : Entry) → p < 128 → get_or ps p None ≡ Some e → entry_id e ≡ id → ⊥
      beyond p e lp has own =
          let home : home_place id ≡ home_at ps p = sym (home_is ps p e has ∙ ap home_place own) in
          let at = place_steps in
          ⊎_elim
          (λ same. some_none e (sym has ∙ ap (λ n. get_or ps n None) (this_place p lp (omega arith) (omega arith)) ∙ none))
          (⊎_elim
          (λ less. w.by_others p e lp less has own)
          (λ more. both_ways (taken ps place) (ap is_some none) (chained (record {
            pair = p;
            place = place;
            pair_within = lp;
            place_within = place_within;
            pair_taken = ap is_some has;
            on_the_way = subst (λ (h : ℕ). steps h place < steps h p) home (omega arith);
          }))))
          (cases_order (steps (home_place id) p) step)

pub look_never_fails : (ps : Places) (id : List ℕ) (step : ℕ) → Looking ps id step → 128 ≤ step → length ps ≡ 128 → length (entries_in ps) ≤ 64 → ⊥
look_never_fails ps id step w full whole few =
    let all = all_taken ps (λ p lt. w.passed p (omega arith) (let b = steps_below (home_place id) p in omega arith)) in
    omega arith
