-- A table after a pair is put at a free place, or taken out. Cite `found_number` for a pair that stands there;
-- `chained_put`, `apart_put`, `count_put`, `put_here` and `put_others`; `gapped`, `count_removed`, `removed_here` and `removed_others`.
use Rattle.std.proofs.Common.{◌≡◌, ℕ, ◌+◌, ◌<◌, ◌≤◌, true, List, ◌∷◌, ◌++◌, length, get_or, set, Some, None, sym, ap, ◌∙◌, subst, ⊎_elim, arith, length-set, get_or-set_same}
use Rattle.std.proofs.lemmas.Bool.{both_ways, cases_eq}
use Rattle.directory.specs.declared.entry.Entry.{Entry}
use Rattle.directory.specs.Entries.{entry_id, number_in, distinct}
use Rattle.directory.specs.Table.{Places, entries_in, taken, home_at, home_place, steps, Chained, FoundAt, FreeAt, Gapped, Closed}
use Rattle.directory.proofs.Distinct.{distinct_between, distinct_without}
use Rattle.directory.proofs.Changes.{pair_here, pair_others, pair_found}
use Rattle.directory.proofs.Slots.{before, after, with_pair, without_pair, filled, freed, one_more, free_is, taken_here, taken_other, home_is, home_other}

pub chained_put : (ps : Places) (id : List ℕ) (p : ℕ) (e : Entry) → length ps ≡ 128 → Chained ps → FreeAt ps id p → entry_id e ≡ id → Chained (set ps p (Some e))
chained_put ps id p e whole chained f own x =
    ⊎_elim
    (λ this. ap (taken is) this ∙ here)
    (λ np. taken_other ps p x.place (Some e) np ∙ ⊎_elim (new np) (old np) (cases_eq x.pair p))
    (cases_eq x.place p)
  where
    is : Places
    is = set ps p (Some e)

    here : taken is p ≡ true
    here = taken_here ps p (Some e) (omega (arith, f.within))

    -- the look for the new pair passes what the look for its place passed
    new : (x.place ≡ p → ⊥) → x.pair ≡ p → taken ps x.place ≡ true
    new np this =
        let home : home_at is p ≡ home_place id = home_is is p e (get_or-set_same ps p (Some e) None (omega (arith, f.within))) ∙ ap home_place own in
        f.before x.place x.place_within
        (subst (λ (h : ℕ). steps h x.place < steps h p) home
        (subst (λ (q : ℕ). steps (home_at is q) x.place < steps (home_at is q) q) this x.on_the_way))

    old : (x.place ≡ p → ⊥) → (x.pair ≡ p → ⊥) → taken ps x.place ≡ true
    old np other =
        chained (record {
          pair = x.pair;
          place = x.place;
          pair_within = x.pair_within;
          place_within = x.place_within;
          pair_taken = sym (taken_other ps p x.pair (Some e) other) ∙ x.pair_taken;
          on_the_way = subst (λ (h : ℕ). steps h x.place < steps h x.pair) (home_other ps p x.pair (Some e) other) x.on_the_way;
        })

pub gapped : (ps : Places) (p : ℕ) (e : Entry) → length ps ≡ 128 → p < 128 → get_or ps p None ≡ Some e → Chained ps → distinct (entries_in ps) ≡ true → length (entries_in ps) ≤ 64 → Gapped (set ps p None) p
gapped ps p e whole within has chained apart few =
    let pairs = with_pair ps p e (omega arith) has in
    let left = freed ps p (omega arith) in
    record {
      whole = length-set ps p None ∙ whole;
      within = within;
      free = taken_here ps p None (omega arith);
      chained_but = λ a q la lq ta way np. taken_other ps p q None np ∙ chained (record {
        pair = a;
        place = q;
        pair_within = la;
        place_within = lq;
        pair_taken = sym (taken_other ps p a None (still a ta)) ∙ ta;
        on_the_way = subst (λ (h : ℕ). steps h q < steps h a) (home_other ps p a None (still a ta)) way;
      });
      apart = ap distinct left ∙ (distinct_without (before ps p) (after ps p) e (ap distinct (sym pairs) ∙ apart)).1;
      few = omega (arith, ap length left, ap length pairs, one_more (before ps p) (after ps p) e);
    }
  where
    -- what is still taken is not the place that was freed
    still : (a : ℕ) → taken (set ps p None) a ≡ true → a ≡ p → ⊥
    still a ta this = both_ways (taken (set ps p None) a) (ap (taken (set ps p None)) this ∙ taken_here ps p None (omega arith)) ta

-- a pair that stands at a place
pub found_number : (ps : Places) (id : List ℕ) (p n : ℕ) → length ps ≡ 128 → distinct (entries_in ps) ≡ true → FoundAt ps id p n → number_in (entries_in ps) id ≡ Some n
found_number ps id p n whole apart f =
    let pairs = with_pair ps p f.pair (omega (arith, f.within)) f.here in
    ap (number_in (entries_in ps)) (sym f.own)
    ∙ ap (λ es. number_in es (entry_id f.pair)) pairs
    ∙ pair_found (before ps p) (after ps p) f.pair (ap distinct (sym pairs) ∙ apart)
    ∙ ap Some f.told

-- a pair put at the free place where the look for it ended
module _ (ps : Places) (id : List ℕ) (p : ℕ) (e : Entry) (whole : length ps ≡ 128) (f : FreeAt ps id p) (own : entry_id e ≡ id) where
  pairs_were : entries_in ps ≡ before ps p ++ after ps p
  pairs_were = without_pair ps p (omega (arith, f.within)) (free_is ps p f.free)

  pairs_are : entries_in (set ps p (Some e)) ≡ before ps p ++ e ∷ after ps p
  pairs_are = filled ps p e (omega (arith, f.within))

  none_yet : number_in (before ps p ++ after ps p) (entry_id e) ≡ None
  none_yet = ap (λ es. number_in es (entry_id e)) (sym pairs_were) ∙ ap (number_in (entries_in ps)) own ∙ f.absent

  pub apart_put : distinct (entries_in ps) ≡ true → distinct (entries_in (set ps p (Some e))) ≡ true
  apart_put apart = ap distinct pairs_are ∙ distinct_between (before ps p) (after ps p) e none_yet (ap distinct (sym pairs_were) ∙ apart)

  pub count_put : length (entries_in (set ps p (Some e))) ≡ length (entries_in ps) + 1
  count_put = ap length pairs_are ∙ one_more (before ps p) (after ps p) e ∙ ap (λ es. length es + 1) (sym pairs_were)

  pub put_here : number_in (entries_in (set ps p (Some e))) id ≡ Some e.number
  put_here =
      ap (number_in (entries_in (set ps p (Some e)))) (sym own)
      ∙ ap (λ es. number_in es (entry_id e)) pairs_are
      ∙ pair_here (before ps p) (after ps p) e none_yet

  pub put_others : (k : List ℕ) → (k ≡ id → ⊥) → number_in (entries_in (set ps p (Some e))) k ≡ number_in (entries_in ps) k
  put_others k ne =
      ap (λ es. number_in es k) pairs_are
      ∙ pair_others (before ps p) (after ps p) e none_yet k (λ h. ne (h ∙ own))
      ∙ ap (λ es. number_in es k) (sym pairs_were)

-- a pair taken out, and the gap closed
module _ (ps is : Places) (id : List ℕ) (p n : ℕ) (whole : length ps ≡ 128) (apart : distinct (entries_in ps) ≡ true) (f : FoundAt ps id p n) (closed : Closed (set ps p None) is) where
  with_it : entries_in ps ≡ before ps p ++ f.pair ∷ after ps p
  with_it = with_pair ps p f.pair (omega (arith, f.within)) f.here

  without_it : entries_in (set ps p None) ≡ before ps p ++ after ps p
  without_it = freed ps p (omega (arith, f.within))

  none_left : number_in (before ps p ++ after ps p) (entry_id f.pair) ≡ None
  none_left = (distinct_without (before ps p) (after ps p) f.pair (ap distinct (sym with_it) ∙ apart)).0

  pub count_removed : length (entries_in is) + 1 ≡ length (entries_in ps)
  count_removed =
      ap (λ m. m + 1) (closed.same_count ∙ ap length without_it)
      ∙ sym (ap length with_it ∙ one_more (before ps p) (after ps p) f.pair)

  pub removed_here : number_in (entries_in is) id ≡ None
  removed_here = closed.same_numbers id ∙ ap (λ es. number_in es id) without_it ∙ ap (number_in (before ps p ++ after ps p)) (sym f.own) ∙ none_left

  pub removed_others : (k : List ℕ) → (k ≡ id → ⊥) → number_in (entries_in is) k ≡ number_in (entries_in ps) k
  removed_others k ne =
      closed.same_numbers k
      ∙ ap (λ es. number_in es k) without_it
      ∙ sym (pair_others (before ps p) (after ps p) f.pair none_left k (λ h. ne (h ∙ f.own)))
      ∙ ap (λ es. number_in es k) (sym with_it)
