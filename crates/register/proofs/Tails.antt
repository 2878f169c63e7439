-- What is left to read is always the end of the register: the rest after a field, and so after an order, is a tail of
-- what was there before it. Cite tail_read_order for an order, tail_trans to go on to the next, stands_further for a value.
use Rattle.std.proofs.Common.{◌≡◌, ℕ, suc, ◌+◌, ◌-◌, ◌*◌, ◌<◌, ◌≤◌, List, [], ◌∷◌, length, take, drop, Some, Ok, Err, Result, sym, refl, ap, ◌∙◌, subst, arith}
use native.Mathlib.Nat.{sub_self}
use Rattle.std.proofs.lemmas.Bool.{leb-true}
use Rattle.std.proofs.lemmas.List.{length-drop, drop-drop}
use Rattle.register.specs.declared.fault.Fault.{Fault}
use Rattle.register.specs.Layout.{Field, layout, ticket_layout, identifier_field, short_name_field, blank}
use Rattle.register.specs.Tails.{Tail, StandsAt}
use Rattle.register.specs.Reading.{Taken, Cursor, place_in, take_field, read_tagged, read_field, read_fields, read_order}

pub tail_all : (bs : List ℕ) → Tail bs bs
tail_all bs = ap (λ k. drop k bs) (sub_self (length bs))

pub tail_fits : (bs cs : List ℕ) → Tail bs cs → length cs ≤ length bs
tail_fits bs cs e = omega (arith, ap length e, length-drop (length bs - length cs) bs)

pub tail_trans : (zs bs cs : List ℕ) → Tail zs bs → Tail bs cs → Tail zs cs
tail_trans zs bs cs e f =
    let h = tail_fits zs bs e in
    let g = tail_fits bs cs f in
    let k : length zs - length cs ≡ (length zs - length bs) + (length bs - length cs) = omega arith in
    ap (λ n. drop n zs) k
    ∙ sym (drop-drop (length bs - length cs) (length zs - length bs) zs)
    ∙ ap (λ l. drop (length bs - length cs) l) e
    ∙ f

tail_drop : (k : ℕ) (bs : List ℕ) → k ≤ length bs → Tail bs (drop k bs)
tail_drop k bs h =
    let n : length bs - length (drop k bs) ≡ k = omega (arith, length-drop k bs) in ap (λ z. drop z bs) n

-- what a taken field is of the bytes that it was taken from
record Cut (bs : List ℕ) (x : Taken) : Type 0 where
  pub tail : Tail bs x.rest
  pub shorter : length x.rest < length bs

cut : (bs : List ℕ) (x : Taken) → Some x ≡ take_field bs → Cut bs x
cut [] x e = cc
cut (t ∷ []) x e = absurd (cc)
cut (t ∷ (a ∷ [])) x e = absurd (cc)
cut (t ∷ (a ∷ (b ∷ bs))) x e = record {
  tail = grind (arith, tail_drop (suc (suc (suc (a * 256 + b)))) (t ∷ (a ∷ (b ∷ bs))), leb-true);
  shorter = grind (arith, length-drop, leb-true);
}

-- a field under a tag
cut_tagged : (total start tag : ℕ) (bs : List ℕ) (x : Taken) → Ok x ≡ read_tagged total start bs tag → Cut bs x
cut_tagged total start tag bs x e = cut bs x (grind arith)

-- the reading has come to an end of `bs`, if to anything
abbrev Within : List ℕ → Result Cursor Fault → Type 0
Within bs (Err e) = Unit {0}
Within bs (Ok d) = Tail bs d.rest

within_field : (total start : ℕ) (f : Field) (c : Cursor) → Within c.rest (read_field total start f c)
within_field total start f c = grind (arith, cut_tagged, tail_all)

within_fields : (total start : ℕ) (fs : List Field) (c : Cursor) → Within c.rest (read_fields total start fs c)
unfolding read_fields
within_fields total start [] c = tail_all c.rest
within_fields total start (f ∷ fs) c = grind (arith, tail_trans, within_field total start f c, within_fields total start fs)

pub tail_read_order : (total : ℕ) (bs : List ℕ) (d : Cursor) → Ok d ≡ read_order total bs → Tail bs d.rest
tail_read_order total bs d e =
    let w = within_fields total (place_in total bs) layout (record { order = blank; rest = bs }) in subst (Within bs) (sym e) w

-- an order takes at least the three leading bytes of its identifier
pub order_shortens : (total : ℕ) (bs : List ℕ) (d : Cursor) → Ok d ≡ read_order total bs → length d.rest < length bs
unfolding read_fields
order_shortens total bs d e = named (read_tagged total (place_in total bs) bs 1) refl e
  where
    named : (t : Result Taken Fault) → t ≡ read_tagged total (place_in total bs) bs 1 → Ok d ≡ elim (elim t as (λ _. Result Cursor Fault) [ Err f ↦ Err f | Ok x ↦ Ok (record { order = identifier_field.put x.value blank; rest = x.rest }) ]) as (λ _. Result Cursor Fault) [ Err f ↦ Err f | Ok c ↦ read_fields total (place_in total bs) (short_name_field ∷ ticket_layout) c ] → length d.rest < length bs
    named (Err f) h k = absurd (cc)
    named (Ok x) h k =
        let c : Cursor = record { order = identifier_field.put x.value blank; rest = x.rest } in
        let w = subst (Within x.rest) (sym k) (within_fields total (place_in total bs) (short_name_field ∷ ticket_layout) c) in
        let s = (cut_tagged total (place_in total bs) 1 bs x h).shorter in
        let f = tail_fits x.rest d.rest w in
        omega arith

-- a part of the end of a list, by its place in the list
pub stands_further : (bs cs v : List ℕ) (k : ℕ) → Tail bs cs → StandsAt cs k v → StandsAt bs (length bs - length cs + k) v
stands_further bs cs v k e h =
    ap (λ z. take (length v) z) (sym (drop-drop k (length bs - length cs) bs) ∙ ap (λ z. drop k z) e) ∙ h
