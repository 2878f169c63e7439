-- Steps round a ring of 128 places, by arithmetic alone. Cite `steps_to` and `steps_one` for the place so many steps on,
-- `steps_via` and `steps_past` for what lies between two places.
use Rattle.std.proofs.Common.{◌≡◌, ℕ, ◌+◌, ◌%◌, ◌<◌, ◌⊎◌, arith}
use Rattle.directory.specs.Table.{steps}

pub steps_below : (a b : ℕ) → steps a b < 128
unfolding steps
steps_below a b = omega arith

pub steps_self : (a : ℕ) → a < 128 → steps a a ≡ 0
unfolding steps
steps_self a la = omega arith

-- the place that lies so many steps on
pub steps_to : (g s : ℕ) → g < 128 → s < 128 → steps g ((g + s) % 128) ≡ s
unfolding steps
steps_to g s lg ls = omega arith

pub steps_one : (g p q : ℕ) → g < 128 → p < 128 → q < 128 → steps g p ≡ steps g q → p ≡ q
unfolding steps
steps_one g p q lg lp lq e = omega arith

-- a way round the ring passes its end at most once
around : (a b : ℕ) → a < 128 → b < 128 → (a + steps a b ≡ b) ⊎ (a + steps a b ≡ b + 128)
unfolding steps
around a b la lb = grind arith

-- a place between a and c, where a lies between h and c
pub steps_via : (h a b c : ℕ) → h < 128 → a < 128 → b < 128 → c < 128 → steps h a < steps h c → steps a b < steps a c → steps h b < steps h c
steps_via h a b c lh la lb lc x y =
    let p = around h a lh la in
    let q = around h b lh lb in
    let r = around h c lh lc in
    let s = around a b la lb in
    let t = around a c la lc in
    let k = steps_below h b in
    let l = steps_below h c in
    let m = steps_below a c in
    grind arith

-- from a, b comes before what lies before a or past b
pub steps_past : (g a b c : ℕ) → g < 128 → a < 128 → b < 128 → c < 128 → steps g a < steps g b → (steps g c < steps g a) ⊎ (steps g b < steps g c) → steps a b < steps a c
steps_past g a b c lg la lb lc x y =
    let p = around g a lg la in
    let q = around g b lg lb in
    let r = around g c lg lc in
    let s = around a b la lb in
    let t = around a c la lc in
    let j = steps_below g b in
    let k = steps_below g c in
    let l = steps_below a b in
    let m = steps_below a c in
    grind arith
