-- What people read: words for side, kind and refusal, and half-cents as dollars with three decimals.
use Rattle.std.specs.Prelude.{ℕ, ◌*◌, ◌/◌, ◌%◌, List, ◌++◌, codes, decimal}
use Rattle.terms.specs.declared.side.Side.{Side}
use Rattle.terms.specs.declared.side.Side.TheVariants.{Buy, Sell}
use Rattle.terms.specs.declared.refusal.Refusal.{Refusal}
use Rattle.terms.specs.declared.refusal.Refusal.TheVariants as refusal
use Rattle.terms.specs.declared.kind.Kind.{Kind}
use Rattle.terms.specs.declared.kind.Kind.TheVariants.{DisplayedLimit, HiddenLimit, DisplayedMdo, HiddenMdo, MidpointPeg}

abbrev pub side_word : Side → List ℕ
side_word Buy = codes "buy"
side_word Sell = codes "sell"

abbrev pub kind_words : Kind → List ℕ
kind_words DisplayedLimit = codes "displayed limit"
kind_words HiddenLimit = codes "hidden limit"
kind_words DisplayedMdo = codes "displayed MDO"
kind_words HiddenMdo = codes "hidden MDO"
kind_words MidpointPeg = codes "midpoint peg"

abbrev pub refusal_words : Refusal → List ℕ
refusal_words refusal.UnknownCode = codes "no such code"
refusal_words refusal.Shares = codes "shares out of range"
refusal_words refusal.Limit = codes "limit out of range"
refusal_words refusal.Offset = codes "offset out of range"
refusal_words refusal.Combination = codes "parts do not go together"
refusal_words refusal.Quote = codes "quote not lawful"

-- 1998 half-cents are 9.990 dollars
abbrev pub in_dollars : ℕ → List ℕ
in_dollars price =
    decimal (price * 5 / 1000)
    ++ (codes "." ++ (decimal (price * 5 / 100 % 10) ++ (decimal (price * 5 / 10 % 10) ++ decimal (price * 5 % 10))))
