-- Books that agree part by part are equal. Cite same_book.
use Rattle.std.proofs.Common.{◌≡◌, ℕ, ap, ◌∙◌}
use Rattle.rules.specs.Market.{Market, Book}

abbrev pub book_with : Market → ℕ → ℕ → Book
book_with m t n = record { market = m; clock = t; entries = n }

pub same_book : {m m' : Market} {t t' n n' : ℕ} → m ≡ m' → t ≡ t' → n ≡ n' → book_with m t n ≡ book_with m' t' n'
same_book {m} {m'} {t} {t'} {n} {n'} e f g =
    ap (λ z. book_with z t n) e ∙ ap (λ z. book_with m' z n) f ∙ ap (λ z. book_with m' t' z) g
