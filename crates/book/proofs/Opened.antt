-- A book on an emptied directory, an empty table and an empty tape is sound: it is what no call at all leaves. Cite empty_tape,
-- new_book and new_sound.
use Rattle.std.proofs.Common.{◌≡◌, ℕ, ◌+◌, ◌≤◌, List, [], ◌∷◌, length, vec_items, Option, sym, refl, ap, ◌∙◌, subst, arith}
use Rattle.tape.specs.declared.line.Line.{Line}
use Rattle.tape.specs.declared.tape.Tape.{Ghosts as TapeOf}
use Rattle.directory.specs.declared.directory.Directory.{Ghosts as DirectoryOf}
use Rattle.directory.specs.Pairs.{Emptied}
use Rattle.rules.specs.Market.{Book}
use Rattle.rules.specs.Runs.{opened, run}
use Rattle.market.specs.declared.table.Table.{Table}
use Rattle.market.specs.declared.table.Row.{Row}
use Rattle.market.specs.Changes.{AllRest}
use Rattle.market.specs.Seen.{market_with, seen}
use Rattle.market.proofs.Retired.{rests_none}
use Rattle.book.specs.declared.engine.Engine.{Engine}
use Rattle.book.specs.Tied.{Tied, number_named}
use Rattle.book.specs.Running.{book_of, Sound}
use Rattle.book.proofs.Alike.{same_book}

pub empty_tape : (ls : List Line) (n : ℕ) → n ≡ length ls → n ≤ 0 → ls ≡ []
empty_tape [] n e f = refl
empty_tape (l ∷ ls) n e f = absurd (omega (arith, e, f))

tied_none : (number : List ℕ → Option ℕ) (count : ℕ) → Emptied number count → Tied number count []
unfolding number_named
tied_none number count emptied = record { known = emptied.nothing; apart = tt; counted = emptied.none_counted }

nothing_run : (room : ℕ) (b : Book) → (run room [] b).book ≡ b
unfolding run
nothing_run room b = refl

module _ {D T : Type 0} (d : DirectoryOf D) (t : TapeOf T) (directory : D) (tape : T) (table : Table) (bid offer : ℕ) where
  abbrev fresh : Engine D T
  fresh = record { directory = directory; market = record { table = table; tape = tape }; clock = 0; entries = 0 }

  module _ (empty : t.lines tape ≡ []) (market : seen table ≡ (opened bid offer).market) where
    as_opened : book_of t fresh ≡ opened bid offer
    as_opened = same_book (ap (λ ls. market_with ls table) empty ∙ market) refl refl

    pub new_sound : Emptied (d.number directory) (d.count directory) → vec_items table.rows ≡ [] → Sound d t fresh
    new_sound emptied no_rows =
        record {
          tied = subst (λ (rs : List Row). Tied (d.number directory) (d.count directory) rs) (sym no_rows) (tied_none (d.number directory) (d.count directory) emptied);
          rests = subst (λ (rs : List Row). AllRest rs) (sym no_rows) rests_none;
          reached = record {
            bid = bid;
            offer = offer;
            calls = [];
            is = as_opened ∙ sym (nothing_run (length (t.lines tape) + t.free tape) (opened bid offer));
          };
        }
