-- The laws of the rule book, of runs that a book has made. Cite law_of.
use Rattle.std.proofs.Common.{◌≡◌, ℕ, List, sym, subst}
use Rattle.rules.specs.Calls.{Call}
use Rattle.rules.specs.Runs.{Run, opened, run}
use Rattle.rules.specs.WholeDay.{AlikeButForTicks}
use Rattle.rules.proofs.Ticks.{ticks_change_only_the_clock}
use Rattle.rules.proofs.Marks.{tape_explains_discretion}
use Rattle.rules.proofs.Uncrossed.{never_crossed}
use Rattle.rules.specs.WholeDay.{Lawful, Law}

pub lawful_of : (bid offer room : ℕ) (cs : List Call) (r : Run) → r ≡ run room cs (opened bid offer) → Lawful r
lawful_of bid offer room cs r e =
    subst (λ (z : Run). Lawful z) (sym e)
    (record { discretion_explained = tape_explains_discretion bid offer room cs; never_crossed = never_crossed bid offer room cs })

pub law_of : (bid offer room other_room : ℕ) (cs other_cs : List Call) (r other : Run) → r ≡ run room cs (opened bid offer) → other ≡ run other_room other_cs (opened bid offer) → Law cs r other_cs other
law_of bid offer room other_room cs other_cs r other e f =
    record {
      ticks_change_only_the_clock =
          subst (λ (z : Run). AlikeButForTicks cs z other_cs other) (sym e)
          (subst (λ (z : Run). AlikeButForTicks cs (run room cs (opened bid offer)) other_cs z) (sym f) (ticks_change_only_the_clock bid offer room other_room cs other_cs));
      lawful = lawful_of bid offer room cs r e;
      other_lawful = lawful_of bid offer other_room other_cs other f;
    }
