-- A fault as people read it, of a register, a writer or a load: number, layer, place, words.
use Rattle.std.specs.Prelude.{ℕ, List, ◌++◌, codes, decimal}
use Rattle.register.specs.declared.fault.Report.{Report}

abbrev pub told : ℕ → ℕ → ℕ → List ℕ → List ℕ
told number layer place words =
    decimal number
    ++ (codes " (layer " ++ (decimal layer ++ (codes ", at " ++ (decimal place ++ (codes "): " ++ words)))))

abbrev pub report_text : Report → List ℕ
report_text report = told report.number report.layer report.place report.words.now
