-- The lines that a storm prints.
use Rattle.std.specs.Prelude.{ℕ, Bool, List, [], ◌∷◌, ◌++◌, if◌then◌else◌, codes, decimal}
use Rattle.std.specs.Fmt.{signed_decimal}
use Rattle.report_text.specs.Sheet.{line}
use Rattle.replication_cli.specs.declared.tally.Tally.{Tally}
use Rattle.replication_cli.specs.declared.stocks.Totals.{Totals}

-- storm SEED COUNT
abbrev pub storm_line : ℕ → ℕ → List ℕ
storm_line seed count = line (codes "storm") (decimal seed ∷ decimal count ∷ [])

-- commits N, refused N, pushes N, errors N
abbrev pub tally_lines : Tally → List ℕ
tally_lines t =
    line (codes "commits") (decimal t.commits ∷ []) ++
    (line (codes "refused") (decimal t.refused ∷ []) ++
    (line (codes "pushes") (decimal t.pushes ∷ []) ++
    line (codes "errors") (decimal t.errors ∷ [])))

-- rows N, qty N, top N
abbrev pub totals_lines : Totals → List ℕ
totals_lines t =
    line (codes "rows") (decimal t.rows ∷ []) ++
    (line (codes "qty") (signed_decimal t.qty ∷ []) ++
    line (codes "top") (signed_decimal t.top ∷ []))

-- agree yes, or agree no
abbrev pub agree_line : Bool → List ℕ
agree_line agree = line (codes "agree") ((if agree then codes "yes" else codes "no") ∷ [])
