-- The methods of groups and of constraints, as their lines give them.
use Rattle.std.specs.Prelude.{ℕ, List, [], ◌∷◌, codes}
use Rattle.rep_declare.specs.declared.declaration.MethodWords.{MethodWords}
use Rattle.rep_declare.specs.declared.declaration.MethodWords.TheVariants as method_words
use Rattle.rep_declare.specs.declared.declaration.UniqueWords.{UniqueWords}
use Rattle.rep_declare.specs.declared.declaration.UniqueWords.TheVariants as unique_words
use Rattle.script_words.specs.Reading.{Reading, ◌>>=◌, row, ◌⊛◌}
use Rattle.script_words.specs.Parts.{name, choice}
use Rattle.script_parse.specs.declared.methods.MethodHead.{MethodHead}
use Rattle.script_parse.specs.declared.methods.MethodHead.TheVariants as head
use Rattle.script_parse.specs.declared.methods.UniqueHead.{UniqueHead}
use Rattle.script_parse.specs.declared.methods.UniqueHead.TheVariants as unique_head

-- the first words of a group's methods
abbrev pub method_heads : List (List ℕ × MethodHead)
method_heads =
    (codes "latest", head.Latest) ∷
    (codes "earliest", head.Earliest) ∷
    (codes "overwrite", head.Overwrite) ∷
    (codes "discard", head.Discard) ∷
    (codes "additive", head.Additive) ∷
    (codes "average", head.Average) ∷
    (codes "maximum", head.Maximum) ∷
    (codes "minimum", head.Minimum) ∷
    (codes "priority", head.Priority) ∷
    (codes "site-priority", head.SitePriority) ∷
    []

-- what stands behind the first word
abbrev pub method_behind : MethodHead → Reading MethodWords
method_behind head.Latest = row method_words.Latest ⊛ name
method_behind head.Earliest = row method_words.Earliest ⊛ name
method_behind head.Overwrite = row method_words.Overwrite
method_behind head.Discard = row method_words.Discard
method_behind head.Additive = row method_words.Additive
method_behind head.Average = row method_words.Average
method_behind head.Maximum = row method_words.Maximum ⊛ name
method_behind head.Minimum = row method_words.Minimum ⊛ name
method_behind head.Priority = row method_words.Priority ⊛ name ⊛ name
method_behind head.SitePriority = row method_words.SitePriority ⊛ name

-- M: latest NAME, earliest NAME, overwrite, discard, additive, average, maximum NAME, minimum NAME, priority NAME NAME,
-- site-priority NAME
abbrev pub method : Reading MethodWords
method ts = choice method_heads ts >>= λ h. method_behind h.0 h.1

-- the first words of a constraint's methods
abbrev pub unique_heads : List (List ℕ × UniqueHead)
unique_heads =
    (codes "append-site", unique_head.AppendSite) ∷
    (codes "append-sequence", unique_head.AppendSequence) ∷
    (codes "discard", unique_head.Discard) ∷
    []

-- what stands behind the first word
abbrev pub unique_behind : UniqueHead → Reading UniqueWords
unique_behind unique_head.AppendSite = row unique_words.AppendSite ⊛ name
unique_behind unique_head.AppendSequence = row unique_words.AppendSequence ⊛ name
unique_behind unique_head.Discard = row unique_words.Discard

-- U: append-site NAME, append-sequence NAME, discard
abbrev pub unique_method : Reading UniqueWords
unique_method ts = choice unique_heads ts >>= λ h. unique_behind h.0 h.1
