use Rattle.std.proofs.Common.{slice_index_or, sym, ap, ◌∙◌}
use Rattle.std.proofs.lemmas.Bool.{eq-eqb}
use Rattle.rep_values.specs.Padded.{len-same, cells-same}
use Rattle.rep_values.proofs.name.Name.begins_as.Goals as goal

-- names that are the same have the same cells
pub returns-then-self-other : goal.returns-then-self-other
returns-then-self-other c = λ same.
    let a = c.self.inside in
    let b = c.other.inside in
    eq-eqb (slice_index_or a.cells 0 0) (slice_index_or b.cells 0 0)
    (ap (λ cells. slice_index_or cells 0 0) (cells-same 30 0 a.len a.cells b.len b.cells c.self.invariant.1 c.other.invariant.1 (c.self.view_is ∙ same ∙ sym c.other.view_is)))

-- and are as long
pub returns-else-self-other : goal.returns-else-self-other
returns-else-self-other c = λ same.
    let a = c.self.inside in
    let b = c.other.inside in
    eq-eqb a.len b.len (len-same 30 0 a.len a.cells b.len b.cells c.self.invariant.1 c.other.invariant.1 (c.self.view_is ∙ same ∙ sym c.other.view_is))
