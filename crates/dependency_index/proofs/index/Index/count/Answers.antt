-- How many positions are noted.
use Rattle.std.proofs.Common.{refl, sym, ◌∙◌}
use Rattle.dependency_index.specs.Columns.{columns_of, noted_streams}
use Rattle.dependency_index.proofs.FirstStreams.{noted_to-none}
use Rattle.dependency_index.proofs.NotedColumns.{position-noted}
use Rattle.dependency_index.proofs.NotedNext.{first_noted}
use Rattle.dependency_index.proofs.index.Index.count.Goals as goal

pub returns-in-Some : goal.returns-in-Some
returns-in-Some c =
    let tokens = c.self.inside.tokens.keys in
    let streams = c.self.inside.streams.items in
    rw (← c.self.view_is, first_noted c.args.site.now tokens streams c.in-Some.place c.index.result.now (record { found = rw c.deref.ensures.value at c.in-Some.ensures; is = c.index.ensures })) c.count.ensures

pub returns-in-None : goal.returns-in-None
returns-in-None c =
    let tokens = c.self.inside.tokens.keys in
    let streams = c.self.inside.streams.items in
    let none = rw c.deref.ensures.value at c.in-None.ensures ∙ position-noted c.args.site.now tokens streams in
    rw (← c.self.view_is, noted_to-none c.args.site.now (noted_streams tokens (columns_of streams)) (sym none)) refl
