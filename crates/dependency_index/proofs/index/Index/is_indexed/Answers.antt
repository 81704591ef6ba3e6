-- Whether a site is a destination.
use Rattle.dependency_index.specs.Columns.{columns_of, noted_streams}
use Rattle.dependency_index.proofs.FirstStreams.{is_some-position}
use Rattle.dependency_index.proofs.NotedColumns.{position-noted}
use Rattle.dependency_index.proofs.index.Index.is_indexed.Goals as goal

pub returns : goal.returns
returns c =
    let tokens = c.self.inside.tokens.keys in
    let streams = c.self.inside.streams.items in
    rw (← c.self.view_is, c.is_some.ensures, c.place_to.ensures, c.deref.ensures.value, position-noted c.args.site.now tokens streams) (is_some-position c.args.site.now (noted_streams tokens (columns_of streams)))
