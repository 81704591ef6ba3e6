use Rattle.std.proofs.Common.{leb, leb-true, leb-false, rules}
use Rattle.std.proofs.lemmas.List.Sorted.{IsPartitionPoint-from_clause, IsPartitionedBy-leb}
use Rattle.page_tables.proofs.starts.started.Goals as goal

-- the closure tells which starts are at the place or before it, and the starts rise
pub returns-clause-point : goal.returns-clause-point
returns-clause-point c =
    let parted = IsPartitionedBy-leb (λ start. start) _ c.args.place c.requires in
    let point = IsPartitionPoint-from_clause (λ start. leb start c.args.place) c.args.starts.now c.partition_point.result c.partition_point.ensures.partitioned parted (λ a r q k. search rules) in
    (λ k d first within. leb-true _ _ (point.0 k d first within), λ k d first within. leb-false _ _ (point.1 k d first within))
