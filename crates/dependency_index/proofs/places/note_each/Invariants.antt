-- The tokens so far are noted, and the greatest of their positions before is counted.
use Rattle.std.proofs.Common.{◌≡◌, ◌+◌, ◌<◌, ◌≤◌, take}
use Rattle.std.specs.Prelude.{vec_capacity}
use Rattle.std.specs.List.{IsDistinct}
use Rattle.indexmap.specs.IndexSet.{spare}
use Rattle.dependency_index.specs.declared.token.Token.{Token}
use Rattle.dependency_index.specs.Tokens.{is_same_token}
use Rattle.dependency_index.specs.Noting.{greatest_noted}
use Rattle.dependency_index.specs.Columns.{last_of, Notes}
use Rattle.dependency_index.proofs.places.note_each.Given as goal

abbrev pub invariant-loop-token : goal.invariant-loop-token
invariant-loop-token l = record {
  notes : Notes (take l.token-index l.list) l.position l.initial.tokens.keys l.tokens.keys l.initial.last.items l.last.items;
  greatest : ((token : Token) → last_of l.initial.tokens.keys l.initial.last.items token < l.position) → l.greatest ≡ greatest_noted (take l.token-index l.list) (last_of l.initial.tokens.keys l.initial.last.items);
  spare : spare l.initial.tokens ≤ spare l.tokens + l.token-index;
  distinct : IsDistinct is_same_token l.tokens.keys;
  capacity : vec_capacity l.last ≡ vec_capacity l.initial.last;
}
