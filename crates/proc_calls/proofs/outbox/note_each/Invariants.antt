-- Noting one site after the other.
use Rattle.std.proofs.Common.{◌≡◌, ◌-◌, ◌≤◌, length, map, take, drop}
use Rattle.std.specs.Prelude.{vec_len, vec_capacity}
use Rattle.std.specs.List.{AllByRecursion}
use Rattle.site_outbox.specs.Noting.{TokenStreams, AreNoted}
use Rattle.proc_calls.specs.Outgoing.{NamesApart, CanBeNoted, with_tokens, placed}
use Rattle.proc_calls.proofs.outbox.note_each.Given as goal

-- those so far are noted and listed, and those to come are apart and can be noted, with room for them
abbrev pub invariant-loop-site : goal.invariant-loop-site
invariant-loop-site l = record {
  apart : NamesApart (drop l.site-index l.sites);
  waiting : AllByRecursion (CanBeNoted l.index.streams (length l.tokens.list)) (drop l.site-index l.sites);
  room : length (drop l.site-index l.sites) ≤ vec_capacity l.to - vec_len l.to;
  list : (streams : TokenStreams) → AreNoted l.initial.index.streams streams → l.to.items ≡ map (placed l.tokens.list streams) (take l.site-index l.sites);
  noted : (streams : TokenStreams) → AreNoted l.initial.index.streams streams → AreNoted l.index.streams (with_tokens (take l.site-index l.sites) l.tokens.list streams);
  destinations : map (λ s. s.kept.site) l.index.streams ≡ map (λ s. s.kept.site) l.initial.index.streams;
}
