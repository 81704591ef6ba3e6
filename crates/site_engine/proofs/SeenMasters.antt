-- What the inboxes tell of the masters is what the site has seen of them.
use Rattle.std.proofs.Common.{◌≡◌, List, [], ◌∷◌, Bool, true, false, cond, Some, None, refl}
use Rattle.std.specs.Prelude.{◌&&◌, nat_lt, Option}
use Rattle.std.specs.List.{AllByRecursion}
use Rattle.rep_lists.specs.Rising.{IsRising}
use Rattle.rep_lists.proofs.Rising.{rising_put}
use Rattle.rep_values.specs.Order.{name_cmp}
use Rattle.std.proofs.lemmas.Cmp.{nat_list_cmp_total}
use Rattle.rep_schema.specs.declared.schema.Schema.{Schema}
use Rattle.rep_calls.specs.declared.past.PastEntry.{PastEntry}
use Rattle.site_state.specs.declared.entry.Entry.{Entry}
use Rattle.rep_schema.specs.Sites.{is_master_site}
use Rattle.site_state.specs.Pasts.{with_seen, past_at}
use Rattle.sender_inbox.specs.Incoming.{Incoming, seen_in}
use Rattle.sender_inbox.specs.Inboxes.{senders_in, Follows}
use Rattle.site_engine.specs.Seen.{by_name, seen_from, with_found, past_from}
use Rattle.sender_inbox.proofs.SenderInboxes.{seen_in-follows}

pub past_from-follows : (schema : Schema) (journal : List Entry) (inboxes : List Incoming) → AllByRecursion (Follows journal) inboxes → past_from schema inboxes ≡ past_at schema journal (senders_in inboxes)
past_from-follows schema journal [] follow = refl
past_from-follows schema journal (i ∷ is) follow =
    rw (past_from-follows schema journal is follow.1, ← seen_in-follows journal i follow.0) (go (is_master_site schema i.sender.origin && nat_lt 0 (seen_in i)))
  where
    go : (b : Bool) → with_found (cond b (Some (record { origin = i.sender.origin; number = seen_in i })) None) (past_at schema journal (senders_in is))
        ≡ with_seen b i.sender.origin (seen_in i) (past_at schema journal (senders_in is))
    go true = refl
    go false = refl

-- it rises by names
pub rising_found : (found : Option PastEntry) (past : List PastEntry) → IsRising by_name past → IsRising by_name (with_found found past)
rising_found None past rising = rising
rising_found (Some seen) past rising = rising_put (λ (s : PastEntry). s.origin.0) name_cmp nat_list_cmp_total seen past rising

pub rising_past : (schema : Schema) (inboxes : List Incoming) → IsRising by_name (past_from schema inboxes)
rising_past schema [] = tt
rising_past schema (i ∷ is) = rising_found (seen_from schema i) (past_from schema is) (rising_past schema is)
