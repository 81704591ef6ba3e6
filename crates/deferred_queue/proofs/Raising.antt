-- What a mark does to the streams.
use Rattle.std.proofs.Common.{◌≡◌, ℕ, ◌+◌, ◌≤◌, Bool, true, false, cond, max, List, [], ◌∷◌, length, map, Option, refl, sym, ap, ◌∙◌, arith}
use Rattle.std.specs.List.{AllByRecursion}
use Rattle.rep_values.specs.declared.name.SiteName.{SiteName}
use Rattle.deferred_queue.specs.declared.queued_txn.QueuedTxn.{QueuedTxn}
use Rattle.deferred_queue.specs.Streams.{Mark, raised_mark}
use Rattle.rep_values.specs.SiteNames.{is_same_site}
use Rattle.deferred_queue.specs.QueueState.{Kept, QueueState, kept_of, rooms_of, destinations_of, queued, stream_marks, stream_mark, entries_to, stream_raised, held_raised, AreAlike, IsStream, AreStreams}
use Rattle.deferred_queue.proofs.Sites.{is_same_site-true}

-- the room apart, a stream is raised
pub kept_of-held_raised : (site : SiteName) (mark : ℕ) (hs : List QueueState) → kept_of (map (held_raised site mark) hs) ≡ map (stream_raised site mark) (kept_of hs)
kept_of-held_raised site mark [] = refl
kept_of-held_raised site mark (h ∷ hs) = ap (λ ks. stream_raised site mark h.kept ∷ ks) (kept_of-held_raised site mark hs)

-- the room stays
pub rooms_of-held_raised : (site : SiteName) (mark : ℕ) (hs : List QueueState) → rooms_of (map (held_raised site mark) hs) ≡ rooms_of hs
rooms_of-held_raised site mark [] = refl
rooms_of-held_raised site mark (h ∷ hs) = ap (λ rs. h.room ∷ rs) (rooms_of-held_raised site mark hs)

destinations_of-raised : (site : SiteName) (mark number : ℕ) (ks : List Kept) → destinations_of number (map (stream_raised site mark) ks) ≡ destinations_of number ks
destinations_of-raised site mark number [] = refl
destinations_of-raised site mark number (k ∷ ks) = rw (destinations_of-raised site mark number ks) refl

-- the transactions keep their destinations
pub queued-raised : (site : SiteName) (mark : ℕ) (ks : List Kept) (cargoes : List (Option QueuedTxn)) → queued (map (stream_raised site mark) ks) cargoes ≡ queued ks cargoes
queued-raised site mark ks [] = refl
queued-raised site mark ks (cargo ∷ older) = rw (destinations_of-raised site mark (length older + 1) ks, queued-raised site mark ks older) refl

-- the marks are raised
pub marks_of-raised : (site : SiteName) (mark : ℕ) (ks : List Kept) → stream_marks (map (stream_raised site mark) ks) ≡ map (raised_mark site mark) (stream_marks ks)
marks_of-raised site mark [] = refl
marks_of-raised site mark (k ∷ ks) = rw (marks_of-raised site mark ks, here (is_same_site k.site site)) refl
  where
    here : (b : Bool) → record { site = k.site; acked = cond b (max k.acked mark) k.acked } ≡ cond {A = Mark} b (record { site = k.site; acked = max k.acked mark }) (stream_mark k)
    here true = refl
    here false = refl

-- streams stay streams where the mark isn't behind the last position
pub AreStreams-raised : (site : SiteName) (mark count : ℕ) (ks : List Kept) → mark ≤ length (entries_to site ks) → AreStreams count ks → AreStreams count (map (stream_raised site mark) ks)
AreStreams-raised site mark count ks within are = record { each = each_raised ks are.each (all_within ks are.alike within); alike = alike_raised ks are.alike }
  where
    Covers : Kept → Type 0
    Covers k = is_same_site k.site site ≡ true → mark ≤ length k.entries

    as_first : (k : Kept) (ks : List Kept) → is_same_site k.site site ≡ true → mark ≤ length k.entries → AllByRecursion (λ (other : Kept). other.site ≡ k.site → other ≡ k) ks → AllByRecursion Covers ks
    as_first k [] is within alike = tt
    as_first k (other ∷ ks) is within alike =
        (λ same. rw (ap (λ (x : Kept). x.entries) (alike.0 (is_same_site-true other.site site same ∙ sym (is_same_site-true k.site site is)))) within, as_first k ks is within alike.1)

    all_within : (ks : List Kept) → AreAlike ks → mark ≤ length (entries_to site ks) → AllByRecursion Covers ks
    all_within [] alike within = tt
    all_within (k ∷ ks) alike within = go (is_same_site k.site site) refl (all_within ks alike.1) within
      where
        go : (b : Bool) → is_same_site k.site site ≡ b → (mark ≤ length (entries_to site ks) → AllByRecursion Covers ks) → mark ≤ length (cond b k.entries (entries_to site ks)) → AllByRecursion Covers (k ∷ ks)
        go true is later within = (λ same. within, as_first k ks is within alike.0)
        go false is later within = (λ same. absurd (cc (is, same)), later within)

    each_raised : (ks : List Kept) → AllByRecursion (IsStream count) ks → AllByRecursion Covers ks → AllByRecursion (IsStream count) (map (stream_raised site mark) ks)
    each_raised [] each covers = tt
    each_raised (k ∷ ks) each covers = (record { falling = each.0.falling; earlier = each.0.earlier; within = go (is_same_site k.site site) covers.0 }, each_raised ks each.1 covers.1)
      where
        go : (b : Bool) → (b ≡ true → mark ≤ length k.entries) → cond b (max k.acked mark) k.acked ≤ length k.entries
        go true covered = omega (arith, each.0.within, covered refl)
        go false covered = each.0.within

    alike_one : (k : Kept) (ks : List Kept) → AllByRecursion (λ (other : Kept). other.site ≡ k.site → other ≡ k) ks
        → AllByRecursion (λ (other : Kept). other.site ≡ k.site → other ≡ stream_raised site mark k) (map (stream_raised site mark) ks)
    alike_one k [] alike = tt
    alike_one k (other ∷ ks) alike = (λ same. ap (stream_raised site mark) (alike.0 same), alike_one k ks alike.1)

    alike_raised : (ks : List Kept) → AreAlike ks → AreAlike (map (stream_raised site mark) ks)
    alike_raised [] alike = tt
    alike_raised (k ∷ ks) alike = (alike_one k ks alike.0, alike_raised ks alike.1)
