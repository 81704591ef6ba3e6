-- The destinations of an outbox: what they have of its outlets and of its queue's marks, and what a mark does to them.
use Rattle.std.proofs.Common.{◌≡◌, ℕ, ◌+◌, ◌≤◌, Bool, true, false, cond, max, List, [], ◌∷◌, map, Option, Some, None, refl, ap, subst, ◌∙◌, arith}
use Rattle.std.specs.Prelude.{◌||◌, is_some}
use Rattle.std.specs.List.{AllByRecursion, list_any}
use Rattle.rep_values.specs.declared.name.SiteName.{SiteName}
use Rattle.rep_schema.specs.declared.schema.Schema.{Schema}
use Rattle.deferred_queue.specs.Streams.{Mark, acked_by, raised_mark, last_position}
use Rattle.rep_values.specs.SiteNames.{is_same_site}
use Rattle.deferred_queue.proofs.Sites.{is_same_site-true}
use Rattle.site_state.specs.State.{DestinationState, destination_of, at_destination, acked_in}
use Rattle.site_state.specs.Steps.{is_open}
use Rattle.site_state.specs.Packets.{acknowledged, count_opened}
use Rattle.site_state.specs.Making.{new_destination}
use Rattle.rep_schema.specs.Sites.{is_late_master}
use Rattle.site_state.specs.Deferrals.{StandApart}
use Rattle.site_state.proofs.Destinations.{destination_split}
use Rattle.site_state.proofs.Deferring.{AreFound, apart_names, all_found, acked_by-marks}
use Rattle.site_outbox.specs.declared.destination_entry.DestinationEntry.{DestinationEntry}
use Rattle.site_outbox.specs.DestinationEntries.{first_acked, later_marks, with_marks, with_mark, destination_mark, new_destination_entry, EntriesApart}
use Rattle.site_outbox.specs.OutboxInvariant.{IsWithin}

-- the sites of marks, and of outlets
abbrev pub marked_sites : List Mark → List SiteName
marked_sites ms = map (λ (m : Mark). m.site) ms

abbrev pub entry_sites : List DestinationEntry → List SiteName
entry_sites os = map (λ (o : DestinationEntry). o.site) os

-- ---- marks

-- the destinations have the marks
pub marks-joined : (os : List DestinationEntry) (ms : List Mark) → marked_sites ms ≡ entry_sites os → map destination_mark (with_marks os ms) ≡ ms
marks-joined [] [] same = refl
marks-joined [] (m ∷ ms) same = absurd (cc same)
marks-joined (o ∷ os) [] same = absurd (cc same)
marks-joined (o ∷ os) (m ∷ ms) same =
    let first : m.site ≡ o.site = cc same in
    let rest : marked_sites ms ≡ entry_sites os = cc same in
    rw (marks-joined os ms rest, ← first) refl

own_marks : (all : List DestinationState) (os : List DestinationEntry) (ms : List Mark) → AreFound all (with_marks os ms) → with_marks os ms ≡ map (with_mark (map destination_mark all)) os
own_marks all [] ms found = refl
own_marks all (o ∷ os) ms found =
    let own : acked_by o.site (map destination_mark all) ≡ first_acked ms = acked_by-marks o.site all ∙ ap acked_in found.0 in
    rw (own, own_marks all os (later_marks ms) found.1) refl

-- each mark is found by its site
pub with_marks-with_mark : (os : List DestinationEntry) (ms : List Mark) → marked_sites ms ≡ entry_sites os → StandApart (with_marks os ms) → with_marks os ms ≡ map (with_mark ms) os
with_marks-with_mark os ms same apart = subst (λ (marks : List Mark). with_marks os ms ≡ map (with_mark marks) os) (marks-joined os ms same) (own_marks (with_marks os ms) os ms (all_found (with_marks os ms) apart))

-- what holds of each destination holds of each outlet with the mark of its site
pub each-with_mark : (P : DestinationState → Type 0) (Q : DestinationEntry → Type 0) (ms : List Mark) (os : List DestinationEntry) → ((o : DestinationEntry) → P (with_mark ms o) → Q o) → AllByRecursion P (map (with_mark ms) os) → AllByRecursion Q os
each-with_mark P Q ms [] follows each = tt
each-with_mark P Q ms (o ∷ os) follows each = (follows o each.0, each-with_mark P Q ms os follows each.1)

-- what holds of each destination, whatever its mark, holds of each outlet
pub each-joined : (P : DestinationState → Type 0) (Q : DestinationEntry → Type 0) (os : List DestinationEntry) (ms : List Mark) → ((o : DestinationEntry) (acked : ℕ) → P (record { site = o.site; opened = o.opened; acked = acked }) → Q o) → AllByRecursion P (with_marks os ms) → AllByRecursion Q os
each-joined P Q [] ms follows each = tt
each-joined P Q (o ∷ os) ms follows each = (follows o (first_acked ms) each.0, each-joined P Q os (later_marks ms) follows each.1)

-- ---- one of them

-- a site is a destination where an outlet is to it
pub is_some-destination_of : (site : SiteName) (os : List DestinationEntry) (ms : List Mark) → is_some (destination_of site (with_marks os ms)) ≡ list_any (λ (o : DestinationEntry). is_same_site o.site site) os
is_some-destination_of site [] ms = refl
is_some-destination_of site (o ∷ os) ms = go (is_same_site o.site site) (is_some-destination_of site os (later_marks ms))
  where
    go : (b : Bool) → is_some (destination_of site (with_marks os (later_marks ms))) ≡ list_any (λ (o : DestinationEntry). is_same_site o.site site) os
        → is_some (cond b (Some (record { site = o.site; opened = o.opened; acked = first_acked ms })) (destination_of site (with_marks os (later_marks ms)))) ≡ (b || list_any (λ (o : DestinationEntry). is_same_site o.site site) os)
    go true later = refl
    go false later = later

-- one is open where an outlet is
pub is_open-joined : (os : List DestinationEntry) (ms : List Mark) → list_any is_open (with_marks os ms) ≡ list_any (λ (o : DestinationEntry). is_some o.opened) os
is_open-joined [] ms = refl
is_open-joined (o ∷ os) ms = ap (λ b. is_some o.opened || b) (is_open-joined os (later_marks ms))

-- where the destinations are apart, the outlets are
pub entries_apart : (os : List DestinationEntry) (ms : List Mark) → StandApart (with_marks os ms) → EntriesApart os
entries_apart [] ms apart = tt
entries_apart (o ∷ os) ms apart =
    (others os (later_marks ms) (apart_names (record { site = o.site; opened = o.opened; acked = first_acked ms }) (with_marks os (later_marks ms)) apart.0), entries_apart os (later_marks ms) apart.1)
  where
    others : (ps : List DestinationEntry) (ms : List Mark) → AllByRecursion (λ (e : DestinationState). is_same_site o.site e.site ≡ false) (with_marks ps ms) → AllByRecursion (λ (other : DestinationEntry). is_same_site o.site other.site ≡ false) ps
    others [] ms each = tt
    others (p ∷ ps) ms each = (each.0, others ps (later_marks ms) each.1)

-- ---- a mark

pub none_changes : (site : SiteName) (change : DestinationState → DestinationState) (ds : List DestinationState) → destination_of site ds ≡ None → at_destination site change ds ≡ ds
none_changes site change [] none = refl
none_changes site change (d ∷ ds) none = go (is_same_site d.site site) none (none_changes site change ds)
  where
    go : (b : Bool) → cond b (Some d) (destination_of site ds) ≡ None → (destination_of site ds ≡ None → at_destination site change ds ≡ ds)
        → cond b (change d ∷ ds) (d ∷ at_destination site change ds) ≡ d ∷ ds
    go true none later = absurd (cc none)
    go false none later = ap (λ rest. d ∷ rest) (later none)

-- a mark for a site changes its destination alone
pub with_marks-raised : (site : SiteName) (mark : ℕ) (os : List DestinationEntry) (ms : List Mark) → marked_sites ms ≡ entry_sites os → StandApart (with_marks os ms)
    → with_marks os (map (raised_mark site mark) ms) ≡ at_destination site (acknowledged mark) (with_marks os ms)
with_marks-raised site mark [] ms same apart = refl
with_marks-raised site mark (o ∷ os) [] same apart = absurd (cc same)
with_marks-raised site mark (o ∷ os) (m ∷ ms) same apart =
    let first : m.site ≡ o.site = cc same in
    let rest : marked_sites ms ≡ entry_sites os = cc same in
    rw (first, with_marks-raised site mark os ms rest apart.1) (go (is_same_site o.site site) refl)
  where
    go : (b : Bool) → is_same_site o.site site ≡ b
        → record { site = o.site; opened = o.opened; acked = (cond {A = Mark} b (record { site = o.site; acked = max m.acked mark }) (record { site = o.site; acked = m.acked })).acked } ∷ at_destination site (acknowledged mark) (with_marks os ms)
        ≡ cond b (acknowledged mark (record { site = o.site; opened = o.opened; acked = m.acked }) ∷ with_marks os ms) (record { site = o.site; opened = o.opened; acked = m.acked } ∷ at_destination site (acknowledged mark) (with_marks os ms))
    go true is =
        let none : destination_of site (with_marks os ms) ≡ None = rw (is_same_site-true o.site site is) at apart.0 in
        rw (none_changes site (acknowledged mark) (with_marks os ms) none) refl
    go false is = refl

-- the sites of the marks stay
pub marked_sites-raised : (site : SiteName) (mark : ℕ) (ms : List Mark) → marked_sites (map (raised_mark site mark) ms) ≡ marked_sites ms
marked_sites-raised site mark [] = refl
marked_sites-raised site mark (m ∷ ms) = rw (marked_sites-raised site mark ms) (go (is_same_site m.site site))
  where
    go : (b : Bool) → (cond {A = Mark} b (record { site = m.site; acked = max m.acked mark }) m).site ∷ marked_sites ms ≡ m.site ∷ marked_sites ms
    go true = refl
    go false = refl

-- the destinations stay apart
pub StandApart-acknowledged : (site : SiteName) (mark : ℕ) (ds : List DestinationState) → StandApart ds → StandApart (at_destination site (acknowledged mark) ds)
StandApart-acknowledged site mark [] apart = tt
StandApart-acknowledged site mark (d ∷ ds) apart = go (is_same_site d.site site) (StandApart-acknowledged site mark ds apart.1)
  where
    none : destination_of d.site (at_destination site (acknowledged mark) ds) ≡ None
    none = destination_split (λ (o : Option DestinationState). o ≡ None) site d.site (acknowledged mark) ds (λ d. refl) (λ e names found. absurd (cc (found, apart.0))) apart.0

    go : (b : Bool) → StandApart (at_destination site (acknowledged mark) ds) → StandApart (cond b (acknowledged mark d ∷ ds) (d ∷ at_destination site (acknowledged mark) ds))
    go true later = apart
    go false later = (none, later)

-- what holds of each destination holds after one is changed, where it holds of that one
pub each-at_destination : (P : DestinationState → Type 0) (site : SiteName) (change : DestinationState → DestinationState) (ds : List DestinationState) → ((d : DestinationState) → d.site ≡ site → P d → P (change d))
    → AllByRecursion P ds → AllByRecursion P (at_destination site change ds)
each-at_destination P site change [] changed each = tt
each-at_destination P site change (d ∷ ds) changed each = go (is_same_site d.site site) refl (each-at_destination P site change ds changed each.1)
  where
    go : (b : Bool) → is_same_site d.site site ≡ b → AllByRecursion P (at_destination site change ds) → AllByRecursion P (cond b (change d ∷ ds) (d ∷ at_destination site change ds))
    go true is later = (changed d (is_same_site-true d.site site is) each.0, each.1)
    go false is later = (each.0, later)

-- ---- new destinations

-- a new mark
abbrev pub new_mark : SiteName → Mark
new_mark site = record { site = site; acked = 0 }

pub with_marks-new : (schema : Schema) (sites : List SiteName) → with_marks (map (new_destination_entry schema) sites) (map new_mark sites) ≡ map (new_destination schema) sites
with_marks-new schema [] = refl
with_marks-new schema (site ∷ sites) = ap (λ ds. new_destination schema site ∷ ds) (with_marks-new schema sites)

pub marked_sites-new : (sites : List SiteName) → marked_sites (map new_mark sites) ≡ sites
marked_sites-new [] = refl
marked_sites-new (site ∷ sites) = ap (λ rest. site ∷ rest) (marked_sites-new sites)

pub entry_sites-new : (schema : Schema) (sites : List SiteName) → entry_sites (map (new_destination_entry schema) sites) ≡ sites
entry_sites-new schema [] = refl
entry_sites-new schema (site ∷ sites) = ap (λ rest. site ∷ rest) (entry_sites-new schema sites)

-- nothing is acknowledged or queued
pub within-new : (schema : Schema) (sites : List SiteName) → AllByRecursion (IsWithin 0 []) (map (new_destination schema) sites)
within-new schema [] = tt
within-new schema (site ∷ sites) = (record { acked = omega arith; last = go (is_late_master schema site) }, within-new schema sites)
  where
    go : (b : Bool) → count_opened (cond b None (Some 0)) + last_position site [] ≤ 0
    go true = omega arith
    go false = omega arith
