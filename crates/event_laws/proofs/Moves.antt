-- What a call owes the snapshots, at their master and at their own site.
use Rattle.std.proofs.Common.{◌≡◌, ◌≢◌, ℕ, ◌<◌, ◌≤◌, List, [], ◌∷◌, map, Bool, true, ap, ◌∙◌, inl, inr}
use Rattle.std.specs.Prelude.{◌⊎◌}
use Rattle.std.specs.List.{AllByRecursion}
use Rattle.rep_schema.specs.declared.schema.Schema.{Schema}
use Rattle.rep_schema.specs.declared.change.Change.{Change}
use Rattle.rep_schema.specs.Changes.{LeadsTo}
use Rattle.snapshot_query.specs.declared.snapshot.Snapshot.{Snapshot}
use Rattle.site_state.specs.State.{SiteState}
use Rattle.site_state.specs.Contents.{tables_of}
use Rattle.change_logs.specs.Noting.{logged_in, touched_in}
use Rattle.site_state.specs.Fits.{SnapshotsApart}

-- ---- lists

pub all_map : {X Y : Type 0} (P : X → Type 0) (Q : Y → Type 0) (f : X → Y) (xs : List X) → ((x : X) → P x → Q (f x)) → AllByRecursion P xs → AllByRecursion Q (map f xs)
all_map P Q f [] each all = tt
all_map P Q f (x ∷ xs) each all = (each x all.0, all_map P Q f xs each all.1)

pub all_weaker : {X : Type 0} (P Q : X → Type 0) (xs : List X) → ((x : X) → P x → Q x) → AllByRecursion P xs → AllByRecursion Q xs
all_weaker P Q [] each all = tt
all_weaker P Q (x ∷ xs) each all = (each x all.0, all_weaker P Q xs each all.1)

-- ---- what a call owes

-- nothing that matters here changes but the moment
pub record Quiet (x y : SiteState) : Type 0 where
  pub here : y.here ≡ x.here
  pub moment : x.moment ≤ y.moment
  pub tables : tables_of y ≡ tables_of x
  pub logs : y.logs ≡ x.logs
  pub snapshots : y.snapshots ≡ x.snapshots

-- rows change, and are noted; at a master that is at a moment above each mark, if a pass was begun where it had to be
pub record Changes (schema : Schema) (begun : Bool) (x y : SiteState) : Type 0 where
  pub changes : List Change
  pub leads : LeadsTo schema changes (tables_of x) (tables_of y)
  pub here : y.here ≡ x.here
  pub moment : x.moment ≤ y.moment
  pub logs : y.logs ≡ map (logged_in schema y.moment changes) x.logs
  pub snapshots : y.snapshots ≡ map (touched_in schema changes) x.snapshots
  pub above : x.here.is_master ≡ true → (mark : ℕ) → mark ≤ x.moment → (begun ≡ true → mark < x.moment) → mark < y.moment

abbrev pub Moves : Schema → Bool → SiteState → SiteState → Type 0
Moves schema begun x y = Quiet x y ⊎ Changes schema begun x y

-- ---- of the snapshots alone

apart_touched : (schema : Schema) (changes : List Change) (ss : List Snapshot) → SnapshotsApart ss → SnapshotsApart (map (touched_in schema changes) ss)
apart_touched schema changes [] apart = tt
apart_touched schema changes (s ∷ ss) apart =
    (all_map (λ (t : Snapshot). t.table ≢ s.table) (λ (t : Snapshot). t.table ≢ s.table) (touched_in schema changes) ss (λ t other. other) apart.0, apart_touched schema changes ss apart.1)

pub apart_moves : (schema : Schema) (b : Bool) (x y : SiteState) → Moves schema b x y → SnapshotsApart x.snapshots → SnapshotsApart y.snapshots
apart_moves schema b x y (inl q) apart = rw q.snapshots apart
apart_moves schema b x y (inr c) apart = rw c.snapshots (apart_touched schema c.changes x.snapshots apart)

pub none_moves : (schema : Schema) (b : Bool) (x y : SiteState) → Moves schema b x y → x.snapshots ≡ [] → y.snapshots ≡ []
none_moves schema b x y (inl q) none = q.snapshots ∙ none
none_moves schema b x y (inr c) none = c.snapshots ∙ ap (map (touched_in schema c.changes)) none
