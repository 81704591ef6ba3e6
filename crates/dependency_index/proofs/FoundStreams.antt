-- What is found of streams that are kept, and of new ones.
use Rattle.std.proofs.Common.{◌≡◌, ℕ, ◌≤◌, Bool, true, false, cond, List, [], ◌∷◌, map, Option, Some, None, refl, ap, ◌∙◌, arith}
use Rattle.std.specs.Prelude.{◌≢◌}
use Rattle.std.specs.List.{AllByRecursion}
use Rattle.rep_values.specs.declared.name.SiteName.{SiteName}
use Rattle.rep_values.specs.Name.{same_bytes}
use Rattle.dependency_index.specs.declared.token.Token.{Token}
use Rattle.dependency_index.specs.Dependencies.{NotedStream, noted_to, count_in, noted_in, room_in, room_for, IsIndexed, IsNoted}
use Rattle.dependency_index.specs.Noting.{IsUnnoted, AreKept}

-- the sites of the streams
abbrev pub sites_of : List NotedStream → List SiteName
sites_of ss = map (λ (s : NotedStream). s.kept.site) ss

-- where streams are kept, the destinations are the same
pub sites-kept : (ss ts : List NotedStream) → AreKept ss ts → sites_of ts ≡ sites_of ss
sites-kept [] [] all = refl
sites-kept [] (t ∷ ts) all = absurd all
sites-kept (s ∷ ss) [] all = absurd all
sites-kept (s ∷ ss) (t ∷ ts) all = rw (all.0.kept.site, sites-kept ss ts all.1)

-- what is found before and after, where streams are kept
pub record IsFoundKept (old new : Option NotedStream) : Type 0 where
  pub count : count_in new ≡ count_in old
  pub last : (token : Token) → noted_in new token ≡ noted_in old token
  pub room : room_in old ≤ room_in new

-- of kept streams the same is found
pub noted_to-kept : (site : SiteName) (ss ts : List NotedStream) → AreKept ss ts → IsFoundKept (noted_to site ss) (noted_to site ts)
noted_to-kept site [] [] all = record { count = refl; last = λ token. refl; room = omega arith }
noted_to-kept site [] (t ∷ ts) all = absurd all
noted_to-kept site (s ∷ ss) [] all = absurd all
noted_to-kept site (s ∷ ss) (t ∷ ts) all = rw (ap (λ (n : SiteName). same_bytes n.0 site.0) all.0.kept.site) (go (same_bytes s.kept.site.0 site.0) (noted_to-kept site ss ts all.1))
  where
    go : (here : Bool) → IsFoundKept (noted_to site ss) (noted_to site ts) → IsFoundKept (cond here (Some s) (noted_to site ss)) (cond here (Some t) (noted_to site ts))
    go true rest = record { count = all.0.kept.count; last = all.0.kept.last; room = all.0.room }
    go false rest = rest

-- so the same is noted
pub IsNoted-kept : (ss ts : List NotedStream) (site : SiteName) (stream : List (List Token)) → AreKept ss ts → IsNoted ss site stream → IsNoted ts site stream
IsNoted-kept ss ts site stream all is = record {
  count = (noted_to-kept site ss ts all).count ∙ is.count;
  last = λ token. (noted_to-kept site ss ts all).last token ∙ is.last token;
}

-- a destination's stream is one of them, so what holds of each holds of it
pub room_for-each : (n : ℕ) (site : SiteName) (ss ts : List NotedStream) → AreKept ss ts → AllByRecursion (λ (s : NotedStream). n ≤ s.room) ts → IsIndexed ss site → n ≤ room_for ts site
room_for-each n site [] [] all each is = absurd (is refl)
room_for-each n site [] (t ∷ ts) all each is = absurd all
room_for-each n site (s ∷ ss) [] all each is = absurd all
room_for-each n site (s ∷ ss) (t ∷ ts) all each is = rw (ap (λ (n : SiteName). same_bytes n.0 site.0) all.0.kept.site) (go (same_bytes s.kept.site.0 site.0) (room_for-each n site ss ts all.1 each.1) is)
  where
    go : (here : Bool) → (IsIndexed ss site → n ≤ room_for ts site) → cond here (Some s) (noted_to site ss) ≢ None → n ≤ room_in (cond here (Some t) (noted_to site ts))
    go true rest is = each.0
    go false rest is = rest is

-- nothing is noted of what is found
record IsFoundUnnoted (found : Option NotedStream) : Type 0 where
  count : count_in found ≡ 0
  last : (token : Token) → noted_in found token ≡ 0

-- of new streams nothing is noted
pub IsNoted-new : (site : SiteName) (ss : List NotedStream) → AllByRecursion IsUnnoted ss → IsNoted ss site []
IsNoted-new site ss each = record { count = (found ss each).count; last = (found ss each).last }
  where
    found : (ss : List NotedStream) → AllByRecursion IsUnnoted ss → IsFoundUnnoted (noted_to site ss)
    found [] each = record { count = refl; last = λ token. refl }
    found (s ∷ ss) each = go (same_bytes s.kept.site.0 site.0) (found ss each.1)
      where
        go : (here : Bool) → IsFoundUnnoted (noted_to site ss) → IsFoundUnnoted (cond here (Some s) (noted_to site ss))
        go true rest = record { count = each.0.count; last = each.0.last }
        go false rest = rest
