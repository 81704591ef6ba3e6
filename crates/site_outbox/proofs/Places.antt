-- The destinations of a transaction: they are apart, in the order of the marks, and can be sent to.
use Rattle.std.proofs.Common.{◌≡◌, ℕ, ◌+◌, ◌≤◌, Bool, true, false, cond, List, [], ◌∷◌, length, map, Option, Some, None, refl, ap, subst, ◌∙◌, arith}
use Rattle.std.specs.Prelude.{filter_map, option_map, nat_lt, IfSome}
use Rattle.std.specs.List.{AllByRecursion, cons_option}
use Rattle.std.proofs.lemmas.Bool.Decides.{nat_tests}
use Rattle.rep_values.specs.declared.name.SiteName.{SiteName}
use Rattle.rep_schema.specs.declared.schema.Schema.{Schema}
use Rattle.rep_calls.specs.declared.call.Txn.{Txn}
use Rattle.dependency_index.specs.declared.token.Token.{Token}
use Rattle.dependency_index.specs.Tokens.{txn_tokens, share_token}
use Rattle.dependency_index.specs.Dependencies.{dependency_number}
use Rattle.dependency_index.proofs.NotedTokens.{last_where-bound}
use Rattle.deferred_queue.specs.declared.destination.Destination.{Destination}
use Rattle.deferred_queue.specs.Streams.{Mark, Deferrals, CanBeSent, IsDestination, DestinationsApart, destination_to, in_order, last_position}
use Rattle.rep_values.specs.SiteNames.{is_same_site}
use Rattle.deferred_queue.proofs.Sites.{is_same_site-true}
use Rattle.site_state.specs.State.{DestinationState, destination_of, opened_in}
use Rattle.site_state.specs.Streams.{stream_in}
use Rattle.site_state.specs.Deferrals.{place_since, place_for, StandApart}
use Rattle.site_state.proofs.Deferring.{AreFound, all_found}
use Rattle.site_outbox.specs.DestinationEntries.{destination_mark}
use Rattle.site_outbox.specs.Noting.{TokenStreams, place_at}
use Rattle.site_outbox.proofs.Noting.{place_now}

module _ (tokens : List Token) (streams : TokenStreams) where
  -- the destinations of a transaction with these tokens
  abbrev pub sent_to : List DestinationState → List Destination
  sent_to ds = filter_map (place_now tokens streams) ds

  -- one is found by its site where it is open
  pub destination_to-sent_to : (site : SiteName) (ds : List DestinationState) → StandApart ds → destination_to site (sent_to ds) ≡ place_at tokens streams site (opened_in (destination_of site ds))
  destination_to-sent_to site [] apart = refl
  destination_to-sent_to site (d ∷ ds) apart = go (is_same_site d.site site) refl (destination_to-sent_to site ds apart.1)
    where
      own : (o : Option ℕ) → is_same_site d.site site ≡ true → destination_to site (sent_to ds) ≡ None → destination_to site (cons_option (place_at tokens streams d.site o) (sent_to ds)) ≡ place_at tokens streams site o
      own None is nothing = nothing
      own (Some opened) is nothing = rw is (ap (λ (s : SiteName). Some (record { site = s; dep = dependency_number tokens (streams s) })) (is_same_site-true d.site site is))

      other : (o : Option ℕ) → is_same_site d.site site ≡ false → destination_to site (cons_option (place_at tokens streams d.site o) (sent_to ds)) ≡ destination_to site (sent_to ds)
      other None is = refl
      other (Some opened) is = rw is refl

      go : (b : Bool) → is_same_site d.site site ≡ b → destination_to site (sent_to ds) ≡ place_at tokens streams site (opened_in (destination_of site ds))
          → destination_to site (cons_option (place_at tokens streams d.site d.opened) (sent_to ds)) ≡ place_at tokens streams site (opened_in (cond b (Some d) (destination_of site ds)))
      go true is later =
          let none : destination_of site ds ≡ None = rw (is_same_site-true d.site site is) at apart.0 in
          own d.opened is (later ∙ ap (λ (o : Option DestinationState). place_at tokens streams site (opened_in o)) none)
      go false is later = other d.opened is ∙ later

  -- no two are the same site
  pub AreApart-sent_to : (ds : List DestinationState) → StandApart ds → DestinationsApart (sent_to ds)
  AreApart-sent_to [] apart = tt
  AreApart-sent_to (d ∷ ds) apart = go d.opened (AreApart-sent_to ds apart.1)
    where
      go : (o : Option ℕ) → DestinationsApart (sent_to ds) → DestinationsApart (cons_option (place_at tokens streams d.site o) (sent_to ds))
      go None later = later
      go (Some opened) later =
          (destination_to-sent_to d.site ds apart.1 ∙ ap (λ (o : Option DestinationState). place_at tokens streams d.site (opened_in o)) apart.0, later)

  -- they stand in the order of the marks
  pub in_order-sent_to : (ds : List DestinationState) → StandApart ds → in_order (map destination_mark ds) (sent_to ds) ≡ sent_to ds
  in_order-sent_to ds apart = each ds (all_found ds apart)
    where
      own : (site : SiteName) (o : Option ℕ) → option_map (λ (d : Destination). record { site = site; dep = d.dep }) (place_at tokens streams site o) ≡ place_at tokens streams site o
      own site None = refl
      own site (Some opened) = refl

      each : (es : List DestinationState) → AreFound ds es → in_order (map destination_mark es) (sent_to ds) ≡ sent_to es
      each [] found = refl
      each (e ∷ es) found =
          let here : destination_to e.site (sent_to ds) ≡ place_at tokens streams e.site e.opened =
          destination_to-sent_to e.site ds apart ∙ ap (λ (o : Option DestinationState). place_at tokens streams e.site (opened_in o)) found.0 in
          rw (here, own e.site e.opened, each es found.1) refl

  -- each is a destination of the queue, and depends on a position that its stream has
  pub can_be_sent : (queue : Deferrals) (ds : List DestinationState) → map destination_mark ds ≡ queue.marks → ((site : SiteName) → length (streams site) ≡ last_position site queue.deferred) → StandApart ds
      → AllByRecursion (CanBeSent queue) (sent_to ds)
  can_be_sent queue ds marks long apart = each ds (all_found ds apart)
    where
      marked : (site : SiteName) (es : List DestinationState) (d : DestinationState) → destination_of site es ≡ Some d → IsDestination (map destination_mark es) site
      marked site [] d found = absurd (cc found)
      marked site (e ∷ es) d found = go (is_same_site e.site site) found (marked site es d)
        where
          go : (b : Bool) → cond b (Some e) (destination_of site es) ≡ Some d → (destination_of site es ≡ Some d → IsDestination (map destination_mark es) site)
              → cond b (Some (record { site = e.site; dep = 0 })) (destination_to site (map (λ (m : Mark). record { site = m.site; dep = 0 }) (map destination_mark es))) ≡ None → ⊥
          go true found later none = absurd (cc none)
          go false found later none = later found none

      one : (e : DestinationState) (o : Option ℕ) → destination_of e.site ds ≡ Some e → (rest : List Destination) → AllByRecursion (CanBeSent queue) rest
          → AllByRecursion (CanBeSent queue) (cons_option (place_at tokens streams e.site o) rest)
      one e None found rest later = later
      one e (Some opened) found rest later =
          (record { destination = subst (λ (ms : List Mark). IsDestination ms e.site) marks (marked e.site ds e found); earlier = omega (arith, long e.site, last_where-bound (share_token tokens) (streams e.site)) }, later)

      each : (es : List DestinationState) → AreFound ds es → AllByRecursion (CanBeSent queue) (sent_to es)
      each [] found = tt
      each (e ∷ es) found = one e e.opened found.0 (sent_to es) (each es found.1)

-- ---- the destinations that a site's own words give

-- the tokens of the streams to these destinations
abbrev pub token_streams : Schema → List DestinationState → List Txn → TokenStreams
token_streams schema ds txns site = map (txn_tokens schema) (stream_in (opened_in (destination_of site ds)) txns)

-- opened at the count at the latest
abbrev pub IsOpenedBy : ℕ → DestinationState → Type 0
IsOpenedBy count d = IfSome d.opened (λ opened. opened ≤ count)

-- the next transaction goes to each that is open
pub sent_to-place_for : (schema : Schema) (txn : Txn) (txns : List Txn) (ds : List DestinationState) → StandApart ds → AllByRecursion (IsOpenedBy (length txns)) ds
    → sent_to (txn_tokens schema txn) (token_streams schema ds txns) ds ≡ filter_map (place_for schema txn txns) ds
sent_to-place_for schema txn txns ds apart opened = each ds (all_found ds apart) opened
  where
    one : (e : DestinationState) (o : Option ℕ) → e.opened ≡ o → destination_of e.site ds ≡ Some e → IfSome o (λ n. n ≤ length txns)
        → place_at (txn_tokens schema txn) (token_streams schema ds txns) e.site o ≡ place_since schema txn txns e.site o
    one e None is found within = refl
    one e (Some n) is found within =
        let open_is : opened_in (destination_of e.site ds) ≡ Some n = ap opened_in found ∙ is in
        let above : nat_lt n (length txns + 1) ≡ true = grind (arith, nat_tests) in
        rw (open_is, above) refl

    each : (es : List DestinationState) → AreFound ds es → AllByRecursion (IsOpenedBy (length txns)) es → filter_map (place_now (txn_tokens schema txn) (token_streams schema ds txns)) es ≡ filter_map (place_for schema txn txns) es
    each [] found opened = refl
    each (e ∷ es) found opened = rw (one e e.opened refl found.0 opened.0, each es found.1 opened.1) refl
