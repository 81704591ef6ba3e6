-- What a site had seen of other masters is within the limits of a packet.
use Rattle.std.proofs.Common.{◌≡◌, ◌≢◌, ℕ, ◌+◌, ◌≤◌, List, [], ◌∷◌, length, get_or, Bool, true, false, cond, Some, None, refl, sym, ap, ◌∙◌, arith, subst}
use Rattle.std.specs.Prelude.{◌&&◌, Option, filter, nat_lt}
use Rattle.std.specs.List.{find, count_by, AllByRecursion}
use Rattle.std.specs.declared.cmp.Ordering.{Ordering}
use Rattle.std.specs.declared.cmp.Ordering.TheVariants.{Less, Equal, Greater}
use Rattle.std.proofs.lemmas.Bool.Decides.{nat_tests}
use Rattle.std.proofs.lemmas.List.{get_or_default}
use Rattle.std.proofs.lemmas.List.Elements.{recursion_from_All}
use Rattle.std.proofs.lemmas.List.Recursion.{is_count_by}
use Rattle.rep_lists.specs.Rising.{put_at, put_here}
use Rattle.rep_lists.specs.RisingLaws.{RisesBy}
use Rattle.rep_lists.proofs.Rising.{all_put, rising_put}
use Rattle.rep_values.specs.declared.name.SiteName.{SiteName}
use Rattle.rep_values.specs.Order.{name_cmp}
use Rattle.std.proofs.lemmas.Cmp.{nat_list_cmp_total}
use Rattle.rep_schema.specs.declared.schema.Schema.{Schema}
use Rattle.rep_schema.specs.declared.schema.SiteEntry.{SiteEntry}
use Rattle.rep_schema.specs.Shape.{is_master, HasShape}
use Rattle.rep_schema.specs.Named.{is_site, site_named}
use Rattle.rep_schema.specs.Sites.{sends_to, names_of, senders_to, senders_of, is_master_site}
use Rattle.rep_calls.specs.declared.past.PastEntry.{PastEntry}
use Rattle.rep_values.specs.SiteNames.{is_same_site}
use Rattle.deferred_queue.proofs.Sites.{is_same_site-refl}
use Rattle.txn_effects.specs.declared.local.Here.{Here}
use Rattle.packet_code.specs.Limits.{IsPastEntry, IsCausalPast}
use Rattle.packet_code.specs.Texts.{PastHasForm}
use Rattle.site_state.specs.declared.entry.Entry.{Entry}
use Rattle.site_state.specs.declared.entry.Entry.TheVariants.{Local, Done, Error, Executed, Dropped, Refreshed}
use Rattle.site_state.specs.State.{SenderState}
use Rattle.site_state.specs.Streams.{with_one, went_onward}
use Rattle.site_state.specs.Pasts.{beside_name, with_seen, seen_of, past_at, pasts_after}
use Rattle.site_state.proofs.DeclaredSites.{origins}
use Rattle.site_state.proofs.SchemaSites.{AreApart, are_apart, found_any, any_found, place_found, to_itself, senders_of-others}

-- ---- at most 7 masters

-- how many entries are masters
abbrev masters_in : List SiteEntry → ℕ
masters_in [] = 0
masters_in (e ∷ es) = cond (is_master e) (1 + masters_in es) (masters_in es)

masters_in-count : (es : List SiteEntry) → masters_in es ≡ count_by is_master es
masters_in-count es = is_count_by masters_in is_master refl (λ x xs. refl) es

fewer_or_as_many : (test : SiteEntry → Bool) (es : List SiteEntry) → masters_in (filter test es) ≤ masters_in es
fewer_or_as_many test [] = omega arith
fewer_or_as_many test (e ∷ es) = go (test e) (is_master e) refl (fewer_or_as_many test es)
  where
    go : (b c : Bool) → is_master e ≡ c → masters_in (filter test es) ≤ masters_in es → masters_in (cond b (e ∷ filter test es) (filter test es)) ≤ cond c (1 + masters_in es) (masters_in es)
    go true true is later = rw is (omega (arith, later))
    go true false is later = rw is later
    go false true is later = omega (arith, later)
    go false false is later = later

-- fewer pass a test that one of the masters doesn't
fewer : (test : SiteEntry → Bool) (name : SiteName) (es : List SiteEntry) (s : SiteEntry) → find (is_site name) es ≡ Some s → test s ≡ false → is_master s ≡ true → masters_in (filter test es) + 1 ≤ masters_in es
fewer test name [] s found fails master = absurd (cc found)
fewer test name (e ∷ es) s found fails master = go (is_site name e) (test e) refl (is_master e) refl found (fewer test name es s)
  where
    go : (a b : Bool) → test e ≡ b → (c : Bool) → is_master e ≡ c → cond a (Some e) (find (is_site name) es) ≡ Some s
        → (find (is_site name) es ≡ Some s → test s ≡ false → is_master s ≡ true → masters_in (filter test es) + 1 ≤ masters_in es)
        → masters_in (cond b (e ∷ filter test es) (filter test es)) + 1 ≤ cond c (1 + masters_in es) (masters_in es)
    go true true passes c is found later = let same : e ≡ s = cc found in absurd (cc (same, passes, fails))
    go true false passes true is found later = omega (arith, fewer_or_as_many test es)
    go true false passes false is found later = let same : e ≡ s = cc found in absurd (cc (same, is, master))
    go false true passes true is found later = rw is (omega (arith, later found fails master))
    go false true passes false is found later = rw is (later found fails master)
    go false false passes true is found later = omega (arith, later found fails master)
    go false false passes false is found later = later found fails master

none_pass : (test : SiteEntry → Bool) (es : List SiteEntry) → ((e : SiteEntry) → test e ≡ false) → masters_in (filter test es) ≡ 0
none_pass test [] fails = refl
none_pass test (e ∷ es) fails = rw (fails e) (none_pass test es fails)

-- a site has at most 7 masters among its senders
few_masters : (schema : Schema) → HasShape schema → (site : SiteName) → masters_in (senders_to schema.sites (site_named schema site)) ≤ 7
few_masters schema shape site = go (site_named schema site) refl
  where
    most : masters_in schema.sites ≤ 8
    most = omega (arith, masters_in-count schema.sites, shape.masters)

    by : (to : SiteEntry) → site_named schema site ≡ Some to → (b : Bool) → is_master to ≡ b → masters_in (filter (λ from. sends_to from to) schema.sites) ≤ 7
    by to found true is = omega (arith, most, fewer (λ from. sends_to from to) site schema.sites to found (itself (sends_to to to) refl) is)
      where
        itself : (b : Bool) → sends_to to to ≡ b → b ≡ false
        itself true sends = absurd (to_itself schema shape to sends)
        itself false sends = refl
    by to found false is = let none = none_pass (λ from. sends_to from to) schema.sites (λ e. rw is refl) in omega (arith, none)

    go : (to : Option SiteEntry) → site_named schema site ≡ to → masters_in (senders_to schema.sites to) ≤ 7
    go None found = omega arith
    go (Some to) found = by to found (is_master to) refl

-- an entry is a master where the schema has a master of its name
abbrev SaysMaster : Schema → SiteEntry → Type 0
SaysMaster schema e = is_master_site schema e.name ≡ is_master e

says_each : (schema : Schema) → HasShape schema → AllByRecursion (SaysMaster schema) schema.sites
says_each schema shape = recursion_from_All (SaysMaster schema) schema.sites (λ k d within. go (get_or schema.sites k d)
    (place_found schema.sites k (get_or schema.sites k d) apart within (get_or_default schema.sites k (get_or schema.sites k d) d within)) (is_master (get_or schema.sites k d)) refl
    (is_master_site schema (get_or schema.sites k d).name) refl)
  where
    apart : AreApart schema.sites
    apart = are_apart schema.sites shape.site_names

    go : (e : SiteEntry) → find (is_site e.name) schema.sites ≡ Some e → (b : Bool) → is_master e ≡ b → (c : Bool) → is_master_site schema e.name ≡ c → c ≡ b
    go e found true is true says = refl
    go e found true is false says = absurd (cc (found_any is_master e.name schema.sites e found is, says))
    go e found false is true says = absurd (cc (any_found is_master e.name schema.sites e apart found says, is))
    go e found false is false says = refl

picked_each : (P : SiteEntry → Type 0) (test : SiteEntry → Bool) (es : List SiteEntry) → AllByRecursion P es → AllByRecursion P (filter test es)
picked_each P test [] all = tt
picked_each P test (e ∷ es) all = go (test e) (picked_each P test es all.1)
  where
    go : (b : Bool) → AllByRecursion P (filter test es) → AllByRecursion P (cond b (e ∷ filter test es) (filter test es))
    go true later = (all.0, later)
    go false later = later

says_senders : (schema : Schema) → HasShape schema → (to : Option SiteEntry) → AllByRecursion (SaysMaster schema) (senders_to schema.sites to)
says_senders schema shape None = tt
says_senders schema shape (Some to) = picked_each (SaysMaster schema) (λ from. sends_to from to) schema.sites (says_each schema shape)

length-put_at : (at : PastEntry → Ordering) (seen : PastEntry) (past : List PastEntry) → length (put_at at seen past) ≤ length past + 1
length-put_at at seen [] = omega arith
length-put_at at seen (s ∷ past) = go (at s) (length-put_at at seen past)
  where
    go : (o : Ordering) → length (put_at at seen past) ≤ length past + 1 → length (put_here o seen s past (put_at at seen past)) ≤ length (s ∷ past) + 1
    go Less later = omega (arith, later)
    go Equal later = omega arith
    go Greater later = omega arith

length-past_at : (schema : Schema) (journal : List Entry) (ss : List SenderState) (es : List SiteEntry) → origins ss ≡ names_of es → AllByRecursion (SaysMaster schema) es → length (past_at schema journal ss) ≤ masters_in es
length-past_at schema journal [] es names says = omega arith
length-past_at schema journal (s ∷ ss) [] names says = absurd (cc names)
length-past_at schema journal (s ∷ ss) (e ∷ es) names says =
    let name : s.origin ≡ e.name = cc names in
    let rest : origins ss ≡ names_of es = cc names in
    go (is_master_site schema s.origin) (is_master e) refl (ap (is_master_site schema) name ∙ says.0) (nat_lt 0 (seen_of journal s)) (length-past_at schema journal ss es rest says.1)
  where
    go : (b c : Bool) → is_master e ≡ c → b ≡ is_master e → (d : Bool) → length (past_at schema journal ss) ≤ masters_in es
        → length (with_seen (b && d) s.origin (seen_of journal s) (past_at schema journal ss)) ≤ cond c (1 + masters_in es) (masters_in es)
    go true true is same true later = omega (arith, later, length-put_at (beside_name s.origin) (record { origin = s.origin; number = seen_of journal s }) (past_at schema journal ss))
    go true true is same false later = omega (arith, later)
    go true false is same d later = absurd (cc (is, same))
    go false true is same d later = omega (arith, later)
    go false false is same d later = later

-- ---- other masters, in rising order

-- another site, and a number from 1
record IsOther (site : SiteName) (seen : PastEntry) : Type 0 where
  another : seen.origin ≢ site
  from_one : 1 ≤ seen.number

another_name : (site n : SiteName) → is_same_site n site ≡ false → n ≢ site
another_name site n off same = let own : is_same_site n site ≡ true = subst (λ (m : SiteName). is_same_site n m ≡ true) same (is_same_site-refl n) in absurd (cc (own, off))

others_past_at : (schema : Schema) (site : SiteName) (journal : List Entry) (ss : List SenderState) → AllByRecursion (λ (n : SiteName). is_same_site n site ≡ false) (origins ss)
    → AllByRecursion (IsOther site) (past_at schema journal ss)
others_past_at schema site journal [] others = tt
others_past_at schema site journal (s ∷ ss) others = go (is_master_site schema s.origin) (nat_lt 0 (seen_of journal s)) refl (others_past_at schema site journal ss others.1)
  where
    go : (b c : Bool) → nat_lt 0 (seen_of journal s) ≡ c → AllByRecursion (IsOther site) (past_at schema journal ss)
        → AllByRecursion (IsOther site) (with_seen (b && c) s.origin (seen_of journal s) (past_at schema journal ss))
    go true true above later = all_put (beside_name s.origin) (IsOther site) (record { origin = s.origin; number = seen_of journal s }) (past_at schema journal ss)
        (record { another = another_name site s.origin others.0; from_one = grind (arith, nat_tests) }) later
    go true false above later = later
    go false c above later = later

rising_past_at : (schema : Schema) (journal : List Entry) (ss : List SenderState) → RisesBy (λ (seen : PastEntry). seen.origin.0) name_cmp (past_at schema journal ss)
rising_past_at schema journal [] = tt
rising_past_at schema journal (s ∷ ss) = go (is_master_site schema s.origin && nat_lt 0 (seen_of journal s)) (rising_past_at schema journal ss)
  where
    go : (b : Bool) → RisesBy (λ (seen : PastEntry). seen.origin.0) name_cmp (past_at schema journal ss) → RisesBy (λ (seen : PastEntry). seen.origin.0) name_cmp (with_seen b s.origin (seen_of journal s) (past_at schema journal ss))
    go true later = rising_put (λ (seen : PastEntry). seen.origin.0) name_cmp nat_list_cmp_total (record { origin = s.origin; number = seen_of journal s }) (past_at schema journal ss) later
    go false later = later

each_seen : (site : SiteName) (past : List PastEntry) → PastHasForm past → AllByRecursion (IsOther site) past → AllByRecursion (IsPastEntry site) past
each_seen site [] form others = tt
each_seen site (s ∷ past) form others =
    (record { origin = form.0.origin; another = others.0.another; from_one = others.0.from_one; number_fits = form.0.number }, each_seen site past form.1 others.1)

-- ---- what a site had seen

module _ (schema : Schema) (shape : HasShape schema) (site : SiteName) (ss : List SenderState) (declared : origins ss ≡ senders_of schema site) where
  pub IsPast-past_at : (journal : List Entry) → PastHasForm (past_at schema journal ss) → IsCausalPast site (past_at schema journal ss)
  IsPast-past_at journal form =
      let few = length-past_at schema journal ss (senders_to schema.sites (site_named schema site)) declared (says_senders schema shape (site_named schema site)) in
      record {
        most = omega (arith, few, few_masters schema shape site);
        each = each_seen site (past_at schema journal ss) form
            (others_past_at schema site journal ss (subst (AllByRecursion (λ (n : SiteName). is_same_site n site ≡ false)) (sym declared) (senders_of-others schema shape site)));
        rise = rising_past_at schema journal ss;
      }

  one_more : (b : Bool) (es : List Entry) (pasts : List (List PastEntry)) → AllByRecursion (λ (past : List PastEntry). PastHasForm past → IsCausalPast site past) pasts
      → AllByRecursion (λ (past : List PastEntry). PastHasForm past → IsCausalPast site past) (with_one b (past_at schema es ss) pasts)
  one_more true es pasts later = (IsPast-past_at es, later)
  one_more false es pasts later = later

  -- so it is before each transaction that it queued
  pub ArePasts-pasts_after : (here : Here) (journal : List Entry) → AllByRecursion (λ (past : List PastEntry). PastHasForm past → IsCausalPast site past) (pasts_after schema here ss journal)
  ArePasts-pasts_after here [] = tt
  ArePasts-pasts_after here (Local number txn ∷ es) = (IsPast-past_at es, ArePasts-pasts_after here es)
  ArePasts-pasts_after here (Done o p onward txn ∷ es) = one_more (went_onward here onward) es _ (ArePasts-pasts_after here es)
  ArePasts-pasts_after here (Error o p call error txn ∷ es) = ArePasts-pasts_after here es
  ArePasts-pasts_after here (Executed o p onward txn ∷ es) = one_more (went_onward here onward) es _ (ArePasts-pasts_after here es)
  ArePasts-pasts_after here (Dropped o p ∷ es) = ArePasts-pasts_after here es
  ArePasts-pasts_after here (Refreshed moment ∷ es) = ArePasts-pasts_after here es
