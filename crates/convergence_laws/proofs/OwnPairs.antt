-- The pairs of a stamp and a site in what a site's own transactions make.
use Rattle.std.proofs.Common.{◌≡◌, ℕ, zero, suc, ◌+◌, ◌<◌, ◌≤◌, ◌==◌, Bool, true, false, cond, List, [], ◌∷◌, ◌++◌, length, map, Some, None, pos, refl, sym, ap, ◌∙◌, subst, inl, inr, arith, append_assoc, zero-add}
use Rattle.std.specs.Prelude.{Option, ◌&&◌, ◌||◌, filter, slice_get}
use Rattle.std.specs.Option.{option_map}
use Rattle.std.proofs.lemmas.Option.{slice_get_within}
use Rattle.std.specs.Bool.{MatchBool}
use Rattle.std.specs.List.{AllByRecursion, list_any, cons_option}
use Rattle.std.proofs.lemmas.List.{length-map}
use mathlib.Core.Bool.{true≢false}
use Rattle.std.proofs.lemmas.Bool.Decides.{eqb_tells}
use Rattle.rep_values.specs.declared.name.SiteName.{SiteName}
use Rattle.rep_values.specs.declared.value.Value.{Value}
use Rattle.rep_values.specs.declared.value.Value.TheVariants.{Num, Words}
use Rattle.rep_schema.specs.declared.schema.Schema.{Schema}
use Rattle.rep_schema.specs.declared.schema.Column.{Column}
use Rattle.rep_schema.specs.declared.change.Change.{Change}
use Rattle.rep_schema.specs.Tables.{Cells, columns_of, key_of, RowFits}
use Rattle.rep_schema.specs.Groups.{group_columns_of, columns_in_group, values_at, group_values, differing_groups}
use Rattle.rep_schema.specs.Kinds.{is_some_and, is_stamp, has_kind, has_place}
use Rattle.rep_schema.proofs.ValuesAt.{are_same-Decides}
use Rattle.schema_rules.specs.declared.forms.Form.TheVariants as form
use Rattle.rep_calls.specs.declared.call.Part.{Part}
use Rattle.rep_calls.specs.declared.call.Call.{Call}
use Rattle.rep_calls.specs.declared.call.Call.TheVariants.{Insert, Update, Delete}
use Rattle.conflict_detect.specs.Fits.{CallFits, PartFits}
use Rattle.conflict_detect.specs.ChangeCalls.{part_between, call_between, call_of}
use Rattle.txn_effects.specs.Filled.{is_modified, has_stamp_from}
use Rattle.local_txn.specs.Laws.{filled_places, gives_stamp, IsFilledAt, CarriesIn, StampsRise}
use Rattle.rep_laws.specs.Commuting.{IsSound}
use Rattle.rep_lists.specs.Counting.{count_where}
use Rattle.rep_laws.specs.GroupForms.{form_at}
use Rattle.convergence_laws.specs.Joins.{is_row}
use Rattle.rep_laws.proofs.FormShapes.{IsLatest, IsShaped-form_at, IsOfKind-form_at}
use Rattle.convergence_laws.proofs.GroupColumns.{Rise, Rise-increasing, value_of-values_at}
use Rattle.convergence_laws.proofs.Moves.{within_row, long_values}
use Rattle.convergence_laws.specs.Pairs.{made_by, made_in, pair_in, has_pair, IsMadeOnce, AreMadeOnce}
use Rattle.convergence_laws.proofs.Counting.{count_where-append, count_where-length}
use Rattle.rep_laws.proofs.SiteColumns.{own_is_filled}

-- ---- lists

or_right : (b c : Bool) → c ≡ true → (b || c) ≡ true
or_right true c is = refl
or_right false c is = is

-- ---- values of a row

values_at-short : (places : List ℕ) (row : Cells) → length (values_at places row) ≤ length places
values_at-short [] row = omega arith
values_at-short (p ∷ ps) row = go (slice_get row p) (values_at-short ps row)
  where
    go : (o : Option Value) → length (values_at ps row) ≤ length ps → length (cons_option o (values_at ps row)) ≤ suc (length ps)
    go None short = omega (arith, short)
    go (Some v) short = omega (arith, short)

-- a row that has a value for each place has all places
within_values : (places : List ℕ) (row : Cells) → length (values_at places row) ≡ length places → AllByRecursion (λ p. p < length row) places
within_values [] row long = tt
within_values (p ∷ ps) row long = go (slice_get row p) refl long (within_values ps row)
  where
    go : (o : Option Value) → slice_get row p ≡ o → length (cons_option o (values_at ps row)) ≡ suc (length ps) → (length (values_at ps row) ≡ length ps → AllByRecursion (λ q. q < length row) ps)
        → AllByRecursion (λ q. q < length row) (p ∷ ps)
    go None at long later = absurd (omega (arith, long, values_at-short ps row))
    go (Some v) at long later = (slice_get_within row p v at, later (omega (arith, long)))

-- ---- a stamp among the columns

has_stamp-at : (chosen : ℕ → Bool) (n : ℕ) (columns : List Column) (k : ℕ) → has_kind is_stamp columns k ≡ true → chosen (n + k) ≡ true → has_stamp_from chosen n columns ≡ true
has_stamp-at chosen n [] k stamp there = cc
has_stamp-at chosen n (c ∷ cs) zero stamp there =
    let here : n + 0 ≡ n = omega arith in
    rw (rw here at there, stamp) refl
has_stamp-at chosen n (c ∷ cs) (suc k) stamp there =
    let next : n + suc k ≡ n + 1 + k = omega arith in
    or_right (chosen n && is_stamp c.kind) (has_stamp_from chosen (n + 1) cs) (has_stamp-at chosen (n + 1) cs k stamp (rw next at there))

-- ---- parts of one group

-- of parts whose groups rise at most one is of a group
none_of : (group : ℕ) (parts : List Part) → AllByRecursion (λ q. group < q) (map (λ (part : Part). part.group) parts) → filter (λ (part : Part). part.group == group) parts ≡ []
none_of group [] above = refl
none_of group (p ∷ ps) above = elim (eqb_tells p.group group) [
  | inl same ↦ absurd (omega (arith, above.0, same.1))
  | inr other ↦ rw other.0 (none_of group ps above.1)
]

one_of : (group : ℕ) (parts : List Part) → Rise (map (λ (part : Part). part.group) parts) → length (filter (λ (part : Part). part.group == group) parts) ≤ 1
one_of group [] rise = omega arith
one_of group (p ∷ ps) rise = elim (eqb_tells p.group group) [
  | inl same ↦ rw (same.0, none_of group ps (subst (λ g. AllByRecursion (λ q. g < q) (map (λ (part : Part). part.group) ps)) same.1 rise.0)) (omega arith)
  | inr other ↦ rw other.0 (one_of group ps rise.1)
]

-- what names a row of a table is of it
row_table : (table : ℕ) (key : Cells) (t : ℕ) (k : Cells) → is_row table key t k ≡ true → t ≡ table
row_table table key t k is = elim (eqb_tells t table) [
  | inl same ↦ same.1
  | inr other ↦ absurd (true≢false (sym is ∙ (rw other.0 refl)))
]

no_value : 1 ≤ 0 → ⊥
no_value le = omega (arith, le)

module _ (schema : Schema) (sound : IsSound schema) (table group stamp own : ℕ) (has : form_at schema table group ≡ Some (form.Latest stamp own)) (key : Cells) (site : SiteName) where
  abbrev places : List ℕ
  places = group_columns_of schema table group

  abbrev columns : List Column
  columns = columns_of schema table

  is_latest : IsLatest schema table group stamp own
  is_latest = IsShaped-form_at schema sound table group (form.Latest stamp own) has

  stamps : has_kind is_stamp columns stamp ≡ true
  stamps = IsOfKind-form_at schema sound table group (form.Latest stamp own) has

  -- the values have this stamp and the site's name
  abbrev IsCarried : ℕ → Cells → Type 0
  IsCarried n values = pair_in places stamp own values ≡ Num (pos n) ∷ Words site.0 ∷ []

  stamp_column : (c : Column) × (slice_get columns stamp ≡ Some c) × (is_stamp c.kind ≡ true)
  stamp_column = go (slice_get columns stamp) refl stamps
    where
      go : (o : Option Column) → slice_get columns stamp ≡ o → is_some_and is_stamp (option_map (λ c. c.kind) o) ≡ true → (c : Column) × (slice_get columns stamp ≡ Some c) × (is_stamp c.kind ≡ true)
      go None at e = cc
      go (Some c) at e = (c, at, e)

  -- so has a row that is filled in there
  row_carries : (n : ℕ) (row : Cells) → AllByRecursion (λ p. p < length row) places
      → ((place : ℕ) → has_place places place ≡ true → IsFilledAt (record { stamp = n; site = site }) columns row place) → IsCarried n (values_at places row)
  row_carries n row within filled =
      let c = stamp_column in
      let d = own_is_filled schema sound table group stamp own has in
      let one : slice_get row stamp ≡ Some (Num (pos n)) = filled stamp is_latest.has_stamp c.0 c.1 (rw c.2 refl) ∙ (rw c.2 refl) in
      let two : slice_get row own ≡ Some (Words site.0) = filled own is_latest.has_site d.0 d.1 d.3 ∙ (rw d.2 refl) in
      rw (value_of-values_at places row stamp within is_latest.has_stamp, value_of-values_at places row own within is_latest.has_site, one, two) refl

  -- ---- what a call makes of the group, where it carries a stamp

  record CallCarries (n : ℕ) (stamped : Bool) (call : Call) : Type 0 where
    each : AllByRecursion (IsCarried n) (made_by schema table key group call)
    few : length (made_by schema table key group call) ≤ 1
    gives : 1 ≤ length (made_by schema table key group call) → stamped ≡ true

  nothing_carried : (n : ℕ) (stamped : Bool) (call : Call) → made_by schema table key group call ≡ [] → CallCarries n stamped call
  nothing_carried n stamped call none = record { each = rw none tt; few = rw none (omega arith); gives = λ le. absurd (no_value (rw none at le)) }

  insert_carries : (n t : ℕ) (row : Cells) → CarriesIn schema (record { stamp = n; site = site }) t None (Some row) → CallFits schema (Insert t row)
      → CallCarries n (has_stamp_from (filled_places schema t None (Some row)) 0 (columns_of schema t)) (Insert t row)
  insert_carries n t row carries fits = go (is_row table key t (key_of (columns_of schema t) row)) refl
    where
      go : (b : Bool) → is_row table key t (key_of (columns_of schema t) row) ≡ b → CallCarries n (has_stamp_from (filled_places schema t None (Some row)) 0 (columns_of schema t)) (Insert t row)
      go false other = nothing_carried n _ (Insert t row) (rw other refl)
      go true is =
          let same : t ≡ table = row_table table key t (key_of (columns_of schema t) row) is in
          let row_fits : RowFits columns row = subst (λ u. RowFits (columns_of schema u) row) same fits.content in
          let filled : (place : ℕ) → IsFilledAt (record { stamp = n; site = site }) columns row place = λ place. subst (λ u. IsFilledAt (record { stamp = n; site = site }) (columns_of schema u) row place) same (carries place) in
          record {
            each = rw is (row_carries n row (within_row schema sound table group (form.Latest stamp own) has row row_fits) (λ place there. filled place), tt);
            few = rw is (omega arith);
            gives = λ le. subst (λ u. has_stamp_from (filled_places schema u None (Some row)) 0 (columns_of schema u) ≡ true) (sym same) (has_stamp-at (λ k. true) 0 columns stamp stamps refl);
          }

  module _ (n : ℕ) (before after : Cells) where
    abbrev parts : List ℕ → List Part
    parts gs = filter (λ (part : Part). part.group == group) (map (part_between schema table before after) gs)

    abbrev named : ℕ → List ℕ → Bool
    named place gs = list_any (λ g. has_place (group_columns_of schema table g) place) gs

    parts_carry : (gs : List ℕ) → ((place : ℕ) → named place gs ≡ true → IsFilledAt (record { stamp = n; site = site }) columns after place)
        → AllByRecursion (PartFits schema table) (map (part_between schema table before after) gs) → AllByRecursion (IsCarried n) (map (λ (part : Part). part.new) (parts gs))
    parts_carry [] filled fits = tt
    parts_carry (g ∷ gs) filled fits = elim (eqb_tells g group) [
      | inl same ↦
          let long = long_values schema sound table group (form.Latest stamp own) has (values_at places after)
          (subst (λ h. RowFits (columns_in_group schema table h) (group_values schema table h after)) same.1 fits.0.new) in
          rw same.0 (
            subst (λ h. IsCarried n (group_values schema table h after)) (sym same.1)
                (row_carries n after (within_values places after long)
                (λ place there. filled place (rw (subst (λ h. has_place (group_columns_of schema table h) place ≡ true) (sym same.1) there) refl))),
            parts_carry gs (λ place there. filled place (or_right (has_place (group_columns_of schema table g) place) (named place gs) there)) fits.1,
          )
      | inr other ↦ rw other.0 (parts_carry gs (λ place there. filled place (or_right (has_place (group_columns_of schema table g) place) (named place gs) there)) fits.1)
    ]

    some_part : (gs : List ℕ) → 1 ≤ length (parts gs) → named stamp gs ≡ true
    some_part [] le = absurd (no_value le)
    some_part (g ∷ gs) le = elim (eqb_tells g group) [
      | inl same ↦ rw (subst (λ h. has_place (group_columns_of schema table h) stamp ≡ true) (sym same.1) is_latest.has_stamp) refl
      | inr other ↦ or_right (has_place (group_columns_of schema table g) stamp) (named stamp gs) (some_part gs (rw other.0 at le))
    ]

  update_carries : (n t : ℕ) (before after : Cells) → CarriesIn schema (record { stamp = n; site = site }) t (Some before) (Some after) → CallFits schema (call_between schema t (Some before) (Some after))
      → CallCarries n (has_stamp_from (filled_places schema t (Some before) (Some after)) 0 (columns_of schema t)) (call_between schema t (Some before) (Some after))
  update_carries n t before after carries fits = go (is_row table key t (key_of (columns_of schema t) before)) refl
    where
      go : (b : Bool) → is_row table key t (key_of (columns_of schema t) before) ≡ b
          → CallCarries n (has_stamp_from (filled_places schema t (Some before) (Some after)) 0 (columns_of schema t)) (call_between schema t (Some before) (Some after))
      go false other = nothing_carried n _ (call_between schema t (Some before) (Some after)) (rw other refl)
      go true is =
          let same : t ≡ table = row_table table key t (key_of (columns_of schema t) before) is in
          subst (λ u. is_row table key u (key_of (columns_of schema u) before) ≡ true → CarriesIn schema (record { stamp = n; site = site }) u (Some before) (Some after) → CallFits schema (call_between schema u (Some before) (Some after))
          → CallCarries n (has_stamp_from (filled_places schema u (Some before) (Some after)) 0 (columns_of schema u)) (call_between schema u (Some before) (Some after))) (sym same) by is carries fits
        where
          by : is_row table key table (key_of columns before) ≡ true → CarriesIn schema (record { stamp = n; site = site }) table (Some before) (Some after) → CallFits schema (call_between schema table (Some before) (Some after))
              → CallCarries n (has_stamp_from (filled_places schema table (Some before) (Some after)) 0 columns) (call_between schema table (Some before) (Some after))
          by is carries fits = record {
            each = rw is (parts_carry n before after (differing_groups schema table before after) carries.0 fits.content.parts_fit);
            few = rw is (omega (
              arith,
              length-map (parts n before after (differing_groups schema table before after)) (λ (part : Part). part.new),
              one_of group (map (part_between schema table before after) (differing_groups schema table before after)) (Rise-increasing _ fits.content.rise),
            ));
            gives = λ le. has_stamp-at (is_modified schema table before after) 0 columns stamp stamps
                (rw zero-add (some_part n before after (differing_groups schema table before after) (omega (arith, length-map (parts n before after (differing_groups schema table before after)) (λ (part : Part). part.new), rw is at le))));
          }

  change_carries : (n t : ℕ) (before after : Option Cells) → CarriesIn schema (record { stamp = n; site = site }) t before after → CallFits schema (call_between schema t before after)
      → CallCarries n (has_stamp_from (filled_places schema t before after) 0 (columns_of schema t)) (call_between schema t before after)
  change_carries n t None None carries fits = nothing_carried n _ (Update t [] []) (go (is_row table key t []))
    where
      go : (b : Bool) → map (λ (part : Part). part.new) (cond b (filter (λ (part : Part). part.group == group) []) []) ≡ []
      go true = refl
      go false = refl
  change_carries n t None (Some row) carries fits = insert_carries n t row carries fits
  change_carries n t (Some row) None carries fits = nothing_carried n _ (Delete t row) refl
  change_carries n t (Some before) (Some after) carries fits = update_carries n t before after carries fits

  -- ---- how often a pair is made

  module _ (pair : Cells) where
    abbrev test : Cells → Bool
    test = has_pair places stamp own pair

    abbrev number : List Call → ℕ
    number calls = count_where test (made_in schema table key group calls)

    -- what passes has the pair
    passing : (n : ℕ) (made : List Cells) → AllByRecursion (IsCarried n) made → 1 ≤ count_where test made → pair ≡ Num (pos n) ∷ Words site.0 ∷ []
    passing n [] each le = absurd (omega (arith, le))
    passing n (v ∷ vs) each le = go (test v) refl le (passing n vs each.1)
      where
        go : (b : Bool) → test v ≡ b → 1 ≤ cond b (count_where test vs + 1) (count_where test vs) → (1 ≤ count_where test vs → pair ≡ Num (pos n) ∷ Words site.0 ∷ []) → pair ≡ Num (pos n) ∷ Words site.0 ∷ []
        go true is le later = sym ((are_same-Decides (pair_in places stamp own v) pair).0 is) ∙ each.0
        go false is le later = later le

    abbrev Made : ℕ → ℕ → ℕ → Type 0
    Made low high count = IsMadeOnce site low high pair count

    not_one : (n : ℕ) → (1 ≤ n → ⊥) → n ≡ 0
    not_one zero none = refl
    not_one (suc n) none = absurd (none (omega arith))

    same_stamp : (a b : ℕ) → pair ≡ Num (pos a) ∷ Words site.0 ∷ [] → pair ≡ Num (pos b) ∷ Words site.0 ∷ [] → a ≡ b
    same_stamp a b one other = let same : (Num (pos a) ∷ Words site.0 ∷ []) ≡ (Num (pos b) ∷ Words site.0 ∷ []) = sym one ∙ other in cc

    -- made up to a stamp, and from it on
    pub both_made : (low mid high one other : ℕ) → low ≤ mid → mid ≤ high → Made low mid one → Made mid high other → Made low high (one + other)
    both_made low mid high zero other below above a b = record { once = omega (arith, b.once); maker = λ le. let m = b.maker (omega (arith, le)) in (m.0, m.1, omega (arith, below, m.2), m.3) }
    both_made low mid high (suc one) zero below above a b = record { once = omega (arith, a.once); maker = λ le. let m = a.maker (omega arith) in (m.0, m.1, m.2, omega (arith, above, m.3)) }
    both_made low mid high (suc one) (suc other) below above a b =
        let m = a.maker (omega arith) in
        let n = b.maker (omega arith) in
        absurd (omega (arith, same_stamp m.0 n.0 m.1 n.1, m.3, n.2))

    nothing_made : (low high : ℕ) → Made low high 0
    nothing_made low high = record { once = omega arith; maker = λ le. absurd (omega (arith, le)) }

    one_made : (low n : ℕ) (made : List Cells) → low < n → AllByRecursion (IsCarried n) made → length made ≤ 1 → Made low n (count_where test made)
    one_made low n made above each few = record { once = omega (arith, count_where-length test made, few); maker = λ le. (n, passing n made each le, above, omega arith) }

    rises_to : (low high : ℕ) (changes : List Change) → StampsRise schema site low high changes → low ≤ high
    rises_to low high [] rise = omega (arith, rise)
    rises_to low high (c ∷ cs) rise = go (gives_stamp schema c) rise.2 (λ n later. rises_to n high cs later)
      where
        go : (b : Bool) → MatchBool b ((low < rise.0) × StampsRise schema site rise.0 high cs) (StampsRise schema site low high cs) → ((n : ℕ) → StampsRise schema site n high cs → n ≤ high) → low ≤ high
        go true here later = omega (arith, here.0, later rise.0 here.1)
        go false here later = later low here

    -- a block's calls make a pair at most once, with a stamp above the one before the block
    pub rise_makes : (low high : ℕ) (changes : List Change) → StampsRise schema site low high changes → AllByRecursion (CallFits schema) (map (call_of schema) changes) → Made low high (number (map (call_of schema) changes))
    rise_makes low high [] rise fits = nothing_made low high
    rise_makes low high (c ∷ cs) rise fits = go (gives_stamp schema c) refl rise.2 (λ n later. rise_makes n high cs later fits.1)
      where
        carries : CallCarries rise.0 (gives_stamp schema c) (call_of schema c)
        carries = change_carries rise.0 c.table c.before c.after rise.1 fits.0

        total : number (map (call_of schema) (c ∷ cs)) ≡ count_where test (made_by schema table key group (call_of schema c)) + number (map (call_of schema) cs)
        total = count_where-append test (made_by schema table key group (call_of schema c)) (made_in schema table key group (map (call_of schema) cs))

        go : (b : Bool) → gives_stamp schema c ≡ b → MatchBool b ((low < rise.0) × StampsRise schema site rise.0 high cs) (StampsRise schema site low high cs)
            → ((n : ℕ) → StampsRise schema site n high cs → Made n high (number (map (call_of schema) cs))) → Made low high (number (map (call_of schema) (c ∷ cs)))
        go true is here later = subst (Made low high) (sym total) (both_made low rise.0 high (count_where test (made_by schema table key group (call_of schema c))) (number (map (call_of schema) cs))
            (omega (arith, here.0)) (rises_to rise.0 high cs here.1) (one_made low rise.0 (made_by schema table key group (call_of schema c)) here.0 carries.each carries.few) (later rise.0 here.1))
        go false is here later =
            let none : count_where test (made_by schema table key group (call_of schema c)) ≡ 0 = not_one _ (λ le. true≢false (sym (carries.gives (omega (arith, le, count_where-length test (made_by schema table key group (call_of schema c))))) ∙ is)) in
            subst (Made low high) (sym (total ∙ (rw none (omega arith)))) (later low here)

pub made_in-append : (schema : Schema) (table : ℕ) (key : Cells) (group : ℕ) (calls others : List Call) → made_in schema table key group (calls ++ others) ≡ made_in schema table key group calls ++ made_in schema table key group others
made_in-append schema table key group [] others = refl
made_in-append schema table key group (c ∷ cs) others = ap (λ vs. made_by schema table key group c ++ vs) (made_in-append schema table key group cs others)
    ∙ sym (append_assoc (made_by schema table key group c) (made_in schema table key group cs) (made_in schema table key group others))

-- what was made before a block and by it
pub block_makes : (schema : Schema) → IsSound schema → (site : SiteName) (last next : ℕ) (older : List Call) (changes : List Change) → AreMadeOnce schema site 0 last older → StampsRise schema site last next changes
    → AllByRecursion (CallFits schema) (map (call_of schema) changes) → AreMadeOnce schema site 0 next (older ++ map (call_of schema) changes)
block_makes schema sound site last next older changes before rise fits table group stamp own key pair convergent has =
    let test = has_pair (group_columns_of schema table group) stamp own pair in
    let total : count_where test (made_in schema table key group (older ++ map (call_of schema) changes)) ≡ count_where test (made_in schema table key group older) + count_where test (made_in schema table key group (map (call_of schema) changes)) =
    ap (count_where test) (made_in-append schema table key group older (map (call_of schema) changes)) ∙ count_where-append test (made_in schema table key group older) (made_in schema table key group (map (call_of schema) changes)) in
    subst (IsMadeOnce site 0 next pair) (sym total)
    (both_made schema sound table group stamp own has key site pair 0 last next (count_where test (made_in schema table key group older)) (count_where test (made_in schema table key group (map (call_of schema) changes)))
    (omega arith) (rises_to schema sound table group stamp own has key site pair last next changes rise) (before table group stamp own key pair convergent has)
    (rise_makes schema sound table group stamp own has key site pair last next changes rise fits))
