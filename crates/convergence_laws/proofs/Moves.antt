-- Which of two values of a group wins is a total order, and a part that is settled leaves the winner, or the sum.
use Rattle.std.proofs.Common.{inl, inr, is_lt, ◌≡◌, ℕ, ◌<◌, Bool, true, false, cond, List, [], ◌∷◌, length, Some, None, Ok, refl, sym, ap, ◌∙◌, subst, arith}
use mathlib.Core.Bool.{true≢false}
use Rattle.std.specs.Prelude.{Option, ℤ, ◌+ℤ◌, ◌-ℤ◌, ◌<ℤ◌, int_lt, slice_get}
use Rattle.std.specs.Option.{option_map}
use Rattle.std.specs.List.{AllByRecursion, cons_option}
use Rattle.std.specs.Ordering.{is_gt, int_cmp, ordering_reverse}
use Rattle.std.specs.Cmp.{IsTotalOrder, on_total}
use Rattle.std.specs.Cmp.Derive.{point_total}
use Rattle.std.specs.declared.cmp.Ordering.{Ordering}
use Rattle.std.specs.declared.cmp.Ordering.TheVariants.{Less, Equal, Greater}
use Rattle.std.proofs.lemmas.Int.{ints}
use Rattle.std.proofs.lemmas.Cmp.{int_cmp_total}
use Rattle.rep_values.specs.declared.value.Value.TheVariants.{Num, Words}
use Rattle.rep_values.specs.Order.{key_cmp}
use Rattle.rep_values.specs.OrderLaws.{key_cmp_total}
use Rattle.rep_schema.specs.declared.schema.Schema.{Schema}
use Rattle.rep_schema.specs.declared.schema.Column.{Column}
use Rattle.rep_schema.specs.declared.schema.Kind.{Kind}
use Rattle.rep_schema.specs.declared.schema.Method.{Method}
use Rattle.rep_schema.specs.declared.schema.Kind.TheVariants as kind
use Rattle.rep_schema.specs.Tables.{Cells, columns_of, FitsKind, RowFits}
use Rattle.rep_schema.specs.Kinds.{is_some_and, takes_numbers, has_place}
use Rattle.rep_schema.specs.Groups.{values_at, group_columns_of, columns_in_group, group_values, with_group_values}
use Rattle.rep_schema.specs.Fitting.{is_in_range}
use Rattle.rep_schema.specs.Named.{group_name}
use Rattle.rep_schema.proofs.RowFit.{length-fits}
use Rattle.rep_schema.proofs.ValuesAt.{are_same-Decides}
use Rattle.rep_schema.proofs.PartFit.{RowFits-values_at, RowFits-with_values}
use Rattle.rep_schema.proofs.Coverage.{group_columns_of-below}
use Rattle.rep_schema.proofs.GroupShapes.{group_columns_of-named, group_shape}
use Rattle.schema_rules.specs.declared.forms.Form.{Form}
use Rattle.schema_rules.specs.declared.forms.Form.TheVariants as form
use Rattle.rep_calls.specs.declared.call.Part.{Part}
use Rattle.conflict_detect.specs.Fits.{PartFits}
use Rattle.conflict_detect.specs.Differing.{is_matched}
use Rattle.resolve_methods.specs.declared.decision.Decision.{Decision}
use Rattle.resolve_methods.specs.declared.decision.Decision.TheVariants.{TakeNew, TakeNumber, Keep, Undecided, Range}
use Rattle.resolve_methods.specs.Decide.{greater_stays, by_order, or_next, decision_of}
use Rattle.resolve_methods.specs.Ranks.{number_of, site_level_of}
use Rattle.resolve_methods.specs.SequenceLaws.{number_or_zero, one_group_number, move_of, sum_methods, greatest_methods, least_methods, IsOfOneNumber, GoesByRank, Rank, rank_in, new_rank, IsLowerLevel, IsLowerRank, MoveIsAdded, GreatestStays, LeastStays, GreaterRankStays}
use Rattle.txn_effects.specs.Parts.{values_by, settled_values, settled_part}
use Rattle.txn_effects.proofs.Results.{result_then-Ok}
use Rattle.txn_effects.proofs.PartEffects.{HasGroupValues-PartFits}
use Rattle.rep_laws.specs.Commuting.{IsSound}
use Rattle.rep_laws.specs.GroupForms.{form_at, value_of, level_alone, rank_among, wins, Allows}
use Rattle.convergence_laws.proofs.GroupColumns.{Rise, Rise-increasing, values_at-with_own, value_of-values_at, length-values_at}
use Rattle.rep_laws.proofs.FormShapes.{IsLatest, IsShaped-form_at, form_at-named}

-- what the method sequences of convergent groups decide
pub record DecisionLaws : Type 0 where
  pub adds : MoveIsAdded
  pub greatest : GreatestStays
  pub least : LeastStays
  pub latest : GreaterRankStays

-- ---- the order of a group's values

flip_total : {K : Type 0} {R : K → K → Ordering} → IsTotalOrder R → IsTotalOrder (λ x y. R y x)
flip_total {K} {R} o = record {
  antisymm = λ x y. o.antisymm y x;
  trans = λ x y z p q. o.trans z y x q p;
  congr = λ x y z p. o.antisymm z x ∙ ap ordering_reverse (o.congr x y z (o.antisymm x y ∙ ap ordering_reverse p)) ∙ sym (o.antisymm z y);
}

pub wins_total : (schema : Schema) (columns : List ℕ) (f : Form) → IsTotalOrder (wins schema columns f)
wins_total schema columns form.Sum = point_total
wins_total schema columns (form.Greatest column) = on_total one_group_number int_cmp_total
wins_total schema columns (form.Least column) = flip_total (on_total one_group_number int_cmp_total)
wins_total schema columns (form.Latest stamp site) = on_total (rank_among schema columns stamp site) key_cmp_total

-- the new values where they win, else the current ones
abbrev pub greater : Schema → List ℕ → Form → Cells → Cells → Cells
greater schema columns f new now = cond (is_gt (wins schema columns f new now)) new now

-- what a part makes of its group's values
abbrev pub move : Schema → List ℕ → Form → Part → Cells → Cells
move schema columns form.Sum part now = Num (one_group_number now +ℤ move_of part) ∷ []
move schema columns (form.Greatest column) part now = greater schema columns (form.Greatest column) part.new now
move schema columns (form.Least column) part now = greater schema columns (form.Least column) part.new now
move schema columns (form.Latest stamp site) part now = greater schema columns (form.Latest stamp site) part.new now

-- new values that don't lose to those from before win, or are the same
no_loss : (schema : Schema) (columns : List ℕ) (f : Form) (new now : Cells) → is_gt (wins schema columns f now new) ≡ false → (wins schema columns f new now ≡ Equal → new ≡ now)
    → new ≡ greater schema columns f new now
no_loss schema columns f new now keeps tie = go (wins schema columns f new now) refl
  where
    go : (o : Ordering) → wins schema columns f new now ≡ o → new ≡ cond (is_gt o) new now
    go Greater e = refl
    go Equal e = tie e
    go Less e = grind (arith, (wins_total schema columns f).antisymm now new, e)

-- ---- numbers

pub int_gt : (a b : ℤ) → is_gt (int_cmp a b) ≡ int_lt b a
int_gt a b = go (int_lt a b) (int_lt b a) refl refl
  where
    go : (low high : Bool) → int_lt a b ≡ low → int_lt b a ≡ high → is_gt (cond low Less (cond high Greater Equal)) ≡ high
    go true true e f = absurd (omega (arith, ints))
    go true false e f = refl
    go false true e f = refl
    go false false e f = refl

-- a column of numbers takes no text
pub no_text : (k : Kind) (t : List ℕ) → takes_numbers k ≡ true → FitsKind k (Words t) → ⊥
no_text kind.Number t numbers fits = fits
no_text kind.Words t numbers fits = cc
no_text kind.Date t numbers fits = fits
no_text kind.Stamp t numbers fits = fits
no_text kind.Site t numbers fits = cc

-- what fits one column of numbers is one number
one_number : (column : Option Column) (values : Cells) → is_some_and takes_numbers (option_map (λ c. c.kind) column) ≡ true → RowFits (cons_option column []) values → (n : ℤ) × (values ≡ Num n ∷ [])
one_number None values numbers fits = cc
one_number (Some c) [] numbers fits = absurd fits
one_number (Some c) (Num n ∷ []) numbers fits = (n, refl)
one_number (Some c) (Words t ∷ []) numbers fits = absurd (no_text c.kind t numbers fits.0)
one_number (Some c) (v ∷ w ∷ vs) numbers fits = absurd fits.1

-- ---- ranks

-- an order of two numbers in front decides, else what follows
pub numbers_first : (a b : ℤ) (x y : Cells) (o : Ordering) → int_cmp a b ≡ o → key_cmp (Num a ∷ x) (Num b ∷ y) ≡ cond (is_lt o) Less (cond (is_gt o) Greater (key_cmp x y))
numbers_first a b x y Less e = rw e refl
numbers_first a b x y Equal e = rw e refl
numbers_first a b x y Greater e = rw e refl

int_less : (a b : ℤ) → a <ℤ b → int_cmp a b ≡ Less
int_less a b below = go (int_lt a b) (int_lt b a) refl refl
  where
    go : (low high : Bool) → int_lt a b ≡ low → int_lt b a ≡ high → cond low Less (cond high Greater Equal) ≡ Less
    go true high e f = refl
    go false high e f = absurd (omega (arith, ints))

int_same : (a b : ℤ) → a ≡ b → int_cmp a b ≡ Equal
int_same a b same = go (int_lt a b) (int_lt b a) refl refl
  where
    go : (low high : Bool) → int_lt a b ≡ low → int_lt b a ≡ high → cond low Less (cond high Greater Equal) ≡ Equal
    go true high e f = absurd (omega (arith, ints))
    go false true e f = absurd (omega (arith, ints))
    go false false e f = refl

abbrev cells_of : Rank → Cells
cells_of r = Num r.stamp ∷ level_alone r.level

-- a lower rank stands before a higher one
lower_before : (a b : Rank) → IsLowerRank a b → key_cmp (cells_of a) (cells_of b) ≡ Less
lower_before a b (inl stamp) = numbers_first a.stamp b.stamp (level_alone a.level) (level_alone b.level) Less (int_less a.stamp b.stamp stamp)
lower_before a b (inr tie) = numbers_first a.stamp b.stamp (level_alone a.level) (level_alone b.level) Equal (int_same a.stamp b.stamp tie.0) ∙ go a.level b.level tie.1
  where
    go : (l m : Option ℤ) → IsLowerLevel l m → key_cmp (level_alone l) (level_alone m) ≡ Less
    go None m lower = absurd lower
    go (Some l) None lower = absurd lower
    go (Some l) (Some m) lower = numbers_first l m [] [] Less (int_less l m lower)

-- ---- one settled part

-- what the methods of a form that isn't additive decide
pub data Ruled (schema : Schema) (columns : List ℕ) (f : Form) (new now : Cells) : Decision → Type 0 where
  Takes : wins schema columns f new now ≡ Greater → Ruled schema columns f new now TakeNew
  Keeps : is_gt (wins schema columns f new now) ≡ false → Ruled schema columns f new now Keep
  Open : Ruled schema columns f new now Undecided

module _ (schema : Schema) (sound : IsSound schema) (table group : ℕ) (f : Form) (has : form_at schema table group ≡ Some f) where
  abbrev places : List ℕ
  places = group_columns_of schema table group

  rise : Rise places
  rise =
      let named = form_at-named schema sound table group f has in
      let shape = rw named.1 at (group_shape schema sound.shape table group) in
      rw (group_columns_of-named schema table group named.2, named.1) (Rise-increasing named.0.columns shape.columns.rising)

  -- the group's columns are the row's
  pub within_row : (row : Cells) → RowFits (columns_of schema table) row → AllByRecursion (λ p. p < length row) places
  within_row row fits = subst (λ n. AllByRecursion (λ p. p < n) places) (length-fits (columns_of schema table) row fits) (group_columns_of-below schema sound.shape table group)

  -- there is a value for each
  pub long_values : (values : Cells) → RowFits (columns_in_group schema table group) values → length values ≡ length places
  long_values values fits = sym (length-fits (columns_in_group schema table group) values fits) ∙ length-values_at places (columns_of schema table) (group_columns_of-below schema sound.shape table group)

  -- values that are put into the group are there
  pub group_values-with_own : (values row : Cells) → RowFits (columns_of schema table) row → length values ≡ length places → group_values schema table group (with_group_values schema table group values row) ≡ values
  group_values-with_own values row fits long = values_at-with_own places values row rise (within_row row fits) long

-- numbers of a group of one number
module _ (schema : Schema) (table group column : ℕ) (sequence : List Method) (one : IsOfOneNumber schema table group column sequence) where
  pub one_of_group : (values : Cells) → RowFits (columns_in_group schema table group) values → (n : ℤ) × (values ≡ Num n ∷ [])
  one_of_group values fits =
      one_number (slice_get (columns_of schema table) column) values one.numbers (subst (λ ps. RowFits (values_at ps (columns_of schema table)) values) one.columns fits)

-- a tie of numbers is one number
pub same_numbers : (new now : Cells) → (n : ℤ) × (new ≡ Num n ∷ []) → (m : ℤ) × (now ≡ Num m ∷ []) → one_group_number new ≡ one_group_number now → new ≡ now
same_numbers new now n m same = n.1 ∙ ap (λ z. Num z ∷ []) (sym (ap one_group_number n.1) ∙ same ∙ ap one_group_number m.1) ∙ sym m.1

pub int_tie : (a b : ℤ) → int_cmp a b ≡ Equal → a ≡ b
int_tie a b e = go (int_lt a b) (int_lt b a) refl refl e
  where
    go : (low high : Bool) → int_lt a b ≡ low → int_lt b a ≡ high → cond low Less (cond high Greater Equal) ≡ Equal → a ≡ b
    go true high e f g = cc
    go false true e f g = cc
    go false false e f g = omega (arith, ints)

-- the decision takes or keeps values as they are, or is open
abbrev takes_or_keeps : Decision → Bool
takes_or_keeps TakeNew = true
takes_or_keeps (TakeNumber n) = false
takes_or_keeps Keep = true
takes_or_keeps Undecided = true
takes_or_keeps Range = false

plain_order : (a b : Option ℤ) → takes_or_keeps (by_order greater_stays a b) ≡ true
plain_order None b = refl
plain_order (Some a) None = refl
plain_order (Some a) (Some b) = go (int_cmp a b)
  where
    go : (o : Ordering) → takes_or_keeps (greater_stays o) ≡ true
    go Less = refl
    go Equal = refl
    go Greater = refl

plain_next : (d following : Decision) → takes_or_keeps d ≡ true → takes_or_keeps following ≡ true → takes_or_keeps (or_next d following) ≡ true
plain_next TakeNew following first rest = refl
plain_next (TakeNumber n) following first rest = cc
plain_next Keep following first rest = refl
plain_next Undecided following first rest = rest
plain_next Range following first rest = cc

plain_latest : (a b c d : Option ℤ) → takes_or_keeps (or_next (by_order greater_stays a b) (or_next (by_order greater_stays c d) Undecided)) ≡ true
plain_latest a b c d = plain_next (by_order greater_stays a b) (or_next (by_order greater_stays c d) Undecided) (plain_order a b) (plain_next (by_order greater_stays c d) Undecided (plain_order c d) refl)

module _ (schema : Schema) (sound : IsSound schema) (decides : DecisionLaws) (table : ℕ) (part : Part) (row : Cells) (part_fits : PartFits schema table part) (fits : RowFits (columns_of schema table) row) where
  abbrev columns : List ℕ
  columns = group_columns_of schema table part.group

  abbrev now : Cells
  now = group_values schema table part.group row

  now_fits : RowFits (columns_in_group schema table part.group) now
  now_fits = RowFits-values_at columns (columns_of schema table) row fits

  ruled_by : (f : Form) → (take : Bool) → is_gt (wins schema columns f part.new now) ≡ take → (wins schema columns f part.new now ≡ Greater → Ruled schema columns f part.new now TakeNew)
      → Ruled schema columns f part.new now (cond take TakeNew Keep)
  ruled_by f true e takes = go (wins schema columns f part.new now) refl e
    where
      go : (o : Ordering) → wins schema columns f part.new now ≡ o → is_gt o ≡ true → Ruled schema columns f part.new now TakeNew
      go Less is e = cc
      go Equal is e = cc
      go Greater is e = Takes is
  ruled_by f false e takes = Keeps e

  ruled_greatest : (column : ℕ) → IsOfOneNumber schema table part.group column (greatest_methods column) → Ruled schema columns (form.Greatest column) part.new now (decision_of schema table part row)
  ruled_greatest column one =
      rw (decides.greatest schema table column part row one (HasGroupValues-PartFits schema table part part_fits) fits)
      (ruled_by (form.Greatest column) (int_lt (one_group_number now) (one_group_number part.new)) (int_gt (one_group_number part.new) (one_group_number now)) Takes)

  ruled_least : (column : ℕ) → IsOfOneNumber schema table part.group column (least_methods column) → Ruled schema columns (form.Least column) part.new now (decision_of schema table part row)
  ruled_least column one =
      rw (decides.least schema table column part row one (HasGroupValues-PartFits schema table part part_fits) fits)
      (ruled_by (form.Least column) (int_lt (one_group_number part.new) (one_group_number now)) (int_gt (one_group_number now) (one_group_number part.new)) Takes)

  module _ (f : Form) (has : form_at schema table part.group ≡ Some f) where
    own_values : (values : Cells) → length values ≡ length columns → group_values schema table part.group (with_group_values schema table part.group values row) ≡ values
    own_values values long = group_values-with_own schema sound table part.group f has values row fits long

    new_long : length part.new ≡ length columns
    new_long = long_values schema sound table part.group f has part.new part_fits.new

    now_long : length now ≡ length columns
    now_long = long_values schema sound table part.group f has now now_fits

  ruled_latest : (stamp site : ℕ) → form_at schema table part.group ≡ Some (form.Latest stamp site) → IsLatest schema table part.group stamp site
      → Ruled schema columns (form.Latest stamp site) part.new now (decision_of schema table part row)
  ruled_latest stamp site has is = go (decision_of schema table part row) refl
    where
      f : Form
      f = form.Latest stamp site

      made : Cells
      made = with_group_values schema table part.group part.new row

      value_now : (c : ℕ) → has_place columns c ≡ true → slice_get row c ≡ value_of columns now c
      value_now c there = sym (value_of-values_at columns row c (within_row schema sound table part.group f has row fits) there)

      made_fits : RowFits (columns_of schema table) made
      made_fits = RowFits-with_values (columns_of schema table) columns part.new row (group_columns_of-below schema sound.shape table part.group) part_fits.new fits

      value_new : (c : ℕ) → has_place columns c ≡ true → slice_get made c ≡ value_of columns part.new c
      value_new c there = sym (value_of-values_at columns made c (within_row schema sound table part.group f has made made_fits) there)
          ∙ ap (λ vs. value_of columns vs c) (own_values f has part.new (new_long f has))

      rank_is : (at values : Cells) → ((c : ℕ) → has_place columns c ≡ true → slice_get at c ≡ value_of columns values c) → cells_of (rank_in schema stamp site at) ≡ rank_among schema columns stamp site values
      rank_is at values each =
          ap (λ v. Num (number_or_zero (number_of v)) ∷ level_alone (site_level_of schema (slice_get at site))) (each stamp is.has_stamp)
          ∙ ap (λ v. Num (number_or_zero (number_of (value_of columns values stamp))) ∷ level_alone (site_level_of schema v)) (each site is.has_site)

      plain : takes_or_keeps (decision_of schema table part row) ≡ true
      plain = rw is.methods (plain_latest (number_of (slice_get made stamp)) (number_of (slice_get row stamp)) (site_level_of schema (slice_get made site)) (site_level_of schema (slice_get row site)))

      laws : GoesByRank (decision_of schema table part row) (new_rank schema table stamp site part row) (rank_in schema stamp site row)
      laws = decides.latest schema table stamp site part row sound.shape is.numbers is.methods (HasGroupValues-PartFits schema table part part_fits) fits

      before : (o : Ordering) → key_cmp (cells_of (new_rank schema table stamp site part row)) (cells_of (rank_in schema stamp site row)) ≡ o → wins schema columns f part.new now ≡ o
      before o e = ap (λ r. key_cmp r (rank_among schema columns stamp site now)) (sym (rank_is made part.new value_new)) ∙ ap (key_cmp (cells_of (new_rank schema table stamp site part row))) (sym (rank_is row now value_now)) ∙ e

      go : (d : Decision) → decision_of schema table part row ≡ d → Ruled schema columns f part.new now d
      go TakeNew e = Takes (before Greater (key_cmp_total.antisymm (cells_of (new_rank schema table stamp site part row)) (cells_of (rank_in schema stamp site row))
          ∙ ap ordering_reverse (lower_before (rank_in schema stamp site row) (new_rank schema table stamp site part row) (laws.takes.0 e))))
      go Keep e = Keeps (rw (before Less (lower_before (new_rank schema table stamp site part row) (rank_in schema stamp site row) (laws.keeps.0 e))) refl)
      go Undecided e = Open
      go (TakeNumber n) e = absurd (true≢false (sym plain ∙ ap takes_or_keeps e))
      go Range e = absurd (true≢false (sym plain ∙ ap takes_or_keeps e))

  -- so no number leaves its range there
  pub latest_has_no_range : (stamp site : ℕ) → form_at schema table part.group ≡ Some (form.Latest stamp site) → decision_of schema table part row ≡ Range → ⊥
  latest_has_no_range stamp site has range =
      none (subst (Ruled schema columns (form.Latest stamp site) part.new now) range (ruled_latest stamp site has (IsShaped-form_at schema sound table part.group (form.Latest stamp site) has)))
    where
      none : Ruled schema columns (form.Latest stamp site) part.new now Range → ⊥
      none ruled = elim ruled [ ]

  -- ---- what is settled

  -- the values that a part leaves, of new ones that take the place where they match
  module _ (f : Form) (has : form_at schema table part.group ≡ Some f) (after : Cells) (gives : settled_part schema table part row ≡ Ok after) where
    settled : (values : Cells) × (settled_values schema table part row ≡ Ok values) × (with_group_values schema table part.group values row ≡ after)
    settled =
        let some = result_then-Ok (settled_values schema table part row) (λ values. Ok (with_group_values schema table part.group values row)) after gives in
        (some.0, some.1, cc (some.2))

    left : (values : Cells) → with_group_values schema table part.group values row ≡ after → length values ≡ length columns → group_values schema table part.group after ≡ values
    left values is long = ap (group_values schema table part.group) (sym is) ∙ own_values f has values long

    -- where the row is as the sender saw it, and else
    either : (target : Cells) → length target ≡ length columns → (now ≡ part.old → part.new ≡ target)
        → ((values : Cells) → values_by (decision_of schema table part row) (group_name schema table part.group) part.new now ≡ Ok values → values ≡ target)
        → group_values schema table part.group after ≡ target
    either target long sent decided = go (is_matched schema table row part) refl settled.1
      where
        go : (b : Bool) → is_matched schema table row part ≡ b
            → cond b (Ok part.new) (values_by (decision_of schema table part row) (group_name schema table part.group) part.new now) ≡ Ok settled.0
            → group_values schema table part.group after ≡ target
        go true e is =
            let same : part.new ≡ settled.0 = cc in
            let whole : settled.0 ≡ target = sym same ∙ sent ((are_same-Decides now part.old).0 e) in
            left settled.0 settled.2 (ap length whole ∙ long) ∙ whole
        go false e is = let whole : settled.0 ≡ target = decided settled.0 is in left settled.0 settled.2 (ap length whole ∙ long) ∙ whole

    -- the winner
    settled_greater : Ruled schema columns f part.new now (decision_of schema table part row) → (now ≡ part.old → part.new ≡ greater schema columns f part.new now)
        → group_values schema table part.group after ≡ greater schema columns f part.new now
    settled_greater ruled sent = either (greater schema columns f part.new now) (long (is_gt (wins schema columns f part.new now))) sent (λ values is. go (decision_of schema table part row) ruled values is)
      where
        long : (b : Bool) → length (cond b part.new now) ≡ length columns
        long true = new_long f has
        long false = now_long f has

        go : (d : Decision) → Ruled schema columns f part.new now d → (values : Cells) → values_by d (group_name schema table part.group) part.new now ≡ Ok values → values ≡ greater schema columns f part.new now
        go TakeNew (Takes e) values is = let same : part.new ≡ values = cc in rw e (sym same)
        go Keep (Keeps e) values is = let same : now ≡ values = cc in rw e (sym same)
        go Undecided Open values is = cc
        go Range ruled values is = cc
        go (TakeNumber n) ruled values is = elim ruled [ ]

  -- a part that is settled moves its group's values
  pub settled_moves : (f : Form) → form_at schema table part.group ≡ Some f → Allows schema columns f part → (after : Cells) → settled_part schema table part row ≡ Ok after
      → group_values schema table part.group after ≡ move schema columns f part now
  settled_moves form.Sum has allows after gives =
      let shape = IsShaped-form_at schema sound table part.group form.Sum has in
      let one = shape.1 in
      let new = one_of_group schema table part.group shape.0 sum_methods one part.new part_fits.new in
      let adds = decides.adds schema table shape.0 part row one (HasGroupValues-PartFits schema table part part_fits) fits in
      either form.Sum has after gives (sum part.new) (rw one.columns refl) (λ same. new.1 ∙ ap (λ n. Num n ∷ []) (moved new.0 (one_group_number now) (one_group_number part.old) (one_group_number part.new) (ap one_group_number new.1) (ap one_group_number same)))
      (λ values is. taken (one_group_number now +ℤ move_of part) (is_in_range (one_group_number now +ℤ move_of part)) values (rw (adds) at is))
    where
      sum : Cells → Cells
      sum new = Num (one_group_number now +ℤ move_of part) ∷ []

      moved : (n a o m : ℤ) → m ≡ n → a ≡ o → n ≡ a +ℤ (m -ℤ o)
      moved n a o m p q = omega (arith, ints)

      taken : (z : ℤ) (b : Bool) (values : Cells) → values_by (cond b (TakeNumber z) Range) (group_name schema table part.group) part.new now ≡ Ok values → values ≡ Num z ∷ []
      taken z true values is = cc
      taken z false values is = cc
  settled_moves (form.Greatest column) has allows after gives =
      let one = IsShaped-form_at schema sound table part.group (form.Greatest column) has in
      settled_greater (form.Greatest column) has after gives (ruled_greatest column one)
      (λ same. no_loss schema columns (form.Greatest column) part.new now (subst (λ old. is_gt (int_cmp (one_group_number old) (one_group_number part.new)) ≡ false) (sym same) allows)
      (λ tie. same_numbers part.new now (one_of_group schema table part.group column (greatest_methods column) one part.new part_fits.new) (one_of_group schema table part.group column (greatest_methods column) one now now_fits)
      (int_tie (one_group_number part.new) (one_group_number now) tie)))
  settled_moves (form.Least column) has allows after gives =
      let one = IsShaped-form_at schema sound table part.group (form.Least column) has in
      settled_greater (form.Least column) has after gives (ruled_least column one)
      (λ same. no_loss schema columns (form.Least column) part.new now (subst (λ old. is_gt (int_cmp (one_group_number part.new) (one_group_number old)) ≡ false) (sym same) allows)
      (λ tie. same_numbers part.new now (one_of_group schema table part.group column (least_methods column) one part.new part_fits.new) (one_of_group schema table part.group column (least_methods column) one now now_fits)
      (sym (int_tie (one_group_number now) (one_group_number part.new) tie))))
  settled_moves (form.Latest stamp site) has allows after gives =
      settled_greater (form.Latest stamp site) has after gives (ruled_latest stamp site has (IsShaped-form_at schema sound table part.group (form.Latest stamp site) has))
      (λ same. rw (subst (λ old. wins schema columns (form.Latest stamp site) part.new old ≡ Greater) (sym same) allows) refl)
