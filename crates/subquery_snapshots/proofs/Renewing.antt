-- Rows that are made anew under some keys, and then under others.
use Rattle.std.proofs.Common.{◌≡◌, ◌≢◌, List, [], ◌∷◌, ◌++◌, Bool, true, false, cond, ◌||◌, Option, Some, None, IfSome, filter, refl, sym, ap, ◌∙◌, subst, inl, inr}
use Rattle.std.specs.Bool.{then_some}
use Rattle.std.proofs.lemmas.Bool.{or_cases, or_parts}
use Rattle.std.proofs.lemmas.List.Folds.{list_any-append}
use Rattle.rep_lists.specs.Rising.{IsRising}
use Rattle.rep_lists.proofs.Rising.{rising_put, rising_take}
use Rattle.rep_values.specs.Order.{key_cmp}
use Rattle.rep_values.specs.OrderLaws.{key_cmp_total}
use Rattle.rep_schema.specs.declared.schema.Column.{Column}
use Rattle.rep_schema.specs.Tables.{Cells, Rows, key_of, row_beside, row_cmp, find_row, put_row, take_row}
use Rattle.rep_schema.specs.Shown.{shown_by}
use Rattle.rep_schema.specs.Groups.{are_same}
use Rattle.rep_schema.proofs.ValuesAt.{are_same-Decides}
use Rattle.rep_schema.proofs.FoundRows.{find_row-put_own, find_row-put_other, find_row-take_own, find_row-take_other, rows_from_finds, key_of-found}
use Rattle.rep_schema.proofs.FilteredRows.{rising_filter, find_row-filter}
use Rattle.refreshes.specs.Showing.{has_key, ShowsOthers}
use Rattle.subquery_snapshots.specs.Renewing.{Renews}

-- ---- one key

-- a key among one is that one
only_key : (key k : Cells) → has_key key (k ∷ []) ≡ true → key ≡ k
only_key key k has = elim (or_cases (are_same key k) false has) [ inl is ↦ (are_same-Decides key k).0 is | inr never ↦ absurd (cc never) ]

-- one that isn't is another
other_key : (key k : Cells) → has_key key (k ∷ []) ≡ false → k ≢ key
other_key key k none same = absurd (cc ((or_parts (are_same key k) false none).0, (are_same-Decides key k).1 (sym same)))

-- a key is among one more where it is that one or among the others
pub one_more : (key k : Cells) (keys : List Cells) → has_key key (k ∷ keys) ≡ (has_key key (k ∷ []) || has_key key keys)
one_more key k keys = go (are_same key k)
  where
    go : (b : Bool) → (b || has_key key keys) ≡ ((b || false) || has_key key keys)
    go true = refl
    go false = refl

module _ (columns : List Column) where
  -- ---- what is wanted

  module _ (wanted : Cells → Option Cells) where
    -- under no key nothing is made anew
    pub renews_none : (rows : Rows) → IsRising (row_cmp columns) rows → Renews columns wanted [] rows rows
    renews_none rows rising = record { rising = rising; there = λ key has. absurd (cc has); elsewhere = λ key none. refl }

    -- under some keys, and then under others
    pub renews_then : (part rest whole : List Cells) (first middle last : Rows) → ((key : Cells) → has_key key whole ≡ (has_key key part || has_key key rest))
        → Renews columns wanted part first middle → Renews columns wanted rest middle last → Renews columns wanted whole first last
    renews_then part rest whole first middle last split one two = record {
      rising = two.rising;
      there = λ key has. go key (sym (split key) ∙ has) (has_key key rest) refl;
      elsewhere = λ key none. let parts = or_parts (has_key key part) (has_key key rest) (sym (split key) ∙ none) in two.elsewhere key parts.1 ∙ one.elsewhere key parts.0;
    }
      where
        in_part : (key : Cells) → (has_key key part || has_key key rest) ≡ true → has_key key rest ≡ false → has_key key part ≡ true
        in_part key has out = elim (or_cases (has_key key part) (has_key key rest) has) [ inl first_one ↦ first_one | inr second_one ↦ absurd (cc (out, second_one)) ]

        go : (key : Cells) → (has_key key part || has_key key rest) ≡ true → (b : Bool) → has_key key rest ≡ b → find_row columns key last ≡ wanted key
        go key has true in_rest = two.there key in_rest
        go key has false out = two.elsewhere key out ∙ one.there key (in_part key has out)

    -- a row that is wanted under a key
    pub renews_wanted : (key : Cells) (row : Option Cells) (old new : Rows) → row ≡ wanted key → Renews columns (λ other. row) (key ∷ []) old new → Renews columns wanted (key ∷ []) old new
    renews_wanted key row old new is renews = record {
      rising = renews.rising;
      there = λ other has. renews.there other has ∙ is ∙ ap wanted (sym (only_key other key has));
      elsewhere = renews.elsewhere;
    }

    -- to make the rest of the keys anew leads to what making all anew leads to
    abbrev pub GoesOn : List Cells → Rows → List Cells → Rows → Type 0
    GoesOn rest now all first = (last : Rows) → Renews columns wanted rest now last → Renews columns wanted all first last

    -- so it does behind some of the rest
    pub goes_on : (part rest whole all : List Cells) (first now next : Rows) → ((key : Cells) → has_key key whole ≡ (has_key key part || has_key key rest))
        → GoesOn whole now all first → Renews columns wanted part now next → GoesOn rest next all first
    goes_on part rest whole all first now next split goes one = λ last two. goes last (renews_then part rest whole now next last split one two)

    -- and where nothing is left, all are made anew
    pub gone_on : (all : List Cells) (first now : Rows) → GoesOn [] now all first → IsRising (row_cmp columns) now → Renews columns wanted all first now
    gone_on all first now goes rising = goes now (renews_none now rising)

  -- ---- a row is put or taken

  pub renews-put : (key row : Cells) (rows : Rows) → IsRising (row_cmp columns) rows → key_of columns row ≡ key → Renews columns (λ other. Some row) (key ∷ []) rows (put_row columns row rows)
  renews-put key row rows rising own = record {
    rising = rising_put (key_of columns) key_cmp key_cmp_total row rows rising;
    there = λ other has. subst (λ (k : Cells). find_row columns k (put_row columns row rows) ≡ Some row) (own ∙ sym (only_key other key has)) (find_row-put_own columns row rows);
    elsewhere = λ other none. find_row-put_other columns row other rows (λ same. other_key other key none (sym own ∙ same));
  }

  pub renews-take : (key : Cells) (rows : Rows) → IsRising (row_cmp columns) rows → Renews columns (λ other. None) (key ∷ []) rows (take_row columns key rows)
  renews-take key rows rising = record {
    rising = rising_take (key_of columns) key_cmp key_cmp_total (row_beside columns key) rows rising;
    there = λ other has. subst (λ (k : Cells). find_row columns k (take_row columns key rows) ≡ None) (sym (only_key other key has)) (find_row-take_own columns key rows rising);
    elsewhere = λ other none. find_row-take_other columns key other rows rising (other_key other key none);
  }

  -- a row that is put or not has its own key
  pub own-then_some : (row : Cells) (put : Bool) (set : Option Cells) → set ≡ then_some put row → IfSome set (λ other. key_of columns other ≡ key_of columns row)
  own-then_some row put set is = subst (λ (found : Option Cells). IfSome found (λ other. key_of columns other ≡ key_of columns row)) (sym is) (go put)
    where
      go : (b : Bool) → IfSome (then_some b row) (λ other. key_of columns other ≡ key_of columns row)
      go true = refl
      go false = tt

  -- ---- what a test shows of a table's rows

  module _ (test : Cells → Bool) (master : Rows) where
    abbrev pub shown : Cells → Option Cells
    shown key = shown_by test (find_row columns key master)

    -- what is shown under a key has it
    pub own-shown : (key : Cells) → IfSome (shown key) (λ row. key_of columns row ≡ key)
    own-shown key = go (find_row columns key master) refl
      where
        by : (row : Cells) → key_of columns row ≡ key → (b : Bool) → IfSome (cond b (Some row) None) (λ row. key_of columns row ≡ key)
        by row own true = own
        by row own false = tt

        go : (found : Option Cells) → find_row columns key master ≡ found → IfSome (shown_by test found) (λ row. key_of columns row ≡ key)
        go None there = tt
        go (Some row) there = by row (key_of-found columns key row master there) (test row)

    -- a row of the table, where the test picks it, is what is shown under its key
    pub shown-found : (key row : Cells) (picked : Bool) → find_row columns key master ≡ Some row → picked ≡ test row → then_some picked row ≡ shown key
    shown-found key row picked there is = rw (there, is) (go (test row))
      where
        go : (b : Bool) → then_some b row ≡ cond b (Some row) None
        go true = refl
        go false = refl

    -- rows that show what is shown under all but some keys, and are made anew under these, are those that the test picks
    pub renewed_all : (keys more : List Cells) (older middle newer : Rows) → IsRising (row_cmp columns) master → ShowsOthers columns test (keys ++ more) master older
        → Renews columns shown keys older middle → Renews columns shown more middle newer → newer ≡ filter test master
    renewed_all keys more older middle newer rising others one two =
        rows_from_finds columns newer (filter test master) two.rising (rising_filter columns test master rising) (λ key. go key (has_key key (keys ++ more)) refl ∙ sym (find_row-filter columns test key master rising))
      where
        both : Renews columns shown (keys ++ more) older newer
        both = renews_then shown keys more (keys ++ more) older middle newer (λ key. list_any-append (are_same key) keys more) one two

        go : (key : Cells) (b : Bool) → has_key key (keys ++ more) ≡ b → find_row columns key newer ≡ shown key
        go key true has = both.there key has
        go key false none = both.elsewhere key none ∙ others.shows key none
