-- Parents and their children, parent by parent: whose keys are made anew, and how many children there are.
use Rattle.std.proofs.Common.{◌≡◌, ℕ, suc, ◌+◌, List, [], ◌∷◌, map, length, Bool, true, false, cond, ◌||◌, filter, refl, sym, ap, ◌∙◌, subst, arith, Bor}
use Rattle.std.proofs.lemmas.Bool.{false_from_ne_true}
use Rattle.std.proofs.lemmas.List.Folds.{Any-from_list_any}
use Rattle.std.proofs.lemmas.List.Sums.{sum_by-cons}
use Rattle.rep_schema.specs.declared.schema.Column.{Column}
use Rattle.rep_schema.specs.Shape.{AreDistinct}
use Rattle.rep_schema.specs.Tables.{Cells, Rows, key_of}
use Rattle.rep_schema.specs.Groups.{are_same}
use Rattle.rep_schema.proofs.ValuesAt.{are_same-Decides}
use Rattle.snapshot_query.specs.declared.query.Query.{Query}
use Rattle.snapshot_query.specs.declared.parent.Parent.{Parent}
use Rattle.snapshot_query.specs.Parents.{parent_key}
use Rattle.refreshes.specs.Showing.{has_key}
use Rattle.subquery_snapshots.specs.declared.rule.Rule.{Rule}
use Rattle.subquery_snapshots.specs.declared.rule.Rule.TheVariants as rules
use Rattle.subquery_snapshots.specs.Rules.{rows_of_parents, waiting_rows}
use Rattle.subquery_snapshots.specs.Children.{is_child, children, child_count}

-- ---- rows that pass either of two tests

-- where no row passes both, they are counted apart
count_either : {X : Type 0} (f g : X → Bool) (xs : List X) → ((x : X) → f x ≡ true → g x ≡ false) → length (filter (λ x. f x || g x) xs) ≡ length (filter f xs) + length (filter g xs)
count_either f g [] apart = refl
count_either f g (x ∷ xs) apart = go (f x) refl (g x) refl (count_either f g xs apart)
  where
    go : (b : Bool) → f x ≡ b → (c : Bool) → g x ≡ c → length (filter (λ x. f x || g x) xs) ≡ length (filter f xs) + length (filter g xs)
        → length (cond (b || c) (x ∷ filter (λ x. f x || g x) xs) (filter (λ x. f x || g x) xs)) ≡ length (cond b (x ∷ filter f xs) (filter f xs)) + length (cond c (x ∷ filter g xs) (filter g xs))
    go true first true second later = absurd (cc (apart x first, second))
    go true first false second later = omega (arith, later)
    go false first true second later = omega (arith, later)
    go false first false second later = later

-- a key is that of the first or of a later row, whichever of two tests these pass
first_of_both : (s h f g : Bool) → h ≡ (f || g) → (s || h) ≡ ((s || f) || (s || g))
first_of_both true h f g later = refl
first_of_both false h f g later = later

first_of_left : (s h f g : Bool) → h ≡ (f || g) → (s || h) ≡ ((s || f) || g)
first_of_left true h f g later = refl
first_of_left false h f g later = later

first_of_right : (s h f g : Bool) → h ≡ (f || g) → (s || h) ≡ (f || (s || g))
first_of_right true h true g later = refl
first_of_right true h false g later = refl
first_of_right false h f g later = later

module _ (columns : List Column) (key : Cells) where
  abbrev has_row : Rows → Bool
  has_row rows = has_key key (map (key_of columns) rows)

  -- a key is that of a row which passes either test where it is that of one which passes the first or the second
  has_row-either : (f g : Cells → Bool) (rows : Rows) → has_row (filter (λ row. f row || g row) rows) ≡ (has_row (filter f rows) || has_row (filter g rows))
  has_row-either f g [] = refl
  has_row-either f g (r ∷ rs) = go (f r) (g r) (has_row-either f g rs)
    where
      go : (b c : Bool) → has_row (filter (λ row. f row || g row) rs) ≡ (has_row (filter f rs) || has_row (filter g rs))
          → has_row (cond (b || c) (r ∷ filter (λ row. f row || g row) rs) (filter (λ row. f row || g row) rs)) ≡ (has_row (cond b (r ∷ filter f rs) (filter f rs)) || has_row (cond c (r ∷ filter g rs) (filter g rs)))
      go true true later = first_of_both (are_same key (key_of columns r)) (has_row (filter (λ row. f row || g row) rs)) (has_row (filter f rs)) (has_row (filter g rs)) later
      go true false later = first_of_left (are_same key (key_of columns r)) (has_row (filter (λ row. f row || g row) rs)) (has_row (filter f rs)) (has_row (filter g rs)) later
      go false true later = first_of_right (are_same key (key_of columns r)) (has_row (filter (λ row. f row || g row) rs)) (has_row (filter f rs)) (has_row (filter g rs)) later
      go false false later = later

-- ---- one parent more

-- the keys of the children of parents are those of the first one's and those of the others'
pub one_family_more : (columns : List Column) (parent : Parent) (q : Cells) (qs : List Cells) (rows : Rows) (key : Cells)
    → has_key key (map (key_of columns) (rows_of_parents parent (q ∷ qs) rows)) ≡ (has_key key (map (key_of columns) (children parent.columns q rows)) || has_key key (map (key_of columns) (rows_of_parents parent qs rows)))
one_family_more columns parent q qs rows key = has_row-either columns key (is_child parent.columns q) (λ row. has_key (parent_key parent row) qs) rows

-- a test that no row passes picks none
filter-none : (rows : Rows) → filter (λ row. false) rows ≡ []
filter-none [] = refl
filter-none (r ∷ rs) = filter-none rs

-- so no row has one of no parents
pub rows_of_parents-none : (parent : Parent) (rows : Rows) → rows_of_parents parent [] rows ≡ []
rows_of_parents-none parent rows = filter-none rows

pub child_count-cons : (places : List ℕ) (q : Cells) (qs : List Cells) (rows : Rows) → child_count places (q ∷ qs) rows ≡ length (children places q rows) + child_count places qs rows
child_count-cons places q qs rows = sum_by-cons (λ k. length (children places k rows)) q qs

-- ---- distinct parents

distinct_behind : (q : Cells) (qs : List Cells) → AreDistinct (q ∷ qs) → AreDistinct qs
distinct_behind q qs distinct = λ i j d less within. distinct (suc i) (suc j) d (omega (arith, less)) (omega (arith, within))

none_again : (q : Cells) (qs : List Cells) → AreDistinct (q ∷ qs) → has_key q qs ≡ false
none_again q qs distinct = false_from_ne_true (has_key q qs) (λ has.
    let at = Any-from_list_any (are_same q) qs has in
    distinct 0 (suc at.0) at.1 (omega arith) (omega (arith, at.2)) ((are_same-Decides q at.1).0 at.4 ∙ sym at.3))

-- distinct parents have as many children as there are rows whose parent is among them
pub child_count-distinct : (parent : Parent) (rows : Rows) (qs : List Cells) → AreDistinct qs → child_count parent.columns qs rows ≡ length (rows_of_parents parent qs rows)
child_count-distinct parent rows [] distinct = sym (ap length (rows_of_parents-none parent rows))
child_count-distinct parent rows (q ∷ qs) distinct =
    child_count-cons parent.columns q qs rows
    ∙ ap (λ n. length (children parent.columns q rows) + n) (child_count-distinct parent rows qs (distinct_behind q qs distinct))
    ∙ sym (count_either (is_child parent.columns q) (λ row. has_key (parent_key parent row) qs) rows
    (λ row is. ap (λ (k : Cells). has_key k qs) ((are_same-Decides (parent_key parent row) q).0 is) ∙ none_again q qs distinct))

-- ---- by a rule

-- where a rule asks for no parent, no row waits
pub none_waits : (rule : Rule) (query : Bor Query) → rule ≡ rules.Whole query → (parents : List Cells) (rows : Rows) → waiting_rows rule parents rows ≡ []
none_waits rule query is parents rows = subst (λ (r : Rule). waiting_rows r parents rows ≡ []) (sym is) (filter-none rows)

-- where it does, distinct parents have as many children as there are rows that wait
pub waiting_counted : (rule : Rule) (parent : Bor Parent) → rule ≡ rules.Parent parent → (parents : List Cells) (rows : Rows) → AreDistinct parents
    → child_count parent.now.columns parents rows ≡ length (waiting_rows rule parents rows)
waiting_counted rule parent is parents rows distinct =
    subst (λ (r : Rule). child_count parent.now.columns parents rows ≡ length (waiting_rows r parents rows)) (sym is) (child_count-distinct parent.now rows parents distinct)
