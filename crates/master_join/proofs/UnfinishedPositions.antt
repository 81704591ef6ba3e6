-- How many positions aren't finished, counted from the mark on, and how many errors are of masters' transactions.
use Rattle.std.proofs.Common.{◌≡◌, ℕ, zero, suc, ◌+◌, ◌-◌, ◌<◌, ◌≤◌, List, drop, Bool, false, cond, Some, refl, sym, ap, ◌∙◌, subst, inl, inr, arith, add-one}
use Rattle.std.specs.Prelude.{not, slice_get, count_by}
use Rattle.std.specs.List.{range_with_len}
use Rattle.std.proofs.lemmas.Bool.{cases_lt}
use Rattle.std.proofs.lemmas.List.Sums.{sum_by-cons}
use Rattle.rep_lists.proofs.Places.{drop_from_found}
use Rattle.rep_calls.specs.declared.past.PastEntry.{PastEntry}
use Rattle.error_queue.specs.declared.entry.ErrorEntry.{ErrorEntry}
use Rattle.site_state.specs.State.{SiteState}
use Rattle.rep_schema.specs.Sites.{is_master_site}
use Rattle.site_state.specs.Journal.{finished}

-- a position of an origin isn't finished at a site
abbrev pub is_unfinished : SiteState → PastEntry → ℕ → Bool
is_unfinished x last p = not (finished last.origin x.journal p)

-- an error is of a master's transaction
abbrev pub is_of_master : SiteState → ErrorEntry → Bool
is_of_master x e = is_master_site x.schema e.origin

-- the value at a place, and those behind it
pub count_here : {X : Type 0} (test : X → Bool) (xs : List X) (i : ℕ) (x : X) → slice_get xs i ≡ Some x → count_by test (drop i xs) ≡ cond (test x) 1 0 + count_by test (drop (i + 1) xs)
count_here test xs i x there = ap (count_by test) (drop_from_found xs i x there) ∙ sum_by-cons (λ y. cond (test y) 1 0) x (drop (i + 1) xs)

module _ (test : ℕ → Bool) where
  -- how many of the numbers behind one up to another pass
  abbrev pub count_behind : ℕ → ℕ → ℕ
  count_behind position last = count_by test (range_with_len (position + 1) (last - position))

  -- the next number, and those behind it
  pub one_more : (position last : ℕ) → position < last → count_behind position last ≡ cond (test (position + 1)) 1 0 + count_behind (position + 1) last
  one_more position last below =
      let left : last - position ≡ suc (last - (position + 1)) = omega (arith, below) in
      rw left (sum_by-cons (λ p. cond (test p) 1 0) (position + 1) (range_with_len (position + 1 + 1) (last - (position + 1))))

  -- behind the last one there is none
  pub none_left : (position last : ℕ) → last ≤ position → count_behind position last ≡ 0
  none_left position last past = let none : last - position ≡ 0 = omega (arith, past) in rw none refl

  one_over : (position last : ℕ) → test (position + 1) ≡ false → count_behind position last ≡ count_behind (position + 1) last
  one_over position last off = elim (cases_lt position last) [
    | inl below ↦ one_more position last below ∙ rw off (omega arith)
    | inr past ↦ none_left position last past ∙ sym (none_left (position + 1) last (omega (arith, past)))
  ]

  -- where none up to a mark passes, it is enough to count behind it
  pub passed_over : (mark last : ℕ) → ((p : ℕ) → 0 < p → p ≤ mark → test p ≡ false) → count_behind mark last ≡ count_by test (range_with_len 1 last)
  passed_over zero last none = let all : last - 0 ≡ last = omega arith in rw all refl
  passed_over (suc mark) last none =
      subst (λ (next : ℕ). count_behind next last ≡ count_by test (range_with_len 1 last)) (add-one mark)
      (sym (one_over mark last (none (mark + 1) (omega arith) (omega arith))) ∙ passed_over mark last (λ p from_one up_to. none p from_one (omega (arith, up_to))))
