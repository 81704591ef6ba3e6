-- The place of a site of procedures among the others: it is found by the names of the sites, and what is read and written there
-- is the site of the name.
use Rattle.std.proofs.Common.{◌≡◌, ℕ, suc, ◌+◌, ◌<◌, ◌≤◌, List, [], ◌∷◌, length, get_or, set, Bool, true, false, cond, Some, None, refl, sym, ap, ◌∙◌, arith, subst, inl, inr}
use Rattle.std.specs.Prelude.{◌⊎◌, not, nat_lt, slice_get, slice_set, Option}
use Rattle.std.specs.List.{position}
use Rattle.std.proofs.lemmas.Bool.{ltb-true, ltb-false}
use Rattle.std.proofs.lemmas.List.{set-get_or}
use Rattle.std.proofs.lemmas.Option.{slice_get_cases, slice_get_past, slice_get_read}
use Rattle.rep_values.specs.declared.name.SiteName.{SiteName}
use Rattle.rep_values.specs.SiteNames.{is_same_site}
use Rattle.proc_state.specs.State.{ProcState}
use Rattle.world_state.specs.Procs.{Procs, proc_of, at_proc}
use Rattle.world.specs.Finding.{proc_place, IsProcAt, FindsProc}

-- a site is the one at its place
pub proc_of-place : (name : SiteName) (xs : List ProcState) → proc_of name xs ≡ slice_get xs (proc_place name xs)
proc_of-place name [] = refl
proc_of-place name (y ∷ ys) = go (is_same_site y.me name) (proc_of-place name ys)
  where
    go : (b : Bool) → proc_of name ys ≡ slice_get ys (proc_place name ys) → cond b (Some y) (proc_of name ys) ≡ slice_get (y ∷ ys) (cond (not b) (1 + proc_place name ys) 0)
    go true later = refl
    go false later = let one : 1 + proc_place name ys ≡ suc (proc_place name ys) = omega arith in rw one later

-- what changes at that place changes at the site
slice_set-proc_place : (name : SiteName) (change : ProcState → ProcState) (xs : List ProcState) (x : ProcState) → slice_get xs (proc_place name xs) ≡ Some x → slice_set xs (proc_place name xs) (change x) ≡ at_proc name change xs
slice_set-proc_place name change [] x found = refl
slice_set-proc_place name change (y ∷ ys) x found = go (is_same_site y.me name) found (slice_set-proc_place name change ys x)
  where
    go : (b : Bool) → slice_get (y ∷ ys) (cond (not b) (1 + proc_place name ys) 0) ≡ Some x → (slice_get ys (proc_place name ys) ≡ Some x → slice_set ys (proc_place name ys) (change x) ≡ at_proc name change ys)
        → slice_set (y ∷ ys) (cond (not b) (1 + proc_place name ys) 0) (change x) ≡ cond b (change y ∷ ys) (y ∷ at_proc name change ys)
    go true found later = let same : y ≡ x = cc found in ap (λ (z : ProcState). change z ∷ ys) (sym same)
    go false found later =
        let one : 1 + proc_place name ys ≡ suc (proc_place name ys) = omega arith in
        rw one (ap (λ (zs : List ProcState). y ∷ zs) (later (subst (λ (k : ℕ). slice_get (y ∷ ys) k ≡ Some x) one found)))

-- what is found by the names of the sites
pub finds_proc : (name : SiteName) (sites : List ProcState) (result : Option ℕ) → result ≡ position (λ (x : ProcState). is_same_site x.me name) sites → FindsProc name sites result
finds_proc name sites result is = subst (FindsProc name sites) (sym is) (go (nat_lt place (length sites)) refl)
  where
    place : ℕ
    place = proc_place name sites

    there : place < length sites → IsProcAt name sites place
    there within = by (slice_get_cases sites place).1
      where
        by : ((x : ProcState) × (place < length sites) × (slice_get sites place ≡ Some x) × (get_or sites place x ≡ x)) ⊎ ((length sites ≤ place) × (slice_get sites place ≡ None)) → IsProcAt name sites place
        by (inl some) = record { site = some.0; found = proc_of-place name sites ∙ some.2; is = refl; within = within; there = some.2 }
        by (inr none) = absurd (omega (arith, none.0, within))

    go : (b : Bool) → nat_lt place (length sites) ≡ b → FindsProc name sites (cond b (Some place) None)
    go true is = there (ltb-true place (length sites) is)
    go false is = proc_of-place name sites ∙ slice_get_past sites place (ltb-false place (length sites) is)

-- the site that was read at its place, in a list that was seen and is this one
module _ (name : SiteName) (xs seen : List ProcState) (place : ℕ) (x : ProcState) (seen_is : seen ≡ xs) (at : IsProcAt name seen place) (stands : x ≡ get_or xs place x) where
  there : slice_get xs place ≡ Some x
  there = slice_get_read xs (length seen) place x (ap length seen_is) at.within stands

  place_is : place ≡ proc_place name xs
  place_is = at.is ∙ ap (proc_place name) seen_is

  there_named : slice_get xs (proc_place name xs) ≡ Some x
  there_named = subst (λ (k : ℕ). slice_get xs k ≡ Some x) place_is there

  -- it is the one of the name
  pub proc_of-read : proc_of name xs ≡ Some x
  proc_of-read = proc_of-place name xs ∙ there_named

  -- what was written there is a change of it
  pub at_proc-written : (change : ProcState → ProcState) (y : ProcState) → y ≡ change x → set xs place y ≡ at_proc name change xs
  at_proc-written change y changed = ap (λ (k : ℕ). set xs k y) place_is ∙ ap (set xs (proc_place name xs)) changed ∙ slice_set-proc_place name change xs x there_named

  -- or it stayed
  pub procs-kept : (y : ProcState) → y ≡ x → set xs place y ≡ xs
  procs-kept y kept = ap (set xs place) (kept ∙ stands) ∙ set-get_or xs place x

-- what there is of procedures, of which the sites were read
module _ (name : SiteName) (p old : Procs) (seen : List ProcState) (place : ℕ) (x : ProcState) (old_is : p ≡ old) (seen_is : seen ≡ p.sites) (at : IsProcAt name seen place)
    (stands : x ≡ get_or p.sites place x) where
  -- the site is there
  pub proc_of-procs : proc_of name old.sites ≡ Some x
  proc_of-procs = subst (λ (q : Procs). proc_of name q.sites ≡ Some x) old_is (proc_of-read name p.sites seen place x seen_is at stands)

  -- it has changed
  pub procs-written : (change : ProcState → ProcState) (y : ProcState) → y ≡ change x → record p { sites = set p.sites place y } ≡ record old { sites = at_proc name change old.sites }
  procs-written change y changed =
      ap (λ (sites : List ProcState). record p { sites = sites }) (at_proc-written name p.sites seen place x seen_is at stands change y changed)
      ∙ ap (λ (q : Procs). record q { sites = at_proc name change q.sites }) old_is

  -- or it stayed
  pub procs-unwritten : (y : ProcState) → y ≡ x → record p { sites = set p.sites place y } ≡ old
  procs-unwritten y same = ap (λ (sites : List ProcState). record p { sites = sites }) (procs-kept name p.sites seen place x seen_is at stands y same) ∙ old_is
