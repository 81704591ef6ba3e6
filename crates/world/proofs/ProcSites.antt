-- One site of procedures of several, and what a change of it leaves.
use Rattle.std.proofs.Common.{◌≡◌, ◌≢◌, List, [], ◌∷◌, Bool, true, false, cond, Some, None, refl, sym, ap, ◌∙◌}
use Rattle.std.specs.Prelude.{◌||◌, is_some, Option, option_map}
use Rattle.rep_values.specs.declared.name.SiteName.{SiteName}
use Rattle.rep_values.specs.SiteNames.{is_same_site}
use Rattle.deferred_queue.proofs.Sites.{is_same_site-true}
use Rattle.rep_schema.specs.Sites.{is_among}
use Rattle.proc_state.specs.State.{ProcState}
use Rattle.world_state.specs.Procs.{proc_of, at_proc}
use Rattle.world_laws.specs.Built.{proc_names}

-- what changes a site leaves its name
abbrev pub KeepsMe : (ProcState → ProcState) → Type 0
KeepsMe change = (x : ProcState) → (change x).me ≡ x.me

same_test : (change : ProcState → ProcState) → KeepsMe change → (x : ProcState) (name : SiteName) → is_same_site (change x).me name ≡ is_same_site x.me name
same_test change keeps x name = ap (λ (me : SiteName). is_same_site me name) (keeps x)

-- the site of a name, where one site changed: it, or another one as it was
pub at_proc-split : (P : Option ProcState → Type 0) (name other : SiteName) (change : ProcState → ProcState) (xs : List ProcState) → KeepsMe change
    → (name ≡ other → P (option_map change (proc_of other xs))) → P (proc_of other xs) → P (proc_of other (at_proc name change xs))
at_proc-split P name other change [] keeps own off = off
at_proc-split P name other change (x ∷ xs) keeps own off = go (at_proc-split P name other change xs keeps) (is_same_site x.me name) refl (is_same_site x.me other) refl own off
  where
    Rest : Type 0
    Rest = (name ≡ other → P (option_map change (proc_of other xs))) → P (proc_of other xs) → P (proc_of other (at_proc name change xs))

    changed : (c : Bool) → is_same_site x.me name ≡ true → is_same_site x.me other ≡ c
        → (name ≡ other → P (option_map change (cond c (Some x) (proc_of other xs)))) → P (cond c (Some x) (proc_of other xs)) → P (cond (is_same_site (change x).me other) (Some (change x)) (proc_of other xs))
    changed true is_name is_other own off =
        let names : name ≡ other = sym (is_same_site-true x.me name is_name) ∙ is_same_site-true x.me other is_other in
        rw (same_test change keeps x other, is_other) (own names)
    changed false is_name is_other own off = rw (same_test change keeps x other, is_other) off

    unchanged : (c : Bool) → Rest → (name ≡ other → P (option_map change (cond c (Some x) (proc_of other xs)))) → P (cond c (Some x) (proc_of other xs)) → P (cond c (Some x) (proc_of other (at_proc name change xs)))
    unchanged true rest own off = off
    unchanged false rest own off = rest own off

    go : Rest → (b : Bool) → is_same_site x.me name ≡ b → (c : Bool) → is_same_site x.me other ≡ c
        → (name ≡ other → P (option_map change (cond (is_same_site x.me other) (Some x) (proc_of other xs)))) → P (cond (is_same_site x.me other) (Some x) (proc_of other xs))
        → P (proc_of other (cond b (change x ∷ xs) (x ∷ at_proc name change xs)))
    go rest true is_name c is_other own off = changed c is_name is_other (λ e. rw (← is_other) (own e)) (rw (← is_other) off)
    go rest false is_name c is_other own off = rw is_other (unchanged c rest (λ e. rw (← is_other) (own e)) (rw (← is_other) off))

-- another site is as it was
pub proc_of-other : (name other : SiteName) (change : ProcState → ProcState) (xs : List ProcState) → KeepsMe change → name ≢ other → proc_of other (at_proc name change xs) ≡ proc_of other xs
proc_of-other name other change xs keeps off = at_proc-split (λ (o : Option ProcState). o ≡ proc_of other xs) name other change xs keeps (λ e. absurd (off e)) refl

-- a site that isn't there doesn't change
pub at_proc-none : (name : SiteName) (change : ProcState → ProcState) (xs : List ProcState) → proc_of name xs ≡ None → at_proc name change xs ≡ xs
at_proc-none name change [] none = refl
at_proc-none name change (x ∷ xs) none = go (is_same_site x.me name) (at_proc-none name change xs) none
  where
    go : (b : Bool) → (proc_of name xs ≡ None → at_proc name change xs ≡ xs) → cond b (Some x) (proc_of name xs) ≡ None → cond b (change x ∷ xs) (x ∷ at_proc name change xs) ≡ x ∷ xs
    go true later none = absurd (cc none)
    go false later none = ap (λ (ys : List ProcState). x ∷ ys) (later none)

-- the name of a site that is found is among theirs
pub proc_found_among : (name : SiteName) (xs : List ProcState) (x : ProcState) → proc_of name xs ≡ Some x → is_among (proc_names xs) name ≡ true
proc_found_among name [] x found = absurd (cc found)
proc_found_among name (y ∷ ys) x found = go (is_same_site y.me name) found (proc_found_among name ys x)
  where
    go : (b : Bool) → cond b (Some y) (proc_of name ys) ≡ Some x → (proc_of name ys ≡ Some x → is_among (proc_names ys) name ≡ true)
        → (b || is_among (proc_names ys) name) ≡ true
    go true found later = refl
    go false found later = later found

-- and one that is among theirs is found
pub among_found : (name : SiteName) (xs : List ProcState) → is_among (proc_names xs) name ≡ true → is_some (proc_of name xs) ≡ true
among_found name [] among = absurd (cc among)
among_found name (y ∷ ys) among = go (is_same_site y.me name) among (among_found name ys)
  where
    go : (b : Bool) → (b || is_among (proc_names ys) name) ≡ true → (is_among (proc_names ys) name ≡ true → is_some (proc_of name ys) ≡ true) → is_some (cond b (Some y) (proc_of name ys)) ≡ true
    go true among later = refl
    go false among later = later among
