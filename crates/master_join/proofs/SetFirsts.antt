-- First numbers set one after another make the senders of a copy.
use Rattle.std.proofs.Common.{◌≡◌, List, [], ◌∷◌, map, Bool, true, false, cond, refl, sym, ap, ◌∙◌, subst}
use Rattle.std.specs.List.{AllByRecursion}
use mathlib.Core.Bool.{true≢false}
use Rattle.rep_values.specs.declared.name.SiteName.{SiteName}
use Rattle.rep_schema.specs.Shape.{HasShape}
use Rattle.rep_schema.specs.Sites.{senders_of}
use Rattle.rep_calls.specs.declared.past.PastEntry.{PastEntry}
use Rattle.rep_values.specs.SiteNames.{is_same_site}
use Rattle.deferred_queue.proofs.Sites.{is_same_site-true, is_same_site-refl}
use Rattle.txn_effects.specs.declared.local.Here.{Here}
use Rattle.site_state.specs.State.{SenderState, SiteState, at_sender}
use Rattle.site_state.specs.Contents.{tables_of}
use Rattle.site_state.specs.Making.{new_site}
use Rattle.site_state.specs.Joining.{with_first, sender_from, site_first, site_copy}
use Rattle.site_engine.proofs.Apart.{NamesApart, senders_apart}
use Rattle.master_join.specs.Firsts.{with_firsts}

-- two sites are the same or not, whichever is asked first
turned_same : (one other : SiteName) → is_same_site one other ≡ true → is_same_site other one ≡ true
turned_same one other same = let is : one ≡ other = is_same_site-true one other same in rw is (is_same_site-refl other)

turned_other : (one other : SiteName) → is_same_site one other ≡ false → is_same_site other one ≡ false
turned_other one other differ = off (is_same_site other one) refl
  where
    off : (b : Bool) → is_same_site other one ≡ b → b ≡ false
    off true same = absurd (true≢false (sym (turned_same other one same) ∙ differ))
    off false is = refl

-- a number that is given for another site changes nothing
others_stay : (given : PastEntry) (more : List PastEntry) (names : List SiteName) → AllByRecursion (λ (m : SiteName). is_same_site m given.origin ≡ false) names
    → map (sender_from more) names ≡ map (sender_from (given ∷ more)) names
others_stay given more [] other = refl
others_stay given more (n ∷ ns) other = rw (turned_other n given.origin other.0) (ap (λ (ss : List SenderState). sender_from more n ∷ ss) (others_stay given more ns other.1))

-- one more number is set
one_set : (given : PastEntry) (more : List PastEntry) (names : List SiteName) → NamesApart names → at_sender given.origin (with_first given.number) (map (sender_from more) names) ≡ map (sender_from (given ∷ more)) names
one_set given more [] apart = refl
one_set given more (n ∷ ns) apart = go (is_same_site n given.origin) refl (one_set given more ns apart.1)
  where
    go : (b : Bool) → is_same_site n given.origin ≡ b → at_sender given.origin (with_first given.number) (map (sender_from more) ns) ≡ map (sender_from (given ∷ more)) ns
        → cond b (with_first given.number (sender_from more n) ∷ map (sender_from more) ns) (sender_from more n ∷ at_sender given.origin (with_first given.number) (map (sender_from more) ns))
        ≡ sender_from (given ∷ more) n ∷ map (sender_from (given ∷ more)) ns
    go true same later =
        let others = subst (λ (name : SiteName). AllByRecursion (λ (m : SiteName). is_same_site m name ≡ false) ns) (is_same_site-true n given.origin same) apart.0 in
        rw (turned_same n given.origin same) (ap (λ (ss : List SenderState). with_first given.number (sender_from more n) ∷ ss) (others_stay given more ns others))
    go false differ later = rw (turned_other n given.origin differ) (ap (λ (ss : List SenderState). sender_from more n ∷ ss) later)

all_set : (x : SiteState) (names : List SiteName) → NamesApart names → (firsts : List PastEntry)
    → with_firsts firsts (record x { senders = map (sender_from []) names }) ≡ record x { senders = map (sender_from firsts) names }
all_set x names apart [] = refl
all_set x names apart (given ∷ more) =
    ap (site_first given.origin given.number) (all_set x names apart more) ∙ ap (λ (ss : List SenderState). record x { senders = ss }) (one_set given more names apart)

-- a new site with the rows of another one, whose first numbers are set, is its copy
pub site_copy-made : (source : SiteState) (here : Here) (firsts : List PastEntry) → HasShape source.schema
    → with_firsts firsts (new_site source.schema here [] [] (tables_of source)) ≡ site_copy source here firsts
site_copy-made source here firsts shape = all_set (new_site source.schema here [] [] (tables_of source)) (senders_of source.schema here.site) (senders_apart source.schema shape here.site) firsts
