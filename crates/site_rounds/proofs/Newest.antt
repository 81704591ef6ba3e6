-- The newest entries of a journal, and the errors that they brought.
use Rattle.std.proofs.Common.{◌≡◌, ℕ, ◌+◌, ◌-◌, ◌<◌, List, [], ◌∷◌, ◌++◌, length, take, drop, reverse, get_or, Bool, true, false, cond, Some, None, refl, sym, ap, ◌∙◌, arith}
use Rattle.std.specs.Prelude.{Option, slice_get, flat_map}
use Rattle.std.specs.List.{filter_map, cons_option}
use Rattle.std.proofs.lemmas.Grind.{flat_map-append}
use Rattle.std.proofs.lemmas.List.{get_or-reverse, take-append-drop}
use Rattle.std.proofs.lemmas.Option.{get_or_from_slice_get}
use Rattle.rep_lists.proofs.Places.{drop_from_place}
use Rattle.rep_values.specs.declared.name.SiteName.{SiteName}
use Rattle.error_queue.specs.declared.entry.ErrorEntry.{ErrorEntry}
use Rattle.site_state.specs.declared.arrival.Arrival.{Arrival}
use Rattle.site_state.specs.declared.entry.Entry.{Entry}
use Rattle.site_state.specs.declared.entry.Entry.TheVariants.{Local, Done, Error, Executed, Dropped, Refreshed}
use Rattle.site_state.specs.State.{SenderState, SiteState}
use Rattle.site_state.specs.Journal.{is_position, error_at}
use Rattle.site_state.specs.Errors.{errors_from, errors_of}
use Rattle.site_state.proofs.Stepping.{error_found}
use Rattle.site_rounds.specs.NewErrors.{error_entry_text, text_where_new}

-- what stands so many behind the newest
pub newest_found : {X : Type 0} (xs : List X) (behind : ℕ) (x : X) → behind < length xs → slice_get (reverse xs) (length xs - 1 - behind) ≡ Some x → drop behind xs ≡ x ∷ drop (behind + 1) xs
newest_found xs behind x within found = drop_from_place xs behind x within (sym at_reverse ∙ turned)
  where
    place : ℕ
    place = length xs - 1 - behind

    at_reverse : get_or (reverse xs) place x ≡ x
    at_reverse = get_or_from_slice_get (reverse xs) place x x found

    back : length xs - 1 - place ≡ behind
    back = omega (arith, within)

    turned : get_or (reverse xs) place x ≡ get_or xs behind x
    turned = get_or-reverse xs place x (omega (arith, within)) ∙ ap (λ (k : ℕ). get_or xs k x) back

-- ---- the error of a position, entry by entry

unless : (b : Bool) (found longer : Option ErrorEntry) (e : ErrorEntry) → cond b None found ≡ Some e → (found ≡ Some e → longer ≡ Some e) → cond b None longer ≡ Some e
unless true found longer e here later = absurd (cc here)
unless false found longer e here later = later here

module _ (origin : SiteName) (position : ℕ) where
  -- an error that newer entries bring stands in the whole journal
  error_at-append : (news olds : List Entry) (e : ErrorEntry) → error_at origin position news ≡ Some e → error_at origin position (news ++ olds) ≡ Some e
  error_at-append [] olds e found = absurd (cc found)
  error_at-append (Local number txn ∷ es) olds e found = error_at-append es olds e found
  error_at-append (Done o p onward txn ∷ es) olds e found = error_at-append es olds e found
  error_at-append (Error o p call error txn ∷ es) olds e found = go (is_position origin position o p) found (error_at-append es olds e)
    where
      go : (b : Bool) → cond b (Some (record { origin = o; position = p; call = call; error = error; txn = txn })) (error_at origin position es) ≡ Some e
          → (error_at origin position es ≡ Some e → error_at origin position (es ++ olds) ≡ Some e)
          → cond b (Some (record { origin = o; position = p; call = call; error = error; txn = txn })) (error_at origin position (es ++ olds)) ≡ Some e
      go true here later = here
      go false here later = later here
  error_at-append (Executed o p onward txn ∷ es) olds e found = unless (is_position origin position o p) _ _ e found (error_at-append es olds e)
  error_at-append (Dropped o p ∷ es) olds e found = unless (is_position origin position o p) _ _ e found (error_at-append es olds e)
  error_at-append (Refreshed moment ∷ es) olds e found = error_at-append es olds e found

-- ---- all errors

module _ (news olds : List Entry) where
  own_is : (origin : SiteName) (position : ℕ) (e : ErrorEntry) (o : Option ErrorEntry) → (e.origin ≡ origin) × (e.position ≡ position) → error_at origin position news ≡ o → error_at e.origin e.position news ≡ o
  own_is origin position e o own is = rw (own.0, own.1) is

  text_none : (e : ErrorEntry) → error_at e.origin e.position news ≡ None → text_where_new news e ≡ []
  text_none e is = rw is refl

  text_some : (e f : ErrorEntry) → error_at e.origin e.position news ≡ Some f → text_where_new news e ≡ error_entry_text e
  text_some e f is = rw is refl

  -- of one sender
  from_sender : (origin : SiteName) (arrived : List Arrival)
      → flat_map (text_where_new news) (filter_map (λ (a : Arrival). error_at origin a.position (news ++ olds)) arrived)
      ≡ flat_map error_entry_text (filter_map (λ (a : Arrival). error_at origin a.position news) arrived)
  from_sender origin [] = refl
  from_sender origin (a ∷ arrived) = go (error_at origin a.position news) refl (error_at origin a.position (news ++ olds)) refl (from_sender origin arrived)
    where
      whole : List ErrorEntry
      whole = filter_map (λ (b : Arrival). error_at origin b.position (news ++ olds)) arrived

      brought_by : List ErrorEntry
      brought_by = filter_map (λ (b : Arrival). error_at origin b.position news) arrived

      go : (o : Option ErrorEntry) → error_at origin a.position news ≡ o → (w : Option ErrorEntry) → error_at origin a.position (news ++ olds) ≡ w
          → flat_map (text_where_new news) whole ≡ flat_map error_entry_text brought_by
          → flat_map (text_where_new news) (cons_option w whole) ≡ flat_map error_entry_text (cons_option o brought_by)
      go None at None stands later = later
      go None at (Some e) stands later =
          ap (λ (t : List ℕ). t ++ flat_map (text_where_new news) whole) (text_none e (own_is origin a.position e None (error_found origin a.position (news ++ olds) e stands) at)) ∙ later
      go (Some e) at None stands later = absurd (let kept = error_at-append origin a.position news olds e at in cc (kept, stands))
      go (Some e) at (Some f) stands later =
          let same : f ≡ e = let kept = error_at-append origin a.position news olds e at in cc (kept, stands) in
          let own = error_found origin a.position news e at in
          ap (λ (g : ErrorEntry). text_where_new news g ++ flat_map (text_where_new news) whole) same
          ∙ ap (λ (t : List ℕ). t ++ flat_map (text_where_new news) whole) (text_some e e (own_is origin a.position e (Some e) own at))
          ∙ ap (λ (t : List ℕ). error_entry_text e ++ t) later

  -- of all
  from_senders : (ss : List SenderState) → flat_map (text_where_new news) (flat_map (errors_from (news ++ olds)) ss) ≡ flat_map error_entry_text (flat_map (errors_from news) ss)
  from_senders [] = refl
  from_senders (s ∷ ss) =
      flat_map-append (text_where_new news) (errors_from (news ++ olds) s) (flat_map (errors_from (news ++ olds)) ss)
      ∙ ap (λ (t : List ℕ). t ++ flat_map (text_where_new news) (flat_map (errors_from (news ++ olds)) ss)) (from_sender s.origin s.arrived)
      ∙ ap (λ (t : List ℕ). flat_map error_entry_text (errors_from news s) ++ t) (from_senders ss)
      ∙ sym (flat_map-append error_entry_text (errors_from news s) (flat_map (errors_from news) ss))

-- the lines of the errors that stand, where the newest entries brought them, are those of the errors that stand by these alone
pub new_texts : (count : ℕ) (x : SiteState) → flat_map (text_where_new (take count x.journal)) (errors_of x) ≡ flat_map error_entry_text (flat_map (errors_from (take count x.journal)) x.senders)
new_texts count x =
    ap (λ (journal : List Entry). flat_map (text_where_new (take count x.journal)) (flat_map (errors_from journal) x.senders)) (sym (take-append-drop count x.journal))
    ∙ from_senders (take count x.journal) (drop count x.journal) x.senders
