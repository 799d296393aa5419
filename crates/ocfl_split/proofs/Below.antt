-- One directory is listed, and the directories right below it are taken.
use Rattle.std.proofs.Common.{◌≡◌, ℕ, ◌<◌, List, [], ◌∷◌, ◌++◌, refl, sym, ◌∙◌, ap, subst, true, false, Bool, length, append-nil, append_assoc, arith, IsPermutation}
use Rattle.std.specs.{Prelude.{cond}, List.Sorted.{IsSorted}}
use Rattle.ocfl_tree.specs.{Place.{Place, text_cmp}, StorageRoot.{StorageRoot}, Store.{Store}}
use Rattle.ocfl_tree.specs.{Listing.{IsListing, IsOrdinary}, declared.store.Entry.{Entry}}
use Rattle.ocfl_tree.proofs.{Orders.{true_not_false}, Stores.{did_then, did_nothing, listed_well}}
use Rattle.ocfl_report.specs.declared.further.Further.TheVariants.{Nothing}
use Rattle.ocfl_item.specs.{Auditing.{FailedAt, in_listing, in_opening}, Looking.{failures_by}}
use Rattle.ocfl_item.specs.{Ways.{is_listable, Enters, Stops}, declared.fault.Fault.{Fault}}
use Rattle.ocfl_item.specs.declared.fault.Fault.TheVariants as fault
use Rattle.ocfl_item.proofs.LooksCalls.{memory_no_store}
use Rattle.ocfl_split.specs.Levels.{leads_on, directories_in, directories_below}
use Rattle.ocfl_split.specs.Splitting.{ListsAll, ListsStop}
use Rattle.ocfl_split.specs.Internal.Directories.{directories_among, AddsAll}
use Rattle.ocfl_split.proofs.Entries.{among_tree}

-- ---- calls

-- a list with a last item is not empty
pub never_empty : {A : Type 0} (before : List A) (x : A) → [] ≡ before ++ x ∷ [] → ⊥
never_empty [] x e = cc
never_empty (y ∷ before) x e = cc

failed_last : (root : StorageRoot) (s t : Store) (ls : List Place) (q : Place) → FailedAt Nothing root s t ls [] q
    → ((before : List Place) × (ls ≡ before ++ q ∷ [])) × (t.failed_listings ≡ s.failed_listings ++ q ∷ [])
failed_last root s t ls q (in_listing before e failed read) = ((before, e), failed)
failed_last root s t ls q (in_opening before given e none) = absurd (never_empty before _ e)

module _ (root : StorageRoot) where
  pub listing_stops : (s t : Store) (d p : Place) (why : Fault) → p ≡ d → Stops Nothing root s t (p ∷ []) [] why → ListsStop root s t (d ∷ []) why
  listing_stops s t d p why same h = subst (λ x. ListsStop root s t (x ∷ []) why) same (record {
    over = h.goes.over;
    listings = h.goes.listings;
    did = h.goes.did;
    front = h.goes.listed;
    last = λ q e. (failed_last root s t h.goes.listings q (h.store q e).1).0;
    failed = λ q e. (failed_last root s t h.goes.listings q (h.store q e).1).1;
  })

  pub lists_none : (s : Store) → s.tree ≡ root → ListsAll root s s []
  lists_none s over = record { over = over; did = did_nothing s }

  -- memory was refused after these were listed
  pub memory_stops : (s t : Store) (ds more : List Place) → ListsAll root s t ds → ListsStop root s t (ds ++ more) fault.Memory
  memory_stops s t ds more h = record { over = h.over; listings = ds; did = h.did; front = (more, refl); last = λ q e. absurd (memory_no_store q e); failed = λ q e. absurd (memory_no_store q e) }

  -- and before anything was listed
  pub memory_first : (s : Store) (ds : List Place) → s.tree ≡ root → ListsStop root s s ds fault.Memory
  memory_first s ds over = memory_stops s s [] ds (lists_none s over)

  pub lists_on : (s t u : Store) (ds es : List Place) → ListsAll root s t ds → ListsAll root t u es → ListsAll root s u (ds ++ es)
  lists_on s t u ds es h k = record { over = h.over; did = did_then s t u [] [] ds es 0 h.did k.did }

  pub stops_on : (s t u : Store) (ds es : List Place) (why : Fault) → ListsAll root s t ds → ListsStop root t u es why → ListsStop root s u (ds ++ es) why
  stops_on s t u ds es why h k = record {
    over = h.over;
    listings = ds ++ k.listings;
    did = did_then s t u [] [] ds k.listings (failures_by why) h.did k.did;
    front = (k.front.0, ap (λ xs. ds ++ xs) k.front.1 ∙ sym (append_assoc ds k.listings k.front.0));
    last = λ q e. let l = k.last q e in (ds ++ l.0, ap (λ xs. ds ++ xs) l.1 ∙ sym (append_assoc ds l.0 (q ∷ [])));
    failed = λ q e. k.failed q e ∙ ap (λ xs. xs ++ q ∷ []) (listed_well s t [] ds 0 (omega arith) h.did);
  }

  pub stops_before : (s t : Store) (es more : List Place) (why : Fault) → ListsStop root s t es why → ListsStop root s t (es ++ more) why
  stops_before s t es more why k = record {
    over = k.over;
    listings = k.listings;
    did = k.did;
    front = (k.front.0 ++ more, ap (λ xs. xs ++ more) k.front.1 ∙ append_assoc k.listings k.front.0 more);
    last = k.last;
    failed = k.failed;
  }

  pub over_after : (s t : Store) (ds : List Place) → ListsAll root s t ds → t.tree ≡ root
  over_after s t ds h = h.did.tree ∙ h.over

  -- ---- one directory

  pub entered : (s t : Store) (d p e : Place) (es : List Entry) → s.tree ≡ root → p ≡ d → Enters root s t p e es → ListsAll root s t (d ∷ [])
  entered s t d p e es over same h = subst (λ x. ListsAll root s t (x ∷ [])) same (record { over = over; did = h.did })

  led : (d : Place) (b : Bool) → b ≡ leads_on root d → directories_below root d ≡ cond b (directories_in root d) []
  led d b h = ap (λ x. cond x (directories_in root d) []) (sym h)

  leads_at : (s t : Store) (d p e : Place) (es : List Entry) (b : Bool) → p ≡ d → Enters root s t p e es → IsOrdinary es
      → (is_listable root e ≡ true → IsOrdinary es → IsListing root e es → b ≡ leads_on root e) → b ≡ leads_on root d
  leads_at s t d p e es b same h ordinary k =
      let here : e ≡ p = h.is in
      k (subst (λ x. is_listable root x ≡ true) (sym here) h.listable) ordinary (subst (λ x. IsListing root x es) (sym here) h.listing) ∙ ap (leads_on root) (here ∙ same)

  pub adds_all : (s t : Store) (d p e : Place) (es fs : List Entry) (room : ℕ) (old new : List Place) (b fits : Bool) → p ≡ d → Enters root s t p e es → IsOrdinary es
      → (is_listable root e ≡ true → IsOrdinary es → IsListing root e es → b ≡ leads_on root e) → b ≡ true → IsPermutation es fs → IsSorted (λ x y. text_cmp x.name y.name) fs
      → (fits ≡ true → new ≡ old ++ directories_among e fs) → (fits ≡ false → room < length (old ++ directories_among e fs)) → AddsAll root d room old new fits
  adds_all s t d p e es fs room old new b fits same h ordinary k on moved sorted added many =
      let here : e ≡ p = h.is in
      let below : directories_below root d ≡ directories_in root d = led d b (leads_at s t d p e es b same h ordinary k) ∙ ap (λ x. cond x (directories_in root d) []) on in
      let found : directories_among e fs ≡ directories_in root e = among_tree root e es fs ordinary (subst (λ x. IsListing root x es) (sym here) h.listing) moved sorted in
      let is : directories_among e fs ≡ directories_below root d = found ∙ ap (directories_in root) (here ∙ same) ∙ sym below in
      record {
        added = λ f. added f ∙ ap (λ xs. old ++ xs) is;
        many = λ f. subst (λ xs. room < length (old ++ xs)) is (many f);
      }

  -- one that does not lead on has none below it
  pub adds_none : (s t : Store) (d p e : Place) (es : List Entry) (room : ℕ) (old : List Place) (b : Bool) → p ≡ d → Enters root s t p e es → IsOrdinary es
      → (is_listable root e ≡ true → IsOrdinary es → IsListing root e es → b ≡ leads_on root e) → b ≡ false → AddsAll root d room old old true
  adds_none s t d p e es room old b same h ordinary k off =
      let below : directories_below root d ≡ [] = led d b (leads_at s t d p e es b same h ordinary k) ∙ ap (λ x. cond x (directories_in root d) []) off in
      record { added = λ f. sym (append-nil old) ∙ ap (λ xs. old ++ xs) (sym below); many = λ f. absurd (true_not_false f) }
