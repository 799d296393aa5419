-- A pass over all items of a part is its audit, and the whole is one part.
use Rattle.std.proofs.Common.{◌≡◌, ◌≢◌, ℕ, zero, suc, ◌+◌, List, [], ◌∷◌, ◌++◌, refl, sym, ◌∙◌, ap, subst, Bool, false, None, Option, length, map, take, append-nil, arith}
use Rattle.std.proofs.KnownBytes.{Appends-nil}
use Rattle.std.specs.{Io.KnownBytes.{Appends}, List.{last_or}}
use Rattle.ocfl_tree.specs.{Place.{Place}, StorageRoot.{StorageRoot}, Store.{Store}}
use Rattle.ocfl_tree.specs.declared.store.Opening.{Opening}
use Rattle.ocfl_report.specs.{Line.{Item, found}, Text.{text}}
use Rattle.ocfl_rules.specs.{Audit.{audit, item_of}, Due.{item_places, due, items_at}}
use Rattle.ocfl_rules.specs.{Trail.{unread_of}, Parts.{Part, whole, within}}
use Rattle.ocfl_rules.proofs.{DueLaws.{after_is_due}, Trails.{unread_behind}}
use Rattle.ocfl_item.specs.{Looking.{IsFront}, Auditing.{Audits}}
use Rattle.ocfl_item.specs.declared.fault.Fault.{Fault}
use Rattle.ocfl_report.specs.declared.further.Further.{Further}
use Rattle.ocfl_scrub.specs.declared.stop.ReportStop.TheVariants.{Output}
use Rattle.ocfl_scrub.specs.Types.{ReportStop}
use Rattle.ocfl_walk.specs.{WalkCalls.{GoesDown, GoDownFails}}
use Rattle.ocfl_walk.proofs.{FoundLaws.{none_hashed}, WalkCallLaws.{audits_as}}
use Rattle.ocfl_scrub.specs.{Call.{call_of}, Taking.{PartOf}}
use Rattle.ocfl_scrub.specs.Written.{places, StopsWithin}
use Rattle.ocfl_scrub.specs.Starting.{end_of, entry, stand, looked_in, read_in, LooksOver, StopsLooking, items_in}
use Rattle.ocfl_scrub.specs.WholeAudit.{AuditsWithin, AuditStopsWithin, AuditEndsWithin}
use Rattle.ocfl_scrub.specs.declared.checking.AuditStatus.{AuditStatus}
use Rattle.ocfl_scrub.specs.declared.checking.AuditStatus.TheVariants.{Ended, Stopped}
use Rattle.ocfl_scrub.specs.declared.stop.ReportStop.TheVariants as halt
use Rattle.ocfl_scrub.proofs.PartStarts.{above_in, due_starts, looked_all, read_all}
use Rattle.ocfl_scrub.proofs.Passing.{due_in, Finishes, Halts}
use Rattle.ocfl_scrub.proofs.LookLaws.{looks_over, stops_looking, stops_above}
use Rattle.ocfl_scrub.proofs.{WayListed.{halted_lie, taken_lie}, AuditsJoined.{items_append}}
use Rattle.ocfl_scrub.proofs.TakeLaws.{nothing_of}
use Rattle.ocfl_scrub.proofs.TakeLaws.{fault_other}

pub due_all : (further : Further) (root : StorageRoot) → due further root None ≡ item_places further root
unfolding due
due_all further root = refl

pub places_of_items : (further : Further) (root : StorageRoot) (os : List Opening) (ps : List Place) → places (items_at further root os ps) ≡ ps
unfolding items_at
places_of_items further root os [] = refl
places_of_items further root os (p ∷ ps) = ap (λ qs. p ∷ qs) (places_of_items further root os ps)

pub take_items : (further : Further) (root : StorageRoot) (os : List Opening) (n : ℕ) (ps : List Place) → take n (items_at further root os ps) ≡ items_at further root os (take n ps)
unfolding items_at
take_items further root os zero [] = refl
take_items further root os zero (p ∷ ps) = refl
take_items further root os (suc n) [] = refl
take_items further root os (suc n) (p ∷ ps) = ap (λ is. item_of further root (unread_of further root os) p ∷ is) (take_items further root os n ps)

-- ---- after a walk that went down to where the pass over a part begins

module _ (further : Further) (root : StorageRoot) (part : Part) (s t : Store) (from : Option Place) (g : GoesDown further root s t (entry part from)) where
  -- what was read on the way down has no part in the items
  walked : (os : List Opening) (ps : List Place) → items_at further root (g.trail ++ os) ps ≡ items_at further root os ps
  unfolding items_at
  walked os ps = ap (λ v. map (item_of further root v) ps) (unread_behind further root g.trail os (g.audits.opened ∙ none_hashed further root))

  -- the items of the part are those of what is due before the end
  pub above_at : (os : List Opening) → items_in further root (g.trail ++ os) part from ≡ items_at further root os (due_in further root (end_of part) (stand root part from))
  above_at os = above_in further root part from (g.trail ++ os) ∙ ap (items_at further root (g.trail ++ os)) (sym (due_starts further root part from)) ∙ walked os (due_in further root (end_of part) (stand root part from))

  pub above_are : (os : List Opening) (done later : List Place) → due_in further root (end_of part) (stand root part from) ≡ done ++ later
      → items_in further root (g.trail ++ os) part from ≡ items_at further root os done ++ items_at further root os later
  above_are os done later due_are = above_at os ∙ ap (items_at further root os) due_are ∙ items_append further root os done later

-- ---- a pass over all items of a part

module _ (further : Further) (root : StorageRoot) (part : Part) (s t u : Store) (old new : Option (List ℕ)) (stood last : Option Place) (finding : Bool) (g : GoesDown further root s t (entry part None)) where
  pub finish_part : (h : Finishes further root (end_of part) t u old new (stand root part None) stood finding)
      → last ≡ last_or None (due_in further root (end_of part) (stand root part None)) → AuditsWithin (call_of further root s u old new) part last finding
  finish_part h last_is =
      let all : List Place = due_in further root (end_of part) (stand root part None) in
      let items : items_at further root h.trail all ≡ items_in further root (g.trail ++ h.trail) part None = sym (above_at further root part s t None g h.trail) in
      let at_places : all ≡ places (items_in further root (g.trail ++ h.trail) part None) = sym (places_of_items further root h.trail all) ∙ ap places items in
      let below : Audits further root t u all (looked_in root part None None) (read_in root part None None) h.trail = audits_as further (looked_all further root part None) (read_all further root part None) h.audits in
      record {
        trail = g.trail ++ h.trail;
        looks = subst (λ ps. LooksOver (call_of further root s u old new) part None None ps (g.trail ++ h.trail)) at_places (looks_over further root part s t u old new None g None all h.trail
            (taken_lie further root part None g.listed g.all_listed None all [] (sym (append-nil all)) (λ p d b k. tt)) below);
        wrote = subst (λ is. Appends old new (text is)) items h.wrote;
        last_is = last_is ∙ ap (last_or None) at_places;
        found_is = h.found_is ∙ ap found items;
      }

  pub halt_part : (why : ReportStop) (h : Halts further root (end_of part) t u old new (stand root part None) stood finding why) → last ≡ last_or None h.done
      → AuditStopsWithin (call_of further root s u old new) part last finding why
  halt_part why h last_is =
      let left : List Place = due_in further root (end_of part) stood in
      let next : items_at further root h.trail (take 1 left) ≡ take 1 (items_at further root h.trail left) = sym (take_items further root h.trail 1 left) in
      let whole_places : h.done ≡ places (items_at further root h.trail h.done) = sym (places_of_items further root h.trail h.done) in
      let listed_front = subst (IsFront h.listed) (looked_all further root part None) h.listed_front in
      let heads_front = subst (IsFront h.heads) (read_all further root part None) h.heads_front in
      record {
        trail = g.trail ++ h.trail;
        stops = record {
          whole = items_at further root h.trail h.done;
          others = items_at further root h.trail left;
          items_are = above_are further root part s t None g h.trail h.done left h.due_are;
          begun = h.begun;
          one = subst (IsFront h.begun) (sym (places_of_items further root h.trail (take 1 left)) ∙ ap places next) h.one;
          part = h.part;
          wrote = h.wrote;
          part_of = subst (λ is. PartOf why (text is) h.part) next h.part_of;
          last_is = last_is ∙ ap (last_or None) whole_places;
        };
        found_is = h.found_is;
        looks = subst (λ ps. StopsLooking (call_of further root s u old new) part None (ps ++ h.begun) (g.trail ++ h.trail) why) whole_places
            (stops_looking further root part s t u old new None g why (h.done ++ h.begun) h.listed h.heads h.trail h.fails listed_front heads_front (halted_lie further root part None g.listed g.all_listed h));
      }

-- nothing went out
unfoldable pub nothing_out : (items : List Item) (old : Option (List ℕ)) (last : Option Place) (why : ReportStop) → why ≢ Output → StopsWithin items old old last last why
nothing_out items old last why other = record {
  whole = [];
  others = items;
  items_are = refl;
  begun = [];
  one = (places (take 1 items), refl);
  part = [];
  wrote = Appends-nil old;
  part_of = nothing_of why other (text (take 1 items));
  last_is = refl;
}

-- no walk was started
pub unstarted : (further : Further) (root : StorageRoot) (part : Part) (s t : Store) (old : Option (List ℕ)) (why : Fault)
    → GoDownFails further root s t (entry part None) why → AuditStopsWithin (call_of further root s t old old) part None false (halt.Fault why)
unfolding nothing_out
unstarted further root part s t old why g = record {
  trail = g.trail;
  stops = nothing_out (items_in further root g.trail part None) old None (halt.Fault why) (fault_other why);
  found_is = refl;
  looks = stops_above further root part s t old old None why g;
}

-- ---- the whole is one part

pub all_places : (further : Further) (root : StorageRoot) (os : List Opening) → places (items_in further root os whole None) ≡ item_places further root
all_places further root os = ap places (after_is_due further root os None) ∙ places_of_items further root os (due further root None) ∙ due_all further root

-- ---- if no failure was counted

pub none_left : {A : Type 0} (xs : List A) (n : ℕ) → n ≡ n + length xs → xs ≡ []
none_left [] n e = refl
none_left (x ∷ xs) n e = absurd (omega (arith, e))

-- what was written is the text of the audit of files that can all be read
pub nothing_unread : (further : Further) (root : StorageRoot) (part : Part) (s t : Store) (old new : Option (List ℕ)) (last : Option Place) (finding : Bool) (end : AuditStatus)
    → AuditEndsWithin (call_of further root s t old new) part last finding end → end ≡ Ended
    → t.failures ≡ s.failures → Appends old new (text (within part (audit further root []))) × (finding ≡ found (within part (audit further root [])))
nothing_unread further root part s t old new last finding Ended h e same =
    let none : unread_of further root h.trail ≡ [] = none_left (unread_of further root h.trail) s.failures (sym same ∙ h.looks.audits.did.failures_are) in
    (subst (λ u. Appends old new (text (within part (audit further root u)))) none h.wrote, h.found_is ∙ ap (λ u. found (within part (audit further root u))) none)
nothing_unread further root part s t old new last finding (Stopped why) h e same = absurd cc

pub whole_unread : (further : Further) (root : StorageRoot) (part : Part) (old new : Option (List ℕ)) (finding : Bool) → part ≡ whole
    → Appends old new (text (within part (audit further root []))) × (finding ≡ found (within part (audit further root [])))
    → Appends old new (text (audit further root [])) × (finding ≡ found (audit further root []))
whole_unread further root part old new finding e h = subst (λ p. Appends old new (text (within p (audit further root []))) × (finding ≡ found (within p (audit further root [])))) e h
