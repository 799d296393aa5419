-- What is opened lies where it was listed.
use Rattle.std.proofs.Common.{◌≡◌, ◌⊎◌, inl, inr, ℕ, List, [], ◌∷◌, ◌++◌, refl, sym, ap, subst, Bool, true, false, Option, Some, None, not, append-nil, ◌∙◌}
use Rattle.ocfl_tree.specs.{Place.{Place}, Ascending.{IsAmong}, StorageRoot.{StorageRoot}}
use Rattle.ocfl_tree.specs.declared.store.Opening.{Opening}
use Rattle.ocfl_tree.proofs.Orders.{among_filter, among_from_filter, among_left, among_map}
use Rattle.ocfl_tree.proofs.Stores.{among_either}
use Rattle.ocfl_rules.specs.Due.{hashed_among}
use Rattle.ocfl_rules.specs.Inventories.{is_hashed}
use Rattle.ocfl_rules.specs.Parts.{Part, lies_in, places_within}
use Rattle.ocfl_rules.specs.Runs.{Limits}
use Rattle.ocfl_rules.specs.Trail.{is_meta, content_openings, content_trail}
use Rattle.ocfl_rules.specs.Between.{looked_between}
use Rattle.ocfl_rules.proofs.PartLaws.{places_within_is}
use Rattle.ocfl_item.specs.{Auditing.{LiesIn, LieIn, LiesNear}, Looking.{IsFront, way_to}}
use Rattle.ocfl_scrub.specs.declared.stop.ReportStop.{ReportStop}
use Rattle.ocfl_walk.specs.WalkCalls.{way_of}
use Rattle.ocfl_walk.proofs.OnWay.{on_way}
use Rattle.ocfl_scrub.specs.{Call.{Call}, Checking.{CheckEnds}}
use Rattle.ocfl_laws.specs.Openings.{OpensNear, OpensWithin}
use Rattle.ocfl_report.specs.declared.further.Further.{Further}
use Rattle.ocfl_report.specs.declared.further.Further.TheVariants.{Nothing, Inventories}
use Rattle.ocfl_scrub.specs.Running.{RunEndsWithin}
use Rattle.ocfl_scrub.specs.Starting.{FilesLieIn, LooksOver, StopsLooking, entry, looked_in, way_in}
use Rattle.ocfl_scrub.specs.WholeAudit.{AuditEndsWithin}
use Rattle.ocfl_scrub.specs.declared.checking.AuditStatus.{AuditStatus}
use Rattle.ocfl_scrub.specs.declared.running.RunStatus.{RunStatus}
use Rattle.ocfl_scrub.specs.declared.checking.AuditStatus.TheVariants as end
use Rattle.ocfl_scrub.specs.declared.running.RunStatus.TheVariants as run
use Rattle.ocfl_scrub.proofs.WayOrder.{way_is}

from_hashed : (further : Further) (root : StorageRoot) (ps : List Place) (p : Place) → IsAmong (hashed_among further root ps) p → IsAmong ps p × (is_hashed further root p ≡ true)
unfolding hashed_among
from_hashed further root ps p i = among_from_filter (is_hashed further root) ps p i

-- what is right in a directory is near it
near_in : (further : Further) (root : StorageRoot) (ds : List Place) (p : Place) → LiesIn ds p → LiesNear further root ds p
near_in Nothing root ds p h = h
near_in Inventories root ds p h = inl h

-- content is hashed, so its directory was listed
content_in : (further : Further) (root : StorageRoot) (ps listed : List Place) (trail : List Opening) → content_trail further root trail ≡ hashed_among further root ps
    → FilesLieIn further root ps listed → (o : Opening) → IsAmong trail o → is_meta further root o.place ≡ false → LiesIn listed o.place
content_in further root ps listed trail opened files o i e =
    let content : IsAmong (content_openings further root trail) o = among_filter (λ x. not (is_meta further root x.place)) trail o i (ap not e) in
    let j : IsAmong (hashed_among further root ps) o.place = subst (λ l. IsAmong l o.place) opened (among_map (λ x. x.place) (content_openings further root trail) o content) in
    let k = from_hashed further root ps o.place j in
    files o.place k.0 k.1

-- and metadata is near
all_near : (further : Further) (root : StorageRoot) (ps listed : List Place) (trail : List Opening) → content_trail further root trail ≡ hashed_among further root ps → LieIn further root listed trail
    → FilesLieIn further root ps listed → (o : Opening) → IsAmong trail o → LiesNear further root listed o.place
all_near further root ps listed trail opened near files o i = by (is_meta further root o.place) refl
  where
    by : (b : Bool) → is_meta further root o.place ≡ b → LiesNear further root listed o.place
    by true e = near o i e
    by false e = near_in further root listed o.place (content_in further root ps listed trail opened files o i e)

from_way : (p : Option Place) (d : Place) → IsAmong (way_of p) d → (q : Place) × (p ≡ Some (d ++ q))
from_way None d i = absurd i
from_way (Some e) d i = let k = on_way e d i in (k.0, ap (λ y. Some y) k.1)

module _ (call : Call) (part : Part) (from : Option Place) where
  there_by : (down listed : List Place) → IsFront down (way_in part from) → (to : Option Place) → IsFront listed (looked_in call.root part from to) → (d : Place)
      → IsAmong (down ++ listed) d → (lies_in part d ≡ true) ⊎ ((q : Place) × (entry part from ≡ Some (d ++ q)))
  there_by down listed h to k d i = by (among_either down listed d i)
    where
      by : IsAmong down d ⊎ IsAmong listed d → (lies_in part d ≡ true) ⊎ ((q : Place) × (entry part from ≡ Some (d ++ q)))
      by (inl j) = inr (from_way (entry part from) d (subst (λ l. IsAmong l d) (sym h.1 ∙ sym (way_is part from)) (among_left down h.0 d j)))
      by (inr j) =
          let whole : IsAmong (places_within part (looked_between call.root from to)) d = subst (λ l. IsAmong l d) (sym k.1) (among_left listed k.0 d j) in
          inl (among_from_filter (lies_in part) (looked_between call.root from to) d (subst (λ l. IsAmong l d) (places_within_is part (looked_between call.root from to)) whole)).1

  pub looks_near : (to : Option Place) (audited : List Place) (trail : List Opening) → LooksOver call part from to audited trail → OpensWithin part from call
  looks_near to audited trail h = record {
    listed = h.down ++ looked_in call.root part from to;
    opens = record {
      trail = trail;
      openings_are = h.audits.did.openings_are;
      listings_are = h.audits.did.listings_are;
      near = all_near call.further call.root audited (h.down ++ looked_in call.root part from to) trail h.audits.opened h.audits.near h.files_lie;
      content = content_in call.further call.root audited (h.down ++ looked_in call.root part from to) trail h.audits.opened h.files_lie;
    };
    there = there_by h.down (looked_in call.root part from to) h.down_front to ([], sym (append-nil (looked_in call.root part from to)));
  }

  pub stops_near : (begun : List Place) (trail : List Opening) (why : ReportStop) → StopsLooking call part from begun trail why → OpensWithin part from call
  stops_near begun trail why h = record {
    listed = h.down ++ h.listed;
    opens = record {
      trail = trail;
      openings_are = h.fails.did.openings_are;
      listings_are = h.fails.did.listings_are;
      near = all_near call.further call.root begun (h.down ++ h.listed) trail h.fails.opened h.fails.near h.files_lie;
      content = content_in call.further call.root begun (h.down ++ h.listed) trail h.fails.opened h.files_lie;
    };
    there = there_by h.down h.listed h.down_front None h.listed_front;
  }

-- ---- of an audit, a run and a check

pub audit_opens : (call : Call) (part : Part) (last : Option Place) (finding : Bool) (e : AuditStatus) → AuditEndsWithin call part last finding e
    → OpensWithin part None call
audit_opens call part last finding end.Ended h = looks_near call part None None _ h.trail h.looks
audit_opens call part last finding (end.Stopped why) h = stops_near call part None _ h.trail why h.looks

pub run_opens : (call : Call) (part : Part) (from last : Option Place) (limits : Limits) (spent files : ℕ) (finding : Bool) (e : RunStatus)
    → RunEndsWithin call part from last limits spent files finding e → OpensWithin part from call
run_opens call part from last limits spent files finding run.Ended h = looks_near call part from None _ h.trail h.looks
run_opens call part from last limits spent files finding run.Spent h = looks_near call part from (Some h.0) _ h.1.trail h.1.looks
run_opens call part from last limits spent files finding (run.Stopped why) h = stops_near call part from _ h.trail why h.looks
run_opens call part from last limits spent files finding run.Worn h = absurd h

module _ (call : Call) (p : Place) where
  on_its_way : (listed : List Place) → IsFront listed (way_to p) → (d : Place) → IsAmong listed d → (q : Place) × (p ≡ d ++ q)
  on_its_way listed h d i = on_way p d (subst (λ l. IsAmong l d) (sym h.1) (among_left listed h.0 d i))

  abbrev pub Opens : Type 0
  Opens = (listed : List Place) × (OpensNear call listed × ((d : Place) → IsAmong listed d → (q : Place) × (p ≡ d ++ q)))

  pub check_opens : (item finding : Bool) (e : AuditStatus) → CheckEnds call p item finding e → Opens
  check_opens item finding end.Ended h = (
    h.listed,
    (
      record {
        trail = h.trail;
        openings_are = h.audits.did.openings_are;
        listings_are = h.audits.did.listings_are;
        near = all_near call.further call.root (p ∷ []) h.listed h.trail h.audits.opened h.audits.near h.files_lie;
        content = content_in call.further call.root (p ∷ []) h.listed h.trail h.audits.opened h.files_lie;
      },
      on_its_way h.listed h.just.listed_front,
    ),
  )
  check_opens item finding (end.Stopped why) h = (
    h.listed,
    (
      record {
        trail = h.trail;
        openings_are = h.fails.did.openings_are;
        listings_are = h.fails.did.listings_are;
        near = all_near call.further call.root h.begun h.listed h.trail h.fails.opened h.fails.near h.files_lie;
        content = content_in call.further call.root h.begun h.listed h.trail h.fails.opened h.files_lie;
      },
      on_its_way h.listed h.just.listed_front,
    ),
  )
