-- A walk that is kept: what it stands for, and a way on which it could have come there.
use Rattle.std.proofs.Common.{◌≡◌, ℕ, List, [], ◌∷◌, refl, sym, ◌∙◌, ap, subst, true, Bool, Some, None, Option}
use Rattle.std.proofs.lemmas.Bool.{not-true}
use Rattle.std.specs.{Prelude.{IfSome, not}, List.{last_or}}
use Rattle.ocfl_tree.specs.{Place.{Text, Place}, Ascending.{IsAmong}, StorageRoot.{StorageRoot}}
use Rattle.ocfl_tree.specs.Store.{Store, Did}
use Rattle.ocfl_tree.proofs.Orders.{among_from_filter, among_left}
use Rattle.ocfl_rules.specs.{Due.{due}, Parts.{Part, lies_in}, Runs.{Limits}}
use Rattle.ocfl_item.proofs.AuditingLaws.{audits_meta, front_all, front_none, near_none, none_once}
use Rattle.ocfl_report.specs.declared.further.Further.{Further}
use Rattle.ocfl_walk.specs.{Ends.{is_past}, WalkCalls.{GoesDown, IsRootFirst, way_of}}
use Rattle.ocfl_walk.specs.Walks.{Gives}
use Rattle.ocfl_scrub.specs.{Keeping.{IsMet}, Passes.{IsAhead}, Starting.{end_of, entry, stand}}
use Rattle.ocfl_scrub.specs.declared.kept.Met.{Met}
use Rattle.ocfl_scrub.proofs.{AlikeLaws.{walks_with}, LookedLaws.{due_lies, stand_there}}
use Rattle.ocfl_scrub.proofs.{PassLaws.{last_among}, RunTurns.{HasMet, HasPaid}}

-- ---- where it stands after a run

stood_at : (root : StorageRoot) (part : Part) (from last stood : Option Place) (done : List Place) → stood ≡ last_or (stand root part from) done → last ≡ last_or from done
    → ((q : Place) → IsAmong done q → lies_in part q ≡ true) → stood ≡ stand root part last
stood_at root part from last stood [] e f lie = e ∙ ap (stand root part) (sym f)
stood_at root part from last stood (p ∷ ps) e f lie =
    let m = last_among p ps in
    e ∙ m.1.0 ∙ sym (stand_there root part m.0 (lie m.0 m.1.1)) ∙ ap (stand root part) (sym m.1.0 ∙ sym f)

module _ {further : Further} {root : StorageRoot} {part : Part} {s t : Store} {old new : Option (List ℕ)} {from last : Option Place} {l : Limits} {spent files : ℕ} {finding : Bool} where
  stood_is : (h : HasPaid further root part s t old new from last l spent files finding) → h.stood ≡ stand root part last
  stood_is h =
      let p = h.pays.passes in
      stood_at root part from last h.stood p.done p.last_is h.last_is (λ q i.
      let inside = among_from_filter (λ z. not (is_past (end_of part) z)) p.done q (subst (λ ps. IsAmong ps q) (sym p.inside) i) in
      due_lies further root part from q (subst (λ ps. IsAmong ps q) (sym p.due_are) (among_left p.done (due further root h.stood) q i)) (not-true (is_past (end_of part) q) inside.1))

module _ {further : Further} {root : StorageRoot} {part : Part} {s t : Store} {old new : Option (List ℕ)} {from last : Option Place} {l : Limits} {spent files : ℕ} {finding : Bool} where
  -- a run above the last item may go on with it
  pub met_ready : (m : Met) → HasMet further root part s t old new m.walk m.item from last l spent files finding → IsMet further root part last m
  met_ready m h = record {
    before = h.there;
    after = t;
    gives = subst (λ o. Gives further root h.there t o m.walk (Some m.item)) (stood_is h.paid) h.item.gives;
    in_front = h.item.in_front;
  }

-- ---- a way on which a walk could have come there

abbrev nothing_asked : StorageRoot → Store
nothing_asked root = record { tree = root; rest = None; openings = []; listings = []; failed_listings = []; failures = 0; largest = 0 }

abbrev all_listed : StorageRoot → List Place → Store
all_listed root way = record { tree = root; rest = None; openings = []; listings = way; failed_listings = []; failures = 0; largest = 0 }

did_list : (root : StorageRoot) (way : List Place) → Did (nothing_asked root) (all_listed root way) [] way 0
did_list root way = record {
  tree = refl;
  openings_are = refl;
  listings_are = refl;
  failures_are = refl;
  failed = [];
  failed_are = refl;
  failed_among = λ p i. absurd i;
  each_failed = refl;
}

root_listed : (p : Option Place) → IfSome p (λ q. IsRootFirst (way_of p))
root_listed None = tt
root_listed (Some []) = ([], refl)
root_listed (Some (n ∷ q)) = (_, refl)

goes_down : (further : Further) (root : StorageRoot) (p : Option Place) → GoesDown further root (nothing_asked root) (all_listed root (way_of p)) p
goes_down further root p = record {
  trail = [];
  listed = way_of p;
  heads = [];
  audits = audits_meta further root (nothing_asked root) (all_listed root (way_of p)) (way_of p) [] [] refl (did_list root (way_of p)) refl refl refl (near_none further root (way_of p));
  root_first = root_listed p;
  all_listed = λ d i reached. i;
  listed_front = front_all (way_of p);
  heads_front = front_none _;
  once = none_once;
}

-- with this left of the open file and of the largest read
pub ahead_of : (further : Further) (root : StorageRoot) (part : Part) (from : Option Place) (m : Met) (rest : Option Text) (largest : ℕ) → IsMet further root part from m
    → (s : Store) × ((t : Store) × ((t.rest ≡ rest) × (t.largest ≡ largest) × IsAhead further root part from m s t))
ahead_of further root part from m rest largest h =
    let begun : Store = all_listed root (way_of (entry part from)) in
    let w = walks_with further root h.before h.after begun refl rest largest (stand root part from) (Some m.item.place) h.gives.0 in (
      nothing_asked root,
      (
        w.0,
        (
          w.1.0,
          w.1.1,
          record {
            begun = begun;
            down = goes_down further root (entry part from);
            gives = (w.1.2, h.gives.1, h.gives.2, h.gives.3);
            in_front = h.in_front;
          },
        ),
      ),
    )
