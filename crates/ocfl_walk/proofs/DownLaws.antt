-- One name further down, on the way to a place.
use Rattle.std.proofs.Common.{◌≡◌, ℕ, List, [], ◌∷◌, ◌++◌, refl, sym, ◌∙◌, ap, subst, true, false, Bool, Option, Some, None}
use Rattle.std.proofs.{lemmas.Bool.{and_right, not-false}, lemmas.List.{append-nil}}
use Rattle.std.specs.Prelude.{cond, ◌&&◌, ◌||◌, not, Ok, Err}
use Rattle.ocfl_tree.specs.{Place.{Text, Place}, Ascending.{IsAmong}}
use Rattle.ocfl_tree.specs.{StorageRoot.{StorageRoot, is_dir}, Store.{Store, Did}}
use Rattle.ocfl_tree.specs.declared.store.Entry.{Entry}
use Rattle.ocfl_report.specs.declared.further.Further.{Further}
use Rattle.ocfl_rules.specs.Zone.{skipped, inside, object_zone, root_declared, is_in_extensions, zone, table_at, is_entered, is_listed_zone, is_listed_in_object, is_known}
use Rattle.ocfl_rules.specs.{Walk.{is_reached}, Trail.{heads_of}}
use Rattle.ocfl_item.specs.Ways.{Enters, Stops, way_below, is_listable, is_extensions_name, IsAt, IsObject}
use Rattle.ocfl_item.specs.{Around.{IsPart, IsTableAround}, Looking.{IsFront, failures_by}}
use Rattle.ocfl_item.specs.{declared.fault.Fault.{Fault}, declared.folder.Folder.{Folder}}
use Rattle.ocfl_item.specs.{declared.meeting.Around.{Around}, Root.{root_at}}
use Rattle.ocfl_walk.specs.Internal.Entering.{Descends, IsIn, IsShut, Leads, LeadsOn, Opens, OpensIn, may_open}
use Rattle.ocfl_walk.specs.WalkCalls.{holder_of}
use Rattle.ocfl_tree.proofs.Orders.{true_not_false}
use Rattle.ocfl_rules.proofs.{AuditExists.{append_one}, StepLaws.{reached_step, listed_step}}
use Rattle.ocfl_item.proofs.LooksZones.{inside_on, inside_step, not_entered, out_of_zone, open_object, reach_on, entered_from, is_plain, plain_below, plain_extensions}
use Rattle.ocfl_item.proofs.AuditingLaws.{near_none, near_within}
use Rattle.ocfl_walk.proofs.DescentLaws.{both_inventories, calls_then, failed_then, descends_not, descends_one, descends_end, listing_fails, lists_calls, plain_table}
use Rattle.ocfl_walk.proofs.ReachLaws.{comes_shut}

module _ (further : Further) (root : StorageRoot) where
  shut_out : (d : Place) (n : Text) → is_entered root (d ++ n ∷ []) ≡ false → is_reached root (d ++ n ∷ []) ≡ false
  shut_out d n h = reached_step root d n ∙ and_right (is_reached root d) (is_entered root (d ++ n ∷ [])) h

  -- if there is no object
  shut_plain : (d : Place) (n : Text) (r : Place) → is_entered root (d ++ n ∷ []) ≡ false → is_plain (zone root (d ++ n ∷ r)) ≡ true → IsShut further root d n r None
  shut_plain d n r h plain = record { out = shut_out d n h; table = plain_table further root (d ++ n ∷ r) plain }

  extensions_out : (d : Place) (n : Text) → is_extensions_name d n ≡ true → is_entered root (d ++ n ∷ []) ≡ false
  extensions_out [] n h = by (is_dir root (n ∷ [])) refl
    where
      skips : (x : Bool) → cond (x || true) skipped (object_zone root [] (n ∷ [])) ≡ skipped
      skips true = refl
      skips false = refl

      by : (b : Bool) → is_dir root (n ∷ []) ≡ b → is_entered root (n ∷ []) ≡ false
      by true e =
          let there : is_in_extensions root (n ∷ []) ≡ true = ap (λ b. b && is_dir root (n ∷ [])) h ∙ e in
          out_of_zone root (n ∷ []) (ap (is_listed_zone root)
          (ap (λ b. cond (not (is_known (root_declared root)) || b) skipped (object_zone root [] (n ∷ []))) there ∙ skips (not (is_known (root_declared root)))))
      by false e = not_entered root (n ∷ []) e
  extensions_out (m ∷ d) n h = absurd (true_not_false (sym h))

  object_below : (d : Place) (n : Text) (r : Place) → zone root (d ++ n ∷ []) ≡ inside (d ++ n ∷ []) [] → zone root (d ++ n ∷ r) ≡ inside (d ++ n ∷ []) r
  object_below d n r z = ap (zone root) (sym (append_one d r n)) ∙ inside_on root (d ++ n ∷ []) (d ++ n ∷ []) [] r z

  -- an object whose head stops
  pub shut_object : (d : Place) (n : Text) (r : Place) → zone root (d ++ n ∷ []) ≡ inside (d ++ n ∷ []) [] → table_at root (d ++ n ∷ []) ≡ None → IsShut further root d n r None
  shut_object d n r z none = record {
    out = shut_out d n (out_of_zone root (d ++ n ∷ []) (ap (is_listed_zone root) z ∙ ap (λ x. is_listed_in_object x []) none));
    table = λ o s e. let same : inside (d ++ n ∷ []) r ≡ inside o s = sym (object_below d n r z) ∙ e in let is : d ++ n ∷ [] ≡ o = cc in ap (table_at root) (sym is) ∙ none;
  }

  -- ---- within an object

  module _ (d : Place) (n : Text) (a : Around) (p : IsPart further root d (Some a)) where
    table_below : (r : Place) → IsTableAround further root (d ++ n ∷ r) (Some a)
    table_below r = (p.0 ++ n ∷ r, inside_on root d a.place p.0 (n ∷ r) p.1, p.2, p.3)

    zone_next : (on : Bool) → LeadsOn root d n (Some a) on → is_listed_zone root (zone root (d ++ n ∷ [])) ≡ on
    zone_next on h = ap (is_listed_zone root) (inside_step root d a.place p.0 n p.1) ∙ ap (λ x. is_listed_in_object x (p.0 ++ n ∷ [])) p.2 ∙ listed_step a.table p.0 n ∙ sym (h p.0 p.1 p.2)

  pub in_object : (d : Place) (n : Text) (x : Option Around) (a : Around) → x ≡ Some a → IsPart further root d x → LeadsOn root d n x true
      → (old : List Entry) (s t : Store) (f : Folder) → IsAt root d old → Enters root s t (d ++ n ∷ []) f.place f.entries.items
      → IsIn further root (d ++ n ∷ []) f x
  in_object d n None a is p on old s t f at k = absurd cc
  in_object d n (Some b) a is p on old s t f at k = record {
    place = k.is;
    here = record { listing = k.listing; reached = reach_on root d n at.reached (entered_from root (d ++ n ∷ []) k.listable (zone_next d n b p true on)) };
    part = (p.0 ++ n ∷ [], inside_step root d b.place p.0 n p.1, p.2, p.3);
  }

  -- ---- what is shut

  -- if a name does not lead on
  pub shut_off : (d : Place) (n : Text) (r : Place) (x : Option Around) → IsPart further root d x → LeadsOn root d n x false → IsShut further root d n r x
  shut_off d n r None z h =
      let e : is_extensions_name d n ≡ true = not-false (is_extensions_name d n) (sym h) in
      shut_plain d n r (extensions_out d n e) (plain_extensions root d r n z e)
  shut_off d n r (Some a) p h = record { out = shut_out d n (out_of_zone root (d ++ n ∷ []) (zone_next d n a p false h)); table = table_below d n a p r }

  -- if no directory of it is listed
  pub shut_unlisted : (d : Place) (n : Text) (r : Place) (x : Option Around) → IsPart further root d x → is_listable root (d ++ n ∷ []) ≡ false → IsShut further root d n r x
  shut_unlisted d n r None z h = shut_plain d n r (not_entered root (d ++ n ∷ []) h) (plain_below root d r n z h)
  shut_unlisted d n r (Some a) p h = record { out = shut_out d n (not_entered root (d ++ n ∷ []) h); table = table_below d n a p r }

  -- ---- what a name leads to

  module _ (s t : Store) (d : Place) (n : Text) (r : Place) (a : Option Around) (over : s.tree ≡ root) where
    pub leads_shut : Did s t [] [] 0 → IsShut further root d n r a → Leads further root s t d n r a a (Ok None)
    leads_shut did h = record { gives = (comes_shut root d n r h.out further s t (may_open a (zone root (d ++ n ∷ r))) (descends_not further root s t (way_below d (n ∷ r)) (may_open a (zone root (d ++ n ∷ r))) over did), h) }

    pub leads_listed : Did s t [] ((d ++ n ∷ []) ∷ []) 0 → IsShut further root d n r a → Leads further root s t d n r a a (Ok None)
    leads_listed did h = record {
      gives = (
        comes_shut root d n r h.out further s t (may_open a (zone root (d ++ n ∷ r)))
            (descends_end further root s t (way_below d (n ∷ r)) (way_below (d ++ n ∷ []) r) (may_open a (zone root (d ++ n ∷ r))) (may_open a (zone root (d ++ n ∷ r))) 0
            (descends_one further root s t (d ++ n ∷ []) (way_below (d ++ n ∷ []) r) (may_open a (zone root (d ++ n ∷ r))) over did)),
        h,
      );
    }

    pub leads_in : (f : Folder) → Did s t [] ((d ++ n ∷ []) ∷ []) 0 → IsIn further root (d ++ n ∷ []) f a → Leads further root s t d n r a a (Ok (Some f))
    leads_in f did h = record {
      gives = (record { goes = descends_one further root s t (d ++ n ∷ []) (way_below (d ++ n ∷ []) r) (may_open a (zone root (d ++ n ∷ r))) over did; all = λ e i k. i }, h);
    }

  pub leads_stop : (s t : Store) (d : Place) (n : Text) (r : Place) (a b : Option Around) (why : Fault) → Stops further root s t ((d ++ n ∷ []) ∷ []) [] why → Leads further root s t d n r a b (Err why)
  leads_stop s t d n r a b why h = record { gives = listing_fails further root s t (d ++ n ∷ []) (way_below (d ++ n ∷ []) r) (may_open a (zone root (d ++ n ∷ r))) why h }

  -- into an object

  module _ (s t u : Store) (d : Place) (n : Text) (r : Place) (over : s.tree ≡ root) (did : Did s t [] ((d ++ n ∷ []) ∷ []) 0) (z : zone root (d ++ n ∷ []) ≡ inside (d ++ n ∷ []) []) where
    abbrev rest : List Place
    rest = way_below (d ++ n ∷ []) r

    may_is : may_open None (zone root (d ++ n ∷ r)) ≡ (d ++ n ∷ []) ∷ []
    may_is = ap holder_of (object_below d n r z)

    abbrev came : Descends further root s t (way_below d (n ∷ r)) rest (may_open None (zone root (d ++ n ∷ r))) ((d ++ n ∷ []) ∷ []) 0
    came = record {
      calls = lists_calls further root s t ((d ++ n ∷ []) ∷ []) 0 over did;
      only = refl;
      listed = ([], sym (append-nil ((d ++ n ∷ []) ∷ rest)));
      heads = subst (IsFront ((d ++ n ∷ []) ∷ [])) (sym may_is) ([], refl);
      near = near_none further root ((d ++ n ∷ []) ∷ []);
    }

    abbrev then : (f : ℕ) → OpensIn further root t u (d ++ n ∷ []) f → Descends further root s u (way_below d (n ∷ r)) rest (may_open None (zone root (d ++ n ∷ r))) [] f
    then f h = record {
      calls = calls_then further root s t u f came.calls h.calls;
      only = both_inventories further root [] h.calls.trail refl h.only;
      listed = subst (λ ls. IsFront (((d ++ n ∷ []) ∷ ls) ++ rest) ((d ++ n ∷ []) ∷ rest)) (sym h.unlisted) ([], sym (append-nil ((d ++ n ∷ []) ∷ rest)));
      heads = subst (IsFront (heads_of root h.calls.trail ++ [])) (sym may_is) h.heads;
      near = near_within further root ((d ++ n ∷ []) ∷ []) h.calls.listings [] h.calls.trail (near_none further root ((d ++ n ∷ []) ∷ [])) h.near;
    }

    pub leads_object_none : Opens further root t u (d ++ n ∷ []) (Ok None) → Leads further root s u d n r None None (Ok None)
    leads_object_none h =
        let shut = shut_object d n r z h.gives.1 in
        record {
          gives = (
            comes_shut root d n r shut.out further s u (may_open None (zone root (d ++ n ∷ r))) (descends_end further root s u (way_below d (n ∷ r)) rest (may_open None (zone root (d ++ n ∷ r))) [] 0 (then 0 h.gives.0)),
            shut,
          );
        }

    pub leads_object : (a : Around) (f : Folder) → f.place ≡ d ++ n ∷ [] → IsObject root (d ++ n ∷ []) f.entries.items
        → Opens further root t u (d ++ n ∷ []) (Ok (Some a)) → Leads further root s u d n r None (Some a) (Ok (Some f))
    leads_object a f e is h =
        let open_ = open_object root (d ++ n ∷ []) f.entries.items a.table is h.gives.1.1 in
        let part : IsPart further root (d ++ n ∷ []) (Some a) = ([], z ∙ ap (λ x. inside x []) (sym h.gives.1.0), ap (table_at root) h.gives.1.0 ∙ h.gives.1.1, h.gives.1.2 ∙ sym (ap (root_at further root) h.gives.1.0)) in
        record {
          gives = (
            record { goes = then 0 h.gives.0; all = λ x i k. subst (λ ls. IsAmong (((d ++ n ∷ []) ∷ ls) ++ rest) x) (sym h.gives.0.unlisted) i },
            record { place = e; here = open_.here; part = part },
          );
        }

    pub leads_object_stop : (why : Fault) → Opens further root t u (d ++ n ∷ []) (Err why) → Leads further root s u d n r None None (Err why)
    leads_object_stop why h = record {
      gives = record {
        goes = descends_end further root s u (way_below d (n ∷ r)) rest (may_open None (zone root (d ++ n ∷ r))) [] (failures_by why) (then (failures_by why) h.gives.goes);
        store = failed_then further root s t u why came.calls h.gives.goes.calls h.gives.store;
      };
    }
