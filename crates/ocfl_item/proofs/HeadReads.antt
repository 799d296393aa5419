-- What reading an object's head did, as a visit says it.
use Rattle.std.proofs.Common.{◌≡◌, ℕ, List, [], ◌∷◌, sym, ◌∙◌, ap, subst, Option, Some}
use Rattle.std.proofs.lemmas.List.{append_cancel_left, append-nil}
use Rattle.std.specs.Prelude.{IfOk, Result, Ok, Err}
use Rattle.ocfl_tree.specs.{Place.{Place}, StorageRoot.{StorageRoot}, Store.{Store, Did}}
use Rattle.ocfl_tree.specs.declared.store.Opening.{Opening}
use Rattle.ocfl_report.specs.declared.further.Further.{Further}
use Rattle.ocfl_inventory.specs.Table.{Table}
use Rattle.ocfl_item.specs.{Looking.{IsFront, LiesUpTo, failures_by}, Auditing.{FailedAt, LieIn}}
use Rattle.ocfl_item.specs.{HeadFiles.{OpensJust, files_there}, Internal.HeadFiles.{head_files}}
use Rattle.ocfl_item.specs.{Internal.Ways.{IsHeadOf}, Internal.Visiting.{HeadRead}}
use Rattle.ocfl_item.specs.{declared.fault.Fault.{Fault}, declared.lines.PlaceLines.{PlaceLines}}
use Rattle.ocfl_item.specs.declared.root.RootInventory.{RootInventory as MadeRoot}
use Rattle.ocfl_rules.specs.{Head.{on}, Trail.{heads_of, places_of, reads_inventory}}
use Rattle.ocfl_rules.specs.Zone.{inside, object_declared, zone}
use Rattle.ocfl_item.proofs.AuditingLaws.{files_near, front_of_none}
use Rattle.ocfl_item.proofs.FileLaws.{some_is_meta, some_of, stop_is_meta}
use Rattle.ocfl_item.proofs.HeadCalls.{head_files_apart, head_files_meta}
use Rattle.ocfl_item.proofs.UpToLaws.{files_up_to}
use Rattle.ocfl_item.proofs.HeadTrails.{heads_append, heads_are, heads_at, heads_exact}

-- what was opened from s to t is one list
same_trail : (s t : Store) (os ps : List Opening) (ls ms : List Place) (f g : ℕ) → Did s t os ls f → Did s t ps ms g → os ≡ ps
same_trail s t os ps ls ms f g h k = append_cancel_left s.openings os ps (sym h.openings_are ∙ k.openings_are)

pub head_read_from : (further : Further) (root : StorageRoot) (s t : Store) (o : Place) (r : Result (PlaceLines × Option Table × Option MadeRoot) Fault) → zone root o ≡ inside o []
    → OpensJust further root s t o (head_files root o (object_declared root o)) r → IfOk r (IsHeadOf further root o) → HeadRead further root s t o r
head_read_from further root s t o (Ok p) z k is =
    let names = head_files root o (object_declared root o) in
    let reads = some_is_meta further root o z names (head_files_meta root o (object_declared root o)) (head_files_apart root o (object_declared root o)) s t (some_of further root o s t names k) in
    record {
      gives = (
        record {
          over = reads.over;
          trail = reads.trail;
          did = reads.did;
          read = reads.read;
          meta = reads.meta.meta;
          once = reads.meta.once;
          near = subst (LieIn further root (o ∷ [])) (sym (same_trail s t reads.trail k.trail [] [] 0 0 reads.did k.did))
              (files_near further root o names k.trail ([], sym k.opened ∙ sym (append-nil (places_of k.trail))));
          heads = ap (heads_of root) (same_trail s t reads.trail k.trail [] [] 0 0 reads.did k.did) ∙ heads_are root k.trail ∙ ap (heads_at root) k.opened ∙ heads_exact root o z;
        },
        is,
      );
    }
head_read_from further root s t o (Err why) z k is =
    let names = head_files root o (object_declared root o) in
    let stops = stop_is_meta further root o z names (head_files_meta root o (object_declared root o)) (head_files_apart root o (object_declared root o)) s t why k in
    record {
      gives = record {
        over = stops.stops.goes.over;
        trail = stops.trail;
        did = subst (λ ls. Did s t stops.trail ls (failures_by why)) (front_of_none stops.stops.goes.listings stops.stops.goes.listed) stops.stops.goes.did;
        read = stops.stops.goes.read;
        meta = stops.meta.meta;
        once = stops.meta.once;
        heads =
            let same = same_trail s t stops.trail k.trail stops.stops.goes.listings k.stops.goes.listings (failures_by why) (failures_by why) stops.stops.goes.did k.stops.goes.did in
            let front : IsFront (heads_at root (places_of k.trail)) (heads_at root (files_there root o names)) =
            (heads_at root k.opened.0, ap (heads_at root) k.opened.1 ∙ heads_append root (places_of k.trail) k.opened.0) in
            subst (λ l. IsFront l (on (reads_inventory root o) o)) (sym (ap (heads_of root) same ∙ heads_are root k.trail))
            (subst (IsFront (heads_at root (places_of k.trail))) (heads_exact root o z) front);
        near = subst (LieIn further root (o ∷ []))
            (sym (same_trail s t stops.trail k.trail stops.stops.goes.listings k.stops.goes.listings (failures_by why) (failures_by why) stops.stops.goes.did k.stops.goes.did))
            (files_near further root o names k.trail k.opened);
        store = λ q e.
            let f = stops.stops.store q e in
            (f.0, subst (λ ls. FailedAt further root s t ls stops.trail q) (front_of_none stops.stops.goes.listings stops.stops.goes.listed) f.1);
        up_to = λ q e. subst (λ x. LiesUpTo (Some x) q) (append-nil o) (files_up_to further root s t o names why k [] q e);
      };
    }
