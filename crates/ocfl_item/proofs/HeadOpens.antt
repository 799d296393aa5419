-- Which of an object's own files were opened.
use Rattle.std.proofs.Common.{◌≡◌, List, [], ◌∷◌, ◌++◌, refl, sym, ◌∙◌, ap, subst, false, ℕ, Option, Some, None, length}
use Rattle.std.proofs.lemmas.Bool.{le-leb, lt-leb}
use Rattle.std.specs.Prelude.{cond, Ok, Vec}
use Rattle.std.specs.declared.alloc.Global.{Global}
use Rattle.ocfl_tree.specs.{Place.{Text, Place}, StorageRoot.{StorageRoot, file_at}, Store.{Store}}
use Rattle.ocfl_tree.specs.declared.store.Entry.{Entry}
use Rattle.ocfl_report.specs.declared.further.Further.{Further}
use Rattle.ocfl_digest.specs.declared.algorithm.Algorithm.TheVariants.{Sha256, Sha512}
use Rattle.ocfl_digest.specs.declared.bounded.Bounded.{Bounded}
use Rattle.ocfl_digest.specs.declared.bounded.Bounded.TheVariants as bounded
use Rattle.ocfl_inventory.specs.Declaration.{Declared, declaration_name, undeclared, known, unknown, several}
use Rattle.ocfl_inventory.specs.Entries.{meaning}
use Rattle.ocfl_inventory.specs.declared.declaration.Declared.{Declared as MadeDeclared}
use Rattle.ocfl_inventory.specs.declared.declaration.Version.{Version}
use Rattle.ocfl_inventory.specs.declared.declaration.Declared.TheVariants as made
use Rattle.ocfl_inventory.specs.declared.declaration.Level.TheVariants as level
use Rattle.ocfl_rules.specs.Head.{sidecar_name}
use Rattle.ocfl_rules.specs.Zone.{inventory_name, inventory_limit, object_declared, is_known}
use Rattle.ocfl_item.specs.HeadFiles.{FilesStop, ReadsFiles, files_there}
use Rattle.ocfl_item.specs.Internal.HeadFiles.{IsFileAt, ReadsFile, head_files, inventory_files, sidecars_for}
use Rattle.ocfl_item.specs.Internal.Ways.{IsDeclared, IsListedObject}
use Rattle.ocfl_item.specs.declared.fault.Fault.{Fault}
use Rattle.ocfl_item.specs.declared.fault.Fault.TheVariants as fault
use Rattle.ocfl_item.proofs.FileLaws.{files_then, memory_after, some_of, stop_more, stop_then}
use Rattle.ocfl_item.proofs.HeadCalls.{later_stops}
use Rattle.ocfl_item.proofs.LooksCalls.{memory_no_store}
use Rattle.ocfl_tree.proofs.Stores.{did_nothing}

abbrev both : List Text
both = sidecar_name Sha256 ∷ sidecar_name Sha512 ∷ []

pub listed_object : (root : StorageRoot) (o : Place) (es : List Entry) (m : MadeDeclared) → IsDeclared root o es m → IsListedObject root o es
listed_object root o es m h = record { listing = h.listing; zone = h.zone }

module _ (root : StorageRoot) (o : Place) where
  -- ---- which sidecars are read

  pub sidecars_none : file_at root (o ++ inventory_name ∷ []) ≡ None → sidecars_for (file_at root (o ++ inventory_name ∷ [])) ≡ []
  sidecars_none is = ap sidecars_for is

  pub sidecars_over : IsFileAt root (o ++ inventory_name ∷ []) inventory_limit (Some bounded.Over) → sidecars_for (file_at root (o ++ inventory_name ∷ [])) ≡ []
  sidecars_over is = ap sidecars_for is.1 ∙ ap (λ b. cond b both []) (lt-leb (length is.0) inventory_limit is.2)

  pub sidecars_within : (v : Vec ℕ Global) → IsFileAt root (o ++ inventory_name ∷ []) inventory_limit (Some (bounded.Whole v)) → sidecars_for (file_at root (o ++ inventory_name ∷ [])) ≡ both
  sidecars_within v is = ap sidecars_for is.1 ∙ ap (λ b. cond b both []) (le-leb (length is.0) inventory_limit is.2.1)

  -- ---- nothing

  no_head_files : (d : Declared) → is_known d ≡ false → head_files root o d ≡ []
  no_head_files undeclared h = refl
  no_head_files (known v) h = absurd cc
  no_head_files (unknown t) h = refl
  no_head_files several h = refl

module _ (further : Further) (root : StorageRoot) (o : Place) where
  -- ---- what is read about an inventory

  pub inventory_alone : (s t : Store) → sidecars_for (file_at root (o ++ inventory_name ∷ [])) ≡ [] → ReadsFiles further root s t o (inventory_name ∷ []) → ReadsFiles further root s t o (inventory_files root o)
  inventory_alone s t e h = subst (λ ns. ReadsFiles further root s t o (inventory_name ∷ ns)) (sym e) h

  pub with_sidecars : (s t u : Store) (f : Option Bounded) → sidecars_for (file_at root (o ++ inventory_name ∷ [])) ≡ both
      → ReadsFile further root s t o inventory_name inventory_limit (Ok f) → ReadsFiles further root t u o both → ReadsFiles further root s u o (inventory_files root o)
  with_sidecars s t u f e h k = subst (λ ns. ReadsFiles further root s u o (inventory_name ∷ ns)) (sym e) (files_then further root o s t u (inventory_name ∷ []) both h.gives.0 k)

  pub sidecars_stop : (s t u : Store) (f : Option Bounded) (why : Fault) → sidecars_for (file_at root (o ++ inventory_name ∷ [])) ≡ both
      → ReadsFile further root s t o inventory_name inventory_limit (Ok f) → FilesStop further root t u o both why → FilesStop further root s u o (inventory_files root o) why
  sidecars_stop s t u f why e h k = subst (λ ns. FilesStop further root s u o (inventory_name ∷ ns) why) (sym e) (later_stops further root o s t u inventory_name both inventory_limit f why h k)

  pub one_memory : (s t : Store) (n : Text) (limit : ℕ) (f : Option Bounded) → ReadsFile further root s t o n limit (Ok f) → FilesStop further root s t o (n ∷ []) fault.Memory
  one_memory s t n limit f h = memory_after further root o s t (n ∷ []) (some_of further root o s t (n ∷ []) h.gives.0)

  pub stop_opens_none : (es : List Entry) (m : MadeDeclared) (s : Store) → s.tree ≡ root → IsDeclared root o es m → is_known (meaning level.Object es m) ≡ false
      → ReadsFiles further root s s o (head_files root o (object_declared root o))
  stop_opens_none es m s over h stops =
      subst (ReadsFiles further root s s o) (sym (ap (head_files root o) (sym h.says) ∙ no_head_files root o (meaning level.Object es m) stops))
      (record { over = over; trail = []; did = did_nothing s; read = refl; opened = refl })

  pub none_memory : (s : Store) (ns : List Text) → s.tree ≡ root → FilesStop further root s s o ns fault.Memory
  none_memory s ns over = record {
    trail = [];
    stops = record { goes = record { over = over; listings = []; did = did_nothing s; read = λ e. refl; listed = ([], refl) }; store = λ q e. absurd (memory_no_store q e) };
    opened = (files_there root o ns, refl);
  }

-- ---- a known version

module _ (root : StorageRoot) (o : Place) (es : List Entry) (m : MadeDeclared) (v : Version) (is : m ≡ made.One v) (here : IsDeclared root o es m) where
  pub declared_known : object_declared root o ≡ known v
  declared_known = sym here.says ∙ ap (meaning level.Object es) is

  names_are : head_files root o (known v) ≡ head_files root o (object_declared root o)
  names_are = ap (head_files root o) (sym declared_known)

module _ (further : Further) (root : StorageRoot) (o : Place) (es : List Entry) (m : MadeDeclared) (v : Version) (is : m ≡ made.One v) (here : IsDeclared root o es m) where
  pub declaration_stops : (s t : Store) (why : Fault) → FilesStop further root s t o (declaration_name level.Object v ∷ []) why → FilesStop further root s t o (head_files root o (object_declared root o)) why
  declaration_stops s t why h = subst (λ ns. FilesStop further root s t o ns why) (names_are root o es m v is here) (stop_more further root o s t (declaration_name level.Object v ∷ []) (inventory_files root o) why h)

  pub inventory_stops : (s t u : Store) (why : Fault) → ReadsFiles further root s t o (declaration_name level.Object v ∷ [])
      → FilesStop further root t u o (inventory_files root o) why → FilesStop further root s u o (head_files root o (object_declared root o)) why
  inventory_stops s t u why h k = subst (λ ns. FilesStop further root s u o ns why) (names_are root o es m v is here) (stop_then further root o s t u (declaration_name level.Object v ∷ []) (inventory_files root o) why h k)

  pub head_opened : (s t u : Store) → ReadsFiles further root s t o (declaration_name level.Object v ∷ [])
      → ReadsFiles further root t u o (inventory_files root o) → ReadsFiles further root s u o (head_files root o (object_declared root o))
  head_opened s t u h k = subst (ReadsFiles further root s u o) (names_are root o es m v is here) (files_then further root o s t u (declaration_name level.Object v ∷ []) (inventory_files root o) h k)

  pub head_memory : (s t u : Store) → ReadsFiles further root s t o (declaration_name level.Object v ∷ [])
      → ReadsFiles further root t u o (inventory_files root o) → FilesStop further root s u o (head_files root o (object_declared root o)) fault.Memory
  head_memory s t u h k =
      let names = head_files root o (object_declared root o) in
      memory_after further root o s u names (some_of further root o s u names (head_opened s t u h k))
