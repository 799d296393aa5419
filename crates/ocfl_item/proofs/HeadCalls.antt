-- What reading an object's inventory, and its head, did.
use Rattle.std.proofs.Common.{◌≡◌, ◌≢◌, ℕ, List, [], ◌∷◌, ◌++◌, refl, sym, ◌∙◌, ap, subst, true, false, Bool, Option, Some, None, arith, length, append-nil}
use Rattle.std.proofs.{lemmas.Bool.{le-leb, lt-leb}, lemmas.Map.Made.{AllPairs-from_IsDistinct}}
use Rattle.std.specs.List.{IsDistinct, list_all}
use Rattle.std.specs.Prelude.{cond, IfOk, ◌||◌, not, nat_le, AllPairs, Result, Ok, Err, Vec, option_and_then, option_map}
use Rattle.std.specs.declared.alloc.Global.{Global}
use Rattle.ocfl_tree.proofs.Places.{text_eq-Decides}
use Rattle.ocfl_tree.specs.{Place.{Text, Place, text_eq}, StorageRoot.{StorageRoot, file_at}}
use Rattle.ocfl_tree.specs.{Listing.{IsListing, kind_at, kind_in}, Store.{Store}, declared.store.Entry.{Entry}}
use Rattle.ocfl_report.specs.declared.further.Further.{Further}
use Rattle.ocfl_report.specs.declared.further.Further.TheVariants.{Nothing, Inventories}
use Rattle.ocfl_inventory.specs.Note.{Note, plain}
use Rattle.ocfl_inventory.specs.Declaration.{Declared, undeclared, known, unknown, several, declaration_name}
use Rattle.ocfl_inventory.specs.{Entries.{meaning}, Reading.{algorithm_of}, Table.{Table, table_of}}
use Rattle.ocfl_inventory.specs.declared.declaration.Declared.{Declared as MadeDeclared}
use Rattle.ocfl_inventory.specs.declared.declaration.Version.{Version}
use Rattle.ocfl_inventory.specs.declared.declaration.Version.TheVariants.{V1_0, V1_1}
use Rattle.ocfl_report.specs.declared.code.Code.TheVariants.{E007, E063, S02}
use Rattle.ocfl_digest.specs.declared.bounded.Bounded.{Bounded}
use Rattle.ocfl_digest.specs.declared.algorithm.Algorithm.TheVariants.{Sha256, Sha512}
use Rattle.ocfl_digest.specs.declared.bounded.Bounded.TheVariants as bounded
use Rattle.ocfl_inventory.specs.declared.declaration.Level.TheVariants as level
use Rattle.ocfl_rules.specs.Zone.{skipped, hierarchy, inside, zone, root_declared, object_declared, inventory_name, inventory_limit, table_at, is_known}
use Rattle.ocfl_rules.specs.Head.{on, or_clean, is_exact_declaration, sidecar_name, sidecars_notes, inventory_part, inventory_file_notes, head_notes_by}
use Rattle.ocfl_rules.specs.Inventories.{notes, RootInventory, head_notes, root_inventory, root_inventory_of, root_inventory_notes, version_notes}
use Rattle.ocfl_rules.specs.Lines.{notes_in}
use Rattle.ocfl_rules.specs.Trail.{is_meta, is_object_meta}
use Rattle.ocfl_rules.proofs.PathLaws.{notes_at}
use Rattle.ocfl_item.specs.{Internal.Lines.{Adds, HasLines}, Ways.{IsObject}}
use Rattle.ocfl_item.specs.Internal.Ways.{ReadsTable, IsDeclared, IsHeadOf, IsListedObject}
use Rattle.ocfl_item.specs.HeadFiles.{OpensJust, ReadsFiles, FilesStop}
use Rattle.ocfl_item.specs.Internal.HeadFiles.{HaveSidecars, IsFileAt, ReadsFile, ReadsSome, head_files, head_names, sidecars_for, table_in}
use Rattle.ocfl_item.specs.{declared.fault.Fault.{Fault}, declared.lines.PlaceLines.{PlaceLines}}
use Rattle.ocfl_item.specs.declared.fault.Fault.TheVariants as fault
use Rattle.ocfl_item.proofs.HeadTrails.{inventory_alone, inventory_opened}
use Rattle.ocfl_item.specs.Root.{root_at, root_by, root_in, root_notes_if, root_view}
use Rattle.ocfl_item.specs.declared.root.RootInventory.{RootInventory as MadeRoot}
use Rattle.ocfl_item.proofs.{CommonLaws.{no_version}, LinesLaws.{adds_both, has_more}}
use Rattle.ocfl_item.proofs.FileLaws.{file_is_meta, files_then, some_of, some_more, stop_more, stop_then, memory_after, some_is_meta, stop_is_meta}

-- ---- the table

abbrev pub table_given : Option Bounded → Option Table
table_given None = None
table_given (Some (bounded.Whole v)) = table_of v.items
table_given (Some bounded.Over) = None

module _ (root : StorageRoot) (o : Place) (es : List Entry) (h : IsObject root o es) where
  table_here : table_at root o ≡ option_and_then (λ b. cond (nat_le (length b) inventory_limit) (table_of b) None) (file_at root (o ++ inventory_name ∷ []))
  table_here = ap (option_and_then (λ b. cond (nat_le (length b) inventory_limit) (table_of b) None)) (ap (λ b. cond b (file_at root (o ++ inventory_name ∷ [])) None) h.known)

  table_is_given : (f : Option Bounded) → IsFileAt root (o ++ inventory_name ∷ []) inventory_limit f → table_at root o ≡ table_given f
  table_is_given None is = table_here ∙ ap (option_and_then (λ b. cond (nat_le (length b) inventory_limit) (table_of b) None)) is
  table_is_given (Some (bounded.Whole v)) is =
      table_here ∙ ap (option_and_then (λ b. cond (nat_le (length b) inventory_limit) (table_of b) None)) is.1
      ∙ ap (λ b. cond b (table_of is.0) None) (le-leb (length is.0) inventory_limit is.2.1) ∙ ap table_of (sym is.2.0)
  table_is_given (Some bounded.Over) is =
      table_here ∙ ap (option_and_then (λ b. cond (nat_le (length b) inventory_limit) (table_of b) None)) is.1 ∙ ap (λ b. cond b (table_of is.0) None) (lt-leb (length is.0) inventory_limit is.2)

  one_apart : AllPairs (λ n m. n ≢ m) (inventory_name ∷ [])
  one_apart i j d l k = absurd (omega (arith, l, k))

module _ (further : Further) (root : StorageRoot) (o : Place) (es : List Entry) (h : IsObject root o es) where
  pub table_read_from : (s t : Store) (r : Result (Option Table × Option MadeRoot) Fault) → OpensJust further root s t o (inventory_name ∷ []) r
      → IfOk r (λ read. (read.0 ≡ table_at root o) × (option_map root_view read.1 ≡ root_at further root o)) → ReadsTable further root s t o r
  table_read_from s t (Ok read) k is =
      let some = some_of further root o s t (inventory_name ∷ []) k in
      record {
        gives = (
          record {
            reads = some_is_meta further root o h.zone (inventory_name ∷ []) refl (one_apart root o es h) s t some;
            heads =
                inventory_opened root o h.zone some.trail h.known some.opened;
          },
          is.0,
          inventory_alone root o h.zone k.trail some.opened,
          is.1,
        );
      }
  table_read_from s t (Err why) k is = record {
    gives = (
      record { stops = stop_is_meta further root o h.zone (inventory_name ∷ []) refl (one_apart root o es h) s t why k; heads = inventory_opened root o h.zone k.trail h.known k.opened },
      inventory_alone root o h.zone k.trail k.opened,
    );
  }

  pub table_whole : (s t : Store) (v : Vec ℕ Global) (table : Option Table) (bytes : Text)
      → ReadsFile further root s t o inventory_name inventory_limit (Ok (Some (bounded.Whole v))) → bytes ≡ v.items → table ≡ table_of bytes → table ≡ table_at root o
  table_whole s t v table bytes k same e = e ∙ ap table_of same ∙ sym (table_is_given root o es h (Some (bounded.Whole v)) k.gives.1)

  pub table_over : (s t : Store) → ReadsFile further root s t o inventory_name inventory_limit (Ok (Some bounded.Over)) → None ≡ table_at root o
  table_over s t k = sym (table_is_given root o es h (Some bounded.Over) k.gives.1)

  pub table_absent : (s t : Store) → ReadsFile further root s t o inventory_name inventory_limit (Ok None) → None ≡ table_at root o
  table_absent s t k = sym (table_is_given root o es h None k.gives.1)

-- ---- one file after the other

module _ (root : StorageRoot) (o : Place) where
  -- ---- the table of an inventory

  pub no_inventory_table : file_at root (o ++ inventory_name ∷ []) ≡ None → None ≡ table_in (file_at root (o ++ inventory_name ∷ []))
  no_inventory_table none = sym (ap table_in none)

  pub long_inventory_table : IsFileAt root (o ++ inventory_name ∷ []) inventory_limit (Some bounded.Over) → None ≡ table_in (file_at root (o ++ inventory_name ∷ []))
  long_inventory_table is = sym (ap table_in is.1 ∙ ap (λ b. cond b (table_of is.0) None) (lt-leb (length is.0) inventory_limit is.2))

  pub inventory_table : (v : Vec ℕ Global) (bytes : Text) (table : Option Table)
      → IsFileAt root (o ++ inventory_name ∷ []) inventory_limit (Some (bounded.Whole v)) → bytes ≡ v.items → table ≡ table_of bytes
      → table ≡ table_in (file_at root (o ++ inventory_name ∷ []))
  inventory_table v bytes table is same h =
      h ∙ ap table_of (same ∙ is.2.0) ∙ sym (ap table_in is.1 ∙ ap (λ b. cond b (table_of is.0) None) (le-leb (length is.0) inventory_limit is.2.1))

  -- ---- what it is

  pub no_inventory_root : (further : Further) → file_at root (o ++ inventory_name ∷ []) ≡ None → None ≡ root_in further (file_at root (o ++ inventory_name ∷ []))
  no_inventory_root further none = sym (ap (root_in further) none)

  pub long_inventory_root : (further : Further) → IsFileAt root (o ++ inventory_name ∷ []) inventory_limit (Some bounded.Over) → None ≡ root_in further (file_at root (o ++ inventory_name ∷ []))
  long_inventory_root further is = sym (ap (root_in further) is.1 ∙ ap (λ b. cond b (root_by further is.0 (table_of is.0)) None) (lt-leb (length is.0) inventory_limit is.2))

  pub inventory_root : (further : Further) (v : Vec ℕ Global) (bytes : Text) (r : Option RootInventory)
      → IsFileAt root (o ++ inventory_name ∷ []) inventory_limit (Some (bounded.Whole v)) → bytes ≡ v.items → r ≡ root_by further bytes (table_of bytes)
      → r ≡ root_in further (file_at root (o ++ inventory_name ∷ []))
  inventory_root further v bytes r is same h =
      h ∙ ap (λ b. root_by further b (table_of b)) (same ∙ is.2.0)
      ∙ sym (ap (root_in further) is.1 ∙ ap (λ b. cond b (root_by further is.0 (table_of is.0)) None) (le-leb (length is.0) inventory_limit is.2.1))

  -- ---- the lines about an inventory

  pub no_inventory_lines : (old new : PlaceLines) → file_at root (o ++ inventory_name ∷ []) ≡ None → Adds old new (plain E063 ∷ [])
      → Adds old new (inventory_file_notes root o (file_at root (o ++ inventory_name ∷ [])))
  no_inventory_lines old new none h = subst (λ f. Adds old new (inventory_file_notes root o f)) (sym none) h

  pub long_inventory_lines : (old new : PlaceLines) → IsFileAt root (o ++ inventory_name ∷ []) inventory_limit (Some bounded.Over)
      → Adds old new (plain S02 ∷ []) → Adds old new (inventory_file_notes root o (file_at root (o ++ inventory_name ∷ [])))
  long_inventory_lines old new is h =
      subst (λ f. Adds old new (inventory_file_notes root o f)) (sym is.1)
      (subst (λ b. Adds old new (cond b (sidecars_notes root o is.0 ++ inventory_part root o is.0 (algorithm_of is.0)) (plain S02 ∷ []))) (sym (lt-leb (length is.0) inventory_limit is.2)) h)

  pub inventory_lines : (old new : PlaceLines) (v : Vec ℕ Global) (bytes : Text)
      → IsFileAt root (o ++ inventory_name ∷ []) inventory_limit (Some (bounded.Whole v)) → bytes ≡ v.items
      → Adds old new (sidecars_notes root o bytes ++ inventory_part root o bytes (algorithm_of bytes))
      → Adds old new (inventory_file_notes root o (file_at root (o ++ inventory_name ∷ [])))
  inventory_lines old new v bytes is same h =
      let k : Adds old new (sidecars_notes root o is.0 ++ inventory_part root o is.0 (algorithm_of is.0)) =
      subst (λ b. Adds old new (sidecars_notes root o b ++ inventory_part root o b (algorithm_of b))) (same ∙ is.2.0) h in
      subst (λ f. Adds old new (inventory_file_notes root o f)) (sym is.1)
      (subst (λ b. Adds old new (cond b (sidecars_notes root o is.0 ++ inventory_part root o is.0 (algorithm_of is.0)) (plain S02 ∷ []))) (sym (le-leb (length is.0) inventory_limit is.2.1)) k)

module _ (further : Further) (root : StorageRoot) (o : Place) where
  pub over_file : (s t : Store) (n : Text) (limit : ℕ) (f : Option Bounded) → ReadsFile further root s t o n limit (Ok f) → t.tree ≡ root
  over_file s t n limit f h = h.gives.0.did.tree ∙ h.gives.0.over

  pub first_stops : (s t : Store) (n : Text) (ns : List Text) (limit : ℕ) (why : Fault) → ReadsFile further root s t o n limit (Err why) → FilesStop further root s t o (n ∷ ns) why
  first_stops s t n ns limit why h = stop_more further root o s t (n ∷ []) ns why h.gives

  pub later_stops : (s t u : Store) (n : Text) (ns : List Text) (limit : ℕ) (f : Option Bounded) (why : Fault) → ReadsFile further root s t o n limit (Ok f)
      → FilesStop further root t u o ns why → FilesStop further root s u o (n ∷ ns) why
  later_stops s t u n ns limit f why h k = stop_then further root o s t u (n ∷ []) ns why h.gives.0 k

  pub second_stops : (s t u : Store) (n m : Text) (limit : ℕ) (f : Option Bounded) (why : Fault) → ReadsFile further root s t o n limit (Ok f)
      → ReadsFile further root t u o m limit (Err why) → FilesStop further root s u o (n ∷ m ∷ []) why
  second_stops s t u n m limit f why h k = later_stops s t u n (m ∷ []) limit f why h k.gives

  pub both_read : (s t u : Store) (n m : Text) (limit : ℕ) (f g : Option Bounded) → ReadsFile further root s t o n limit (Ok f) → ReadsFile further root t u o m limit (Ok g)
      → ReadsFiles further root s u o (n ∷ m ∷ []) × IsFileAt root (o ++ n ∷ []) limit f × IsFileAt root (o ++ m ∷ []) limit g
  both_read s t u n m limit f g h k = (files_then further root o s t u (n ∷ []) (m ∷ []) h.gives.0 k.gives.0, h.gives.1, k.gives.1)

  pub first_some : (s t : Store) (n : Text) (ns : List Text) (limit : ℕ) (f : Option Bounded) → ReadsFile further root s t o n limit (Ok f) → ReadsSome further root s t o (n ∷ ns)
  first_some s t n ns limit f h = some_more further root o s t (n ∷ []) ns (some_of further root o s t (n ∷ []) h.gives.0)

  pub first_memory : (s t : Store) (n : Text) (ns : List Text) (limit : ℕ) (f : Option Bounded) → ReadsFile further root s t o n limit (Ok f) → FilesStop further root s t o (n ∷ ns) fault.Memory
  first_memory s t n ns limit f h = memory_after further root o s t (n ∷ ns) (first_some s t n ns limit f h)

-- ---- the head

pub inside_not_root : (root : StorageRoot) (o q : Place) → zone root [] ≡ inside o q → ⊥
inside_not_root root o q z = by (not (is_known (root_declared root))) z
  where
    by : (b : Bool) → cond (b || false) skipped hierarchy ≡ inside o q → ⊥
    by true e = cc
    by false e = cc

pub head_notes_are : (root : StorageRoot) (o : Place) → zone root o ≡ inside o [] → notes Nothing root None o ≡ head_notes_by root o (object_declared root o)
head_notes_are root o z = notes_at root None o (λ e. inside_not_root root o [] (ap (zone root) (sym e) ∙ z)) ∙ ap (notes_in root o None) z

-- and with the note on the root inventory
all_head_notes : (further : Further) (root : StorageRoot) (o : Place) → zone root o ≡ inside o []
    → notes further root None o ≡ head_notes_by root o (object_declared root o) ++ root_notes_if further (root_at further root o)
all_head_notes Nothing root o z = head_notes_are root o z ∙ sym (append-nil _)
all_head_notes Inventories root o z =
    (λ i. head_notes_are root o z i ++ (head_notes root (z i) ++ version_notes root None (no_version root o _ z refl i)))
    ∙ ap (λ ns. head_notes_by root o (object_declared root o) ++ ns) (append-nil (root_inventory_notes (root_inventory root o)))

names_distinct : (v : Version) → IsDistinct text_eq (head_names v)
unfolding IsDistinct
names_distinct V1_0 = ((refl, (refl, (refl, tt))), ((refl, (refl, tt)), ((refl, tt), (tt, tt))))
names_distinct V1_1 = ((refl, (refl, (refl, tt))), ((refl, (refl, tt)), ((refl, tt), (tt, tt))))

names_apart : (v : Version) → AllPairs (λ n m. n ≢ m) (head_names v)
names_apart v = AllPairs-from_IsDistinct text_eq-Decides (head_names v) (names_distinct v)

names_meta : (v : Version) → list_all (λ n. is_object_meta (n ∷ [])) (head_names v) ≡ true
names_meta V1_0 = refl
names_meta V1_1 = refl

-- the declaration and the inventory alone
two_distinct : (v : Version) → IsDistinct text_eq (declaration_name level.Object v ∷ inventory_name ∷ [])
unfolding IsDistinct
two_distinct V1_0 = ((refl, tt), (tt, tt))
two_distinct V1_1 = ((refl, tt), (tt, tt))

two_meta : (v : Version) → list_all (λ n. is_object_meta (n ∷ [])) (declaration_name level.Object v ∷ inventory_name ∷ []) ≡ true
two_meta V1_0 = refl
two_meta V1_1 = refl

none_apart : AllPairs (λ (n m : Text). n ≢ m) []
none_apart i j d l k = absurd (omega (arith, l, k))

pub head_files_apart : (root : StorageRoot) (o : Place) (d : Declared) → AllPairs (λ n m. n ≢ m) (head_files root o d)
head_files_apart root o undeclared = none_apart
head_files_apart root o (unknown t) = none_apart
head_files_apart root o several = none_apart
head_files_apart root o (known v) = by (file_at root (o ++ inventory_name ∷ []))
  where
    bounded_by : (b : Bool) → AllPairs (λ n m. n ≢ m) (declaration_name level.Object v ∷ inventory_name ∷ cond b (sidecar_name Sha256 ∷ sidecar_name Sha512 ∷ []) [])
    bounded_by true = names_apart v
    bounded_by false = AllPairs-from_IsDistinct text_eq-Decides (declaration_name level.Object v ∷ inventory_name ∷ []) (two_distinct v)

    by : (f : Option Text) → AllPairs (λ n m. n ≢ m) (declaration_name level.Object v ∷ inventory_name ∷ sidecars_for f)
    by None = bounded_by false
    by (Some bytes) = bounded_by (nat_le (length bytes) inventory_limit)

pub head_files_meta : (root : StorageRoot) (o : Place) (d : Declared) → list_all (λ n. is_object_meta (n ∷ [])) (head_files root o d) ≡ true
head_files_meta root o undeclared = refl
head_files_meta root o (unknown t) = refl
head_files_meta root o several = refl
head_files_meta root o (known v) = by (file_at root (o ++ inventory_name ∷ []))
  where
    bounded_by : (b : Bool) → list_all (λ n. is_object_meta (n ∷ [])) (declaration_name level.Object v ∷ inventory_name ∷ cond b (sidecar_name Sha256 ∷ sidecar_name Sha512 ∷ []) []) ≡ true
    bounded_by true = names_meta v
    bounded_by false = two_meta v

    by : (f : Option Text) → list_all (λ n. is_object_meta (n ∷ [])) (declaration_name level.Object v ∷ inventory_name ∷ sidecars_for f) ≡ true
    by None = bounded_by false
    by (Some bytes) = bounded_by (nat_le (length bytes) inventory_limit)

pub declaration_is_meta : (v : Version) → is_object_meta (declaration_name level.Object v ∷ []) ≡ true
declaration_is_meta V1_0 = refl
declaration_is_meta V1_1 = refl

-- a file of an object was read, by a name that is the same
pub reads_as : (further : Further) (root : StorageRoot) (o : Place) (es : List Entry) (s t : Store) (n m : Text) (limit : ℕ) (r : Result (Option Bounded) Fault) → n ≡ m → is_object_meta (m ∷ []) ≡ true
    → IsListedObject root o es → (IsListing root o es → is_meta further root (o ++ n ∷ []) ≡ true → ReadsFile further root s t o n limit r) → ReadsFile further root s t o m limit r
reads_as further root o es s t n m limit r e meta here read =
    subst (λ x. ReadsFile further root s t o x limit r) e (read here.listing (file_is_meta further root o n here.zone (ap (λ x. is_object_meta (x ∷ [])) e ∙ meta)))

-- a file was read of which some entries tell, by a name that is the same
pub read_as : (further : Further) (root : StorageRoot) (o : Place) (es : List Entry) (s t : Store) (n m : Text) (limit : ℕ) (r : Result (Option Bounded) Fault) → n ≡ m
    → kind_in es m ≡ kind_at root o m → is_meta further root (o ++ m ∷ []) ≡ true
    → (kind_in es n ≡ kind_at root o n → is_meta further root (o ++ n ∷ []) ≡ true → ReadsFile further root s t o n limit r) → ReadsFile further root s t o m limit r
read_as further root o es s t n m limit r e tells meta read =
    subst (λ x. ReadsFile further root s t o x limit r) e (read (ap (kind_in es) e ∙ tells ∙ sym (ap (kind_at root o) e)) (ap (λ x. is_meta further root (o ++ x ∷ [])) e ∙ meta))

-- the entries of an object tell of its sidecars
pub object_sidecars : (further : Further) (root : StorageRoot) (o : Place) (es given : List Entry) → given ≡ es → IsListedObject root o es → HaveSidecars further root o given
object_sidecars further root o es given same here = record {
  told = (ap (λ xs. kind_in xs (sidecar_name Sha256)) same ∙ here.listing.each (sidecar_name Sha256), ap (λ xs. kind_in xs (sidecar_name Sha512)) same ∙ here.listing.each (sidecar_name Sha512));
  short = file_is_meta further root o (sidecar_name Sha256) here.zone refl;
  long = file_is_meta further root o (sidecar_name Sha512) here.zone refl;
}

module _ (further : Further) (root : StorageRoot) (o : Place) (z : zone root o ≡ inside o []) (v : Version) where
  pub known_lines : (none a b c d : PlaceLines) (r : Option RootInventory) → object_declared root o ≡ known v → HasLines none []
      → Adds none a (on (not (is_exact_declaration root o level.Object v)) (plain E007)) → Adds a b (inventory_file_notes root o (file_at root (o ++ inventory_name ∷ [])))
      → ((ns : List Note) → HasLines b ns → HasLines c (or_clean ns)) → Adds c d (root_notes_if further r) → r ≡ root_at further root o → HasLines d (notes further root None o)
  known_lines none a b c d r is has h k clean l same =
      let lines = clean (on (not (is_exact_declaration root o level.Object v)) (plain E007) ++ inventory_file_notes root o (file_at root (o ++ inventory_name ∷ [])))
      (has_more none b [] _ has (adds_both none a b _ _ h k)) in
      has_more c d _ _ lines l
      ∙ sym (all_head_notes further root o z ∙ (λ i. head_notes_by root o (is i) ++ root_notes_if further (sym same i)))

pub known_table : (root : StorageRoot) (o : Place) (v : Version) (table : Option Table) → object_declared root o ≡ known v
    → table ≡ table_in (file_at root (o ++ inventory_name ∷ [])) → table ≡ table_at root o
known_table root o v table same given = given ∙ sym (ap (λ d. table_in (cond (is_known d) (file_at root (o ++ inventory_name ∷ [])) None)) same)

-- the root inventory, by the file
abbrev root_of_file : Option Text → Option RootInventory
root_of_file file = option_and_then (λ bytes. option_map (root_inventory_of bytes) (table_in file)) file

root_by_file : (file : Option Text) → root_of_file file ≡ root_in Inventories file
root_by_file None = refl
root_by_file (Some bytes) = by (nat_le (length bytes) inventory_limit)
  where
    by : (b : Bool) → option_map (root_inventory_of bytes) (cond b (table_of bytes) None) ≡ cond b (option_map (root_inventory_of bytes) (table_of bytes)) None
    by true = refl
    by false = refl

none_asked : (file : Option Text) → root_in Nothing file ≡ None
none_asked None = refl
none_asked (Some bytes) = by (nat_le (length bytes) inventory_limit)
  where
    by : (b : Bool) → ◌≡◌ {A = Option RootInventory} (cond b None None) None
    by true = refl
    by false = refl

root_of_known : (further : Further) (root : StorageRoot) (o : Place) (r : Option RootInventory) → is_known (object_declared root o) ≡ true
    → r ≡ root_in further (file_at root (o ++ inventory_name ∷ [])) → r ≡ root_at further root o
root_of_known Nothing root o r same given = given ∙ none_asked (file_at root (o ++ inventory_name ∷ []))
root_of_known Inventories root o r same given =
    given ∙ sym (ap (λ b. root_of_file (cond b (file_at root (o ++ inventory_name ∷ [])) None)) same ∙ root_by_file (file_at root (o ++ inventory_name ∷ [])))

pub known_root : (further : Further) (root : StorageRoot) (o : Place) (v : Version) (r : Option RootInventory) → object_declared root o ≡ known v
    → r ≡ root_in further (file_at root (o ++ inventory_name ∷ [])) → r ≡ root_at further root o
known_root further root o v r same given = root_of_known further root o r (ap is_known same) given

pub object_root : (further : Further) (root : StorageRoot) (o : Place) (es : List Entry) → IsObject root o es → (r : Option RootInventory)
    → r ≡ root_in further (file_at root (o ++ inventory_name ∷ [])) → r ≡ root_at further root o
object_root further root o es h r given = root_of_known further root o r h.known given

stopped_root : (further : Further) (root : StorageRoot) (o : Place) → is_known (object_declared root o) ≡ false → None ≡ root_at further root o
stopped_root Nothing root o stops = refl
stopped_root Inventories root o stops = sym (ap (λ b. root_of_file (cond b (file_at root (o ++ inventory_name ∷ [])) None)) stops)

pub stopped_head : (further : Further) (root : StorageRoot) (o : Place) (es : List Entry) (m : MadeDeclared) (lines : PlaceLines) → IsDeclared root o es m
    → is_known (meaning level.Object es m) ≡ false → HasLines lines (head_notes_by root o (meaning level.Object es m))
    → IsHeadOf further root o (lines, None, None)
stopped_head further root o es m lines h stops k =
    let unknown : is_known (object_declared root o) ≡ false = ap is_known (sym h.says) ∙ stops in
    let none = stopped_root further root o unknown in (
      k ∙ sym (all_head_notes further root o h.zone ∙ (λ i. head_notes_by root o (sym h.says i) ++ root_notes_if further (sym none i)) ∙ noteless further _),
      sym (ap (λ b. table_in (cond b (file_at root (o ++ inventory_name ∷ [])) None)) unknown),
      none,
    )
  where
    noteless : (further : Further) (ns : List Note) → ns ++ root_notes_if further None ≡ ns
    noteless Nothing ns = append-nil ns
    noteless Inventories ns = append-nil ns
