-- Which inventories are among the files that were opened.
use Rattle.std.proofs.Common.{◌≡◌, arith, length, List, [], ◌∷◌, ◌++◌, refl, sym, ◌∙◌, ap, subst, true, false, Bool, map, filter, is_some, append_assoc}
use Rattle.std.proofs.lemmas.List.{length-map}
use Rattle.std.specs.Prelude.{None, Option, Some, nat_le, cond, ◌&&◌, not}
use Rattle.std.specs.List.{list_all, AllByRecursion}
use Rattle.ocfl_tree.specs.{Place.{Text, Place, text_eq}, StorageRoot.{StorageRoot, file_at}}
use Rattle.ocfl_tree.specs.declared.store.Opening.{Opening}
use Rattle.ocfl_digest.specs.declared.algorithm.Algorithm.TheVariants.{Sha256, Sha512}
use Rattle.ocfl_inventory.specs.Declaration.{declaration_name, Declared, undeclared, known, unknown, several}
use Rattle.ocfl_inventory.specs.declared.declaration.Level.TheVariants.{Object}
use Rattle.ocfl_inventory.specs.declared.declaration.Version.{Version}
use Rattle.ocfl_inventory.specs.declared.declaration.Version.TheVariants.{V1_0, V1_1}
use Rattle.ocfl_tree.proofs.Orders.{true_not_false}
use Rattle.ocfl_rules.specs.Zone.{inside, zone, inventory_name, is_known, inventory_at, inventory_limit, object_declared}
use Rattle.ocfl_rules.specs.Trail.{places_of, heads_of, inventory_of, is_head, reads_inventory}
use Rattle.ocfl_rules.specs.Head.{sidecar_name, on}
use Rattle.ocfl_item.specs.{Looking.{IsFront}, Ways.{AreInventories}, HeadFiles.{files_there}}
use Rattle.ocfl_item.specs.Internal.HeadFiles.{head_files, sidecars_for}
use Rattle.ocfl_item.proofs.{FileLaws.{there_then}, LooksZones.{inside_on}}

abbrev pub heads_at : StorageRoot → List Place → List Place
heads_at root [] = []
heads_at root (p ∷ ps) = inventory_of (zone root p) ++ heads_at root ps

pub heads_are : (root : StorageRoot) (trail : List Opening) → heads_of root trail ≡ heads_at root (places_of trail)
heads_are root [] = refl
heads_are root (x ∷ trail) = ap (λ zs. inventory_of (zone root x.place) ++ zs) (heads_are root trail)

pub heads_append : (root : StorageRoot) (ps qs : List Place) → heads_at root (ps ++ qs) ≡ heads_at root ps ++ heads_at root qs
heads_append root [] qs = refl
heads_append root (p ∷ ps) qs = ap (λ zs. inventory_of (zone root p) ++ zs) (heads_append root ps qs) ∙ sym (append_assoc (inventory_of (zone root p)) (heads_at root ps) (heads_at root qs))

abbrev is_other : Text → Bool
is_other n = not (text_eq n inventory_name)

module _ (root : StorageRoot) (o : Place) (z : zone root o ≡ inside o []) where
  heads_none : (ns : List Text) → list_all is_other ns ≡ true → heads_at root (files_there root o ns) ≡ []
  heads_none [] h = refl
  heads_none (n ∷ ns) h = by (text_eq n inventory_name) refl h (is_some (file_at root (o ++ n ∷ []))) (heads_none ns)
    where
      by : (b : Bool) → text_eq n inventory_name ≡ b → not b && list_all is_other ns ≡ true → (c : Bool) → (list_all is_other ns ≡ true → heads_at root (files_there root o ns) ≡ [])
          → heads_at root (map (λ m. o ++ m ∷ []) (cond c (n ∷ filter (λ m. is_some (file_at root (o ++ m ∷ []))) ns) (filter (λ m. is_some (file_at root (o ++ m ∷ []))) ns))) ≡ []
      by true e k c rest = absurd (true_not_false (sym k))
      by false e k false rest = rest k
      by false e k true rest = (λ i. inventory_of (inside_on root o o [] (n ∷ []) z i) ++ rest k i) ∙ ap (λ b. cond b (o ∷ []) [] ++ []) e

  heads_one : (ns : List Text) → list_all is_other ns ≡ true → heads_at root (files_there root o (inventory_name ∷ ns)) ≡ on (is_some (file_at root (o ++ inventory_name ∷ []))) o
  heads_one ns h = by (is_some (file_at root (o ++ inventory_name ∷ [])))
    where
      by : (c : Bool) → heads_at root
          (map (λ m. o ++ m ∷ []) (cond c (inventory_name ∷ filter (λ m. is_some (file_at root (o ++ m ∷ []))) ns) (filter (λ m. is_some (file_at root (o ++ m ∷ []))) ns))) ≡ on c o
      by false = heads_none ns h
      by true = λ i. inventory_of (inside_on root o o [] (inventory_name ∷ []) z i) ++ heads_none ns h i

  -- the head of an object of known version reads its inventory if it has one
  reads_is : (d : Declared) → object_declared root o ≡ d → reads_inventory root o ≡ is_some (cond (is_known d) (file_at root (o ++ inventory_name ∷ [])) None)
  reads_is d e = ap (λ b. b && is_some (inventory_at root o)) (ap is_head z) ∙ ap (λ x. is_some (cond (is_known x) (file_at root (o ++ inventory_name ∷ [])) None)) e

  reads_known : is_known (object_declared root o) ≡ true → reads_inventory root o ≡ is_some (file_at root (o ++ inventory_name ∷ []))
  reads_known version = reads_is (object_declared root o) refl ∙ ap (λ b. is_some (cond b (file_at root (o ++ inventory_name ∷ [])) None)) version

  -- of the files of a head at most the inventory of its object
  abbrev IsOwn : Place → Type 0
  IsOwn p = p ≡ o ++ inventory_name ∷ []

  each_own : (ps : List Place) → AllByRecursion IsOwn ps → length (heads_at root ps) ≡ length ps
  each_own [] h = refl
  each_own (p ∷ ps) h =
      let one : inventory_of (zone root p) ≡ o ∷ [] = ap (λ x. inventory_of (zone root x)) h.0 ∙ ap inventory_of (inside_on root o o [] (inventory_name ∷ []) z) in
      ap (λ xs. length (xs ++ heads_at root ps)) one ∙ (let more = each_own ps h.1 in omega (arith, more))

  front_own : (xs ys : List Place) → AllByRecursion IsOwn (xs ++ ys) → AllByRecursion IsOwn xs
  front_own [] ys h = tt
  front_own (x ∷ xs) ys h = (h.0, front_own xs ys h.1)

  -- and nothing else
  pub inventory_alone : (trail : List Opening) → IsFront (places_of trail) (files_there root o (inventory_name ∷ [])) → AreInventories root trail
  inventory_alone trail h =
      let own = front_own (places_of trail) h.0 (subst (AllByRecursion IsOwn) h.1 (by (is_some (file_at root (o ++ inventory_name ∷ []))))) in
      let all = each_own (places_of trail) own in
      let same = ap length (heads_are root trail) in
      let long = length-map trail (λ x. x.place) in
      omega (arith, all, same, long)
    where
      by : (c : Bool) → AllByRecursion IsOwn (map (λ m. o ++ m ∷ []) (cond c (inventory_name ∷ []) []))
      by true = (refl, tt)
      by false = tt

  pub inventory_opened : (trail : List Opening) → is_known (object_declared root o) ≡ true
      → IsFront (places_of trail) (files_there root o (inventory_name ∷ [])) → IsFront (heads_of root trail) (on (reads_inventory root o) o)
  inventory_opened trail version h =
      let front : IsFront (heads_at root (places_of trail)) (heads_at root (files_there root o (inventory_name ∷ []))) =
      (heads_at root h.0, ap (heads_at root) h.1 ∙ heads_append root (places_of trail) h.0) in
      subst (λ l. IsFront l (on (reads_inventory root o) o)) (sym (heads_are root trail))
      (subst (IsFront (heads_at root (places_of trail))) (heads_one [] refl ∙ sym (ap (λ b. on b o) (reads_known version))) front)

  -- among the files of a head its inventory, if it has one
  pub heads_exact : heads_at root (files_there root o (head_files root o (object_declared root o))) ≡ on (reads_inventory root o) o
  heads_exact = by (object_declared root o) refl
    where
      behind : (n : Text) (ns : List Text) → is_other n ≡ true → list_all is_other ns ≡ true
          → heads_at root (files_there root o (n ∷ inventory_name ∷ ns)) ≡ on (is_some (file_at root (o ++ inventory_name ∷ []))) o
      behind n ns e h =
          ap (heads_at root) (there_then root o (n ∷ []) (inventory_name ∷ ns)) ∙ heads_append root (files_there root o (n ∷ [])) (files_there root o (inventory_name ∷ ns))
          ∙ ap (λ l. l ++ heads_at root (files_there root o (inventory_name ∷ ns))) (heads_none (n ∷ []) (ap (λ b. b && true) e)) ∙ heads_one ns h

      sides : (f : Option Text) → list_all is_other (sidecars_for f) ≡ true
      sides None = refl
      sides (Some bytes) = go (nat_le (length bytes) inventory_limit)
        where
          go : (c : Bool) → list_all is_other (cond c (sidecar_name Sha256 ∷ sidecar_name Sha512 ∷ []) []) ≡ true
          go true = refl
          go false = refl

      named : (v : Version) → is_other (declaration_name Object v) ≡ true
      named V1_0 = refl
      named V1_1 = refl

      by : (d : Declared) → object_declared root o ≡ d → heads_at root (files_there root o (head_files root o d)) ≡ on (reads_inventory root o) o
      by undeclared e = sym (ap (λ b. on b o) (reads_is undeclared e))
      by (known v) e = behind (declaration_name Object v) (sidecars_for (file_at root (o ++ inventory_name ∷ []))) (named v)
          (sides (file_at root (o ++ inventory_name ∷ []))) ∙ sym (ap (λ b. on b o) (reads_is (known v) e))
      by (unknown t) e = sym (ap (λ b. on b o) (reads_is (unknown t) e))
      by several e = sym (ap (λ b. on b o) (reads_is several e))
