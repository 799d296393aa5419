-- The lines of an object's head, from files that were read before.
use Rattle.std.proofs.Common.{◌≡◌, ℕ, ◌<◌, ◌≤◌, List, [], ◌∷◌, ◌++◌, Bool, true, false, Option, Some, None, Ok, Err, length, refl, sym, ◌∙◌, ap, cond, subst, arith}
use Rattle.std.proofs.{lemmas.Slice.Eq.{starts_is}, lemmas.Bool.{false_from_ne_true, Decides.{Decides-eqb}}}
use Rattle.std.specs.{Prelude.{◌&&◌, nat_eq, is_some, slice_get, IfSome}, List.{starts_with}}
use Rattle.std.specs.Result.{result_ok}
use Rattle.ocfl_tree.specs.{Place.{Place, Text, text_eq}, StorageRoot.{StorageRoot, file_at}}
use Rattle.ocfl_tree.specs.{declared.store.Entry.{Entry}, declared.store.Kind.{Kind}}
use Rattle.ocfl_tree.specs.declared.store.Kind.TheVariants.{File, Dir, Other}
use Rattle.ocfl_tree.proofs.{Bools.{and_first}, Orders.{true_not_false}}
use Rattle.ocfl_inventory.specs.{Note.{note, Note}, Reading.{Reading, algorithm_of}}
use Rattle.ocfl_inventory.specs.{Notes.{notes_of}, Sidecar.{sidecar_digits}}
use Rattle.ocfl_inventory.specs.Declaration.{Declared, unknown, prefix, after_prefix, declaration_name, declaration_bytes, is_declaration}
use Rattle.ocfl_inventory.specs.Entries.{is_file, is_counted, meaning, unknown_by, PointsAtOne}
use Rattle.ocfl_inventory.specs.declared.declaration.Level.{Level}
use Rattle.ocfl_inventory.specs.declared.declaration.Level.TheVariants.{Root, Object}
use Rattle.ocfl_inventory.specs.declared.declaration.Declared.{Declared as MadeDeclared}
use Rattle.ocfl_inventory.specs.declared.declaration.Version.{Version}
use Rattle.ocfl_inventory.specs.declared.declaration.Version.TheVariants.{V1_0, V1_1}
use Rattle.ocfl_report.specs.declared.code.Code.TheVariants.{S01}
use Rattle.ocfl_digest.specs.{Bounded.{IsBoundedTo}, Digest.{digest_bytes_of}, Digests.{AreDigests}}
use Rattle.ocfl_digest.specs.{Wanted.{wants}, declared.algorithm.Algorithm.{Algorithm}}
use Rattle.ocfl_digest.specs.declared.bounded.Bounded.{Bounded}
use Rattle.ocfl_digest.specs.{declared.digests.Digests.{Digests}, declared.wanted.Wanted.{Wanted}}
use Rattle.ocfl_rules.specs.{Zone.{is_known}, Head.{is_exact_declaration, inventory_part}}
use Rattle.ocfl_inventory.specs.declared.declaration.Declared.TheVariants as made
use Rattle.ocfl_item.specs.Internal.HeadFiles.{IsFileAt}
use Rattle.ocfl_item.specs.Internal.HeadLines.{HasDigestFor, declared_notes, named_notes}
use Rattle.ocfl_rules.proofs.BelowLaws.{text_from_test}
use Rattle.ocfl_item.proofs.InventoryLaws.{stopped_notes, stated_has_sidecar}

-- ---- declarations

short_declaration : (l : Level) (v : Version) → length (declaration_bytes l v) ≤ 4096
short_declaration Root V1_0 = omega arith
short_declaration Root V1_1 = omega arith
short_declaration Object V1_0 = omega arith
short_declaration Object V1_1 = omega arith

pub long_is_other : (text bytes : Text) (limit : ℕ) → limit < length text → length bytes ≤ limit → text_eq text bytes ≡ false
long_is_other text bytes limit long short = false_from_ne_true (text_eq text bytes) (λ e. omega (arith, ap length (text_from_test text bytes e)))

pub exact_by : (root : StorageRoot) (o : Place) (l : Level) (v : Version) (f : Option Bounded) (b : Bounded) (exact : Text) (r : Bool) → f ≡ Some b → exact ≡ declaration_bytes l v
    → ((text : Text) → IsBoundedTo 4096 text b → length exact ≤ 4096 → r ≡ text_eq text exact)
    → IsFileAt root (o ++ declaration_name l v ∷ []) 4096 f → r ≡ is_exact_declaration root o l v
exact_by root o l v f b exact r is same told h =
    let read : IsFileAt root (o ++ declaration_name l v ∷ []) 4096 (Some b) = subst (IsFileAt root (o ++ declaration_name l v ∷ []) 4096) is h in
    told read.0 read.2 (subst (λ t. length t ≤ 4096) (sym same) (short_declaration l v)) ∙ ap (text_eq read.0) same ∙ sym (exactly read.0 read.1)
  where
    exactly : (bytes : Text) → file_at root (o ++ declaration_name l v ∷ []) ≡ Some bytes → is_exact_declaration root o l v ≡ text_eq bytes (declaration_bytes l v)
    exactly bytes at = rw at

-- ---- heads that stop

pub counted_begins : (l : Level) (e : Entry) → is_counted l e ≡ true → e.name ≡ prefix l ++ after_prefix l e.name
counted_begins l e h = by e.kind h
  where
    by : (k : Kind) → is_file k && is_declaration l e.name ≡ true → e.name ≡ prefix l ++ after_prefix l e.name
    by File g = (starts_is Decides-eqb e.name (prefix l) (starts_with nat_eq e.name (prefix l)) refl).0 (and_first _ _ g)
    by Dir g = absurd (true_not_false (sym g))
    by Other g = absurd (true_not_false (sym g))

-- the name of a declaration whose version is not known
pub record IsUnknown (root : StorageRoot) (o : Place) (l : Level) (d : Declared) (name : Text) : Type 0 where
  pub begins : name ≡ prefix l ++ after_prefix l name
  pub lines : declared_notes root o l d ≡ note S01 (after_prefix l name) ∷ []

unknown_lines : (root : StorageRoot) (o : Place) (l : Level) (t : Text) → declared_notes root o l (unknown t) ≡ note S01 t ∷ []
unknown_lines root o Root t = refl
unknown_lines root o Object t = refl

pub unknown_name : (root : StorageRoot) (o : Place) (l : Level) (es : List Entry) (d : MadeDeclared) (i : ℕ) (e : Entry) → d ≡ made.Unknown i
    → slice_get es i ≡ Some e → PointsAtOne l es d → IsUnknown root o l (meaning l es d) e.name
unknown_name root o l es d i e is at points =
    let one : PointsAtOne l es (made.Unknown i) = subst (PointsAtOne l es) is points in
    let both : Some one.0 ≡ Some e = sym one.1 ∙ at in
    let same : one.0 ≡ e = cc in
    record {
      begins = counted_begins l e (subst (λ x. is_counted l x ≡ true) same one.2);
      lines = ap (λ x. declared_notes root o l (meaning l es x)) is ∙ ap (λ x. declared_notes root o l (unknown_by l x)) at ∙ unknown_lines root o l (after_prefix l e.name);
    }

-- the entry of an unknown version is there
pub unknown_there : (l : Level) (es : List Entry) (d : MadeDeclared) (i : ℕ) → d ≡ made.Unknown i → slice_get es i ≡ None → PointsAtOne l es d → ⊥
unknown_there l es d i is at points =
    let one : PointsAtOne l es (made.Unknown i) = subst (PointsAtOne l es) is points in
    let both = sym at ∙ one.1 in
    cc

-- what declares no one known version stops
pub unknown_stops : (l : Level) (es : List Entry) (m : MadeDeclared) → ((v : Version) → m ≡ made.One v → ⊥) → PointsAtOne l es m → is_known (meaning l es m) ≡ false
unknown_stops l es made.None none k = refl
unknown_stops l es (made.One v) none k = absurd (none v refl)
unknown_stops l es (made.Unknown i) none k = ap (λ e. is_known (unknown_by l e)) k.1
unknown_stops l es made.Several none k = refl

-- ---- what an inventory says

part_is : (root : StorageRoot) (o : Place) (bytes : Text) → named_notes root o (result_ok (algorithm_of bytes)) ++ notes_of bytes ≡ inventory_part root o bytes (algorithm_of bytes)
part_is root o bytes = by (algorithm_of bytes) refl
  where
    by : (r : Reading Algorithm) → algorithm_of bytes ≡ r → named_notes root o (result_ok r) ++ notes_of bytes ≡ inventory_part root o bytes r
    by (Ok a) e = refl
    by (Err n) e = stopped_notes bytes n e

pub read_part : (root : StorageRoot) (o : Place) (bytes : Text) (a : Option Algorithm) (said : List Note) → a ≡ result_ok (algorithm_of bytes) → said ≡ notes_of bytes
    → named_notes root o a ++ said ≡ inventory_part root o bytes (algorithm_of bytes)
read_part root o bytes a said is read = (λ i. named_notes root o (is i) ++ read i) ∙ part_is root o bytes

pub named_have_sidecars : (bytes : Text) (a : Option Algorithm) → a ≡ result_ok (algorithm_of bytes) → IfSome a (λ x. is_some (sidecar_digits x) ≡ true)
named_have_sidecars bytes a is = subst (λ o. IfSome o (λ x. is_some (sidecar_digits x) ≡ true)) (sym is) (by (algorithm_of bytes) refl)
  where
    by : (r : Reading Algorithm) → algorithm_of bytes ≡ r → IfSome (result_ok r) (λ x. is_some (sidecar_digits x) ≡ true)
    by (Ok a) e = stated_has_sidecar bytes a e
    by (Err n) e = tt

-- the digest of an algorithm is there, if it is wanted for each sidecar that is
pub digest_wanted : (w : Wanted) (bytes : Text) (digests : Digests) (file : Option Bounded) (a : Algorithm)
    → AreDigests w bytes digests → (is_some file ≡ true → wants w a ≡ true) → HasDigestFor file a bytes digests
digest_wanted w bytes digests file a are wanted there =
    are.each a ∙ ap (λ b. cond b (Some (digest_bytes_of a bytes)) None) (wanted there)
