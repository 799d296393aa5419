-- What the calls of the system over a tree in memory give.
use Rattle.std.proofs.Common.{◌≡◌, ◌≢◌, ◌⊎◌, inl, inr, ℕ, ◌+◌, ◌-◌, Bool, true, false, cond, List, [], ◌∷◌, ◌++◌, length, take, drop, Option, Some, None, sym, ◌∙◌, ap, refl, arith, length-append}
use Rattle.std.proofs.Math.Seq.{take-append_seam}
use Rattle.std.proofs.lemmas.List.{take-append-drop, drop-drop}
use Rattle.ocfl_tree.specs.{Place.{Text, Place, text_eq}, Ascending.{IsAmong}}
use Rattle.ocfl_tree.specs.{StorageRoot.{StorageRoot}, Store.{Store}}
use Rattle.ocfl_tree.specs.Listing.{kind_in, IsListing}
use Rattle.ocfl_tree.specs.declared.store.Entry.{Entry}
use Rattle.ocfl_tree.proofs.Places.{text_eq-Decides}
use Rattle.ocfl_folder.specs.{System.{AreNames}, Noted.{with_answer, with_read, with_room}}
use Rattle.ocfl_folder.specs.declared.answer.Answer.{Answer}
use Rattle.ocfl_folder.specs.declared.answer.Answer.TheVariants.{Listed, NotListed, Opened, NotOpened}
use Rattle.ocfl_folder.specs.declared.answer.ReadAnswer.{ReadAnswer}
use Rattle.ocfl_folder.specs.declared.answer.ReadAnswer.TheVariants.{Gave, Failed, NoFile}
use Rattle.ocfl_memory.specs.MemSystem.{standing}
use Rattle.ocfl_memory.proofs.{Listings.{names_of, not_among_names}, Seen.{rest_slice}}

-- ---- the names of a listing

among_names : (es : List Entry) (n : Text) → kind_in es n ≢ None → IsAmong (names_of es) n
among_names [] n h = h refl
among_names (e ∷ es) n h = by (text_eq e.name n) refl h (among_names es n)
  where
    by : (b : Bool) → text_eq e.name n ≡ b → cond b (Some e.kind) (kind_in es n) ≢ None → (kind_in es n ≢ None → IsAmong (names_of es) n) → (n ≡ e.name) ⊎ IsAmong (names_of es) n
    by true t k more = inl (sym ((text_eq-Decides e.name n).0 t))
    by false t k more = inr (more k)

pub names_are : (root : StorageRoot) (p : Place) (es : List Entry) → IsListing root p es → AreNames root p (names_of es)
names_are root p es h = record {
  directory = h.directory;
  each = λ n. (λ i none. not_among_names es n (h.each n ∙ none) i, λ k. among_names es n (λ none. k (sym (h.each n) ∙ none)));
}

-- ---- a read

pub given_splits : (offset n : ℕ) (bytes left given : Text) → left ≡ take (length bytes - offset) (drop offset bytes) → given ≡ take n left → drop offset bytes ≡ given ++ drop (offset + n) bytes
given_splits offset n bytes left given rest is =
    let whole : left ≡ drop offset bytes = rest ∙ rest_slice offset bytes in
    sym (take-append-drop n (drop offset bytes)) ∙ ap (λ ys. take n (drop offset bytes) ++ ys) (drop-drop n offset bytes)
    ∙ ap (λ ys. ys ++ drop (offset + n) bytes) (sym (is ∙ ap (take n) whole))

-- ---- the directory above

pub without_last : (p : Place) (n : Text) → take (length (p ++ n ∷ []) - 1) (p ++ n ∷ []) ≡ p
without_last p n =
    let long : length (p ++ n ∷ []) - 1 ≡ length p = omega (arith, length-append p (n ∷ [])) in
    ap (λ k. take k (p ++ n ∷ [])) long ∙ take-append_seam p (n ∷ [])

-- ---- notes

pub noted_answer : (root : StorageRoot) (s : Store) (here : Option Place) (a : Answer) (p : Place)
    → standing root (with_answer a p s) here ≡ record { store = with_answer a p (standing root s here).store; here = here }
noted_answer root s here Listed p = refl
noted_answer root s here NotListed p = refl
noted_answer root s here Opened p = refl
noted_answer root s here NotOpened p = refl

pub noted_read : (root : StorageRoot) (s : Store) (here : Option Place) (a : ReadAnswer) (room : ℕ)
    → standing root (with_read a (with_room room s)) here ≡ record { store = with_read a (with_room room (standing root s here).store); here = here }
noted_read root s here (Gave n) room = refl
noted_read root s here Failed room = refl
noted_read root s here NoFile room = refl
