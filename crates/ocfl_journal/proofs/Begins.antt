-- A name in a folder that is the last one of a path.
use Rattle.std.proofs.Common.{◌≡◌, ◌∙◌, ◌↔◌, ◌++◌, ◌∷◌, [], ap, sym, refl, Bool, true, false, IsTrue, nat_eq}
use Rattle.std.proofs.lemmas.{Bool.{false≢true}, Slice.Eq.{bytes_eq-Decides}}
use Rattle.std.specs.Cmp.Lexicographic.{pointwise}
use Rattle.ocfl_tree.specs.{Place.{Place, Text}, Path.{names_of, slashed}}
use Rattle.ocfl_tree.proofs.Paths.{slashed_names}
use Rattle.ocfl_journal.specs.Begun.{IsLastOf, from_top}

-- the last of two lists that are one, and what is before it
last_same : (p q : Place) (n m : Text) → p ++ n ∷ [] ≡ q ++ m ∷ [] → n ≡ m
last_same [] [] n m e = cc
last_same [] (y ∷ []) n m e = absurd (cc)
last_same [] (y ∷ z ∷ q) n m e = absurd (cc)
last_same (x ∷ []) [] n m e = absurd (cc)
last_same (x ∷ w ∷ p) [] n m e = absurd (cc)
last_same (x ∷ p) (y ∷ q) n m e = last_same p q n m (cc)

front_same : (p q : Place) (n m : Text) → p ++ n ∷ [] ≡ q ++ m ∷ [] → p ≡ q
front_same [] [] n m e = refl
front_same [] (y ∷ []) n m e = absurd (cc)
front_same [] (y ∷ z ∷ q) n m e = absurd (cc)
front_same (x ∷ []) [] n m e = absurd (cc)
front_same (x ∷ w ∷ p) [] n m e = absurd (cc)
front_same (x ∷ p) (y ∷ q) n m e = let rest : p ≡ q = front_same p q n m (cc) in cc

-- a name in the folder of a place's own path
pub last_of : (folder name above last path : Text) (root : Place) → folder ≡ 47 ∷ path → path ≡ above → name ≡ last → root ≡ names_of above ++ last ∷ [] → IsLastOf folder name root
last_of folder name above last path root is same named e =
    (names_of above, is ∙ ap (λ t. 47 ∷ t) (same ∙ sym (slashed_names above)), e ∙ ap (λ n. names_of above ++ n ∷ []) (sym named))

pub last_only : (folder name above last : Text) (root : Place) → root ≡ names_of above ++ last ∷ [] → IsLastOf folder name root → name ≡ last
last_only folder name above last root e h = last_same h.0 (names_of above) name last (sym h.2 ∙ e)

pub above_only : (folder name above last path : Text) (root : Place) → folder ≡ 47 ∷ path → root ≡ names_of above ++ last ∷ [] → IsLastOf folder name root → path ≡ above
above_only folder name above last path root is e h =
    let front : h.0 ≡ names_of above = front_same h.0 (names_of above) name last (sym h.2 ∙ e) in
    let whole : 47 ∷ path ≡ 47 ∷ slashed (names_of above) = sym is ∙ h.1 ∙ ap from_top front in
    let rest : path ≡ slashed (names_of above) = cc in
    rest ∙ slashed_names above

-- both tests tell, and no folder is above the root of all
pub last_so : (r : Bool) (folder name above last path text : Text) (root : Place) → folder ≡ 47 ∷ path → root ≡ names_of above ++ last ∷ [] → pointwise nat_eq name last ≡ true → text ≡ above → r ≡ pointwise nat_eq path text → IsTrue r ↔ IsLastOf folder name root
last_so r folder name above last path text root is e named same told = (
  λ h. last_of folder name above last path root is ((bytes_eq-Decides path text).0 (sym told ∙ h) ∙ same) ((bytes_eq-Decides name last).0 named) e,
  λ h. told ∙ (bytes_eq-Decides path text).1 (above_only folder name above last path root is e h ∙ sym same),
)

pub last_not : (r : Bool) (folder name above last : Text) (root : Place) → root ≡ names_of above ++ last ∷ [] → r ≡ pointwise nat_eq name last → r ≡ false → IsTrue r ↔ IsLastOf folder name root
last_not r folder name above last root e told other = (
  λ h. absurd (false≢true (sym other ∙ h)),
  λ h. told ∙ (bytes_eq-Decides name last).1 (last_only folder name above last root e h),
)
