-- Places without some of them.
use Rattle.std.proofs.Common.{◌≡◌, ◌≢◌, List, [], ◌∷◌, ◌++◌, Bool, true, false, cond, All, refl, sym, ap, subst, ◌∙◌, append-nil}
use Rattle.std.specs.Prelude.{filter, not}
use Rattle.std.proofs.lemmas.{List.Elements.{All-head, filter-append, filter_passes}}
use Rattle.ocfl_tree.specs.Place.{Place}

-- how far they are gone through: the others that are left are those of the places that are left
pub record AreApart (all others done left kept ahead : List Place) : Type 0 where
  pub kept_are : (f : Place → Bool) → others ≡ filter f all → kept ≡ filter (λ p. not (f p)) done
  pub ahead_are : (f : Place → Bool) → others ≡ filter f all → ahead ≡ filter f left

head_same : (p q : Place) (ps qs : List Place) → p ∷ ps ≡ q ∷ qs → p ≡ q
head_same p q ps qs e = cc

tail_same : (p q : Place) (ps qs : List Place) → p ∷ ps ≡ q ∷ qs → ps ≡ qs
tail_same p q ps qs e = cc

-- the first of them is another one
one_of : (f : Place → Bool) (p : Place) (more left : List Place) → p ∷ more ≡ filter f (p ∷ left) → f p ≡ true
one_of f p more left e = All-head (λ q. f q ≡ true) p more (subst (All (λ q. f q ≡ true)) (sym e) (filter_passes f (p ∷ left)))

pub passed_over : (all others done left rest kept ahead more : List Place) (p : Place) → left ≡ p ∷ rest → ahead ≡ p ∷ more → AreApart all others done left kept ahead → AreApart all others (done ++ p ∷ []) rest kept more
passed_over all others done left rest kept ahead more p next first a = record {
  kept_are = λ f e.
      let is = passes f e in
      a.kept_are f e ∙ sym (append-nil (filter (λ q. not (f q)) done)) ∙ ap (λ b. filter (λ q. not (f q)) done ++ cond (not b) (p ∷ []) []) (sym is) ∙ sym (filter-append (λ q. not (f q)) done (p ∷ []));
  ahead_are = λ f e. tail_same p p more (filter f rest) (same f e ∙ ap (λ b. cond b (p ∷ filter f rest) (filter f rest)) (passes f e));
}
  where
    same : (f : Place → Bool) → others ≡ filter f all → p ∷ more ≡ filter f (p ∷ rest)
    same f e = sym first ∙ a.ahead_are f e ∙ ap (filter f) next

    passes : (f : Place → Bool) → others ≡ filter f all → f p ≡ true
    passes f e = one_of f p more rest (same f e)

pub kept_one : (all others done left rest kept ahead new : List Place) (p : Place) → left ≡ p ∷ rest → ((more : List Place) → ahead ≢ p ∷ more) → new ≡ kept ++ p ∷ [] → AreApart all others done left kept ahead
    → AreApart all others (done ++ p ∷ []) rest new ahead
kept_one all others done left rest kept ahead new p next other is a = record {
  kept_are = λ f e.
      let no = fails f e in
      is ∙ ap (λ ps. ps ++ p ∷ []) (a.kept_are f e) ∙ ap (λ b. filter (λ q. not (f q)) done ++ cond (not b) (p ∷ []) []) (sym no) ∙ sym (filter-append (λ q. not (f q)) done (p ∷ []));
  ahead_are = λ f e. a.ahead_are f e ∙ ap (filter f) next ∙ ap (λ b. cond b (p ∷ filter f rest) (filter f rest)) (fails f e);
}
  where
    by : (f : Place → Bool) (b : Bool) → f p ≡ b → ahead ≡ filter f (p ∷ rest) → b ≡ false
    by f true e h = absurd (other (filter f rest) (h ∙ ap (λ b. cond b (p ∷ filter f rest) (filter f rest)) e))
    by f false e h = refl

    fails : (f : Place → Bool) → others ≡ filter f all → f p ≡ false
    fails f e = by f (f p) refl (a.ahead_are f e ∙ ap (filter f) next)

pub apart_begun : (all others : List Place) → AreApart all others [] all [] others
apart_begun all others = record { kept_are = λ f e. refl; ahead_are = λ f e. e }
