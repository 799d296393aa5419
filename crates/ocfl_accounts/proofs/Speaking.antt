-- A closing that was said over what was kept.
use Rattle.std.proofs.Common.{◌≡◌, ◌∙◌, ap, refl, sym, subst, false, Bool, List}
use Rattle.ocfl_tree.specs.Place.{Text}
use Rattle.ocfl_compare.specs.declared.change.ChangeAt.{ChangeAt}
use Rattle.ocfl_say.specs.Said.{Said, HasSaid, Grows}
use Rattle.ocfl_accounts.specs.{Cycle.{Cycle, there}, Kept.{Kept, has_account, no_accounts}, Changes.{AreChanges, Says}}
use Rattle.ocfl_accounts.specs.{Pairs.{IsPair}, Telling.{IsAccountSaid}, declared.pair.Pair.{Pair}}

-- what was found over what calls showed then is found over what they showed first
pub account_said : {With : Type 0} (k l : Kept) (now : Cycle) (says : With → Says) (v w : With) (s t : Said) (pair : Pair) (changes : List ChangeAt) (b text : Text) (is_grave : Bool)
    → k.sights now.cycle ≡ there now → has_account k now.cycle ≡ false → l ≡ k → w ≡ v → pair.closed ≡ now → IsPair k.sights pair → AreChanges l pair changes
    → says w (no_accounts l) pair changes text is_grave → b ≡ text → HasSaid b s t → Grows s t
    → (said : IsAccountSaid k now.cycle (says v) s t pair changes) × (said.is_grave ≡ is_grave)
account_said k l now says v w s t pair changes b text is_grave is unsaid same kept closed pair_is changes_are says_it text_is said grew = (
  record {
    is = is ∙ ap there (sym closed);
    unsaid = unsaid;
    pair_is = pair_is;
    changes_are = subst (λ d. AreChanges d pair changes) same changes_are;
    text = text;
    is_grave = is_grave;
    says_it = subst (λ d. says v (no_accounts d) pair changes text is_grave) same (subst (λ x. says x (no_accounts l) pair changes text is_grave) kept says_it);
    said = subst (λ x. HasSaid x s t) text_is said;
    grew = grew;
  },
  refl,
)
