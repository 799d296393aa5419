-- What is said of a walk, by where it stands.
use Rattle.std.proofs.Common.{◌≡◌, ◌≢◌, ℕ, List, [], ◌∷◌, ◌++◌, Option, Some, None, Result, Ok, Err, refl, sym, ◌∙◌, ap, subst, arith}
use Rattle.std.proofs.lemmas.List.{append-nil}
use Rattle.std.specs.declared.cmp.Ordering.TheVariants.{Less}
use Rattle.std.specs.Prelude.{IfOk, MatchResult, option_map}
use Rattle.ocfl_tree.specs.{Place.{Place, Text, place_cmp}, Store.{Store}}
use Rattle.ocfl_tree.specs.StorageRoot.{StorageRoot}
use Rattle.ocfl_report.specs.declared.further.Further.{Further}
use Rattle.ocfl_walk.specs.{Before.{directory_of, place_before}, Ends.{before_end}}
use Rattle.ocfl_walk.specs.{Internal.Entering.{Descends}, Standing.{StandsAt}}
use Rattle.ocfl_walk.specs.Internal.Walking.{GoesAt, NextGoesOn, NextTold, StepsAt}
use Rattle.ocfl_walk.specs.Walks.{Gives, GivesOut, GoesOn, HasEndedOut, OpensInventories, Stands, StandsFrom, first_size, walk_size}
use Rattle.ocfl_walk.specs.{WalkCalls.{FailsOut, WalkFails, WalksOut}, declared.end.End.{End}}
use Rattle.ocfl_walk.specs.{declared.stand.Stand.{Stand}, declared.walk.Walk.{Walk}}
use Rattle.ocfl_rules.specs.{Between.{IsBeyond}, Due.{due}}
use Rattle.ocfl_item.specs.{declared.fault.Fault.{Fault}, declared.pending.Pending.{Pending}}
use Rattle.ocfl_walk.specs.declared.stand.Step.TheVariants as step
use Rattle.ocfl_walk.proofs.BeforeLaws.{before_root, directory_is, not_below, root_first, some_before}
use Rattle.ocfl_walk.proofs.{EndLaws.{all_kept}, StandLaws.{after_on}}
use Rattle.ocfl_walk.proofs.WalkCallLaws.{fails_all, walks_all, walks_fail_out, walks_on, walks_out}

pub stands_now : (further : Further) (root : StorageRoot) (walk : Walk) (last : Option Place) → walk.further ≡ further → walk.first ≡ None → StandsAt further root walk.stand last → Stands further root walk last
stands_now further root walk last same e st = (same, subst (λ f. StandsFrom further root f walk.stand last) (sym e) st)

-- what is so of what a walk checks is so of what it stands for
pub checks_this : (further : Further) (root : StorageRoot) (walk : Walk) (last : Option Place) → Stands further root walk last → (X : Further → Type 0)
    → (Stands walk.further root walk last → X walk.further) → X further
checks_this further root walk last st X k = subst X st.0 (k (refl, subst (λ f. StandsFrom f root walk.first walk.stand last) (sym st.0) st.1))

-- ---- on any store

module _ (old new : Walk) (none : new.first ≡ None) where
  nothing_first : first_size new.first ≡ 0
  nothing_first = ap first_size none

  pub goes_by : (o : Option Pending) → NextGoesOn old.stand new.stand o → GoesOn old new o
  unfolding walk_size
  goes_by None h = h
  goes_by (Some p) h = (h.0, h.1, (let z = nothing_first in omega (arith, h.2, z)), h.3)

  pub goes_ok : (r : Result (Option Pending) Fault) → IfOk r (λ o. NextGoesOn old.stand new.stand o) → IfOk r (λ o. GoesOn old new o)
  goes_ok (Ok o) h = goes_by o h
  goes_ok (Err why) h = h

  module _ (n : Text) (some : old.first ≡ Some n) where
    pub goes_first : (p : Pending) → GoesAt old.stand new.stand (step.Item p) → GoesOn old new (Some p)
    unfolding walk_size
    goes_first p h = (h.0, h.1, (let z = nothing_first in let o = ap first_size some in omega (arith, h.2, z, o)), h.3)

    pub goes_then : (mid : Stand) (o : Option Pending) → GoesAt old.stand mid step.Nothing → NextGoesOn mid new.stand o → GoesOn old new o
    unfolding walk_size
    goes_then mid None g h = h
    goes_then mid (Some p) g h =
        (h.0, after_on old.stand.last g.0 p.place g.2 (subst (λ l. IsBeyond l p.place) g.1 h.1), (let z = nothing_first in omega (arith, h.2, g.3, z)), h.3)

    pub goes_then_ok : (mid : Stand) (r : Result (Option Pending) Fault) → GoesAt old.stand mid step.Nothing → IfOk r (λ o. NextGoesOn mid new.stand o) → IfOk r (λ o. GoesOn old new o)
    goes_then_ok mid (Ok o) g h = goes_then mid o g h
    goes_then_ok mid (Err why) g h = h

-- on the way down only inventories are opened
pub opens_down : (further : Further) (root : StorageRoot) (s t : Store) (way more may left : List Place) (failures : ℕ) → Descends further root s t way more may left failures → OpensInventories root s t
opens_down further root s t way more may left failures h = record { trail = h.calls.trail; opened = h.calls.did.openings_are; only = h.only }

pub opens_nothing : (root : StorageRoot) (s : Store) → OpensInventories root s s
opens_nothing root s = record { trail = []; opened = sym (append-nil s.openings); only = refl }

-- ---- of a walk that begins at a place

module _ (further : Further) (root : StorageRoot) (old : Walk) (n : Text) (some : old.first ≡ Some n) (last : Option Place) (st : Stands further root old last) where
  pub parts : (d : Place) × StandsAt further root old.stand (Some d) × (last ≡ place_before root (d ++ n ∷ []))
  parts = subst (λ f. StandsFrom further root f old.stand last) some st.1

  pub before : (q : Place) × (place_before root (parts.0 ++ n ∷ []) ≡ Some q)
  before = some_before root (parts.0 ++ n ∷ []) (root_first parts.0 n)

  pub behind : (X : Option Place → Type 0) → X (Some before.0) → X last
  behind X x = subst X (sym (parts.2 ∙ before.1)) x

  module _ (s t : Store) (e : End) where
    pub begins_fails : (why : Fault) → FailsOut further root s t (Some before.0) e why → FailsOut further root s t last e why
    begins_fails why h = behind (λ l. FailsOut further root s t l e why) h

    pub begins_item : (new : Walk) (p : Pending) → new.further ≡ further → new.first ≡ None → StepsAt further root s t before.0 e old.stand new.stand (step.Item p) → GivesOut further root s t last e new (Some p)
    begins_item new p same none h = behind (λ l. GivesOut further root s t l e new (Some p)) (h.0, stands_now further root new (Some p.place) same none h.1, h.4.pending, h.4.due_are)

    pub begins_end : (new : Walk) → new.further ≡ further → new.first ≡ Some n → StepsAt further root s t before.0 e old.stand new.stand step.End → GivesOut further root s t last e new None
    begins_end new checks same h =
        let here : Stands further root new last =
        (checks, subst (λ f. StandsFrom further root f new.stand last) (sym same) (parts.0, subst (λ x. StandsAt further root x (Some parts.0)) (sym h.2) parts.1, parts.2)) in
        behind (λ l. WalksOut further root s t l e × (before_end e (due further root l) ≡ []) × HasEndedOut further root e new) (h.0, h.1, (last, here, behind (λ l. before_end e (due further root l) ≡ []) h.1))

    module _ (u : Store) (mid : Stand) (h : StepsAt further root s t before.0 e old.stand mid step.Nothing) where
      pub begins_then : (new : Walk) → new.further ≡ further → new.first ≡ None → (o : Option Pending) → NextGoesOn mid new.stand o → NextTold further root t u (Some h.0) e new.stand o → GivesOut further root s u last e new o
      begins_then new same none None g k =
          behind (λ l. GivesOut further root s u l e new None)
          (walks_out further root s t u (Some before.0) h.0 e h.3 h.4 h.1 k.0, ap (before_end e) h.5 ∙ k.1, (k.2.0, stands_now further root new k.2.0 same none k.2.1, k.2.2))
      begins_then new same none (Some p) g k =
          let over : place_cmp h.0 p.place ≡ Less = subst (λ l. IsBeyond l p.place) h.2.0 g.1 in
          behind (λ l. GivesOut further root s u l e new (Some p))
          (walks_on further root s t u (Some before.0) h.0 h.3 (Some p.place) (not_below h.0 p.place over) h.1 k.0, stands_now further root new (Some p.place) same none k.1, k.2.pending, h.5 ∙ k.2.due_are)

      pub begins_then_fails : (why : Fault) → FailsOut further root t u (Some h.0) e why → FailsOut further root s u last e why
      begins_then_fails why k = behind (λ l. FailsOut further root s u l e why) (walks_fail_out further root s t u (Some before.0) h.0 e h.3 h.4 why h.5 h.1 k)

      pub begins_then_told :
          (new : Walk) → new.further ≡ further → new.first ≡ None → (r : Result (Option Pending) Fault) → IfOk r (λ o. NextGoesOn mid new.stand o)
          → MatchResult r (λ o. NextTold further root t u (Some h.0) e new.stand o) (λ why. FailsOut further root t u (Some h.0) e why)
          → MatchResult r (λ o. GivesOut further root s u last e new o) (λ why. FailsOut further root s u last e why)
      begins_then_told new same none (Ok o) g k = begins_then new same none o g k
      begins_then_told new same none (Err why) g k = begins_then_fails why k

-- to the end of the whole
module _ (further : Further) (root : StorageRoot) (s t : Store) (last : Option Place) (e : End) (under : e.under ≡ []) (below : e.below ≡ None) where
  gives_all : (new : Walk) (o : Option Pending) → GivesOut further root s t last e new o → Gives further root s t last new o
  gives_all new None h = (walks_all further root s t last e under below h.0, sym (all_kept e under below (due further root last)) ∙ h.1, (h.2.0, h.2.1, sym (all_kept e under below (due further root h.2.0)) ∙ h.2.2))
  gives_all new (Some p) h = h

  pub all_told : (r : Result (Walk × Option Pending) Fault) → MatchResult r (λ o. GivesOut further root s t last e o.0 o.1) (λ why. FailsOut further root s t last e why)
      → MatchResult r (λ o. Gives further root s t last o.0 o.1) (λ why. WalkFails further root s t last why)
  all_told (Ok o) h = gives_all o.0 o.1 h
  all_told (Err why) h = fails_all further root s t last e under below why h

-- ---- where a walk begins

pub at_top : (root : StorageRoot) (p : Place) → p ≡ [] → (X : Option Place → Option Place → Type 0) → X None None → X (directory_of p) (place_before root p)
at_top root p e X x = subst (λ y. X (directory_of y) (place_before root y)) (sym e) (subst (X None) (sym (before_root root)) x)

pub at_name : (root : StorageRoot) (p d : Place) (n : Text) → p ≡ d ++ n ∷ [] → (X : Option Place → Option Place → Type 0)
    → X (Some d) (place_before root (d ++ n ∷ [])) → X (directory_of p) (place_before root p)
at_name root p d n e X x = subst (λ y. X (directory_of y) (place_before root y)) (sym e) (subst (λ o. X o (place_before root (d ++ n ∷ []))) (sym (directory_is d n)) x)

pub some_directory : (p : Place) → p ≢ [] → (d : Place) × (directory_of p ≡ Some d)
some_directory [] some = absurd (some refl)
some_directory (n ∷ []) some = ([], refl)
some_directory (n ∷ m ∷ p) some = let d = some_directory (m ∷ p) (λ e. cc) in (n ∷ d.0, ap (option_map (λ x. n ∷ x)) d.1)
