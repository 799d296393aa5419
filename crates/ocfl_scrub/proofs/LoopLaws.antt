-- Where the loop over a walk stands, and what its next item is.
use Rattle.std.proofs.Common.{◌≡◌, sym, ◌∙◌, subst, false, Some, Option}
use Rattle.std.specs.Prelude.{IfSome}
use Rattle.ocfl_tree.specs.{Place.{Place}, StorageRoot.{StorageRoot}, Store.{Store}}
use Rattle.ocfl_rules.specs.{Between.{IsBeyond}, Due.{due}}
use Rattle.ocfl_walk.specs.{Ends.{is_past}, WalkCalls.{Walks}}
use Rattle.ocfl_walk.specs.{Walks.{Stands, Gives, GivesOut, GoesOn}, declared.end.End.{End}}
use Rattle.ocfl_walk.specs.declared.walk.Walk.{Walk}
use Rattle.ocfl_item.specs.declared.pending.Pending.{Pending}
use Rattle.ocfl_report.specs.declared.further.Further.{Further}
use Rattle.ocfl_scrub.specs.{Beginning.{IsShort}}
use Rattle.ocfl_scrub.proofs.{PassLaws.{due_beyond}}

-- ---- on every store

-- an item that a walk gives has a short place
pub next_short : (walk next : Walk) {o : Option Pending} {q : Pending} → o ≡ Some q → GoesOn walk next o → (place : Place) → place ≡ q.place → IsShort (Some place)
next_short walk next {o} {q} is on place e = let went : GoesOn walk next (Some q) = subst (GoesOn walk next) is on in subst (λ p. IsShort (Some p)) (sym e) went.3

-- ---- on a store that tells its tree

-- what a walk gives that stands over the tree
abbrev pub GivesNext : Further → StorageRoot → End → Store → Store → Walk → Walk → Option Pending → Type 0
GivesNext further root e t u walk next o = t.tree ≡ root → (last : Option Place) → Stands further root walk last → GivesOut further root t u last e next o

-- an item that a walk gives: it is after where the walk stood, and before the end
pub record GivesItem (further : Further) (root : StorageRoot) (e : End) (t u : Store) (stood : Option Place) (next : Walk) (q : Pending) : Type 0 where
  pub gives : Gives further root t u stood next (Some q)
  pub above : IsBeyond stood q.place
  pub in_front : is_past e q.place ≡ false

pub gives_item : (further : Further) (root : StorageRoot) (e : End) (t u : Store) (walk next : Walk) (stood : Option Place) (o : Option Pending) (q : Pending)
    → GivesNext further root e t u walk next o → t.tree ≡ root → Stands further root walk stood
    → o ≡ Some q → IfSome o (λ p. is_past e p.place ≡ false) → GivesItem further root e t u stood next q
gives_item further root e t u walk next stood o q gave over stands is before =
    let gives : Gives further root t u stood next (Some q) = subst (GivesOut further root t u stood e next) is (gave over stood stands) in
    record {
      gives = gives;
      above = due_beyond further root stood q.place (due further root (Some q.place)) gives.3;
      in_front = subst (λ x. IfSome x (λ p. is_past e p.place ≡ false)) is before;
    }

pub walked_over : {further : Further} {root : StorageRoot} {s t : Store} {from to : Option Place} → Walks further root s t from to → t.tree ≡ root
walked_over w = w.audits.did.tree ∙ w.audits.over
