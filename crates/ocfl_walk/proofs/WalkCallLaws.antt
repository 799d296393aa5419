-- What the calls of a walk did adds up.
use Rattle.std.proofs.Common.{◌≡◌, List, [], ◌++◌, refl, sym, ◌∙◌, ap, subst, false, Option, Some, None}
use Rattle.std.specs.{Ordering.{is_lt}, Prelude.{slice_get}}
use Rattle.ocfl_tree.specs.{Place.{Place, place_cmp}, StorageRoot.{StorageRoot}, Store.{Store, Did}}
use Rattle.ocfl_tree.specs.declared.store.Opening.{Opening}
use Rattle.ocfl_report.specs.declared.further.Further.{Further}
use Rattle.ocfl_rules.specs.{Due.{due}, Head.{on}, Trail.{heads_of, reads_inventory}}
use Rattle.ocfl_rules.specs.Between.{IsBeyond, IsWithin, is_looked_into, looked_between, read_between}
use Rattle.ocfl_rules.proofs.BetweenLaws.{looked_on, read_on}
use Rattle.ocfl_item.specs.{Looking.{IsFront, failed_place}, Auditing.{Audits, LieIn}}
use Rattle.ocfl_item.specs.{Meeting.{Meets, MeetFails}, declared.fault.Fault.{Fault}}
use Rattle.ocfl_item.proofs.{LooksCalls.{memory_no_store}, UpToLaws.{not_less_or}}
use Rattle.ocfl_item.proofs.AuditingLaws.{audits_nothing, audits_on, audits_fail, audits_meta, fails_meta, fails_nothing, front_behind, front_more, front_none}
use Rattle.ocfl_walk.specs.Ends.{before_end, is_past}
use Rattle.ocfl_walk.specs.WalkCalls.{FailsAmong, FailsBetween, FailsOut, Walks, WalkFails, WalksOut, next_due}
use Rattle.ocfl_walk.specs.{Internal.Walking.{FailsTo}, declared.end.End.{End}}
use Rattle.ocfl_walk.proofs.{EndLaws.{all_kept, looked_out, looked_to, read_out, read_to}, NextLaws.{next_within}}
use Rattle.ocfl_item.specs.declared.fault.Fault.TheVariants as fault

-- the same with the lists of what was looked into and which inventories were read written otherwise
pub audits_as : (further : Further) {root : StorageRoot} {s t : Store} {ps ls ms hs js : List Place} {os : List Opening} → ls ≡ ms → hs ≡ js → Audits further root s t ps ls hs os → Audits further root s t ps ms js os
audits_as further {root} {s} {t} {ps} {ls} {ms} {hs} {js} {os} e f a = subst (λ xs. Audits further root s t ps xs js os) e (subst (λ xs. Audits further root s t ps ls xs os) f a)

-- from one place to the next just what is at that one is looked into and read
pub record IsNear (root : StorageRoot) (from : Option Place) (x : Place) : Type 0 where
  pub beyond : IsBeyond from x
  pub looked : looked_between root from (Some x) ≡ on (is_looked_into root x) x
  pub read : read_between root from (Some x) ≡ on (reads_inventory root x) x

module _ (further : Further) (root : StorageRoot) (s t : Store) (from : Option Place) (x : Place) (near : IsNear root from x) where
  pub meets_walks : Meets further root s t x → Walks further root s t from (Some x)
  meets_walks m = record {
    trail = m.trail;
    audits = audits_meta further root s t (looked_between root from (Some x)) (read_between root from (Some x)) m.trail m.over
        (subst (λ ls. Did s t m.trail ls 0) (m.listed ∙ sym near.looked) m.did) m.read m.meta (m.heads ∙ sym near.read)
        (subst (λ ls. LieIn further root ls m.trail) (m.listed ∙ sym near.looked) m.near);
  }

  pub meets_fails : (why : Fault) → MeetFails further root s t x why → FailsTo further root s t from x why
  meets_fails why m = record {
    trail = m.trail;
    listed = m.listings;
    heads = heads_of root m.trail;
    fails = fails_meta further root s t m.listings (heads_of root m.trail) m.trail why m.over m.did m.meta refl m.near m.store;
    listed_front = subst (IsFront m.listings) (sym near.looked) m.listed;
    heads_front = subst (IsFront (heads_of root m.trail)) (sym near.read) m.heads;
    up_to = m.up_to;
  }

-- what is not after a place that is within an end
within_before : (to : Option Place) (b d : Place) → IsWithin to b → is_lt (place_cmp b d) ≡ false → IsWithin to d
within_before None b d within low = tt
within_before (Some p) b d within low = not_less_or p b d within low

-- calls that were made before those that failed
fails_behind : (further : Further) (root : StorageRoot) (s t u : Store) {ls ms xs hs gs ys : List Place} {to : Option Place} → ls ++ ms ≡ xs → hs ++ gs ≡ ys → (os : List Opening) (why : Fault)
    → Audits further root s t [] ls hs os → FailsAmong further root t u ms gs to why → FailsAmong further root s u xs ys to why
fails_behind further root s t u {ls} {ms} {xs} {hs} {gs} {ys} {to} looked read os why a f = record {
  trail = os ++ f.trail;
  listed = ls ++ f.listed;
  heads = hs ++ f.heads;
  fails = audits_fail further root s t u [] [] _ _ _ _ os f.trail (failed_place why) a f.fails;
  listed_front = front_behind ls f.listed ms xs looked f.listed_front;
  heads_front = front_behind hs f.heads gs ys read f.heads_front;
  up_to = f.up_to;
}

module _ (further : Further) (root : StorageRoot) (s t u : Store) (from : Option Place) (b : Place) (beyond : IsBeyond from b) where
  pub walks_on : (to : Option Place) → IsWithin to b → Walks further root s t from (Some b) → Walks further root t u (Some b) to → Walks further root s u from to
  walks_on to within v w = record {
    trail = v.trail ++ w.trail;
    audits = audits_as further (looked_on root from to b beyond within) (read_on root from to b beyond within) (audits_on further root s t u [] [] _ _ _ _ v.trail w.trail v.audits w.audits);
  }

  pub walks_fail : (to : Option Place) (why : Fault) → IsWithin to b → Walks further root s t from (Some b) → FailsBetween further root t u (Some b) to why → FailsBetween further root s u from to why
  walks_fail to why within v w = fails_behind further root s t u (looked_on root from to b beyond within) (read_on root from to b beyond within) v.trail why v.audits w

-- the tree stays
pub walks_over : (further : Further) (root : StorageRoot) (s t : Store) (from to : Option Place) → Walks further root s t from to → t.tree ≡ root
walks_over further root s t from to w = w.audits.did.tree ∙ w.audits.over

-- ---- on to the end

module _ (further : Further) (root : StorageRoot) (s t u : Store) (from : Option Place) (b : Place) (e : End) (beyond : IsBeyond from b) (before : is_past e b ≡ false) where
  pub fails_out : (why : Fault) → IsWithin (next_due further root from) b → FailsTo further root s t from b why → FailsOut further root s t from e why
  fails_out why within f = record {
    trail = f.trail;
    listed = f.listed;
    heads = f.heads;
    fails = f.fails;
    listed_front = front_more f.listed _ _ _ (looked_to e root from (next_due further root from) b beyond within before) f.listed_front;
    heads_front = front_more f.heads _ _ _ (read_to e root from (next_due further root from) b beyond within before) f.heads_front;
    up_to = λ q g d n is. within_before (next_due further root from) b d within (f.up_to q g d n is);
  }

  pub walks_out : Walks further root s t from (Some b) → WalksOut further root t u (Some b) e → WalksOut further root s u from e
  walks_out v w = record {
    trail = v.trail ++ w.trail;
    audits = audits_as further (looked_out e root from b beyond before) (read_out e root from b beyond before) (audits_on further root s t u [] [] _ _ _ _ v.trail w.trail v.audits w.audits);
  }

  -- if no item lies between
  pub walks_fail_out : (why : Fault) → due further root from ≡ due further root (Some b) → Walks further root s t from (Some b) → FailsOut further root t u (Some b) e why → FailsOut further root s u from e why
  walks_fail_out why none v w =
      let same : next_due further root from ≡ next_due further root (Some b) = ap (λ ps. slice_get ps 0) none in
      let within = next_within further root b in
      subst (λ to. FailsAmong further root s u (before_end e (looked_between root from to)) (before_end e (read_between root from to)) to why) (sym same)
      (fails_behind further root s t u (looked_to e root from (next_due further root (Some b)) b beyond within before) (read_to e root from (next_due further root (Some b)) b beyond within before) v.trail why v.audits w)

-- if nothing is left before the end nothing is done
pub walks_out_nothing : (further : Further) (root : StorageRoot) (s : Store) (from : Option Place) (e : End) → s.tree ≡ root → before_end e (looked_between root from None) ≡ []
    → before_end e (read_between root from None) ≡ [] → WalksOut further root s s from e
walks_out_nothing further root s from e over looked read = record { trail = []; audits = audits_as further (sym looked) (sym read) (audits_nothing further root s over) }

-- if memory was refused before anything was done
pub no_memory : (further : Further) (root : StorageRoot) (s : Store) {looked read : List Place} {to : Option Place} → s.tree ≡ root → FailsAmong further root s s looked read to fault.Memory
no_memory further root s over = record {
  trail = [];
  listed = [];
  heads = [];
  fails = fails_nothing further root s over;
  listed_front = front_none _;
  heads_front = front_none _;
  up_to = λ q e. absurd (memory_no_store q e);
}

-- to the end of the whole
module _ (further : Further) (root : StorageRoot) (s t : Store) (from : Option Place) (e : End) (under : e.under ≡ []) (below : e.below ≡ None) where
  pub walks_all : WalksOut further root s t from e → Walks further root s t from None
  walks_all w = record {
    trail = w.trail;
    audits = audits_as further (all_kept e under below (looked_between root from None)) (all_kept e under below (read_between root from None)) w.audits;
  }

  pub fails_all : (why : Fault) → FailsOut further root s t from e why → WalkFails further root s t from why
  fails_all why f =
      let to = next_due further root from in
      subst (λ ls. FailsAmong further root s t ls (read_between root from to) to why) (all_kept e under below (looked_between root from to))
      (subst (λ hs. FailsAmong further root s t (before_end e (looked_between root from to)) hs to why) (all_kept e under below (read_between root from to)) f)
