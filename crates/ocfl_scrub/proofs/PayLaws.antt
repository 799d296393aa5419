-- A pass that is paid for, item by item, and its ends.
use Rattle.std.proofs.Common.{◌≡◌, inl, inr, ℕ, ◌+◌, List, [], ◌∷◌, ◌++◌, refl, sym, ◌∙◌, ap, subst, true, false, Bool, Some, Option, append-nil, take, arith, None}
use Rattle.std.specs.{Prelude.{◌||◌}, Io.KnownBytes.{Appends}}
use Rattle.ocfl_tree.specs.{Place.{Place}, StorageRoot.{StorageRoot}, Store.{Store}}
use Rattle.ocfl_tree.specs.declared.store.Opening.{Opening}
use Rattle.ocfl_report.specs.{Line.{Item, found}, Text.{text}}
use Rattle.ocfl_rules.specs.Audit.{total_cost, given_by}
use Rattle.ocfl_rules.specs.Inventories.{cost, is_hashed}
use Rattle.ocfl_rules.specs.Due.{due, items_at}
use Rattle.ocfl_rules.specs.Between.{IsBeyond, looked_between, read_between}
use Rattle.ocfl_rules.specs.Trail.{unread_of}
use Rattle.ocfl_rules.specs.Runs.{Limits, files_of, total_files, may_take}
use Rattle.ocfl_rules.proofs.RunLaws.{cost_append, files_append}
use Rattle.ocfl_item.specs.{Auditing.{Audits}}
use Rattle.ocfl_item.specs.declared.fault.Fault.{Fault}
use Rattle.ocfl_scrub.specs.Types.{ReportStop}
use Rattle.ocfl_walk.specs.{WalkCalls.{Walks, WalksOut, FailsOut}, Ends.{is_past}}
use Rattle.ocfl_walk.specs.declared.end.End.{End}
use Rattle.ocfl_walk.proofs.WalkCallLaws.{audits_as}
use Rattle.ocfl_scrub.specs.{Call.{call_of}, Taking.{Takes, Misses}}
use Rattle.ocfl_scrub.specs.declared.stop.ReportStop.TheVariants as halt
use Rattle.ocfl_scrub.proofs.Passing.{due_in}
use Rattle.ocfl_scrub.proofs.Paying.{Paid, Counts, IsWithinBoth, Pays, PaysAll, PaysUpTo, PaysHalting}
use Rattle.ocfl_scrub.proofs.BetweenLaws.{HasGoneOn, looked_next, read_next}
use Rattle.ocfl_scrub.proofs.CutLaws.{paid_append, test_paid, test_free, free_costs}
use Rattle.ocfl_scrub.proofs.PassLaws.{no_items, halves, due_next, passes_none, passes_took, took_items, passes_missed, missed_items, next_is, passes_lost, walked_on, passes_finish, finished_items}
use Rattle.ocfl_scrub.proofs.TakeLaws.{fault_other}
use Rattle.ocfl_item.proofs.AuditingLaws.{audits_on}
use Rattle.ocfl_report.specs.declared.further.Further.{Further}

-- ---- what items cost

-- a hashed item is paid for below both limits, and another is free
pub payable : (further : Further) (root : StorageRoot) (p : Place) (l : Limits) (spent files : ℕ) (os : List Opening) → (is_hashed further root p ≡ true → IsWithinBoth l spent files)
    → Paid l spent files (items_at further root os (p ∷ []))
unfolding items_at
payable further root p l spent files os h = (by (is_hashed further root p) refl h, tt)
  where
    by : (b : Bool) → is_hashed further root p ≡ b → (b ≡ true → IsWithinBoth l spent files) → may_take l spent files (cost further root (given_by (unread_of further root os) p) p) ≡ true
    by true e k = test_paid l spent files _ (k refl).0 (k refl).1
    by false e k = test_free l spent files _ (free_costs further root _ p e)

pub files_of_one : (further : Further) (root : StorageRoot) (p : Place) (os : List Opening) → total_files (items_at further root os (p ∷ [])) ≡ files_of (total_cost (items_at further root os (p ∷ [])))
unfolding items_at
files_of_one further root p os =
    let c : ℕ = cost further root (given_by (unread_of further root os) p) p in
    let e : files_of c + 0 ≡ files_of c = omega arith in
    let f : c ≡ c + 0 = omega arith in
    e ∙ ap files_of f

pub counts_none : (l : Limits) (spent files : ℕ) → spent ≡ 0 → files ≡ 0 → Counts l spent files []
counts_none l spent files e f = record { paid = tt; spent_is = e; files_is = f }

pub counts_more : (l : Limits) (spent files cost charged started : ℕ) (xs ys both : List Item) → both ≡ xs ++ ys → Counts l spent files xs
    → Paid l spent files ys → cost ≡ total_cost ys → total_files ys ≡ files_of cost
    → charged ≡ spent + cost → started ≡ files + files_of cost → Counts l charged started both
counts_more l spent files cost charged started xs ys both e h k c d m n =
    let s = h.spent_is in
    let f = h.files_is in
    let a = cost_append xs ys in
    let b = files_append xs ys in
    subst (Counts l charged started) (sym e) (record {
      paid = paid_append l 0 0 xs ys h.paid (subst (λ x. Paid l x (0 + total_files xs) ys) (let z : spent ≡ 0 + total_cost xs = omega (arith, s) in z)
          (subst (λ x. Paid l spent x ys) (let z : files ≡ 0 + total_files xs = omega (arith, f) in z) k));
      spent_is = omega (arith, s, a, c, m);
      files_is = omega (arith, f, b, d, n);
    })

pub counts_same : (l : Limits) (spent files : ℕ) (xs ys : List Item) → xs ≡ ys → Counts l spent files ys → Counts l spent files xs
counts_same l spent files xs ys e h = subst (Counts l spent files) (sym e) h

-- ---- a pass begins

unfoldable pub pays_none : (further : Further) (root : StorageRoot) (end : End) (s : Store) (old : Option (List ℕ)) (from : Option Place) (l : Limits) (spent files : ℕ)
    → s.tree ≡ root → spent ≡ 0 → files ≡ 0 → Pays further root end s s old old from from l spent files false
unfolding passes_none
pays_none further root end s old from l spent files over e f = record {
  passes = passes_none further root end s old from over;
  counts = counts_same l spent files _ [] (no_items further root []) (counts_none l spent files e f);
}

-- ---- a pass goes on

module _ (further : Further) (root : StorageRoot) (end : End) (s t u : Store) (old mid : Option (List ℕ)) (from last : Option Place) (l : Limits) (spent files : ℕ)
    (finding : Bool) (low : HasGoneOn end from last) (h : Pays further root end s t old mid from last l spent files finding) where
  module _ (p : Place) (up : IsBeyond last p) (least : due further root last ≡ p ∷ due further root (Some p)) (in_front : is_past end p ≡ false) (w : Walks further root t u last (Some p)) where
    module _ (v : Store) (new : Option (List ℕ)) (may : is_hashed further root p ≡ true → IsWithinBoth l spent files) where
      unfoldable pub pays_took : (cost charged started : ℕ) (more either : Bool) → Takes (call_of further root u v mid new) p cost more → charged ≡ spent + cost
          → started ≡ files + files_of cost → either ≡ (finding || more)
          → Pays further root end s v old new from (Some p) l charged started either
      unfolding passes_took
      pays_took cost charged started more either k e g f = record {
        passes = passes_took further root end s t u old mid from last finding low h.passes p up least in_front w v new cost more either k f;
        counts = counts_more l spent files cost charged started (items_at further root h.passes.trail h.passes.done) (items_at further root k.trail (p ∷ [])) _
            (took_items further root end s t u old mid from last finding low h.passes p up least in_front w v new cost more k) h.counts (payable further root p l spent files k.trail may)
            k.cost_is (files_of_one further root p k.trail ∙ ap files_of (sym k.cost_is)) e g;
      }

      -- the item was not taken
      unfoldable pub pays_missed : (why : ReportStop) → Misses (call_of further root u v mid new) p why → PaysHalting further root end s v old new from last l spent files finding why
      unfolding passes_missed
      pays_missed why k =
          let trail : List Opening = h.passes.trail ++ (w.trail ++ k.trail) in
          let one : take 1 (due_in further root end last) ≡ p ∷ [] = next_is further root end s t u old mid from last finding low h.passes p up least in_front w v new in
          record {
            halts = passes_missed further root end s t u old mid from last finding low h.passes p up least in_front w v new why k;
            counts = counts_same l spent files _ _ (missed_items further root end s t u old mid from last finding low h.passes p up least in_front w v new why k) h.counts;
            next = inl (subst (λ ps. Paid l spent files (items_at further root trail ps)) (sym one) (payable further root p l spent files trail may));
          }

    -- the item is not to be taken
    unfoldable pub pays_up_to : is_hashed further root p ≡ true → (IsWithinBoth l spent files → ⊥) → PaysUpTo further root end s u old mid from last l spent files finding
    pays_up_to hashed reached =
        let g = h.passes in
        let trail : List Opening = g.trail ++ w.trail in
        let before : items_at further root trail g.done ≡ items_at further root g.trail g.done = walked_on further root end s t u old mid from last finding low g w.trail w.audits.opened in
        let joined = audits_on further root s t u g.done [] _ _ _ _ g.trail w.trail g.audits w.audits in
        record {
          next = p;
          done = g.done;
          trail = trail;
          audits = subst (λ ps. Audits further root s u ps (looked_between root from (Some p)) (read_between root from (Some p)) trail) (append-nil g.done)
              (audits_as further (looked_next root end from last low p up) (read_next root end from last low p up) joined);
          due_are = halves further root end s t u old mid from last finding low g ∙ ap (λ ps. g.done ++ ps) (due_next further root end s t u old mid from last finding low g p up least in_front w u mid);
          in_front = in_front;
          last_is = g.last_is;
          wrote = subst (λ is. Appends old mid (text is)) (sym before) g.wrote;
          found_is = g.found_is ∙ ap found (sym before);
          counts = counts_same l spent files _ _ before h.counts;
          hashed = hashed;
          reached = reached;
        }

  -- the walk did not get there
  unfoldable pub pays_lost : (why : Fault) → FailsOut further root t u last end why → PaysHalting further root end s u old mid from last l spent files finding (halt.Fault why)
  unfolding passes_lost
  pays_lost why w = record {
    halts = passes_lost further root end s t u old mid from last finding low h.passes why w;
    counts = counts_same l spent files _ _ (walked_on further root end s t u old mid from last finding low h.passes w.trail w.fails.opened) h.counts;
    next = inr (fault_other why, refl);
  }

  -- nothing is left
  pub pays_finish : WalksOut further root t u last end → due_in further root end last ≡ [] → PaysAll further root end s u old mid from last l spent files finding
  unfolding passes_finish
  pays_finish w none = record {
    finishes = passes_finish further root end s t u old mid from last finding low h.passes w none;
    counts = counts_same l spent files _ _ (sym (finished_items further root end s t u old mid from last finding low h.passes w none)) h.counts;
  }
