-- A cycle over a part said of its audit alone, the headline, and the whole as one part.
use Rattle.std.proofs.Common.{◌≡◌, ℕ, zero, suc, ◌+◌, ◌-◌, ◌<◌, ◌≤◌, List, [], ◌∷◌, ◌++◌, refl, sym, ◌∙◌, ap, subst, true, false, Bool, None, Option, append-nil, length, length-append, map, take, arith}
use Rattle.std.proofs.{lemmas.List.{length-map}, KnownBytes.{Appends-nil}}
use Rattle.std.specs.{Io.KnownBytes.{Appends}, List.{last_or}}
use Rattle.ocfl_tree.proofs.Orders.{true_not_false}
use Rattle.ocfl_item.proofs.AuditingLaws.{audits_nothing}
use Rattle.ocfl_tree.specs.{Place.{Place}, StorageRoot.{StorageRoot}, Store.{Store}}
use Rattle.ocfl_tree.specs.declared.store.Opening.{Opening}
use Rattle.ocfl_report.specs.{Line.{Item}, Text.{text}}
use Rattle.ocfl_rules.specs.{Audit.{audit}, Zone.{inventory_name}, Lines.{is_empty}}
use Rattle.ocfl_rules.specs.{Trail.{unread_of, inventories}, Due.{due, items_at, hashed_among}}
use Rattle.ocfl_rules.specs.{Between.{read_between}, Runs.{Limits, runs, joined, sum_of}}
use Rattle.ocfl_rules.specs.Parts.{Part, whole, within}
use Rattle.ocfl_rules.proofs.ObjectLaws.{inventories_read}
use Rattle.ocfl_rules.proofs.RunLaws.{large_whole, large_few, limits_join, limits_few}
use Rattle.ocfl_item.specs.{Looking.{IsFront}, Auditing.{Audits, Fails}}
use Rattle.ocfl_report.specs.declared.further.Further.{Further}
use Rattle.ocfl_scrub.specs.Types.{ReportStop}
use Rattle.ocfl_scrub.specs.{Call.{Call, call_of}, Written.{places, Figures}}
use Rattle.ocfl_scrub.specs.{Starting.{due_within, items_in}, Chaining.{IsMadeOf}}
use Rattle.ocfl_scrub.specs.Cycling.{enough, EachStartsBelow, Headline}
use Rattle.ocfl_scrub.specs.Together.{runs_in, all_in, inventories_in, CyclesWithin, CycleStopsWithin}
use Rattle.ocfl_scrub.specs.Taking.{stop_place}
use Rattle.ocfl_scrub.proofs.{AuditLaws.{places_of_items, none_left}, NextLaws.{root_is_due}}
use Rattle.ocfl_scrub.proofs.{PartStarts.{above_in}, RunsJoined.{Parts, PartsStop}}

-- ---- what is left

nothing : {A : Type 0} (xs : List A) → is_empty xs ≡ true → xs ≡ []
nothing [] e = refl
nothing (x ∷ xs) e = absurd cc

none_due : (further : Further) (root : StorageRoot) (os : List Opening) (ps qs : List Place) → items_at further root os ps ≡ items_at further root os (ps ++ qs) → is_empty qs ≡ true
none_due further root os ps [] e = refl
none_due further root os ps (q ∷ qs) e =
    let n : length ps ≡ length (ps ++ q ∷ qs) = ap length (sym (places_of_items further root os ps) ∙ ap places e ∙ places_of_items further root os (ps ++ q ∷ qs)) in
    let m = length-append ps (q ∷ qs) in
    absurd (omega (arith, n, m))

inventory_count : (root : StorageRoot) → length (inventories root) ≡ length (read_between root None None)
inventory_count root = ap length (inventories_read root) ∙ length-map (read_between root None None) (λ o. o ++ inventory_name ∷ [])

-- items of some places are some
items_there : (further : Further) (root : StorageRoot) (os : List Opening) (ps : List Place) → is_empty ps ≡ false → is_empty (items_at further root os ps) ≡ false
unfolding items_at
items_there further root os [] h = h
items_there further root os (p ∷ ps) h = refl

-- ---- sums of budgets

sum_front : (k : ℕ) (bs : List ℕ) → sum_of (take k bs) ≤ sum_of bs
sum_front zero bs = by bs
  where
    by : (xs : List ℕ) → sum_of (take 0 xs) ≤ sum_of xs
    by [] = omega arith
    by (x ∷ xs) = omega arith
sum_front (suc k) [] = omega arith
sum_front (suc k) (b ∷ bs) = let m = sum_front k bs in omega (arith, m)

-- ---- a cycle over a part

part_is : (further : Further) (root : StorageRoot) (part : Part) (os : List Opening) → items_in further root os part None ≡ items_at further root os (due_within further root part None)
part_is further root part os = above_in further root part None os

module _ (further : Further) (root : StorageRoot) (part : Part) (s t : Store) (old new : Option (List ℕ)) (last : Option Place) (limits : List Limits) (spent files : ℕ) (finding : Bool) (count : ℕ) where
  pub cycles : (ended : Bool) → Parts further root part s t old new None last limits spent files finding count ended → CyclesWithin (call_of further root s t old new) part last limits spent files finding count ended
  cycles ended h =
      let k = h.took in
      let items : List Item = items_in further root k.trail part None in
      let are : all_in further root k.trail part limits ≡ items_at further root k.trail k.done = ap (λ is. joined (runs is limits)) (part_is further root part k.trail) ∙ h.runs_are in
      let at_places : k.done ≡ places (all_in further root k.trail part limits) = sym (ap places are ∙ places_of_items further root k.trail k.done) in
      let counted : count ≡ length (runs_in further root k.trail part limits) = h.count_is ∙ ap (λ is. length (runs is limits)) (sym (part_is further root part k.trail)) in
      let to_end : all_in further root k.trail part limits ≡ items → ended ≡ true =
      λ e. h.ended_is ∙ none_due further root k.trail k.done (due_within further root part last) (sym are ∙ e ∙ part_is further root part k.trail ∙ ap (items_at further root k.trail) k.due_are) in
      let done_all : ended ≡ true → k.done ≡ due_within further root part None =
      λ e. sym (k.due_are ∙ ap (λ qs. k.done ++ qs) (nothing (due_within further root part last) (sym h.ended_is ∙ e)) ∙ append-nil k.done) in
      record {
        trail = k.trail;
        listed = k.listed;
        heads = k.heads;
        audits = subst (λ ps. Audits further root s t ps k.listed k.heads k.trail) at_places k.audits;
        inventories_read = h.read.some;
        wrote = subst (λ is. Appends old new (text is)) (sym are) k.wrote;
        figures = subst (λ is. Figures is spent files finding) (sym are) k.figures;
        count_is = counted;
        last_is = k.last_is ∙ ap (last_or None) at_places;
        ends_is = (λ e. (h.made e, are ∙ ap (items_at further root k.trail) (done_all e) ∙ sym (part_is further root part k.trail)), λ e. to_end e.1);
        few = λ b n p q large. let m = large_few b n p q limits items large in omega (arith, counted, m);
        suffice = λ b n p q large fits. to_end (large_whole b n p q limits items large fits);
        by_sum = λ k p fits files_fit sum.
            let m = limits_few k limits items p fits files_fit sum in
            let w = sum_front k (map (λ l. l.budget) limits) in
            (to_end (limits_join limits items (omega (arith, p, fits)) files_fit (omega (arith, sum, w))), omega (arith, counted, m));
      }

  pub cycle_stops : (why : ReportStop) → 1 ≤ count → PartsStop further root part s t old new None last limits spent files finding count why
      → CycleStopsWithin (call_of further root s t old new) part last limits spent files finding count why
  cycle_stops why some h =
      let whole : List Item = items_at further root h.trail h.done in
      let at_places : h.done ≡ places whole = sym (places_of_items further root h.trail h.done) in
      record {
        trail = h.trail;
        made = some;
        count_fits = subst (λ is. count ≤ length (runs is limits)) (sym (part_is further root part h.trail)) h.count_fits;
        stops = record {
          whole = whole;
          others = h.others;
          items_are = ap (λ is. joined (take count (runs is limits))) (part_is further root part h.trail) ∙ h.runs_begin;
          begun = h.begun;
          one = h.one;
          part = h.gone;
          wrote = h.wrote;
          part_of = h.part_of;
          last_is = h.last_is ∙ ap (last_or None) at_places;
        };
        runs_before = subst (λ is. IsFront (joined (take (count - 1) (runs is limits))) whole) (sym (part_is further root part h.trail)) h.runs_before;
        figures = h.figures;
        listed = h.listed;
        heads = h.heads;
        fails = subst (λ ps. Fails further root s t (ps ++ h.begun) h.listed h.heads h.trail (stop_place why)) at_places h.fails;
        inventories_read = h.read.some some;
      }

  -- ---- if no failure was counted

  pub part_headline : (ends : Bool) → CyclesWithin (call_of further root s t old new) part last limits spent files finding count ends
      → (calls : List Call) → IsMadeOf (call_of further root s t old new) calls → EachStartsBelow limits calls (runs (within part (audit further root [])) limits)
      → t.failures ≡ s.failures → Headline (call_of further root s t old new) (within part (audit further root [])) limits count ends
  part_headline ends h calls made_of below same =
      let none : unread_of further root h.trail ≡ [] = none_left (unread_of further root h.trail) s.failures (sym same ∙ h.audits.did.failures_are) in
      record {
        trail = h.trail;
        opened = h.audits.did.openings_are;
        reports = subst (λ u. Appends old new (text (joined (runs (within part (audit further root u)) limits)))) none h.wrote;
        each_run = h.count_is ∙ ap (λ u. length (runs (within part (audit further root u)) limits)) none;
        calls = calls;
        made_of = made_of;
        starts_below = below;
        all_items = λ e. subst (λ u. Appends old new (text (within part (audit further root u)))) none (subst (λ is. Appends old new (text is)) (h.ends_is.0 e).1 h.wrote);
        opened_once = λ e. h.audits.opened ∙ ap (λ is. hashed_among further root (places is)) (h.ends_is.0 e).1 ∙ ap (λ u. hashed_among further root (places (within part (audit further root u)))) none;
        ends_within = λ b n p q large fits. (
          h.suffice b n p q large (subst (λ u. enough (within part (audit further root u)) b n ≤ length limits) (sym none) fits),
          subst (λ u. count ≤ enough (within part (audit further root u)) b n) none (h.few b n p q large),
        );
      }

-- without limits nothing is done
pub cycles_none : (further : Further) (root : StorageRoot) (part : Part) (s : Store) (old : Option (List ℕ)) (limits : List Limits) → limits ≡ [] → s.tree ≡ root
    → CyclesWithin (call_of further root s s old old) part None limits 0 0 false 0 false
cycles_none further root part s old limits e over = subst (λ ls. CyclesWithin (call_of further root s s old old) part None ls 0 0 false 0 false) (sym e) (record {
  trail = [];
  listed = [];
  heads = [];
  audits = audits_nothing further root s over;
  inventories_read = λ some. absurd (omega (arith, some));
  wrote = Appends-nil old;
  figures = record { spent_is = refl; files_is = refl; found_is = refl };
  count_is = refl;
  last_is = refl;
  ends_is = (λ f. absurd cc, λ f. let some = f.0 in absurd (omega (arith, some)));
  few = λ b n p q large. omega arith;
  suffice = λ b n p q large fits. absurd (omega (arith, fits));
  by_sum = λ k p fits files_fit sum. absurd (omega (arith, p, fits));
})

-- ---- the whole is one part

module _ (further : Further) (root : StorageRoot) (limits : List Limits) (count : ℕ) where
  -- the audit has an item, so what is taken of it is not all before a run was made
  pub some_run : (os : List Opening) → count ≡ length (runs (audit further root (unread_of further root os)) limits)
      → joined (runs (audit further root (unread_of further root os)) limits) ≡ audit further root (unread_of further root os) → 1 ≤ count
  some_run os counted e = by (runs (audit further root (unread_of further root os)) limits) refl
    where
      some_items : is_empty (audit further root (unread_of further root os)) ≡ false
      some_items = ap is_empty (part_is further root whole os) ∙ items_there further root os (due further root None) (root_is_due further root)

      by : (rs : List (List Item)) → runs (audit further root (unread_of further root os)) limits ≡ rs → 1 ≤ count
      by [] f = absurd (let g : is_empty (audit further root (unread_of further root os)) ≡ true = sym (ap is_empty (sym (ap joined f) ∙ e)) in true_not_false (sym g ∙ some_items))
      by (r ∷ rs) f = let n : count ≡ length (r ∷ rs) = counted ∙ ap length f in omega (arith, n)

pub few_inventories : (root : StorageRoot) (count : ℕ) (heads : List Place) → length heads < inventories_in root whole + count → length heads < length (inventories root) + count
few_inventories root count heads h = let n = inventory_count root in omega (arith, h, n)
