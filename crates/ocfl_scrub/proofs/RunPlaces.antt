-- One run of a part's cycle, by its places.
use Rattle.std.proofs.Common.{◌≡◌, ℕ, ◌+◌, ◌≤◌, List, [], ◌∷◌, ◌++◌, refl, sym, ◌∙◌, ap, subst, Bool, Some, None, Option, map, length, length-append, arith}
use Rattle.std.proofs.lemmas.List.{map-append}
use Rattle.std.specs.{Io.KnownBytes.{Appends}, List.{last_or}, Prelude.{slice_get}}
use Rattle.ocfl_tree.specs.{Place.{Place, place_cmp}, Ascending.{IsAscending}}
use Rattle.ocfl_tree.specs.{StorageRoot.{StorageRoot}, Store.{Store}}
use Rattle.ocfl_tree.specs.declared.store.Opening.{Opening}
use Rattle.ocfl_report.specs.{Line.{Item}, Text.{text}}
use Rattle.ocfl_rules.specs.{Audit.{Unread, audit, after, item_of, total_cost}, Trail.{unread_of}}
use Rattle.ocfl_rules.specs.{Due.{items_at}, Parts.{Part, within}, Runs.{Limits, total_files, left}}
use Rattle.ocfl_rules.proofs.AfterLaws.{after_is_end, after_item}
use Rattle.ocfl_item.specs.{Looking.{IsFront}, Auditing.{Audits}}
use Rattle.ocfl_report.specs.declared.further.Further.{Further}
use Rattle.ocfl_walk.specs.WalkCalls.{holder}
use Rattle.ocfl_scrub.specs.{Call.{call_of}, Written.{places, Figures}}
use Rattle.ocfl_scrub.specs.Running.{taken_in, RunsWithin}
use Rattle.ocfl_scrub.specs.Starting.{entry, due_within, read_in, items_in}
use Rattle.ocfl_scrub.proofs.{Paying.{Paid}, PartStarts.{above_in, items_ascend}}
use Rattle.ocfl_scrub.proofs.{AuditLaws.{places_of_items}, CutLaws.{IsStop, cut_and_left}}
use Rattle.ocfl_scrub.proofs.{PartLaws.{cut_paid, cut_stops}, WayOrder.{held_in}}

-- ---- the items above a place, in two parts

heads_same : {A : Type 0} (x y : A) (xs ys : List A) → x ∷ xs ≡ y ∷ ys → x ≡ y
heads_same x y xs ys e = cc

tails_same : {A : Type 0} (x y : A) (xs ys : List A) → x ∷ xs ≡ y ∷ ys → xs ≡ ys
tails_same x y xs ys e = cc

module _ (further : Further) (root : StorageRoot) (unread : Unread) (part : Part) where
  after_next : (front : List Item) (x : Item) (rest : List Item) → within part (audit further root unread) ≡ front ++ x ∷ rest → after (within part (audit further root unread)) (Some x.place) ≡ rest
  after_next front x rest e =
      ap (λ is. after is (Some x.place)) e ∙ after_item front x rest (subst (λ is. IsAscending place_cmp (places is)) e (items_ascend further root unread part))

  after_one : (from : Option Place) (x : Item) (rest : List Item) → after (within part (audit further root unread)) from ≡ x ∷ rest → after (within part (audit further root unread)) (Some x.place) ≡ rest
  after_one None x rest e = after_next [] x rest e
  after_one (Some p) x rest e =
      let w = after_is_end (within part (audit further root unread)) p (items_ascend further root unread part) in
      after_next w.0 x rest (w.1 ∙ ap (λ is. w.0 ++ is) e)

  -- after the last of a front comes what follows it
  pub after_front : (from : Option Place) (xs ys : List Item) → after (within part (audit further root unread)) from ≡ xs ++ ys → after (within part (audit further root unread)) (last_or from (places xs)) ≡ ys
  after_front from [] ys e = e
  after_front from (x ∷ xs) ys e = after_front (Some x.place) xs ys (after_one from x (xs ++ ys) e)

module _ (further : Further) (root : StorageRoot) (part : Part) (os : List Opening) where
  front_items : (ps : List Place) (xs ys : List Item) → items_at further root os ps ≡ xs ++ ys → items_at further root os (places xs) ≡ xs
  unfolding items_at
  front_items ps [] ys e = refl
  front_items [] (x ∷ xs) ys e = absurd cc
  front_items (p ∷ ps) (x ∷ xs) ys e =
      let f : item_of further root (unread_of further root os) p ≡ x = heads_same _ _ (map (item_of further root (unread_of further root os)) ps) (xs ++ ys) e in
      let g : map (item_of further root (unread_of further root os)) ps ≡ xs ++ ys = tails_same (item_of further root (unread_of further root os) p) x _ _ e in
      let h : x.place ≡ p = sym (ap (λ i. i.place) f) in
      ap (λ q. item_of further root (unread_of further root os) q ∷ map (item_of further root (unread_of further root os)) (places xs)) h
      ∙ ap (λ i. i ∷ map (item_of further root (unread_of further root os)) (places xs)) f ∙ ap (λ is. x ∷ is) (front_items ps xs ys g)

  -- a front of the items above a place, and the rest
  module _ (from : Option Place) (xs ys : List Item) (split : items_in further root os part from ≡ xs ++ ys) where
    above_is : items_at further root os (due_within further root part from) ≡ xs ++ ys
    above_is = sym (above_in further root part from os) ∙ split

    pub front_is : items_at further root os (places xs) ≡ xs
    front_is = front_items (due_within further root part from) xs ys above_is

    pub rest_is : items_at further root os (due_within further root part (last_or from (places xs))) ≡ ys
    rest_is = sym (above_in further root part (last_or from (places xs)) os) ∙ after_front further root (unread_of further root os) part from xs ys split

    pub due_parts : due_within further root part from ≡ places xs ++ due_within further root part (last_or from (places xs))
    due_parts =
        sym (places_of_items further root os (due_within further root part from)) ∙ ap places above_is ∙ map-append (λ i. i.place) xs ys
        ∙ ap (λ ps. places xs ++ ps) (ap places (sym rest_is) ∙ places_of_items further root os (due_within further root part (last_or from (places xs))))

-- ---- one run

-- from s to t the places above from were audited up to last, and their items went out, with these
-- figures
pub record Took (further : Further) (root : StorageRoot) (part : Part) (s t : Store) (old new : Option (List ℕ)) (from last : Option Place) (spent files : ℕ) (finding : Bool) : Type 0 where
  pub done : List Place
  pub trail : List Opening
  pub listed : List Place
  pub heads : List Place
  pub audits : Audits further root s t done listed heads trail
  pub due_are : due_within further root part from ≡ done ++ due_within further root part last
  pub last_is : last ≡ last_or from done
  pub wrote : Appends old new (text (items_at further root trail done))
  pub figures : Figures (items_at further root trail done) spent files finding

-- a run took them: its limits allow these places, and not what is next
pub record Turn (further : Further) (root : StorageRoot) (part : Part) (s t : Store) (old new : Option (List ℕ)) (from last : Option Place) (limits : Limits)
    (spent files : ℕ) (finding : Bool) (next : Option Place) : Type 0 where
  pub took : Took further root part s t old new from last spent files finding
  pub next_is : next ≡ slice_get (due_within further root part last) 0
  pub paid : Paid limits 0 0 (items_at further root took.trail took.done)
  pub stops : IsStop limits (total_cost (items_at further root took.trail took.done)) (total_files (items_at further root took.trail took.done)) (items_at further root took.trail (due_within further root part last))
  pub read : length took.heads ≤ length (holder root (entry part from)) + length (read_in root part from next)

pub front_length : {A : Type 0} (xs ys : List A) → IsFront xs ys → length xs ≤ length ys
front_length xs ys f = let e : length ys ≡ length xs + length f.0 = ap length f.1 ∙ length-append xs f.0 in omega (arith, e)

module _ (further : Further) (root : StorageRoot) (part : Part) (s t : Store) (old new : Option (List ℕ)) (from last : Option Place) (limits : Limits) (spent files : ℕ) (finding : Bool) where
  pub turn_of : (next : Option Place) → RunsWithin (call_of further root s t old new) part from last limits spent files finding next → Turn further root part s t old new from last limits spent files finding next
  turn_of next h =
      let cut_items : List Item = taken_in further root h.trail part from limits in
      let left_items : List Item = left (items_in further root h.trail part from) limits in
      let above : List Item = items_in further root h.trail part from in
      let split : above ≡ cut_items ++ left_items = sym (cut_and_left above limits) in
      let done : List Place = places cut_items in
      let is_last : last_or from done ≡ last = sym h.last_is in
      let taken_is : cut_items ≡ items_at further root h.trail done = sym (front_is further root part h.trail from cut_items left_items split) in
      let left_is : left_items ≡ items_at further root h.trail (due_within further root part last) =
      sym (rest_is further root part h.trail from cut_items left_items split) ∙ ap (λ l. items_at further root h.trail (due_within further root part l)) is_last in
      record {
        took = record {
          done = done;
          trail = h.trail;
          listed = _;
          heads = h.looks.held ++ read_in root part from next;
          audits = h.looks.audits;
          due_are = due_parts further root part h.trail from cut_items left_items split ∙ ap (λ l. done ++ due_within further root part l) is_last;
          last_is = h.last_is;
          wrote = subst (λ is. Appends old new (text is)) taken_is h.wrote;
          figures = subst (λ is. Figures is spent files finding) taken_is h.figures;
        };
        next_is = h.next_is ∙ ap (λ ps. slice_get ps 0) (ap places left_is ∙ places_of_items further root h.trail (due_within further root part last));
        paid = subst (Paid limits 0 0) taken_is (cut_paid limits above);
        stops = subst (IsStop limits _ _) left_is (subst (λ is. IsStop limits (total_cost is) (total_files is) left_items) taken_is (cut_stops limits above));
        read =
            let f = front_length h.looks.held (holder root (entry part from)) (subst (IsFront h.looks.held) (sym (held_in part from root)) h.looks.held_front) in
            let e = length-append h.looks.held (read_in root part from next) in omega (arith, e, f);
      }
